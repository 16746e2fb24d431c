-- Lists, and what follows them.
use Rattle.std.proofs.Common.{◌≡◌, List, [], ◌++◌, Ok, Err, refl, sym, ap, ◌∙◌, append_assoc}
use Rattle.std.specs.declared.result.Result.{Result}
use Rattle.std.proofs.lemmas.List.{append-nil}
use Rattle.omf_library.specs.Members.{joined}
use Rattle.omf_library.specs.Records.{result_and_then}

pub joined-nil : {A E : Type 0} (r : Result (List A) E) → joined [] r ≡ r
joined-nil (Ok ys) = refl
joined-nil (Err e) = refl

pub joined-append : {A E : Type 0} (xs ys : List A) (r : Result (List A) E)
    → joined (xs ++ ys) r ≡ joined xs (joined ys r)
joined-append xs ys (Ok zs) = ap Ok (append_assoc xs ys zs)
joined-append xs ys (Err e) = refl

-- behind a list, a fault is one of what follows
pub joined-err : {A E : Type 0} (xs : List A) (r : Result (List A) E) (e : E) → joined xs r ≡ Err e → r ≡ Err e
joined-err xs (Ok ys) e h = absurd (cc)
joined-err xs (Err f) e h = h

-- nothing more
pub joined-end : {A E : Type 0} (xs : List A) (all : Result (List A) E) → joined xs (Ok []) ≡ all → all ≡ Ok xs
joined-end xs all h = sym h ∙ ap Ok (append-nil xs)

-- what one more item gives
pub behind_one : {A E : Type 0} (told : List A) (r rest : Result (List A) E) (more : List A) → joined told r ≡ Ok more
    → joined told (result_and_then (λ cs. joined cs rest) r) ≡ joined more rest
behind_one told (Ok cs) rest more h =
    sym (joined-append told cs rest) ∙ ap (λ xs. joined xs rest) (let e : told ++ cs ≡ more = cc in e)
behind_one told (Err f) rest more h = absurd (cc)
