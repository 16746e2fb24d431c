-- Modules that become members.
use Rattle.std.proofs.Common.{◌≡◌, ℕ, zero, suc, ◌+◌, ◌<◌, Bool, true, false, List, [], ◌∷◌, ◌++◌, length, get_or, take}
use Rattle.std.proofs.Common.{drop}
use Rattle.std.proofs.Common.{map, cond, Ok, Err, refl, sym, ap, ◌∙◌, arith, append_assoc}
use Rattle.std.specs.declared.result.Result.{Result}
use Rattle.std.specs.Borrow.{Bor}
use Rattle.std.proofs.lemmas.List.{drop_more}
use Rattle.std.specs.List.{list_any}
use Rattle.omf_library.specs.Members.{joined}
use Rattle.omf_library.specs.Names.{offered_names, texts}
use Rattle.omf_library.specs.Records.{module_records, result_and_then}
use Rattle.omf_librarian.specs.declared.fault.LibrarianFault.{LibrarianFault}
use Rattle.omf_librarian.specs.declared.fault.LibrarianFault.TheVariants.{LongName}
use Rattle.omf_librarian.specs.Modules.{checked, is_long, marked, module_name, module_of, modules_from, names_of}

pub named_so : (m : List ℕ) (own offered : List (List ℕ)) → own ≡ marked (module_name m)
    → offered ≡ offered_names (module_records m 0) → own ++ offered ≡ names_of m
unfolding names_of
named_so m own offered e₁ e₂ = ap (λ l. l ++ offered) e₁ ∙ ap (λ l. marked (module_name m) ++ l) e₂

pub checked_long : (member : ℕ) (m : List ℕ) (names : List (List ℕ)) → names ≡ names_of m
    → list_any is_long names ≡ true
    → checked member m ≡ Err (LongName member)
unfolding checked
checked_long member m names e long = rw (sym (sym long ∙ ap (list_any is_long) e)) refl

pub checked_short : (member : ℕ) (m : List ℕ) (names : List (List ℕ)) → names ≡ names_of m
    → list_any is_long names ≡ false → checked member m ≡ Ok m
unfolding checked
checked_short member m names e short = rw (sym (sym short ∙ ap (list_any is_long) e)) refl

pub joined-more : {A E : Type 0} (xs : List A) (y : A) (r : Result (List A) E)
    → joined xs (joined (y ∷ []) r) ≡ joined (xs ++ y ∷ []) r
joined-more xs y (Ok ys) = ap Ok (sym (append_assoc xs (y ∷ []) ys))
joined-more xs y (Err e) = refl

pub modules-next : (member : ℕ) (bytes m : List ℕ) (more : List (List ℕ))
    → result_and_then (checked member) (module_of member bytes) ≡ Ok m
    → modules_from member (bytes ∷ more) ≡ joined (m ∷ []) (modules_from (member + 1) more)
modules-next member bytes m more is =
    ap (result_and_then (λ x. joined (x ∷ []) (modules_from (member + 1) more))) is

pub modules-fault : (member : ℕ) (bytes : List ℕ) (more : List (List ℕ)) (e : LibrarianFault)
    → result_and_then (checked member) (module_of member bytes) ≡ Err e → modules_from member (bytes ∷ more) ≡ Err e
modules-fault member bytes more e is =
    ap (result_and_then (λ x. joined (x ∷ []) (modules_from (member + 1) more))) is

pub modules-step : (ms : List (Bor (List ℕ))) (i : ℕ) (d : Bor (List ℕ)) (m : List ℕ) (done : List (List ℕ))
    → i < length ms → result_and_then (checked i) (module_of i (get_or ms i d).now) ≡ Ok m
    → joined (done ++ m ∷ []) (modules_from (i + 1) (texts (drop (i + 1) ms)))
    ≡ joined done (modules_from i (texts (drop i ms)))
modules-step ms i d m done within is =
    sym (joined-more done m (modules_from (i + 1) (texts (drop (i + 1) ms))))
    ∙ ap (joined done) (sym (modules-next i (get_or ms i d).now m (texts (drop (i + 1) ms)) is))
    ∙ ap (λ l. joined done (modules_from i (texts l))) (sym (drop_more ms i d within))
