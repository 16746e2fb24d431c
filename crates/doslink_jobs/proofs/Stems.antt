-- Sets of names, one more at a time.
use Rattle.std.proofs.Common.{◌≡◌, ℕ, ◌+◌, ◌<◌, ◌||◌, Bool, true, false, cond, List, [], ◌∷◌, length, map}
use Rattle.std.proofs.Common.{get_or, take, Vec, refl, sym, ap, ◌∙◌}
use Rattle.std.proofs.lemmas.List.{map_more}
use Rattle.std.proofs.lemmas.List.Folds.{list_any-append}
use Rattle.std.specs.Cmp.Lexicographic.{slice_cmp, texts_ties}
use Rattle.std.specs.List.{list_any}
use Rattle.std.specs.Ordering.{is_eq, nat_cmp}
use Rattle.std.specs.Str.{bytes_eq}

either : (hit any : Bool) → cond hit true any ≡ (any || (hit || false))
either true true = refl
either true false = refl
either false true = refl
either false false = refl

-- a set of what is made of some texts has what is made of one more, where that was put in
pub names-more : {X A : Type 0} (said : X → List ℕ) (xs : List X) (i : ℕ) (d : X) (new q : Vec ℕ A) (was now : Bool)
    → i < length xs → new.items ≡ said (get_or xs i d) → was ≡ list_any (λ n. bytes_eq n q.items) (map said (take i xs))
    → now ≡ cond (is_eq (slice_cmp nat_cmp new.items q.items)) true was
    → now ≡ list_any (λ n. bytes_eq n q.items) (map said (take (i + 1) xs))
names-more said xs i d new q was now h same before is =
    let test : List ℕ → Bool = λ n. bytes_eq n q.items in
    let front = map said (take i xs) in
    let one = said (get_or xs i d) in
    is
    ∙ ap (λ hit. cond hit true was) (sym (texts_ties new.items q.items) ∙ ap test same)
    ∙ ap (λ a. cond (test one) true a) before
    ∙ either (test one) (list_any test front)
    ∙ sym (ap (list_any test) (map_more said xs i d h) ∙ list_any-append test front (one ∷ []))
