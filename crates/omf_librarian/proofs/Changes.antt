-- Members that are changed.
use Rattle.std.proofs.Common.{◌≡◌, ℕ, suc, ◌+◌, ◌-◌, ◌<◌, ◌≤◌, Bool, true, false, cond, List, [], ◌∷◌, ◌++◌, length}
use Rattle.std.proofs.Common.{get_or, take, drop}
use Rattle.std.proofs.Common.{map, set, Some, None, refl, sym, ap, ◌∙◌, arith, add-one}
use Rattle.std.specs.declared.option.Option.{Option}
use Rattle.std.specs.Borrow.{Bor}
use Rattle.std.specs.List.{remove}
use Rattle.std.specs.Option.{option_map}
use Rattle.std.proofs.lemmas.List.{drop-map, drop_all, drop_more, get_or-map, map-append, map-set, take-map, take_rest}
use Rattle.omf_library.specs.Names.{texts}
use Rattle.omf_librarian.specs.Changing.{deleted, extracted, has_name, index_from, replaced}

pub index-here : (ms : List (Bor (List ℕ))) (i : ℕ) (d : Bor (List ℕ)) (name : List ℕ) → i < length ms
    → has_name name (get_or ms i d).now ≡ true → index_from i name (texts (drop i ms)) ≡ Some i
index-here ms i d name within is =
    ap (λ l. index_from i name (texts l)) (drop_more ms i d within)
    ∙ ap (λ t. cond t (Some i) (index_from (i + 1) name (texts (drop (i + 1) ms)))) is

pub index-next : (ms : List (Bor (List ℕ))) (i : ℕ) (d : Bor (List ℕ)) (name : List ℕ) → i < length ms
    → has_name name (get_or ms i d).now ≡ false
    → index_from (i + 1) name (texts (drop (i + 1) ms)) ≡ index_from i name (texts (drop i ms))
index-next ms i d name within other =
    sym (ap (λ l. index_from i name (texts l)) (drop_more ms i d within)
    ∙ ap (λ t. cond t (Some i) (index_from (i + 1) name (texts (drop (i + 1) ms)))) other)

pub index-none : (ms : List (Bor (List ℕ))) (i : ℕ) (name : List ℕ) → length ms ≤ i
    → index_from i name (texts (drop i ms)) ≡ None
index-none ms i name past = ap (λ l. index_from i name (texts l)) (drop_all i ms past)

abbrev now_of : Bor (List ℕ) → List ℕ
now_of x = x.now

pub removed : (ms : List (Bor (List ℕ))) (i : ℕ) → remove (texts ms) i ≡ texts (take i ms ++ drop (i + 1) ms)
removed ms i =
    ap (λ l. l ++ drop (suc i) (texts ms)) (take-map now_of i ms)
    ∙ ap (λ k. texts (take i ms) ++ drop k (texts ms)) (let e : suc i ≡ i + 1 = omega arith in e)
    ∙ ap (λ l. texts (take i ms) ++ l) (drop-map now_of (i + 1) ms)
    ∙ sym (map-append now_of (take i ms) (drop (i + 1) ms))

pub set_there : (ms : List (Bor (List ℕ))) (i : ℕ) (m : Bor (List ℕ)) → set (texts ms) i m.now ≡ texts (set ms i m)
set_there ms i m = sym (map-set now_of ms i m)

pub taken : (ms : List (Bor (List ℕ))) (i : ℕ) (d : Bor (List ℕ)) → i < length ms
    → get_or (texts ms) i [] ≡ (get_or ms i d).now
taken ms i d within = get_or-map now_of ms i d [] within

pub deleted_is : (ms left new : List (Bor (List ℕ))) (i : ℕ) (name : List ℕ) → Some i ≡ index_from 0 name (texts ms)
    → left ≡ take i ms → new ≡ left ++ take (length ms - (i + 1)) (drop (i + 1) ms)
    → deleted name (texts ms) ≡ Some (texts new)
deleted_is ms left new i name at e₁ e₂ =
    ap (λ o. option_map (λ k. remove (texts ms) k) o) (sym at)
    ∙ ap Some (removed ms i
    ∙ ap texts (sym (e₂ ∙ ap (λ l. l ++ take (length ms - (i + 1)) (drop (i + 1) ms)) e₁
    ∙ ap (λ l. take i ms ++ l) (take_rest ms (i + 1)))))
