-- How externals mean their defaults, and lists of modules are made others, step by step.
use Rattle.std.proofs.Common.{◌≡◌, ℕ, zero, suc, ◌+◌, ◌-◌, ◌<◌, ◌≤◌, Bool, true, false, All, List, [], ◌∷◌, ◌++◌}
use Rattle.std.proofs.Common.{map, zip, length, drop, get_or, set, Some, None, refl, sym, subst, ap, ap₂, ◌∙◌, arith}
use Rattle.std.proofs.Common.{inl, inr, take, Vec}
use Rattle.std.proofs.lemmas.Bool.{cases_lt, eq-eqb, ne_eqb, lt-ltb}
use Rattle.std.proofs.lemmas.List.{drop_more, get_or-map, length-map, length-set, map-append, with_items_is}
use Rattle.std.proofs.lemmas.List.FromFn.{get_or-map-range_with_len, length-map-range_with_len}
use Rattle.std.proofs.lemmas.Slice.Zip.{length-zip}
use Rattle.std.specs.Prelude.{if◌then◌else◌, nat_lt, unwrap_or, find, is_some, nat_le, ◌==◌, ◌&&◌, ◌||◌}
use Rattle.std.specs.Borrow.{Bor}
use Rattle.std.specs.declared.option.Option.{Option}
use Rattle.std.specs.List.{range_with_len}
use Rattle.std.specs.Option.{option_and_then}
use Rattle.omf_library.specs.Defaults.{Defaulted}
use Rattle.omf_library.specs.Said.{all_defaulted, defaulted_said}
use Rattle.omf_library.specs.declared.defaults.Defaulted as lent
use Rattle.omf_module.specs.Module.{ExternalSymbol}
use Rattle.omf_module.specs.Sound.{IsIndexOf}
use Rattle.omf_place.specs.declared.names.Names.{Names}
use Rattle.omf_search.specs.Said as search
use Rattle.doslink_link.specs.Linking.{bytes_of}
use Rattle.doslink_passes.specs.Aliases.{is_defined}
use Rattle.doslink_passes.specs.Meant.{external_name, local_default, meaning_of, meanings_of}
use Rattle.doslink_passes.specs.inside.Passing.{with_meaning}

-- ---- a function of the numbers of a range

range-same : {X : Type 0} (f g : ℕ → X) (a n : ℕ) → ((i : ℕ) → a ≤ i → f i ≡ g i)
    → map f (range_with_len a n) ≡ map g (range_with_len a n)
range-same f g a zero same = refl
range-same f g a (suc n) same =
    ap₂ (λ x xs. x ∷ xs) (same a (omega arith))
    (range-same f g (a + 1) n (λ i h. same i (omega (arith, h))))

-- that of another one at one of them
set-range : {X : Type 0} (f g : ℕ → X) (a n k j : ℕ) → a + k ≡ j → ((i : ℕ) → a ≤ i → (i ≡ j → ⊥) → f i ≡ g i)
    → set (map f (range_with_len a n)) k (g j) ≡ map g (range_with_len a n)
set-range f g a zero k j is same = refl
set-range f g a (suc n) zero j is same =
    ap₂ (λ x xs. x ∷ xs) (ap g (omega (arith, is)))
    (range-same f g (a + 1) n (λ i h. same i (omega (arith, h)) (λ e. omega (arith, is, h, e))))
set-range f g a (suc n) (suc k) j is same =
    ap₂ (λ x xs. x ∷ xs) (same a (omega arith) (λ e. omega (arith, is, e)))
    (set-range f g (a + 1) n k j (omega (arith, is)) (λ i h. same i (omega (arith, h))))

-- ---- what externals mean by their defaults

module _ (names : Names) (says : List search.Module) (externals : List ExternalSymbol) (count : ℕ) where
  -- without defaults each means itself
  pub meanings-none : (a n : ℕ) → range_with_len a n ≡ map (meaning_of names says externals [] count) (range_with_len a n)
  meanings-none a zero = refl
  meanings-none a (suc n) = ap (λ xs. a ∷ xs) (meanings-none (a + 1) n)

  meaning-here : (d : Defaulted) (ds : List Defaulted) (i : ℕ) → d.index ≡ i
      → unwrap_or (local_default names says count (external_name externals d.index) d) d.index
      ≡ meaning_of names says externals (d ∷ ds) count i
  meaning-here d ds i is =
      rw (eq-eqb d.index i is)
      (ap (λ n. unwrap_or (local_default names says count (external_name externals n) d) n) is)

  meaning-other : (d : Defaulted) (ds : List Defaulted) (i : ℕ) → (d.index ≡ i → ⊥)
      → meaning_of names says externals ds count i ≡ meaning_of names says externals (d ∷ ds) count i
  meaning-other d ds i other = rw (ne_eqb d.index i other) refl

  -- one default in front of others
  meanings-more : (d : Defaulted) (ds : List Defaulted)
      → with_meaning names says externals d (meanings_of names says externals ds count) ≡ meanings_of names says externals (d ∷ ds) count
  meanings-more d ds =
      let f = meaning_of names says externals ds count in
      let g = meaning_of names says externals (d ∷ ds) count in
      let long : length (map f (range_with_len 1 count)) ≡ count = length-map-range_with_len f 1 count in
      elim (cases_lt 0 d.index) [
        | inl h ↦
            rw (lt-ltb 0 d.index h)
            (ap (λ n. set (map f (range_with_len 1 count)) (d.index - 1)
            (unwrap_or (local_default names says n (external_name externals d.index) d) d.index)) long
            ∙ ap (set (map f (range_with_len 1 count)) (d.index - 1)) (meaning-here d ds d.index refl)
            ∙ set-range f g 1 count (d.index - 1) d.index (omega (arith, h))
            (λ i low other. meaning-other d ds i (λ e. other (sym e))))
        | inr h ↦
            let none : nat_lt 0 d.index ≡ false = grind (arith, h) in
            rw none (range-same f g 1 count (λ i low. meaning-other d ds i (λ e. omega (arith, h, low, e))))
      ]

  -- the same of those that are held
  pub meanings-next : (ds : List lent.Defaulted) (before left : ℕ) (d : lent.Defaulted) (indexes : List ℕ)
      → before ≡ left + 1 → left < length ds → indexes ≡ meanings_of names says externals (all_defaulted (drop before ds)) count
      → with_meaning names says externals (defaulted_said (get_or ds left d)) indexes
      ≡ meanings_of names says externals (all_defaulted (drop left ds)) count
  meanings-next ds before left d indexes is h are =
      ap (with_meaning names says externals (defaulted_said (get_or ds left d)))
      (are ∙ ap (λ n. meanings_of names says externals (all_defaulted (drop n ds)) count) is)
      ∙ meanings-more (defaulted_said (get_or ds left d)) (all_defaulted (drop (left + 1) ds))
      ∙ ap (λ l. meanings_of names says externals (all_defaulted l) count) (sym (drop_more ds left d h))

-- as many as before
pub length-with_meaning : (names : Names) (says : List search.Module) (externals : List ExternalSymbol) (d : Defaulted)
    (indexes : List ℕ)
    → length (with_meaning names says externals d indexes) ≡ length indexes
length-with_meaning names says externals d indexes =
    elim (cases_lt 0 d.index) [
      | inl h ↦ rw (lt-ltb 0 d.index h) (length-set indexes (d.index - 1) _)
      | inr h ↦ let none : nat_lt 0 d.index ≡ false = grind (arith, h) in rw none refl
    ]

-- indexes that are written in place
pub indexes-written : {A : Type 0} (v : Vec ℕ A) (written slice : List ℕ) (names : Names) (says : List search.Module)
    (externals : List ExternalSymbol) (d : Defaulted) → slice ≡ v.items → v.len ≡ length v.items → written ≡ with_meaning names says externals d slice
    → take v.len (written ++ drop (length written) v.items) ≡ with_meaning names says externals d v.items
indexes-written v written slice names says externals d same size is =
    let long : length written ≡ v.len =
    ap length is ∙ length-with_meaning names says externals d slice ∙ ap length same ∙ sym size in
    with_items_is v written long ∙ is ∙ ap (with_meaning names says externals d) same

-- ---- each of these is an index

module _ (externals : List ExternalSymbol) (count : ℕ) (few : count ≤ length externals) where
  default-within : (names : Names) (says : List search.Module) (name : List ℕ) (d : Option Defaulted) (i : ℕ)
      → IsIndexOf externals i → IsIndexOf externals (unwrap_or (option_and_then (local_default names says count name) d) i)
  default-within names says name None i is = is
  default-within names says name (Some d) i is = default-in (is_defined names says name || is_some d.default_name) _ refl
    where
      default-in : (named within : Bool) → within ≡ (nat_lt 0 d.default_index && nat_le d.default_index count)
          → IsIndexOf externals
          (unwrap_or (if named then None else (if within then Some d.default_index else None)) i)
      default-in true within same = is
      default-in false false same = is
      default-in false true same = (grind (arith, same), grind (arith, same, few))

  pub meanings-within : (names : Names) (says : List search.Module) (ds : List Defaulted)
      → All (IsIndexOf externals) (meanings_of names says externals ds count)
  meanings-within names says ds k d h =
      let f = meaning_of names says externals ds count in
      let lt : k < count = omega (arith, h, length-map-range_with_len f 1 count) in
      subst (IsIndexOf externals) (sym (get_or-map-range_with_len f 1 count k (1 + k) d lt refl))
      (default-within names says (external_name externals (1 + k)) (find (λ d. d.index == 1 + k) ds) (1 + k) (omega arith, omega (arith, lt, few)))

-- ---- lists of modules

pub zip-none : {X Y : Type 0} (xs : List X) → zip {K = X} {X = Y} xs [] ≡ []
zip-none [] = refl
zip-none (x ∷ xs) = refl

-- the next of two lists
pub zip-more : {X Y : Type 0} (xs : List X) (ys : List Y) (x : X) (y : Y) → length ys < length xs
    → x ≡ get_or xs (length ys) x → zip xs (ys ++ y ∷ []) ≡ zip xs ys ++ (x, y) ∷ []
zip-more [] ys x y h is = absurd (omega (arith, h))
zip-more (a ∷ rest) [] x y h is = ap₂ (λ e l. (e, y) ∷ l) (sym is) (zip-none rest)
zip-more (a ∷ rest) (b ∷ more) x y h is = ap (λ l. (a, b) ∷ l) (zip-more rest more x y (omega (arith, h)) is)

-- a range with one number more
pub range-more : (a n j : ℕ) → a + n ≡ j → range_with_len a (suc n) ≡ range_with_len a n ++ j ∷ []
range-more a zero j is = ap (λ m. m ∷ []) (omega (arith, is))
range-more a (suc n) j is = ap (λ l. a ∷ l) (range-more (a + 1) n j (omega (arith, is)))

-- so many are there of two lists as of what is made of them, as long as the first has more
pub below : {X Y Z : Type 0} (f : X × Y → Z) (xs : List X) (ys : List Y) (zs : List Z) (n m : ℕ)
    → zs ≡ map f (zip xs ys) → n ≡ length zs → length ys < m → n < m
below f xs ys zs n m made count h =
    omega (arith, count, ap length made, length-map (zip xs ys) f, length-zip xs ys, h)

-- what is made of the next of bytes and of a module
pub made-next : {Y Z : Type 0} (f : List ℕ × Y → Z) (inputs : List (Bor (List ℕ))) (ys : List Y) (zs new : List Z)
    (n : ℕ)
    (d : Bor (List ℕ)) (one : Y) (made : Z) → zs ≡ map f (zip (bytes_of inputs) ys) → n ≡ length zs
    → length ys < length inputs → made ≡ f ((get_or inputs n d).now, one) → new ≡ zs ++ made ∷ []
    → new ≡ map f (zip (bytes_of inputs) (ys ++ one ∷ []))
made-next f inputs ys zs new n d one made are count h is pushed =
    let bytes = bytes_of inputs in
    let as-many : n ≡ length ys =
    omega (
      arith,
      count,
      ap length are,
      length-map (zip bytes ys) f,
      length-zip bytes ys,
      h,
      length-map inputs (λ s. s.now),
    ) in
    let x = (get_or inputs (length ys) d).now in
    let pairs : zip bytes (ys ++ one ∷ []) ≡ zip bytes ys ++ (x, one) ∷ [] =
    zip-more bytes ys x one (omega (arith, h, length-map inputs (λ s. s.now)))
    (sym (get_or-map (λ s. s.now) inputs (length ys) d x h)) in
    pushed ∙ ap₂ (λ l e. l ++ e ∷ []) are (is ∙ ap (λ k. f ((get_or inputs k d).now, one)) as-many)
    ∙ sym (map-append f (zip bytes ys) ((x, one) ∷ [])) ∙ sym (ap (map f) pairs)
