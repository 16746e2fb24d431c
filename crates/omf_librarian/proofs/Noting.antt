-- Names that are noted, one behind the other.
use Rattle.std.proofs.Common.{◌≡◌, ◌≢◌, ℕ, zero, suc, ◌+◌, ◌<◌, ◌≤◌, ◌⊎◌, inl, inr, Bool, true, false, ◌||◌, cond, List}
use Rattle.std.proofs.Common.{[], ◌∷◌}
use Rattle.std.proofs.Common.{◌++◌, length, get_or, map, All, Some, None, is_some, refl, sym, ap, subst, ◌∙◌, arith}
use Rattle.std.proofs.Common.{append_assoc}
use Rattle.std.specs.declared.option.Option.{Option}
use Rattle.std.specs.Borrow.{Bor}
use Rattle.std.specs.List.{find, list_any}
use Rattle.std.specs.Map.{lookup}
use Rattle.std.specs.Option.{option_map, option_or, option_to_list}
use Rattle.std.specs.Str.{bytes_eq}
use Rattle.std.specs.Cmp.Lexicographic.{bytes_decides}
use Rattle.std.proofs.lemmas.Bool.{cases_lt, leb-true, or_parts, ltb-false}
use Rattle.std.proofs.lemmas.List.{append-nil, get_or_append_left, get_or_push, length_push, map_push}
use Rattle.omf_librarian.specs.declared.naming.Doubled as lent
use Rattle.omf_librarian.specs.declared.naming.Names.{Names}
use Rattle.omf_librarian.specs.declared.block.Entry.{Entry}
use Rattle.omf_librarian.specs.Modules.{is_long}
use Rattle.omf_librarian.specs.Naming.{Doubled, Named, doubled_behind, doubled_with, entries_behind, entry_for}
use Rattle.omf_librarian.specs.Naming.{first_of}
use Rattle.omf_librarian.specs.Said.{doubled_said}
use Rattle.omf_librarian.specs.inside.Names.{Noted}
use Rattle.omf_librarian.specs.inside.Views.{IsShort, entry_view}
use Rattle.omf_librarian.proofs.Found.{find_push}

pub first_push : (before : List Named) (n : Named) (q : List ℕ)
    → first_of (before ++ n ∷ []) q ≡ option_or (first_of before q) (cond (bytes_eq n.name q) (Some n) None)
first_push before n q = find_push (λ (x : Named). bytes_eq x.name q) before n

-- one name more
pub entries_push : (before ns : List Named) (n : Named)
    → entries_behind before (ns ++ n ∷ [])
    ≡ entries_behind before ns ++ cond (is_some (first_of (before ++ ns) n.name)) [] (entry_for n ∷ [])
entries_push before [] n =
    append-nil _ ∙ ap (λ l. cond (is_some (first_of l n.name)) [] (entry_for n ∷ [])) (sym (append-nil before))
entries_push before (x ∷ ns) n =
    let front = cond (is_some (first_of before x.name)) [] (entry_for x ∷ []) in
    ap (λ l. front ++ l) (entries_push (before ++ x ∷ []) ns n)
    ∙ ap
    (λ l. front ++ (entries_behind (before ++ x ∷ []) ns ++ cond (is_some (first_of l n.name)) [] (entry_for n ∷ [])))
    (append_assoc before (x ∷ []) ns)
    ∙ sym (append_assoc front (entries_behind (before ++ x ∷ []) ns)
    (cond (is_some (first_of (before ++ x ∷ ns) n.name)) [] (entry_for n ∷ [])))

pub doubled_push : (before ns : List Named) (n : Named)
    → doubled_behind before (ns ++ n ∷ [])
    ≡ doubled_behind before ns ++ option_to_list (option_map (doubled_with n) (first_of (before ++ ns) n.name))
doubled_push before [] n =
    append-nil _ ∙ ap (λ l. option_to_list (option_map (doubled_with n) (first_of l n.name))) (sym (append-nil before))
doubled_push before (x ∷ ns) n =
    let front = option_to_list (option_map (doubled_with x) (first_of before x.name)) in
    ap (λ l. front ++ l) (doubled_push (before ++ x ∷ []) ns n)
    ∙ ap (λ l. front ++ (doubled_behind (before ++ x ∷ []) ns
    ++ option_to_list (option_map (doubled_with n) (first_of l n.name)))) (append_assoc before (x ∷ []) ns)
    ∙ sym (append_assoc front (doubled_behind (before ++ x ∷ []) ns)
    (option_to_list (option_map (doubled_with n) (first_of (before ++ x ∷ ns) n.name))))

abbrev pub member_in : Option Named → Option ℕ
member_in o = option_map (λ (n : Named). n.member) o

-- ---- a name that is there

old_by : (before : List Named) (n : Named) (q : List ℕ) (o : Option Named) (t : Bool)
    → is_some (first_of before n.name) ≡ true → first_of before q ≡ o → bytes_eq n.name q ≡ t
    → option_or o (cond t (Some n) None) ≡ o
old_by before n q (Some x) t there at same = refl
old_by before n q None false there at same = refl
old_by before n q None true there at same =
    absurd (let z : true ≡ false =
    sym there ∙ ap (λ l. is_some (first_of before l)) ((bytes_decides n.name q).0 same) ∙ ap is_some at in cc)

first_old : (before : List Named) (n : Named) (q : List ℕ) → is_some (first_of before n.name) ≡ true
    → first_of (before ++ n ∷ []) q ≡ first_of before q
first_old before n q there =
    first_push before n q ∙ old_by before n q (first_of before q) (bytes_eq n.name q) there refl refl

doubled_by : (n : Named) (o : Option Named) (first : ℕ) → member_in o ≡ Some first
    → option_to_list (option_map (doubled_with n) o) ≡ record { name = n.name; first = first; second = n.member } ∷ []
doubled_by n None first is = absurd (let z : ◌≡◌ {A = Option ℕ} None (Some first) = is in cc)
doubled_by n (Some x) first is =
    let e : x.member ≡ first = ap (λ o. elim o [ None ↦ first | Some k ↦ k ]) is in
    ap (λ (k : ℕ). let d : Doubled = record { name = n.name; first = k; second = n.member } in d ∷ []) e

some_by : (o : Option Named) (first : ℕ) → member_in o ≡ Some first → is_some o ≡ true
some_by None first is = absurd (let z : ◌≡◌ {A = Option ℕ} None (Some first) = is in cc)
some_by (Some x) first is = refl

pub note_old : {A : Type 0} (before : List Named) (n : Named) (old new : Names A) (first : ℕ) (d : lent.Doubled A)
    → Noted before old → member_in (first_of before n.name) ≡ Some first
    → new.first.entries ≡ old.first.entries → new.entries.items ≡ old.entries.items
    → new.doubled.items ≡ old.doubled.items ++ d ∷ []
    → doubled_said d ≡ record { name = n.name; first = first; second = n.member }
    → Noted (before ++ n ∷ []) new
note_old before n old new first d h is same_first same_entries more said =
    let there = some_by (first_of before n.name) first is in
    record {
      first = λ q.
          ap (lookup (λ (k : Bor (List ℕ)). bytes_eq q k.now)) same_first ∙ h.first q
          ∙ ap member_in (sym (first_old before n q there));
      entries =
          ap (map entry_view) same_entries ∙ h.entries ∙ sym (append-nil (entries_behind [] before))
          ∙ ap (λ t. entries_behind [] before ++ cond t [] (entry_for n ∷ [])) (sym there)
          ∙ sym (entries_push [] before n);
      short = subst (All IsShort) (sym same_entries) h.short;
      doubled =
          ap (map doubled_said) more ∙ map_push doubled_said old.doubled.items d
          ∙ ap (λ l. l ++ doubled_said d ∷ []) h.doubled
          ∙ ap (λ x. doubled_behind [] before ++ x ∷ []) said
          ∙ ap (λ l. doubled_behind [] before ++ l) (sym (doubled_by n (first_of before n.name) first is))
          ∙ sym (doubled_push [] before n);
    }

-- ---- a new name

none_by : (o : Option Named) → member_in o ≡ None → o ≡ None
none_by None is = refl
none_by (Some x) is = absurd (let z : ◌≡◌ {A = Option ℕ} (Some x.member) None = is in cc)

new_by : (before : List Named) (n : Named) (q : List ℕ) (o : Option Named) (t : Bool)
    → first_of before n.name ≡ None → first_of before q ≡ o → bytes_eq n.name q ≡ t
    → cond t (Some n.member) (member_in o) ≡ member_in (option_or o (cond t (Some n) None))
new_by before n q o false none at same =
    elim o as (λ x. member_in x ≡ member_in (option_or x None)) [ None ↦ refl | Some x ↦ refl ]
new_by before n q None true none at same = refl
new_by before n q (Some x) true none at same =
    absurd (let z : ◌≡◌ {A = Option Named} (Some x) None =
    sym at ∙ ap (first_of before) (sym ((bytes_decides n.name q).0 same)) ∙ none in cc)

short_push : (xs : List Entry) (e : Entry) → All IsShort xs → IsShort e → All IsShort (xs ++ e ∷ [])
short_push xs e all here k d within =
    elim (cases_lt k (length xs)) [
      | inl less ↦ subst IsShort (sym (get_or_append_left xs (e ∷ []) d k less)) (all k d less)
      | inr most ↦
          let at : length xs ≡ k = omega (arith, most, within, length_push xs e) in
          subst IsShort (sym (get_or_push xs e d k at)) here
    ]

pub note_new : {A : Type 0} (before : List Named) (n : Named) (old new : Names A) (e : Entry)
    → Noted before old → member_in (first_of before n.name) ≡ None
    → ((q : List ℕ) → lookup (λ (k : Bor (List ℕ)). bytes_eq q k.now) new.first.entries
    ≡ cond (bytes_eq n.name q) (Some n.member) (lookup (λ (k : Bor (List ℕ)). bytes_eq q k.now) old.first.entries))
    → new.entries.items ≡ old.entries.items ++ e ∷ [] → entry_view e ≡ entry_for n → IsShort e
    → new.doubled.items ≡ old.doubled.items → Noted (before ++ n ∷ []) new
note_new before n old new e h is update more said small same_doubled =
    let none = none_by (first_of before n.name) is in
    record {
      first = λ q.
          update q ∙ ap (cond (bytes_eq n.name q) (Some n.member)) (h.first q)
          ∙ new_by before n q (first_of before q) (bytes_eq n.name q) none refl refl
          ∙ ap member_in (sym (first_push before n q));
      entries =
          ap (map entry_view) more ∙ map_push entry_view old.entries.items e
          ∙ ap (λ l. l ++ entry_view e ∷ []) h.entries
          ∙ ap (λ x. entries_behind [] before ++ x ∷ []) said
          ∙ ap (λ t. entries_behind [] before ++ cond t [] (entry_for n ∷ [])) (sym (ap is_some none))
          ∙ sym (entries_push [] before n);
      short = subst (All IsShort) (sym more) (short_push old.entries.items e h.short small);
      doubled =
          ap (map doubled_said) same_doubled ∙ h.doubled ∙ sym (append-nil (doubled_behind [] before))
          ∙ ap (λ (o : Option Named). doubled_behind [] before ++ option_to_list (option_map (doubled_with n) o))
          (sym none)
          ∙ sym (doubled_push [] before n);
    }

-- ---- names that aren't long

pub none_long_at : (names : List (List ℕ)) (i : ℕ) (d : List ℕ) → list_any is_long names ≡ false → i < length names
    → length (get_or names i d) ≤ 255
none_long_at [] i d none within = absurd (omega arith)
none_long_at (x ∷ xs) zero d none within =
    ltb-false 255 (length x) (or_parts (is_long x) (list_any is_long xs) none).0
none_long_at (x ∷ xs) (suc i) d none within =
    none_long_at xs i d (or_parts (is_long x) (list_any is_long xs) none).1 (omega arith)

pub none_long_append : (xs ys : List (List ℕ)) → list_any is_long (xs ++ ys) ≡ false
    → (list_any is_long xs ≡ false) × (list_any is_long ys ≡ false)
none_long_append [] ys none = (refl, none)
none_long_append (x ∷ xs) ys none =
    let parts = or_parts (is_long x) (list_any is_long (xs ++ ys)) none in
    let rest = none_long_append xs ys parts.1 in
    (ap (λ t. t || list_any is_long xs) parts.0 ∙ rest.0, rest.1)
