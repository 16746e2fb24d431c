-- The data records of modules, one after the other.
use Rattle.std.proofs.Common.{◌≡◌, ℕ, ◌+◌, ◌<◌, List, [], ◌∷◌, ◌++◌, map, drop, length, get_or, slice_get, Some, None}
use Rattle.std.proofs.Common.{option_map, Ok, All, ap, ◌∙◌, sym, arith, subst}
use Rattle.std.proofs.lemmas.List.{get_or_default, length-append, length-map, get_or-map, get_or_append_left}
use Rattle.std.proofs.lemmas.List.{get_or-append-add}
use Rattle.std.proofs.lemmas.Option.{get_or_from_slice_get}
use Rattle.omf_module.specs.Module.{DataRecord, Module}
use Rattle.omf_image.specs.inside.Entries.{StartEntry, DataEntry, module_entries, entries_from}
use Rattle.omf_module.specs.declared.Start.{Start}
use Rattle.omf_place.specs.Layout.{Layout}
use Rattle.omf_image.specs.declared.faults.FixKind.TheVariants.{TwoStarts}
use Rattle.omf_image.specs.declared.faults.FixFault.TheVariants.{At}
use Rattle.omf_image.specs.Overflow.{only_overflow, start_overflow}
use Rattle.omf_image.specs.Registers.{starts, starts_fault, start_meaning, entry_point}
use Rattle.omf_image.specs.inside.Entries.{module_start, starts_from}
use Rattle.omf_image.specs.inside.Starts.{FindsStart, GivesEntry}
use Rattle.omf_image.proofs.Meaning.{drop_more}

pub all_left : {X : Type 0} (P : X → Type 0) (xs ys : List X) → All P (xs ++ ys) → All P xs
all_left P xs ys h k d l = subst P (get_or_append_left xs ys d k l) (h k d (omega (arith, length-append xs ys)))

pub all_right : {X : Type 0} (P : X → Type 0) (xs ys : List X) → All P (xs ++ ys) → All P ys
all_right P xs ys h k d l =
    subst P (get_or-append-add xs ys k d) (h (length xs + k) d (omega (arith, length-append xs ys)))

abbrev pub entry_of : ℕ → Module → DataRecord → DataEntry
entry_of n m d = record { input = n; module' = m; item = d }

pub all_at : {X Y : Type 0} (P : Y → Type 0) (f : X → Y) (xs : List X) (i : ℕ) (x : X) → All P (map f xs)
    → i < length xs → slice_get xs i ≡ Some x → P (f x)
all_at P f xs i x h l e =
    subst P (get_or-map f xs i x (f x) l ∙ ap f (get_or_from_slice_get xs i x x e)) (h i (f x) (simp length-map l))

pub entry_next : (n : ℕ) (m : Module) (i : ℕ) (d : DataRecord) → i < length m.data_records
    → slice_get m.data_records i ≡ Some d
    → drop i (module_entries n m) ≡ entry_of n m d ∷ drop (i + 1) (module_entries n m)
entry_next n m i d l e =
    drop_more (module_entries n m) i (entry_of n m d) (simp length-map l)
    ∙ ap (λ (x : DataEntry). x ∷ drop (i + 1) (module_entries n m))
    (get_or-map (entry_of n m) m.data_records i d (entry_of n m d) l
    ∙ ap (entry_of n m) (get_or_from_slice_get m.data_records i d d e))

pub module_next : (ms : List Module) (i : ℕ) (m : Module) → i < length ms → m ≡ get_or ms i m
    → entries_from i (drop i ms) ≡ module_entries i m ++ entries_from (i + 1) (drop (i + 1) ms)
module_next ms i m l e =
    ap (entries_from i) (drop_more ms i m l)
    ∙ ap (λ (x : Module). module_entries i x ++ entries_from (i + 1) (drop (i + 1) ms)) (sym e)

pub item_next : {X : Type 0} (xs : List X) (i : ℕ) (x : X) → i < length xs → slice_get xs i ≡ Some x
    → drop i xs ≡ x ∷ drop (i + 1) xs
item_next xs i x l e = drop_more xs i x l ∙ ap (λ y. y ∷ drop (i + 1) xs) (get_or_from_slice_get xs i x x e)

pub start_next : (ms : List Module) (i : ℕ) (m : Module) → i < length ms → m ≡ get_or ms i m
    → starts_from i (drop i ms) ≡ module_start m.start i m ++ starts_from (i + 1) (drop (i + 1) ms)
start_next ms i m l e =
    ap (starts_from i) (drop_more ms i m l)
    ∙ ap (λ (x : Module). module_start x.start i x ++ starts_from (i + 1) (drop (i + 1) ms)) (sym e)

pub all_head : {X : Type 0} (P : X → Type 0) (x : X) (xs : List X) → All P (x ∷ xs) → P x
all_head P x xs h = h 0 x (omega arith)

some_item : (ms : List Module) (i : ℕ) → i < length ms → (m : Module) × (m ≡ get_or ms i m)
some_item ms i l =
    let d : Module =
    record { segments = []; groups = []; externals = []; publics = []; data_records = []; start = None } in
    (get_or ms i d, get_or_default ms i d (get_or ms i d) l)

-- the only one
pub one_start : (layout : Layout) (ms : List Module) (f : ℕ × Start) (m : Module) (entry : ℕ × ℕ) → m ≡ get_or ms f.0 m
    → FindsStart ms 0 (Some f) → FindsStart ms (f.0 + 1) None
    → GivesEntry (start_meaning layout (record { input = f.0; module' = m; item = f.1 })) (Ok entry)
    → (starts_fault layout (starts ms) ≡ None) × (entry ≡ entry_point 0 layout (starts ms))
one_start layout ms f m entry is one none gives =
    let e : StartEntry = record { input = f.0; module' = m; item = f.1 } in
    let only : starts ms ≡ e ∷ [] = one.1 m is ∙ ap (λ (es : List StartEntry). e ∷ es) none in (
      ap (starts_fault layout) only ∙ ap (option_map (λ k. At k e.input e.item.place)) gives.0,
      gives.1 ∙ sym (ap (entry_point 0 layout) only),
    )

pub two_starts : (layout : Layout) (ms : List Module) (f g : ℕ × Start) → FindsStart ms 0 (Some f)
    → FindsStart ms (f.0 + 1) (Some g) → starts_fault layout (starts ms) ≡ Some (At TwoStarts g.0 g.1.place)
two_starts layout ms f g one two =
    let m = some_item ms f.0 one.0 in
    let n = some_item ms g.0 two.0 in
    let e : StartEntry = record { input = f.0; module' = m.0; item = f.1 } in
    ap (starts_fault layout) (one.1 m.0 m.1 ∙ ap (λ (es : List StartEntry). e ∷ es) (two.1 n.0 n.1))

-- of two starts neither is looked at
pub neither_overflows : (layout : Layout) (ms : List Module) (f g : ℕ × Start) → FindsStart ms 0 (Some f)
    → FindsStart ms (f.0 + 1) (Some g) → start_overflow layout ms ≡ None
neither_overflows layout ms f g one two =
    let m = some_item ms f.0 one.0 in
    let n = some_item ms g.0 two.0 in
    let e : StartEntry = record { input = f.0; module' = m.0; item = f.1 } in
    ap (only_overflow layout) (one.1 m.0 m.1 ∙ ap (λ (es : List StartEntry). e ∷ es) (two.1 n.0 n.1))
