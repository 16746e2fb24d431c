-- What records say as a module doesn't tell where they stand, but for the places of its data, fix-ups and start.
use Rattle.std.proofs.Common.{◌≡◌, ℕ, ◌+◌, ◌==◌, true, false, List, [], ◌∷◌, ◌++◌, length, map, Option, None}
use Rattle.std.proofs.Common.{Some, is_some, true≢false, refl, sym, ap, ap₂, ◌∙◌, option_map, option_to_list}
use Rattle.std.proofs.Common.{flat_map}
use Rattle.std.proofs.Math.Path.{fun_ext}
use Rattle.std.proofs.lemmas.List.{map-append, length-map}
use Rattle.std.proofs.lemmas.List.Folds.{flat_map-map}
use Rattle.std.proofs.lemmas.Simd.{map-map}
use Rattle.std.specs.Bool.{then_some}
use Rattle.std.specs.List.{enumerate_from, cons_option}
use Rattle.omf_record.specs.Record.{Record, Modend, Ledata, Lidata}
use Rattle.omf_record.specs.Records.{Placed}
use Rattle.omf_record.specs.declared.fixups.Fixup.{Fixup}
use Rattle.omf_record.specs.declared.fixups.FrameMethod.{FrameMethod}
use Rattle.omf_record.specs.declared.fixups.TargetMethod.{TargetMethod}
use Rattle.omf_record.specs.declared.fixups.Reference.{Reference}
use Rattle.omf_record.specs.declared.fixups.Subrecord.{Subrecord}
use Rattle.omf_record.specs.declared.fixups.Subrecord.TheVariants as sub
use Rattle.omf_module.specs.declared.ResolvedFixup.{ResolvedFixup}
use Rattle.omf_module.specs.declared.Start.{Start}
use Rattle.omf_module.specs.Module.{DataRecord, Module}
use Rattle.omf_module.specs.Before.{along, last}
use Rattle.omf_module.specs.Tables.{names, segments_in, groups_in, externals_in, publics_in, data_of, data_in}
use Rattle.omf_module.specs.Tables.{subrecords}
use Rattle.omf_module.specs.Tables.{fixup_in, fixups_in, fixups, start_in, frame_thread, target_thread, used, module_of}
use Rattle.omf_module.specs.inside.Said.{names_in, segments, groups, externals, publics, subrecords_in, fixups_on}
use Rattle.omf_module.specs.inside.Said.{data_records, start}
use Rattle.omf_module.specs.inside.Checking.{fixup_of, start_of}
use Rattle.omf_module.specs.inside.Running.{later}
use Rattle.omf_module.proofs.Lists.{last_append}
use Rattle.omf_module.proofs.Growing.{fixup_of-is, start_of-is}

-- ---- without places

abbrev pub unplaced_record : Record → Placed
unplaced_record says = record { place = 0; body = []; says = says }

abbrev pub unplaced : Placed → Placed
unplaced r = unplaced_record r.says

-- records that say the same are the same
pub unplaced_said : (rs others : List Placed) → map (λ (r : Placed). r.says) rs ≡ map (λ (r : Placed). r.says) others
    → map unplaced rs ≡ map unplaced others
unplaced_said rs others same =
    sym (map-map unplaced_record (λ (r : Placed). r.says) rs)
    ∙ (ap (map unplaced_record) same ∙ map-map unplaced_record (λ (r : Placed). r.says) others)

abbrev pub placeless_fixup : ResolvedFixup → ResolvedFixup
placeless_fixup x = record x { place = 0 }

abbrev pub placeless_data : DataRecord → DataRecord
placeless_data d = record d { place = 0; fixups = map placeless_fixup d.fixups }

abbrev pub placeless_start : Start → Start
placeless_start s = record s { place = 0 }

abbrev pub placeless : Module → Module
placeless m = record m { data_records = map placeless_data m.data_records; start = option_map placeless_start m.start }

-- ---- lists

pub along_same : {X A B : Type 0} (v : X → A) (h : List A → A → List B) (f : List X → X → List B) →
    ((before : List X) (x : X) → h (map v before) (v x) ≡ f before x) →
    (before xs : List X) → along (map v before) h (map v xs) ≡ along before f xs
along_same v h f same before [] = refl
along_same v h f same before (x ∷ xs) =
    ap₂ (λ ys zs. ys ++ zs) (same before x)
    (ap (λ b. along b h (map v xs)) (sym (map-append v before (x ∷ [])))
    ∙ along_same v h f same (before ++ x ∷ []) xs)

pub map_along : {X A B : Type 0} (g : A → B) (f : List X → X → List A) (before xs : List X)
    → along before (λ b x. map g (f b x)) xs ≡ map g (along before f xs)
map_along g f before [] = refl
map_along g f before (x ∷ xs) =
    ap (λ ys. map g (f before x) ++ ys) (map_along g f (before ++ x ∷ []) xs)
    ∙ sym (map-append g (f before x) (along (before ++ x ∷ []) f xs))

map_flat : {X A B : Type 0} (g : A → B) (f : X → List A) (xs : List X)
    → flat_map (λ x. map g (f x)) xs ≡ map g (flat_map f xs)
map_flat g f [] = refl
map_flat g f (x ∷ xs) = ap (λ ys. map g (f x) ++ ys) (map_flat g f xs) ∙ sym (map-append g (f x) (flat_map f xs))

map_enumerate : {A B : Type 0} (f : A → B) (n : ℕ) (xs : List A)
    → enumerate_from n (map f xs) ≡ map (λ e. (e.0, f e.1)) (enumerate_from n xs)
map_enumerate f n [] = refl
map_enumerate f n (x ∷ xs) = ap (λ es. (n, f x) ∷ es) (map_enumerate f (n + 1) xs)

pub map_last : {A B : Type 0} (f : A → B) (xs : List A) → last (map f xs) ≡ option_map f (last xs)
map_last f [] = refl
map_last f (x ∷ xs) =
    last_append (f x ∷ []) (map f xs)
    ∙ (ap (λ o. later o (Some (f x))) (map_last f xs)
    ∙ (map_later (last xs) ∙ ap (option_map f) (sym (last_append (x ∷ []) xs))))
  where
    map_later : (o : Option _) → later (option_map f o) (Some (f x)) ≡ option_map f (later o (Some x))
    map_later None = refl
    map_later (Some y) = refl

-- ---- options

pub is_some_map : {A B : Type 0} (f : A → B) (o : Option A) → is_some (option_map f o) ≡ is_some o
is_some_map f None = refl
is_some_map f (Some x) = refl

pub none_of : {A : Type 0} (o : Option A) → is_some o ≡ false → o ≡ None
none_of None h = refl
none_of (Some x) h = absurd (true≢false h)

-- ---- tables

pub names_same : (rs : List Placed) → names (map unplaced rs) ≡ names rs
names_same rs = flat_map-map (λ (r : Placed). names_in r.says) unplaced rs

pub segments_same : (rs : List Placed) → segments (map unplaced rs) ≡ segments rs
segments_same rs =
    along_same unplaced _ (λ before (r : Placed). segments_in (names before) r.says)
    (λ before r. ap (λ ns. segments_in ns r.says) (names_same before)) [] rs

pub groups_same : (rs : List Placed) → groups (map unplaced rs) ≡ groups rs
groups_same rs =
    along_same unplaced _ (λ before (r : Placed). groups_in (names before) r.says)
    (λ before r. ap (λ ns. groups_in ns r.says) (names_same before)) [] rs

pub externals_same : (rs : List Placed) → externals (map unplaced rs) ≡ externals rs
externals_same rs = flat_map-map (λ (r : Placed). externals_in r.says) unplaced rs

publics_same : (rs : List Placed) → publics (map unplaced rs) ≡ publics rs
publics_same rs = flat_map-map (λ (r : Placed). publics_in r.says) unplaced rs

pub subrecords_same : (rs : List Placed) → subrecords (map unplaced rs) ≡ subrecords rs
subrecords_same rs = flat_map-map (λ (r : Placed). subrecords_in r.says) unplaced rs

data_in_same : (place : ℕ) (r : Record) → data_in 0 r ≡ map placeless_data (data_in place r)
data_in_same place (Ledata segment offset bytes) = refl
data_in_same place (Lidata segment offset blocks) = refl
data_in_same place _ = refl

data_of_same : (rs : List Placed) → data_of (map unplaced rs) ≡ map placeless_data (data_of rs)
data_of_same rs =
    flat_map-map (λ (r : Placed). data_in r.place r.says) unplaced rs
    ∙ (ap (λ f. flat_map f rs) (fun_ext (λ (r : Placed). data_in_same r.place r.says))
    ∙ map_flat placeless_data (λ (r : Placed). data_in r.place r.says) rs)

-- ---- fix-ups and data

fixup_of_same : (place : ℕ) (x : Fixup) (frame : Option FrameMethod) (target : Option TargetMethod) →
    option_to_list (fixup_of 0 x frame target) ≡ map placeless_fixup (option_to_list (fixup_of place x frame target))
fixup_of_same place x (Some frame) (Some target) = refl
fixup_of_same place x (Some frame) None = refl
fixup_of_same place x None target = refl

fixup_same : (place : ℕ) (before : List Subrecord) (x : Subrecord)
    → option_to_list (fixup_in 0 before x) ≡ map placeless_fixup (option_to_list (fixup_in place before x))
fixup_same place before (sub.Fixup x) =
    let f = used (frame_thread before) x.reference.frame in
    let t = used (target_thread before) x.reference.target in
    ap option_to_list (sym (fixup_of-is 0 x f t))
    ∙ (fixup_of_same place x f t ∙ ap (λ o. map placeless_fixup (option_to_list o)) (fixup_of-is place x f t))
fixup_same place before (sub.SetFrame t method) = refl
fixup_same place before (sub.SetTarget t method) = refl

fixups_in_same : (before : List Subrecord) (r : Placed)
    → fixups_in before (unplaced r) ≡ map placeless_fixup (fixups_in before r)
fixups_in_same before r =
    ap (λ f. along [] f (subrecords (r ∷ [])))
    (fun_ext (λ earlier. fun_ext (λ x. fixup_same r.place (before ++ earlier) x)))
    ∙ map_along placeless_fixup (λ earlier x. option_to_list (fixup_in r.place (before ++ earlier) x)) []
    (subrecords (r ∷ []))

abbrev placeless_numbered : ℕ × ResolvedFixup → ℕ × ResolvedFixup
placeless_numbered x = (x.0, placeless_fixup x.1)

abbrev numbered_fixups : List Placed → Placed → List (ℕ × ResolvedFixup)
numbered_fixups before r = map (λ x. (length (data_of before), x)) (fixups_in (subrecords before) r)

numbered_same : (before : List Placed) (r : Placed)
    → numbered_fixups (map unplaced before) (unplaced r) ≡ map placeless_numbered (numbered_fixups before r)
numbered_same before r =
    rw (data_of_same before, length-map, subrecords_same before, fixups_in_same (subrecords before) r) (simp map-map)

fixups_same : (rs : List Placed) → fixups (map unplaced rs) ≡ map placeless_numbered (fixups rs)
fixups_same rs =
    along_same unplaced numbered_fixups (λ b r. map placeless_numbered (numbered_fixups b r)) numbered_same [] rs
    ∙ map_along placeless_numbered numbered_fixups [] rs

fixups_on_same : (n : ℕ) (xs : List (ℕ × ResolvedFixup))
    → fixups_on n (map placeless_numbered xs) ≡ map placeless_fixup (fixups_on n xs)
fixups_on_same n [] = refl
fixups_on_same n (x ∷ xs) =
    elim (x.0
    == n) as (λ b.
    cons_option (then_some b (placeless_fixup x.1)) (fixups_on n (map placeless_numbered xs))
    ≡ map placeless_fixup (cons_option (then_some b x.1) (fixups_on n xs)))
    [ true ↦ ap (λ ys. placeless_fixup x.1 ∷ ys) (fixups_on_same n xs) | false ↦ fixups_on_same n xs ]

data_records_same : (rs : List Placed) → data_records (map unplaced rs) ≡ map placeless_data (data_records rs)
data_records_same rs =
    rw (fixups_same rs, data_of_same rs, map_enumerate placeless_data 1 (data_of rs))
    (simp (map-map, fixups_on_same))

-- ---- the start

start_of_same : (place : ℕ) (r : Reference) (frame : Option FrameMethod) (target : Option TargetMethod) →
    option_to_list (start_of 0 r frame target) ≡ map placeless_start (option_to_list (start_of place r frame target))
start_of_same place r (Some frame) (Some target) = refl
start_of_same place r (Some frame) None = refl
start_of_same place r None target = refl

start_in_same : (before : List Subrecord) (place : ℕ) (r : Record)
    → option_to_list (start_in before 0 r) ≡ map placeless_start (option_to_list (start_in before place r))
start_in_same before place (Modend main (Some r)) =
    let f = used (frame_thread before) r.frame in
    let t = used (target_thread before) r.target in
    ap option_to_list (sym (start_of-is 0 r f t))
    ∙ (start_of_same place r f t ∙ ap (λ o. map placeless_start (option_to_list o)) (start_of-is place r f t))
start_in_same before place _ = refl

abbrev starts_in : List Placed → Placed → List Start
starts_in before r = option_to_list (start_in (subrecords before) r.place r.says)

start_same : (rs : List Placed) → start (map unplaced rs) ≡ option_map placeless_start (start rs)
start_same rs =
    ap last (along_same unplaced starts_in (λ b r. map placeless_start (starts_in b r))
    (λ b r.
    ap (λ xs. option_to_list (start_in xs 0 r.says)) (subrecords_same b) ∙ start_in_same (subrecords b) r.place r.says)
    [] rs ∙ map_along placeless_start starts_in [] rs)
    ∙ map_last placeless_start (along [] starts_in rs)

-- ---- the module

pub module_of_unplaced : (rs : List Placed) → module_of (map unplaced rs) ≡ placeless (module_of rs)
module_of_unplaced rs =
    rw (segments_same rs, groups_same rs, externals_same rs, publics_same rs, data_records_same rs, start_same rs)

-- ---- modules that differ by places alone

abbrev pub Alike : (modules others : List Module) → Type 0
Alike modules others = map placeless modules ≡ map placeless others

-- what doesn't read places is the same for them
pub kept : {X : Type 0} (of : List Module → X) → ((modules : List Module) → of (map placeless modules) ≡ of modules)
    → (modules others : List Module) → Alike modules others → of modules ≡ of others
kept of keeps modules others same = sym (keeps modules) ∙ (ap of same ∙ keeps others)
