-- A program doesn't tell where the records of its modules stand. A fault names a place, but whether there is one
-- doesn't hang on it.
use Rattle.std.proofs.Common.{◌≡◌, ℕ, ◌+◌, Bool, true, false, cond, List, [], ◌∷◌, ◌++◌, map, Option, None, Some}
use Rattle.std.proofs.Common.{Result, Ok, Err, is_some, slice_get, refl, sym, ap, ap₂, ◌∙◌, option_map}
use Rattle.std.proofs.Math.Path.{fun_ext}
use Rattle.std.proofs.lemmas.List.{map-append}
use Rattle.std.proofs.lemmas.List.Folds.{flat_map-map}
use Rattle.std.proofs.lemmas.Option.{slice_get-map}
use Rattle.std.proofs.lemmas.Simd.{map-map}
use Rattle.std.specs.Option.{option_map_or, option_and_then}
use Rattle.omf_module.specs.declared.ResolvedFixup.{ResolvedFixup}
use Rattle.omf_module.specs.declared.Start.{Start}
use Rattle.omf_module.specs.Module.{Module}
use Rattle.omf_place.specs.Layout.{Layout}
use Rattle.omf_place.specs.declared.layout.Combined.{Combined}
use Rattle.omf_image.specs.declared.patch.Patch.{Patch}
use Rattle.omf_image.specs.declared.reference.Resolved.{Resolved}
use Rattle.omf_image.specs.declared.faults.FixFault.{FixFault}
use Rattle.omf_image.specs.declared.faults.FixFault.TheVariants.{At, TooManyRelocations, Memory}
use Rattle.omf_image.specs.declared.faults.FixKind.{FixKind}
use Rattle.omf_image.specs.declared.faults.FixKind.TheVariants.{CoversRelocated}
use Rattle.omf_image.specs.Faults.{fixup_fault, fixups_fault, record_fault, records_fault}
use Rattle.omf_image.specs.inside.Whole.{covers_word, data_fault}
use Rattle.omf_image.specs.inside.Stops.{or_else}
use Rattle.std.specs.Option.{option_or}
use Rattle.omf_image.specs.Records.{hits, stored_of, entry_start, meaning, entries, fixup_patches, datum}
use Rattle.omf_image.specs.Records.{record_relocations, relocations, program_byte, written}
use Rattle.omf_image.specs.inside.Whole.{page_covered}
use Rattle.omf_image.specs.inside.Lookups.{patches_of}
use Rattle.omf_image.specs.inside.Entries.{StartEntry, DataEntry, entries_from, module_entries}
use Rattle.omf_image.specs.Registers.{starts, starts_fault, program_fault, entry_point, registers}
use Rattle.omf_image.specs.inside.Starts.{is_stack}
use Rattle.omf_image.specs.inside.Entries.{module_start, starts_from}
use Rattle.omf_image.specs.inside.Starts.{count_fault, is_stack_segment}
use Rattle.omf_commands.proofs.Placeless.{placeless, placeless_fixup, placeless_data, placeless_start, is_some_map}

-- ---- data

abbrev placeless_entry : DataEntry → DataEntry
placeless_entry e =
    record { input = e.input; module' = placeless e.module'; item = placeless_data e.item }

entries_same : (input : ℕ) (modules : List Module)
    → entries_from input (map placeless modules) ≡ map placeless_entry (entries_from input modules)
entries_same input [] = refl
entries_same input (m ∷ ms) =
    ap₂ (λ xs ys. xs ++ ys) own (entries_same (input + 1) ms)
    ∙ sym (map-append placeless_entry (module_entries input m) (entries_from (input + 1) ms))
  where
    own : module_entries input (placeless m) ≡ map placeless_entry (module_entries input m)
    own = simp map-map

patches_same : (P : ℕ) (layout : Layout) (e : DataEntry) (x : ResolvedFixup)
    → fixup_patches P layout (placeless_entry e) (placeless_fixup x) ≡ fixup_patches P layout e x
patches_same P layout e x =
    patches_for (meaning layout e x) (entry_start layout e) (hits x.offset (stored_of e.item))
  where
    patches_for : (f : Result Resolved FixKind) (start : ℕ) (is : List ℕ)
        → patches_of P f (placeless_fixup x) start is ≡ patches_of P f x start is
    patches_for (Err k) start is = refl
    patches_for (Ok r) start is = refl

datum_same : (P : ℕ) (layout : Layout) (e : DataEntry) → datum P layout (placeless_entry e) ≡ datum P layout e
datum_same P layout e = simp (flat_map-map, patches_same)

relocated_same : (layout : Layout) (e : DataEntry)
    → record_relocations layout (placeless_entry e) ≡ record_relocations layout e
relocated_same layout e = simp (flat_map-map, patches_same)

pub byte_same : (P : ℕ) (layout : Layout) (a : ℕ) (modules : List Module)
    → program_byte P layout (map placeless modules) a ≡ program_byte P layout modules a
byte_same P layout a modules = simp (entries_same, map-map, datum_same)

pub pages_same : (layout : Layout) (page : ℕ) (modules : List Module)
    → page_covered layout (map placeless modules) page ≡ page_covered layout modules page
pages_same layout page modules = simp (entries_same, map-map, datum_same)

pub written_same : (layout : Layout) (modules : List Module)
    → written layout (map placeless modules) ≡ written layout modules
written_same layout modules = simp (entries_same, map-map)

pub relocations_same : (layout : Layout) (modules : List Module)
    → relocations layout (map placeless modules) ≡ relocations layout modules
relocations_same layout modules = simp (entries_same, flat_map-map, patches_same)

-- ---- faults

abbrev placeless_fault : FixFault → FixFault
placeless_fault (At kind input place) = At kind input 0
placeless_fault TooManyRelocations = TooManyRelocations
placeless_fault Memory = Memory

fault_or : (kind : Option FixKind) (input place : ℕ) (rest : Option FixFault)
    → or_else kind (input, 0) (option_map placeless_fault rest)
    ≡ option_map placeless_fault (or_else kind (input, place) rest)
fault_or None input place rest = refl
fault_or (Some k) input place rest = refl

fault_at : (kind : Option FixKind) (input place : ℕ)
    → option_map (λ k. At k input 0) kind ≡ option_map placeless_fault (option_map (λ k. At k input place) kind)
fault_at None input place = refl
fault_at (Some k) input place = refl

first_fault : (first rest : Option FixFault)
    → option_or (option_map placeless_fault first) (option_map placeless_fault rest)
    ≡ option_map placeless_fault (option_or first rest)
first_fault None rest = refl
first_fault (Some f) rest = refl

fixup_same : (layout : Layout) (e : DataEntry) (earlier : List Patch) (x : ResolvedFixup)
    → fixup_fault layout (placeless_entry e) earlier (placeless_fixup x) ≡ fixup_fault layout e earlier x
fixup_same layout e earlier x = refl

fixups_same : (layout : Layout) (e : DataEntry) (earlier : List Patch) (xs : List ResolvedFixup) →
    fixups_fault layout (placeless_entry e) earlier (map placeless_fixup xs)
    ≡ option_map placeless_fault (fixups_fault layout e earlier xs)
fixups_same layout e earlier [] = refl
fixups_same layout e earlier (x ∷ xs) =
    let later = earlier ++ fixup_patches 0 layout e x in
    rw (fixup_same layout e earlier x, patches_same 0 layout e x, fixups_same layout e later xs)
    (fault_or (fixup_fault layout e earlier x) e.input x.place (fixups_fault layout e later xs))

fault_if : (b : Bool) (kind : FixKind) (input place : ℕ) (rest : Option FixFault)
    → cond b (Some (At kind input 0)) (option_map placeless_fault rest)
    ≡ option_map placeless_fault (cond b (Some (At kind input place)) rest)
fault_if true kind input place rest = refl
fault_if false kind input place rest = refl

record_same : (layout : Layout) (words : List ℕ) (e : DataEntry)
    → record_fault layout words (placeless_entry e) ≡ option_map placeless_fault (record_fault layout words e)
record_same layout words e =
    ap₂ (λ d rest. cond (covers_word d words) (Some (At CoversRelocated e.input 0)) rest) (datum_same 0 layout e)
    (fixups_same layout e [] e.item.fixups)
    ∙ fault_if (covers_word (datum 0 layout e) words) CoversRelocated e.input e.item.place
    (fixups_fault layout e [] e.item.fixups)

records_same : (layout : Layout) (words : List ℕ) (es : List DataEntry)
    → records_fault layout words (map placeless_entry es) ≡ option_map placeless_fault (records_fault layout words es)
records_same layout words [] = refl
records_same layout words (e ∷ es) =
    rw (
      record_same layout words e,
      relocated_same layout e,
      records_same layout (words ++ record_relocations layout e)
          es,
    )
    (first_fault (record_fault layout words e) (records_fault layout (words ++ record_relocations layout e) es))

-- ---- the start

abbrev placeless_start_entry : StartEntry → StartEntry
placeless_start_entry e = record { input = e.input; module' = placeless e.module'; item = placeless_start e.item }

starts_same : (input : ℕ) (modules : List Module)
    → starts_from input (map placeless modules) ≡ map placeless_start_entry (starts_from input modules)
starts_same input [] = refl
starts_same input (m ∷ ms) =
    ap₂ (λ xs ys. xs ++ ys) (own m.start) (starts_same (input + 1) ms)
    ∙ sym (map-append placeless_start_entry (module_start m.start input m) (starts_from (input + 1) ms))
  where
    own : (s : Option Start)
        → module_start (option_map placeless_start s) input (placeless m)
        ≡ map placeless_start_entry (module_start s input m)
    own None = refl
    own (Some s) = refl

starts_fault_same : (layout : Layout) (es : List StartEntry)
    → starts_fault layout (map placeless_start_entry es) ≡ option_map placeless_fault (starts_fault layout es)
starts_fault_same layout [] = refl
starts_fault_same layout (e ∷ []) = fault_at _ e.input e.item.place
starts_fault_same layout (e ∷ (f ∷ es)) = refl

count_same : (layout : Layout) (modules : List Module)
    → count_fault layout (map placeless modules) ≡ option_map placeless_fault (count_fault layout modules)
count_same layout modules = rw (relocations_same layout modules) (none_or _)
  where
    none_or : (b : Bool)
        → cond b (Some TooManyRelocations) None ≡ option_map placeless_fault (cond b (Some TooManyRelocations) None)
    none_or true = refl
    none_or false = refl

fault_same : (layout : Layout) (modules : List Module)
    → program_fault layout (map placeless modules) ≡ option_map placeless_fault (program_fault layout modules)
unfolding program_fault
fault_same layout modules =
    rw (
      count_same layout modules,
      entries_same 0 modules,
      records_same layout [] (entries modules),
      starts_same 0
          modules,
      starts_fault_same layout (starts modules),
    )
    (rw (first_fault (starts_fault layout (starts modules)) (count_fault layout modules))
    (first_fault (data_fault layout modules) _))

pub faulty_same : (layout : Layout) (modules : List Module)
    → is_some (program_fault layout (map placeless modules)) ≡ is_some (program_fault layout modules)
faulty_same layout modules =
    ap is_some (fault_same layout modules) ∙ is_some_map placeless_fault (program_fault layout modules)

-- ---- the registers

entry_same : (P : ℕ) (layout : Layout) (es : List StartEntry)
    → entry_point P layout (map placeless_start_entry es) ≡ entry_point P layout es
entry_same P layout [] = refl
entry_same P layout (e ∷ es) = refl

is_stack_same : (modules : List Module) (c : Combined)
    → is_stack_segment (map placeless modules) c ≡ is_stack_segment modules c
is_stack_same modules c = rw (slice_get-map placeless modules c.input) (of_input (slice_get modules c.input))
  where
    of_input : (o : Option Module)
        → option_map_or (λ s. is_stack s.standing)
        (option_and_then (λ m. slice_get m.segments c.segment) (option_map placeless o)) false
        ≡ option_map_or (λ s. is_stack s.standing) (option_and_then (λ m. slice_get m.segments c.segment) o) false
    of_input None = refl
    of_input (Some m) = refl

pub registers_same : (P : ℕ) (layout : Layout) (modules : List Module)
    → registers P layout (map placeless modules) ≡ registers P layout modules
unfolding registers
registers_same P layout modules =
    rw (fun_ext (is_stack_same modules), starts_same 0 modules, entry_same P layout (starts modules))
