-- The program that modules stand for at a load paragraph (TIS OMF 1.1, LEDATA, LIDATA and FIXUPP).
use Rattle.std.specs.Prelude.{ℕ, Bool, ◌+◌, ◌==◌, if◌then◌else◌, max, fold, List, [], map, filter, flat_map, length}
use Rattle.std.specs.Prelude.{get_or, Result}
use Rattle.std.specs.List.{enumerate_from, filter_map, range_with_len, list_any}
use Rattle.std.specs.Option.{option_map_or}
use Rattle.std.specs.Result.{result_ok}
use Rattle.omf_record.specs.declared.fixups.Location.{Location}
use Rattle.omf_module.specs.declared.ResolvedFixup.{ResolvedFixup}
use Rattle.omf_module.specs.Module.{DataRecord, Module}
use Rattle.omf_place.specs.Layout.{Layout, segment_position}
use Rattle.omf_image.specs.declared.faults.FixKind.{FixKind}
use Rattle.omf_image.specs.declared.patch.Patch.{Patch}
use Rattle.omf_image.specs.declared.reference.Resolved.{Resolved}
use Rattle.omf_image.specs.Patch.{patched, relocated_place}
use Rattle.omf_image.specs.Reference.{resolved}
use Rattle.omf_image.specs.Value.{real_address, patches_at}
use Rattle.omf_image.specs.Located.{LocatedBytes, located}

-- the expanded bytes of a data record
abbrev pub bytes_of : DataRecord → List ℕ
bytes_of data_record = map (λ p. p.1) data_record.pairs

-- the place at which each of them was stored
abbrev pub stored_of : DataRecord → List ℕ
stored_of data_record = map (λ p. p.0) data_record.pairs

-- the positions whose byte was stored at the place offset
abbrev pub hits : (offset : ℕ) → (stored : List ℕ) → List ℕ
hits offset stored = filter (λ i. get_or stored i 0 == offset) (range_with_len 0 (length stored))

-- something of a module, with the module and its input
pub record OfModule (T : Type 0) : Type 0 where
  pub input : ℕ
  pub module' : Module
  pub item : T

-- what each module gives, in the order of modules
abbrev pub of_modules : {T : Type 0} → (given : Module → List T) → List Module → List (OfModule T)
of_modules given modules =
    flat_map (λ (m : ℕ × Module). map (λ i. record { input = m.0; module' = m.1; item = i }) (given m.1))
    (enumerate_from 0 modules)

-- all data records, in order of modules and records
abbrev pub entries : List Module → List (OfModule DataRecord)
entries modules = of_modules (λ m. m.data_records) modules

-- the address of its first byte
abbrev pub entry_start : Layout → OfModule DataRecord → ℕ
entry_start layout e = real_address 0 (segment_position layout e.input e.item.segment) + e.item.offset

-- what the frame and the target of a fix-up stand for
abbrev pub meaning : Layout → OfModule DataRecord → ResolvedFixup → Result Resolved FixKind
meaning layout entry fixup =
    resolved layout entry.input entry.module' entry.item.segment fixup.frame fixup.target fixup.displacement

-- what a fix-up whose frame and target are known adds where its location stands at these positions of data that begins
-- at the address start
abbrev pub patches_on : (P : ℕ) → Resolved → (self_relative : Bool) → Location → (start : ℕ) → (positions : List ℕ)
    → List Patch
patches_on P reference self_relative location start positions =
    flat_map (λ i. patches_at P reference self_relative location i (start + i)) positions

-- what a fix-up adds, at each of its hits
abbrev pub fixup_patches : (P : ℕ) → Layout → OfModule DataRecord → ResolvedFixup → List Patch
fixup_patches P layout entry fixup =
    let positions = hits fixup.offset (stored_of entry.item) in
    option_map_or (λ r. patches_on P r fixup.self_relative fixup.location (entry_start layout entry) positions)
    (result_ok (meaning layout entry fixup)) []

-- what all fix-ups of a data record add, in order
abbrev pub patches : (P : ℕ) → Layout → OfModule DataRecord → List Patch
patches P layout entry = flat_map (fixup_patches P layout entry) entry.item.fixups

-- the data after each of its fix-ups in order
abbrev pub datum : (P : ℕ) → Layout → OfModule DataRecord → LocatedBytes
datum P layout e =
    let bytes = fold (λ sum patch. patched patch sum) (bytes_of e.item) (patches P layout e) in
    record { start = entry_start layout e; bytes = bytes }

-- the byte of the program at an address, loaded at paragraph P. It stands at 16 P + address
abbrev pub program_byte : (P : ℕ) → Layout → List Module → (address : ℕ) → ℕ
program_byte P layout modules = located (map (datum P layout) (entries modules))

-- the addresses of the relocated words of a data record
abbrev pub record_relocations : Layout → OfModule DataRecord → List ℕ
record_relocations layout entry =
    map (λ i. entry_start layout entry + i) (filter_map relocated_place (patches 0 layout entry))

-- the addresses at which a relocated word begins, rising
abbrev pub relocations : Layout → List Module → List ℕ
relocations layout modules =
    let words = flat_map (record_relocations layout) (entries modules) in
    filter (λ a. list_any (λ w. a == w) words) (range_with_len 0 layout.size)

-- one more than the greatest address that a data record covers, or 0 where it has no byte
abbrev pub entry_end : Layout → OfModule DataRecord → ℕ
entry_end layout entry =
    if length (bytes_of entry.item) == 0 then 0
    else entry_start layout entry + length (bytes_of entry.item)

-- The written part of the program: one more than the greatest address that a data record covers, or 0. Bytes 00 of data
-- are data.
abbrev pub written : Layout → List Module → ℕ
written layout modules = fold max 0 (map (entry_end layout) (entries modules))
