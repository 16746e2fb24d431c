-- The registers at the start (TIS OMF 1.1, MODEND, and SEGDEF of a stack), and the faults of the start.
use Rattle.std.specs.Prelude.{ℕ, ◌+◌, ◌-◌, ◌*◌, ◌/◌, ◌%◌, false, not, nat_lt, cond, List, [], ◌∷◌}
use Rattle.std.specs.Prelude.{find, length, slice_get, Option, Some, None, Result, Ok, Err}
use Rattle.std.specs.Bool.{then_some}
use Rattle.std.specs.Option.{option_map, option_map_or, option_and_then, option_or, option_to_list}
use Rattle.std.specs.Result.{result_ok}
use Rattle.omf_module.specs.declared.Kind.TheVariants.{Stack}
use Rattle.omf_module.specs.declared.Start.{Start}
use Rattle.omf_module.specs.Before.{first}
use Rattle.omf_module.specs.Module.{Module}
use Rattle.omf_place.specs.declared.layout.Combined.{Combined}
use Rattle.omf_place.specs.Layout.{Layout}
use Rattle.omf_place.specs.Parts.{is_kind}
use Rattle.omf_image.specs.declared.faults.FixKind.{FixKind}
use Rattle.omf_image.specs.declared.faults.FixKind.TheVariants.{Mixed, OutOfFrame, TwoStarts}
use Rattle.omf_image.specs.declared.faults.FixFault.{FixFault}
use Rattle.omf_image.specs.declared.faults.FixFault.TheVariants.{At, TooManyRelocations}
use Rattle.omf_image.specs.declared.reference.Resolved.{Resolved}
use Rattle.omf_image.specs.declared.start.Registers.{Registers}
use Rattle.omf_image.specs.Reference.{frame', resolved}
use Rattle.omf_image.specs.Value.{modulo, real_frame, distance}
use Rattle.omf_image.specs.Records.{OfModule, of_modules, entries, relocations}
use Rattle.omf_image.specs.Faults.{both_move, target_in_frame, resolved_fault, records_fault}

-- all starts, in order of modules
abbrev pub starts : List Module → List (OfModule Start)
starts modules = of_modules (λ m. option_to_list m.start) modules

-- a start's frame is never that of a location, so no segment is looked up for it
abbrev pub start_meaning : Layout → OfModule Start → Result Resolved FixKind
start_meaning layout entry =
    resolved layout entry.input entry.module' 0 entry.item.frame entry.item.target entry.item.displacement

-- the fault of a start: frame and target have to move with the program, and the target to lie in the frame
abbrev pub start_kind : Result Resolved FixKind → Option FixKind
start_kind found = resolved_fault found (λ reference.
    first (then_some (not (both_move reference)) Mixed ∷ then_some (not (target_in_frame reference)) OutOfFrame ∷ []))

-- a second start, else the fault of the only one
abbrev pub starts_fault : Layout → List (OfModule Start) → Option FixFault
starts_fault layout [] = None
starts_fault layout (entry ∷ []) =
    option_map (λ kind. At kind entry.input entry.item.place) (start_kind (start_meaning layout entry))
starts_fault layout (entry ∷ (second ∷ later)) = Some (At TwoStarts second.input second.item.place)

-- the first fault, in order: data and fix-ups, the start, more relocated words than the format holds
unfoldable pub program_fault : Layout → List Module → Option FixFault
program_fault layout modules =
    option_or (records_fault layout [] (entries modules)) (option_or (starts_fault layout (starts modules))
    (cond (nat_lt 65535 (length (relocations layout modules))) (Some TooManyRelocations) None))

-- CS and IP: the frame and the distance from it that the first start means, and without one the program's first byte
abbrev pub entry_point : (P : ℕ) → Layout → List (OfModule Start) → ℕ × ℕ
entry_point P layout starts' =
    option_map_or (λ r. (real_frame P (frame' r) % 65536, modulo 65536 (distance P r (16 * real_frame P (frame' r)))))
    (option_and_then (λ s. result_ok (start_meaning layout s)) (slice_get starts' 0)) (P % 65536, 0)

-- the first stack segment in the order of placement; a combined segment has the kind of its first part
abbrev pub stack : Layout → List Module → Option Combined
stack layout modules =
    find (λ c. option_map_or (λ s. is_kind Stack s.standing)
    (option_and_then (λ m. slice_get m.segments c.segment) (slice_get modules c.input)) false) layout.combined

-- SS and SP: its frame, and its end counted from there
abbrev pub stack_of : (P : ℕ) → Option Combined → ℕ × ℕ
stack_of P None = (P % 65536, 0)
stack_of P (Some combined) = ((combined.start / 16 + P) % 65536, (combined.end - 16 * (combined.start / 16)) % 65536)

-- the registers, loaded at paragraph P
unfoldable pub registers : (P : ℕ) → Layout → List Module → Registers
registers P layout modules =
    let entry = entry_point P layout (starts modules) in
    let stack' = stack_of P (stack layout modules) in
    record { cs = entry.0; ip = entry.1; ss = stack'.0; sp = stack'.1 }

-- with P added to the frames
abbrev pub moved : (P : ℕ) → Registers → Registers
moved P r = record { cs = (r.cs + P) % 65536; ip = r.ip; ss = (r.ss + P) % 65536; sp = r.sp }
