-- What the look-up of a start answers.
use Rattle.std.specs.Prelude.{◌≡◌, ℕ, ◌+◌, ◌%◌, ◌<◌, List, [], ◌∷◌, drop, length, get_or, Option, Some, None}
use Rattle.std.specs.Prelude.{false}
use Rattle.std.specs.Prelude.{Result, Ok, Err, Bool, cond, nat_lt, slice_get}
use Rattle.std.specs.Option.{option_map_or, option_and_then}
use Rattle.std.specs.Result.{result_ok}
use Rattle.omf_module.specs.declared.Kind.TheVariants.{Stack}
use Rattle.omf_module.specs.declared.Standing.{Standing}
use Rattle.omf_module.specs.declared.Start.{Start}
use Rattle.omf_module.specs.Module.{Module}
use Rattle.omf_place.specs.declared.layout.Combined.{Combined}
use Rattle.omf_place.specs.Layout.{Layout}
use Rattle.omf_place.specs.Parts.{is_kind}
use Rattle.omf_image.specs.declared.faults.FixFault.{FixFault}
use Rattle.omf_image.specs.declared.faults.FixFault.TheVariants.{TooManyRelocations}
use Rattle.omf_image.specs.declared.faults.FixKind.{FixKind}
use Rattle.omf_image.specs.declared.reference.Resolved.{Resolved}
use Rattle.omf_image.specs.Reference.{frame'}
use Rattle.omf_image.specs.Value.{modulo, real_frame}
use Rattle.omf_image.specs.Records.{relocations}
use Rattle.omf_image.specs.Registers.{start_kind}
use Rattle.omf_image.specs.inside.Entries.{starts_from}
use Rattle.omf_image.specs.inside.Distances.{from_frame}

-- CS and IP at a start that was found, else the program's first byte
abbrev pub entry_of : (P : ℕ) → Result Resolved FixKind → ℕ × ℕ
entry_of P found =
    option_map_or (λ r. (real_frame P (frame' r) % 65536, modulo 65536 (from_frame P r))) (result_ok found)
    (P % 65536, 0)

-- CS and IP, or the start's fault
abbrev pub GivesEntry : Result Resolved FixKind → Result (ℕ × ℕ) FixKind → Type 0
GivesEntry found (Ok entry) = (start_kind found ≡ None) × (entry ≡ entry_of 0 found)
GivesEntry found (Err kind) = start_kind found ≡ Some kind

-- more relocated words than the format holds
abbrev pub count_fault : Layout → List Module → Option FixFault
count_fault layout modules = cond (nat_lt 65535 (length (relocations layout modules))) (Some TooManyRelocations) None

-- a part of a stack
abbrev pub is_stack : Standing → Bool
is_stack standing = is_kind Stack standing

-- a combined segment is a stack if its first part is
abbrev pub is_stack_segment : List Module → Combined → Bool
is_stack_segment modules combined =
    option_map_or (λ s. is_stack s.standing)
    (option_and_then (λ m. slice_get m.segments combined.segment) (slice_get modules combined.input)) false

-- the first start of the modules from an input on
abbrev pub FindsStart : List Module → (from : ℕ) → Option (ℕ × Start) → Type 0
FindsStart modules from None = starts_from from (drop from modules) ≡ []
FindsStart modules from (Some f) = (f.0 < length modules) × ((m : Module) → m ≡ get_or modules f.0 m
    → starts_from from (drop from modules) ≡ record { input = f.0; module' = m; item = f.1 }
    ∷ starts_from (f.0 + 1) (drop (f.0 + 1) modules))
