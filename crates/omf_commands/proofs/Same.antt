-- Modules have one fault, and faults that are one tell the same.
use Rattle.std.proofs.Common.{◌≡◌, ℕ, List, None, Some, Err, refl, sym, ap, subst, ◌∙◌}
use Rattle.std.specs.declared.option.Option.{Option}
use Rattle.std.specs.Prelude.{MatchOption, codes}
use Rattle.std.proofs.lemmas.Option.{same_Some}
use Rattle.omf_module.specs.Module.{Module}
use Rattle.omf_place.specs.Faults.{PlacementFault, SegmentTooLong, ProgramTooLarge, GroupTooLong, DuplicatePublic}
use Rattle.omf_place.specs.inside.Placing.{IsFirstFault}
use Rattle.omf_place.proofs.Ended.{one_answer, one_layout}
use Rattle.omf_place.specs.declared.names.Names.{Names}
use Rattle.omf_image.specs.declared.faults.FixFault.{FixFault}
use Rattle.omf_image.specs.declared.faults.FixFault.TheVariants as build
use Rattle.omf_image.specs.declared.faults.FixKind.{FixKind}
use Rattle.omf_image.specs.Registers.{program_fault}
use Rattle.omf_faults.specs.FaultLines.{program_text}
use Rattle.omf_faults.specs.declared.fault.InputFault.TheVariants as input
use Rattle.omf_faults.specs.declared.fault.ProgramFault.{ProgramFault}
use Rattle.omf_faults.specs.declared.fault.ProgramFault.TheVariants as program
use Rattle.omf_faults.specs.declared.fault.LinkFault.{LinkFault}
use Rattle.omf_faults.specs.declared.fault.LinkFault.TheVariants as link
use Rattle.omf_commands.specs.Linking.{program_said, IsBuildFault, IsModulesFault}
use Rattle.omf_commands.specs.Outcome.{SameFault, telling}
use Rattle.omf_commands.specs.inside.Faults.{fix_fault}
use Rattle.omf_commands.proofs.Exclusive.{placed_sound}

-- ---- faults that are one

pub same_refl : {A : Type 0} (fault : LinkFault A) → SameFault fault fault
same_refl (link.Program f) = refl
same_refl (link.Record n place f) = refl
same_refl (link.Device n place) = refl
same_refl (link.File f) = refl
same_refl link.Output = refl
same_refl link.Memory = refl

-- what a fault of the modules together tells, by what it says
told_of : Option PlacementFault → Option ℕ × Option ℕ × (List ℕ → List ℕ)
told_of (Some (SegmentTooLong name)) = (Some 22, None, λ file. program_text (22, codes "SegmentTooLong") (Some name))
told_of (Some ProgramTooLarge) = (Some 23, None, λ file. program_text (23, codes "ProgramTooLarge") None)
told_of (Some (GroupTooLong name)) = (Some 24, None, λ file. program_text (24, codes "GroupTooLong") (Some name))
told_of (Some (DuplicatePublic name)) = (Some 25, None, λ file. program_text (25, codes "DuplicatePublic") (Some name))
told_of None = (Some 34, None, λ file. program_text (34, codes "TooManyRelocations") None)

program_told : {A : Type 0} (f : ProgramFault A) → telling (link.Program f) ≡ told_of (program_said f)
unfolding told_of
program_told (program.SegmentTooLong name) = refl
program_told program.ProgramTooLarge = refl
program_told (program.GroupTooLong name) = refl
program_told (program.DuplicatePublic name) = refl
program_told program.TooManyRelocations = refl

pub same_told : {A : Type 0} (fault other : LinkFault A) → SameFault fault other → telling fault ≡ telling other
same_told (link.Program f) (link.Program g) same = program_told f ∙ ap told_of same ∙ sym (program_told g)
same_told (link.Program f) (link.Record n place g) same = ap telling same
same_told (link.Program f) (link.Device n place) same = ap telling same
same_told (link.Program f) (link.File g) same = ap telling same
same_told (link.Program f) link.Output same = ap telling same
same_told (link.Program f) link.Memory same = ap telling same
same_told (link.Record n place f) other same = ap telling same
same_told (link.Device n place) other same = ap telling same
same_told (link.File f) other same = ap telling same
same_told link.Output other same = ap telling same
same_told link.Memory other same = ap telling same

-- ---- two faults of the same modules are one

one_placing : (names : Names) (modules : List Module) (f g : PlacementFault) → IsFirstFault names modules f
    → IsFirstFault names modules g → f ≡ g
one_placing names modules f g is also =
    let same : Err f ≡ Err g = one_answer names modules (Err f) (Err g) is also in cc

one_building : (names : Names) (modules : List Module) (f g : FixFault) → IsBuildFault names modules f
    → IsBuildFault names modules g → f ≡ g
one_building names modules f g (layout, only, stands) (other, also, there) =
    same_Some f g
    (sym stands ∙ subst (λ l. program_fault l modules ≡ Some g) (one_layout names modules other layout also only) there)

-- this is said of modules by a fault of them together
abbrev Says : Names → List Module → Option PlacementFault → Type 0
Says names modules said =
    MatchOption said (IsBuildFault names modules build.TooManyRelocations) (IsFirstFault names modules)

one_said : (names : Names) (modules : List Module) (f g : Option PlacementFault) → Says names modules f
    → Says names modules g → f ≡ g
one_said names modules None None h k = refl
one_said names modules (Some f) (Some g) h k = ap Some (one_placing names modules f g h k)
one_said names modules None (Some g) h k = absurd (placed_sound names modules h.0 g h.1 k)
one_said names modules (Some f) None h k = absurd (placed_sound names modules k.0 f k.1 h)

-- a fault of them together is none of a record
none_of_record : (names : Names) (modules : List Module) (f : Option PlacementFault) (k : FixKind) (input place : ℕ)
    → Says names modules f → IsBuildFault names modules (build.At k input place) → ⊥
none_of_record names modules (Some f) k input place h also = placed_sound names modules also.0 f also.1 h
none_of_record names modules None k input place h also =
    let same : build.TooManyRelocations ≡ build.At k input place =
    one_building names modules build.TooManyRelocations (build.At k input place) h also in cc

pub one_modules_fault : {A : Type 0} (names : Names) (modules : List Module) (fault other : LinkFault A)
    → IsModulesFault names modules fault → IsModulesFault names modules other → SameFault fault other
one_modules_fault names modules (link.Program f) (link.Program g) h k =
    one_said names modules (program_said f) (program_said g) h k
one_modules_fault names modules (link.Program f) (link.Record m at (input.Fix kind)) h k =
    absurd (none_of_record names modules (program_said f) kind m at h k)
one_modules_fault names modules (link.Program f) (link.Record m at (input.Absent why)) h k = absurd k
one_modules_fault names modules (link.Program f) (link.Record m at (input.Check g)) h k = absurd k
one_modules_fault names modules (link.Program f) (link.Device m at) h k = absurd k
one_modules_fault names modules (link.Program f) (link.File g) h k = absurd k
one_modules_fault names modules (link.Program f) link.Output h k = absurd k
one_modules_fault names modules (link.Program f) link.Memory h k = absurd k
one_modules_fault names modules (link.Record n place (input.Fix kind)) (link.Program g) h k =
    absurd (none_of_record names modules (program_said g) kind n place k h)
one_modules_fault {A} names modules (link.Record n place (input.Fix kind)) (link.Record m at (input.Fix other)) h k =
    ap (fix_fault {A = A}) (one_building names modules (build.At kind n place) (build.At other m at) h k)
one_modules_fault names modules (link.Record n place (input.Fix kind)) (link.Record m at (input.Absent why)) h k =
    absurd k
one_modules_fault names modules (link.Record n place (input.Fix kind)) (link.Record m at (input.Check g)) h k =
    absurd k
one_modules_fault names modules (link.Record n place (input.Fix kind)) (link.Device m at) h k = absurd k
one_modules_fault names modules (link.Record n place (input.Fix kind)) (link.File g) h k = absurd k
one_modules_fault names modules (link.Record n place (input.Fix kind)) link.Output h k = absurd k
one_modules_fault names modules (link.Record n place (input.Fix kind)) link.Memory h k = absurd k
one_modules_fault names modules (link.Record n place (input.Absent why)) other h k = absurd h
one_modules_fault names modules (link.Record n place (input.Check f)) other h k = absurd h
one_modules_fault names modules (link.Device n place) other h k = absurd h
one_modules_fault names modules (link.File f) other h k = absurd h
one_modules_fault names modules link.Output other h k = absurd h
one_modules_fault names modules link.Memory other h k = absurd h
