-- Modules have a file or a fault, and not both.
use Rattle.std.proofs.Common.{◌≡◌, ℕ, List, None, Some, Ok, Err, sym, ap, subst, ◌∙◌, true≢false}
use Rattle.std.specs.declared.option.Option.{Option}
use Rattle.std.specs.Prelude.{is_some}
use Rattle.omf_module.specs.Module.{Module}
use Rattle.omf_place.specs.Faults.{PlacementFault}
use Rattle.omf_place.specs.inside.Placing.{IsOnlyLayout, IsFirstFault}
use Rattle.omf_place.specs.Layout.{Layout}
use Rattle.omf_place.specs.declared.names.Names.{Names}
use Rattle.omf_image.specs.Registers.{program_fault}
use Rattle.omf_image.specs.declared.faults.FixFault.{FixFault}
use Rattle.omf_faults.specs.declared.fault.InputFault.TheVariants as input
use Rattle.omf_faults.specs.declared.fault.ProgramFault.TheVariants as program
use Rattle.omf_faults.specs.declared.fault.LinkFault.{LinkFault}
use Rattle.omf_faults.specs.declared.fault.LinkFault.TheVariants as link
use Rattle.omf_place.proofs.Ended.{one_answer, one_layout}
use Rattle.omf_commands.specs.Linking.{IsBuildFault, IsFileOf, IsModulesFault}

none_is : {X : Type 0} (o : Option X) (x : X) → o ≡ None → o ≡ Some x → ⊥
none_is o x none some = true≢false (sym (ap is_some some) ∙ ap is_some none)

pub placed_sound : (names : Names) (modules : List Module) (layout : Layout) (f : PlacementFault)
    → IsOnlyLayout names modules layout → IsFirstFault names modules f → ⊥
placed_sound names modules layout f only first =
    let clash : Ok layout ≡ Err f = one_answer names modules (Ok layout) (Err f) only first in cc

built_sound : (names : Names) (modules : List Module) (layout : Layout) (f : FixFault)
    → IsOnlyLayout names modules layout → program_fault layout modules ≡ None → IsBuildFault names modules f → ⊥
built_sound names modules layout f only sound (other, also, stands) =
    none_is _ f sound
    (subst (λ l. program_fault l modules ≡ Some f) (one_layout names modules other layout also only) stands)

pub exclusive : {A : Type 0} (names : Names) (modules : List Module) (file : List ℕ) (fault : LinkFault A)
    → IsFileOf names modules file → IsModulesFault names modules fault → ⊥
exclusive names modules file (link.Program (program.SegmentTooLong name)) (l, p, linked, mz) h =
    placed_sound names modules l _ linked.is_layout h
exclusive names modules file (link.Program program.ProgramTooLarge) (l, p, linked, mz) h =
    placed_sound names modules l _ linked.is_layout h
exclusive names modules file (link.Program (program.GroupTooLong name)) (l, p, linked, mz) h =
    placed_sound names modules l _ linked.is_layout h
exclusive names modules file (link.Program (program.DuplicatePublic name)) (l, p, linked, mz) h =
    placed_sound names modules l _ linked.is_layout h
exclusive names modules file (link.Program program.TooManyRelocations) (l, p, linked, mz) h =
    built_sound names modules l _ linked.is_layout linked.sound h
exclusive names modules file (link.Record n place (input.Fix kind)) (l, p, linked, mz) h =
    built_sound names modules l _ linked.is_layout linked.sound h
exclusive names modules file (link.Record n place (input.Absent why)) made h = h
exclusive names modules file (link.Record n place (input.Check found)) made h = h
exclusive names modules file (link.Device n place) made h = h
exclusive names modules file (link.File f) made h = h
exclusive names modules file link.Output made h = h
exclusive names modules file link.Memory made h = h
