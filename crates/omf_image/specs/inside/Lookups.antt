-- The look-ups' answers as the definitions have them.
use Rattle.std.specs.Prelude.{ℕ, ◌≤◌, Result, Ok, Err, Option, Some, None, List, [], ◌∷◌}
use Rattle.std.specs.Option.{option_map_or}
use Rattle.std.specs.Result.{result_ok}
use Rattle.omf_module.specs.declared.ResolvedFixup.{ResolvedFixup}
use Rattle.omf_image.specs.declared.reference.Missing.{Missing}
use Rattle.omf_image.specs.declared.reference.Missing.TheVariants.{Public, Members}
use Rattle.omf_image.specs.declared.patch.Patch.{Patch}
use Rattle.omf_image.specs.inside.Patches.{patch_end}
use Rattle.omf_image.specs.declared.faults.FixKind.{FixKind}
use Rattle.omf_image.specs.declared.faults.FixKind.TheVariants.{Unresolved, EmptyGroup}
use Rattle.omf_image.specs.declared.reference.Resolved.{Resolved}
use Rattle.omf_image.specs.Records.{patches_on}

-- what a look-up answers
abbrev pub found : {A : Type 0} → Result A Missing → Result A FixKind
found (Ok a) = Ok a
found (Err Public) = Err Unresolved
found (Err Members) = Err EmptyGroup

-- what a fix-up adds for what was found
abbrev pub patches_of : (P : ℕ) → Result Resolved FixKind → ResolvedFixup → (start : ℕ) → (positions : List ℕ)
    → List Patch
patches_of P reference fixup start positions =
    option_map_or (λ r. patches_on P r fixup.self_relative fixup.location start positions) (result_ok reference) []

-- a patch and perhaps a second one
abbrev pub listed : Patch → Option Patch → List Patch
listed first None = first ∷ []
listed first (Some second) = first ∷ second ∷ []

-- the second patch, where there is one, ends by a place
abbrev pub EndsBy : (end : ℕ) → Option Patch → Type 0
EndsBy end None = Unit {0}
EndsBy end (Some second) = patch_end second ≤ end
