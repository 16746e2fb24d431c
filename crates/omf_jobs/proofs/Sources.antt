-- Sources over files that tell their bytes tell these.
use Rattle.std.proofs.Common.{◌≡◌, ◌∙◌, ℕ, All, List, [], ◌∷◌, Bor, map, refl, ap₂}
use Rattle.std.proofs.lemmas.List.Elements.{All-head, All-tail}
use Rattle.std.specs.declared.option.Option.{Option}
use Rattle.omf_files.specs.declared.files.FileSource.{FileSource}
use Rattle.omf_files.specs.declared.files.Stage.TheVariants.{Waiting}
use Rattle.omf_files.specs.Files.{stage_bytes}
use Rattle.omf_commands.specs.Outcome.{AreTold}

pub source_told : {W A I C : Type 0} (bytes : W → List ℕ → Option (List ℕ)) (remaining : I → Option (List ℕ))
    (world : W) (path : Bor (List ℕ)) (source : FileSource W A I C) → source.world ≡ world → source.path ≡ path
    → source.stage ≡ Waiting
    → stage_bytes remaining (bytes source.world source.path.now) source.stage ≡ bytes world path.now
source_told bytes remaining world path source same_world same_path waiting = rw (same_world, same_path, waiting) refl

each_told : {W A I C : Type 0} (bytes : W → List ℕ → Option (List ℕ)) (remaining : I → Option (List ℕ))
    (world : W) (sources : List (FileSource W A I C)) → All (λ s. (s.world ≡ world) × (s.stage ≡ Waiting)) sources
    → map (λ (s : FileSource W A I C). stage_bytes remaining (bytes s.world s.path.now) s.stage) sources
    ≡ map (λ (file : Bor (List ℕ)). bytes world file.now) (map (λ (s : FileSource W A I C). s.path) sources)
each_told bytes remaining world [] waiting = refl
each_told bytes remaining world (source ∷ sources) waiting =
    let first = All-head (λ s. (s.world ≡ world) × (s.stage ≡ Waiting)) source sources waiting in
    let rest = All-tail (λ s. (s.world ≡ world) × (s.stage ≡ Waiting)) source sources waiting in
    ap₂ (λ x xs. x ∷ xs) (source_told bytes remaining world source.path source first.0 refl first.1)
    (each_told bytes remaining world sources rest)

pub sources_told : {W A I C : Type 0} (bytes : W → List ℕ → Option (List ℕ)) (remaining : I → Option (List ℕ))
    (world : W) (sources : List (FileSource W A I C)) (inputs : List (List ℕ))
    → All (λ s. (s.world ≡ world) × (s.stage ≡ Waiting)) sources
    → AreTold (λ (file : Bor (List ℕ)). bytes world file.now) (map (λ s. s.path) sources) inputs
    → AreTold (λ s. stage_bytes remaining (bytes s.world s.path.now) s.stage) sources inputs
sources_told bytes remaining world sources inputs waiting are = each_told bytes remaining world sources waiting ∙ are
