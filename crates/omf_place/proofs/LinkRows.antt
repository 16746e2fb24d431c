-- What the code gathers of each module is what the definitions say: segments.
use Rattle.std.proofs.Common.{◌≡◌, ℕ, zero, suc, ◌+◌, List, [], ◌∷◌, ◌++◌, map, length, Some, slice_get, refl}
use Rattle.std.specs.List.{AllByRecursion, flat_map}
use Rattle.omf_module.specs.declared.Standing.{Standing}
use Rattle.omf_module.specs.declared.Standing.TheVariants.{Absolute, Relocatable}
use Rattle.omf_module.specs.Module.{Module, Segment}
use Rattle.omf_place.specs.Parts.{Input, inputs_from, inputs}
use Rattle.omf_place.specs.Parts.{Site, module_sites}
use Rattle.omf_place.specs.inside.Program.{RowIs}
use Rattle.omf_place.specs.inside.Rows.{placed_row}
use Rattle.omf_place.specs.inside.Spans.{span_of}
use Rattle.omf_place.specs.inside.Stands.{placed_by, stand_by, stand_of}
use Rattle.omf_place.specs.Tables.{placed_at}
use Rattle.omf_place.specs.declared.layout.Position.{Position}

-- where a segment stands
abbrev pub placed : List Site → (addresses : List ℕ) → Site → Position
placed ss addresses a = placed_at ss addresses a a.segment.standing

placed_same : (ss : List Site) (A : List ℕ) (a : Site) (st : Standing)
    → placed_by st (stand_by st (span_of ss A a)) ≡ placed_at ss A a st
placed_same ss A a (Absolute frame offset) = refl
placed_same ss A a (Relocatable alignment kind) = refl

pub row_same : (ss : List Site) (A : List ℕ) (xs : List Site)
    → placed_row xs (map (stand_of ss A) xs) ≡ map (placed ss A) xs
row_same ss A [] = refl
row_same ss A (x ∷ xs) = rw (placed_same ss A x x.segment.standing, row_same ss A xs) refl

module_row : (p i n : ℕ) (ss : List Segment) (k : ℕ) (s : Segment) → slice_get ss k ≡ Some s
    → (a : Site) × (slice_get (module_sites p i n ss) k ≡ Some a) × (a.segment ≡ s)
module_row p i n [] k s e = cc
module_row p i n (x ∷ xs) zero s e =
    (record { position = p; input = i; number = n; segment = x }, refl, (let f : x ≡ s = cc in f))
module_row p i n (x ∷ xs) (suc k) s e = module_row (p + 1) i (n + 1) xs k s e

rows_from : (p i : ℕ) (ms : List Module) → AllByRecursion RowIs (inputs_from p i ms)
unfolding RowIs
rows_from p i [] = tt
rows_from p i (m ∷ ms) = ((λ k s e. module_row p i 0 m.segments k s e), rows_from (p + length m.segments) (i + 1) ms)

pub input_rows : (program : List Module) → AllByRecursion RowIs (inputs program)
input_rows program = rows_from 0 0 program

pub row_at : (n : Input) → RowIs n → (k : ℕ) (s : Segment) → slice_get n.says.segments k ≡ Some s
    → (a : Site) × (slice_get n.sites k ≡ Some a) × (a.segment ≡ s)
unfolding RowIs
row_at n h = h

All-append : {X : Type 0} (P : X → Type 0) (xs ys : List X) → AllByRecursion P xs → AllByRecursion P ys
    → AllByRecursion P (xs ++ ys)
All-append P [] ys ps qs = qs
All-append P (x ∷ xs) ys ps qs = (ps.0, All-append P xs ys ps.1 qs)

pub All-flat : {X Y : Type 0} (P : Y → Type 0) (f : X → List Y) (xs : List X)
    → AllByRecursion (λ x. AllByRecursion P (f x)) xs → AllByRecursion P (flat_map f xs)
All-flat P f [] h = tt
All-flat P f (x ∷ xs) h = All-append P (f x) (flat_map f xs) h.0 (All-flat P f xs h.1)

pub All-mapped_back : {X Y : Type 0} (f : X → Y) (P : Y → Type 0) (xs : List X) → AllByRecursion P (map f xs)
    → AllByRecursion (λ x. P (f x)) xs
All-mapped_back f P [] ps = tt
All-mapped_back f P (x ∷ xs) ps = (ps.0, All-mapped_back f P xs ps.1)
