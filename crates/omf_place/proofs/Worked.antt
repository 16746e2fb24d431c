-- Worked programs, evaluated.
use Rattle.std.proofs.Common.{◌≡◌, ℕ, List, [], ◌∷◌, Some, None, refl, map, filter, codes, lit≤, lit<}
use Rattle.std.specs.Prelude.{codes, replicate, ◌++◌}
use Rattle.omf_module.specs.declared.Kind.TheVariants.{Private, Public, Stack, Common}
use Rattle.omf_module.specs.declared.Standing.TheVariants.{Relocatable}
use Rattle.omf_record.specs.declared.externals.PublicBase.TheVariants.{AtFrame, InSegment}
use Rattle.omf_module.specs.Module.{Module, Segment, Group, PublicSymbol}
use Rattle.omf_place.specs.declared.layout.Position.TheVariants as position
use Rattle.omf_place.specs.Parts.{sites, placement_order, Site}
use Rattle.std.proofs.Common.{◌+◌, ◌%◌, Bool, true, false, ◌&&◌, eqb, ltb, leb, slice_index}
use Rattle.omf_place.specs.Placed.{IsPlaced, is_unit, unit_alignment, unit_length}
use Rattle.omf_place.specs.Tables.{frame_of_group, placed_publics}
use Rattle.omf_place.specs.Layout.{layout_at, local_public, public}
use Rattle.omf_place.specs.Faults.{placement_fault, SegmentTooLong, ProgramTooLarge, GroupTooLong, DuplicatePublic}
use Rattle.omf_module.specs.declared.Kind.{Kind}
use Rattle.omf_place.specs.declared.names.Names.TheVariants.{Exact, AsciiFolded}
use Rattle.omf_place.specs.Names.{agrees}

abbrev seg : List ℕ → List ℕ → ℕ → Kind → ℕ → Segment
seg n c a k l = record { name = n; class = c; length = l; standing = Relocatable a k }

abbrev mod_of : List Segment → List Group → List PublicSymbol → Module
mod_of ss gs ps = record { segments = ss; groups = gs; externals = []; publics = ps; data_records = []; start = None }

-- two modules with a common group and a public in the second
abbrev two : List Module
two = mod_of (seg (codes "CODE") (codes "CODE") 16 Public 18 ∷ seg (codes "_DATA") (codes "_DATA") 2 Public 3 ∷ [])
    (record { name = codes "DGROUP"; members = 1 ∷ [] } ∷ []) []
    ∷ mod_of (seg (codes "_DATA") (codes "_DATA") 2 Public 2 ∷ [])
    (record { name = codes "DGROUP"; members = 0 ∷ [] } ∷ [])
    (record { name = codes "x"; base = InSegment 1 1; offset = 0; local = false } ∷ [])
    ∷ []

two_order : map (λ (a : Site). a.position) (placement_order (sites two)) ≡ 0 ∷ 1 ∷ 2 ∷ []
two_order = refl

two_placed : IsPlaced (sites two) (0 ∷ 18 ∷ 22 ∷ []) 24
two_placed = record {
  each = refl;
  units = (
    (refl, lit≤ tt, lit< tt),
    (
      (refl, lit≤ tt, lit< tt),
      ((refl, lit≤ tt, lit< tt), refl),
    ),
  );
  others = ((λ e. cc), ((λ e. cc), ((λ e. cc), tt)));
}

two_group : frame_of_group two (0 ∷ 18 ∷ 22 ∷ []) (codes "DGROUP") ≡ Some 1
two_group = refl

two_public : public (layout_at Exact two (0 ∷ 18 ∷ 22 ∷ []) 24) (codes "x")
    ≡ Some (position.Relocatable 22 (Some 1))
two_public = refl

two_fault : placement_fault Exact two (0 ∷ 18 ∷ 22 ∷ []) 24 ≡ None
two_fault = refl

-- a class that comes again takes its place beside the first
abbrev classes : List Module
classes =
    mod_of
    (seg (codes "A") (codes "B") 1 Public 1 ∷ seg (codes "B") (codes "C") 1 Public 2
    ∷ seg (codes "C") (codes "B") 1 Public 4 ∷ []) [] [] ∷ []

classes_order : map (λ (a : Site). a.position) (placement_order (sites classes)) ≡ 0 ∷ 2 ∷ 1 ∷ []
classes_order = refl

-- the relation as a test, for literals
abbrev follows : List Site → List ℕ → ℕ → List Site → ℕ → Bool
follows ss A e [] size = eqb size e
follows ss A e (u ∷ us) size =
    let x = slice_index A u.position in
    eqb (x % unit_alignment ss u) 0
    && (leb e x && (ltb x (e + unit_alignment ss u) && follows ss A (x + unit_length ss u) us size))

abbrev is_placed : List Module → List ℕ → ℕ → Bool
is_placed p A size = follows (sites p) A 0 (filter (is_unit (sites p)) (placement_order (sites p))) size

abbrev code : ℕ → Segment
code n = seg (codes "CODE") (codes "CODE") 1 Public n

abbrev one : List Segment → List Group → List PublicSymbol → List Module
one ss gs ps = mod_of ss gs ps ∷ []

classes_placed : is_placed classes (0 ∷ 5 ∷ 1 ∷ []) 7 ≡ true
classes_placed = refl

-- later parts of a stack have alignment 1
abbrev stacks : List Module
stacks =
    one (code 1 ∷ seg (codes "CODE") (codes "CODE") 16 Stack 3 ∷ seg (codes "CODE") (codes "CODE") 16 Stack 5 ∷ []) []
    []

stacks_placed : is_placed stacks (0 ∷ 16 ∷ 19 ∷ []) 24 ≡ true
stacks_placed = refl

stacks_aligned : is_placed stacks (0 ∷ 16 ∷ 32 ∷ []) 37 ≡ false
stacks_aligned = refl

-- a group of two segments
abbrev grouped : ℕ → List Module
grouped n = one (code 65535 ∷ seg [] [] 1 Public n ∷ []) (record { name = codes "CODE"; members = 0 ∷ 1 ∷ [] } ∷ []) []

grouped_long : placement_fault Exact (grouped 2) (0 ∷ 65535 ∷ []) 65537 ≡ Some (GroupTooLong (codes "CODE"))
grouped_long = refl

grouped_fits : placement_fault Exact (grouped 1) (0 ∷ 65535 ∷ []) 65536 ≡ None
grouped_fits = refl

grouped_frame : frame_of_group (grouped 1) (0 ∷ 65535 ∷ []) (codes "CODE") ≡ Some 0
grouped_frame = refl

-- fifteen private segments of 65,536 bytes, and one more
abbrev private_ones : ℕ → List Segment
private_ones n = replicate 15 (seg [] [] 1 Private 65536) ++ seg [] [] 1 Private n ∷ []

abbrev fifteen : List ℕ
fifteen =
    0 ∷ 65536 ∷ 131072 ∷ 196608 ∷ 262144 ∷ 327680 ∷ 393216 ∷ 458752 ∷ 524288 ∷ 589824 ∷ 655360 ∷ 720896 ∷ 786432
    ∷ 851968 ∷ 917504 ∷ 983040 ∷ []

large_fits : placement_fault Exact (one (private_ones 65520) [] []) fifteen 1048560 ≡ None
large_fits = refl

large_placed : is_placed (one (private_ones 65520) [] []) fifteen 1048560 ≡ true
large_placed = refl

large_fails : placement_fault Exact (one (private_ones 65521) [] []) fifteen 1048561 ≡ Some ProgramTooLarge
large_fails = refl

-- two publics of one name
twice : placement_fault Exact
    (one (code 5 ∷ []) []
    (record { name = codes "x"; base = InSegment 0 1; offset = 0; local = false }
    ∷ record { name = codes "x"; base = InSegment 0 1; offset = 1; local = false } ∷ [])) (0 ∷ []) 5
    ≡ Some (DuplicatePublic (codes "x"))
twice = refl

-- a full stack segment, and one byte more
abbrev full_stack : List Segment → List Module
full_stack more = one (code 0 ∷ seg (codes "CODE") (codes "CODE") 16 Stack 65536 ∷ more) [] []

stack_full : placement_fault Exact (full_stack []) (0 ∷ 0 ∷ []) 65536 ≡ None
stack_full = refl

stack_over : placement_fault Exact (full_stack (seg (codes "CODE") (codes "CODE") 16 Stack 1 ∷ [])) (0 ∷ 0 ∷ 65536 ∷ [])
    65537 ≡ Some (SegmentTooLong (codes "CODE"))
stack_over = refl

small_stack : is_placed (one (code 5 ∷ seg (codes "CODE") (codes "CODE") 16 Stack 256 ∷ []) [] []) (0 ∷ 16 ∷ []) 272
    ≡ true
small_stack = refl

-- two common parts
abbrev commons : List Module
commons =
    mod_of (seg (codes "CODE") (codes "CODE") 1 Common 4 ∷ []) [] []
    ∷ mod_of (seg (codes "CODE") (codes "CODE") 1 Common 2 ∷ []) [] [] ∷ []

commons_placed : is_placed commons (0 ∷ 0 ∷ []) 4 ≡ true
commons_placed = refl

-- an absolute public
absolute_public : placed_publics
    (one [] [] (record { name = codes "x"; base = AtFrame 0 5682; offset = 22; local = false } ∷ [])) []
    ≡ record {
      owner = None;
      name = codes "x";
      value = position.Absolute 90934 5682;
    } ∷ []
absolute_public = refl

-- a public in a group without members
empty_group : placed_publics
    (one (code 1 ∷ []) (record { name = codes "G"; members = [] } ∷ [])
    (record { name = codes "x"; base = InSegment 1 1; offset = 0; local = false } ∷ [])) (0 ∷ [])
    ≡ record { owner = None; name = codes "x"; value = position.Relocatable 0 None } ∷ []
empty_group = refl

-- names that differ in case, and names of one module
abbrev at_offset : List ℕ → ℕ → Bool → PublicSymbol
at_offset name offset local = record { name = name; base = InSegment 0 1; offset = offset; local = local }

abbrev with_publics : List PublicSymbol → List Module
with_publics ps = one (code 5 ∷ []) [] ps

two_cases : placement_fault Exact (with_publics (at_offset (codes "x") 0 false ∷ at_offset (codes "X") 1 false ∷ []))
    (0 ∷ []) 5 ≡ None
two_cases = refl

one_folded : placement_fault AsciiFolded
    (with_publics (at_offset (codes "x") 0 false ∷ at_offset (codes "X") 1 false ∷ [])) (0 ∷ []) 5
    ≡ Some (DuplicatePublic (codes "X"))
one_folded = refl

beside_local : placement_fault AsciiFolded
    (with_publics (at_offset (codes "x") 0 false ∷ at_offset (codes "X") 1 true ∷ [])) (0 ∷ []) 5 ≡ None
beside_local = refl

twice_local : placement_fault AsciiFolded
    (with_publics (at_offset (codes "x") 0 true ∷ at_offset (codes "X") 1 true ∷ [])) (0 ∷ []) 5
    ≡ Some (DuplicatePublic (codes "X"))
twice_local = refl

local_means : local_public (layout_at AsciiFolded (with_publics (at_offset (codes "x") 1 true ∷ [])) (0 ∷ []) 5) 0
    (codes "X")
    ≡ Some (position.Relocatable 1 (Some 0))
local_means = refl

local_alone : public (layout_at AsciiFolded (with_publics (at_offset (codes "x") 1 true ∷ [])) (0 ∷ []) 5) (codes "x")
    ≡ None
local_alone = refl

letters_alone : agrees AsciiFolded (0xE9 ∷ []) (0xC9 ∷ []) ≡ false
letters_alone = refl
