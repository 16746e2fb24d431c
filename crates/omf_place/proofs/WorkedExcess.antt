-- By how many bytes worked programs are too long, evaluated.
use Rattle.std.proofs.Common.{◌≡◌, ℕ, List, [], ◌∷◌, Option, Some, None, refl, find, nat_lt}
use Rattle.std.specs.Prelude.{codes, replicate, ◌++◌}
use Rattle.omf_module.specs.declared.Kind.{Kind}
use Rattle.omf_module.specs.declared.Kind.TheVariants.{Private, Public}
use Rattle.omf_module.specs.declared.Standing.TheVariants.{Relocatable}
use Rattle.omf_module.specs.Module.{Module, Segment, Group}
use Rattle.omf_place.specs.Excess.{excesses}

abbrev part : List ℕ → Kind → ℕ → Segment
part name kind bytes = record { name = name; class = []; length = bytes; standing = Relocatable 1 kind }

abbrev one : List Segment → List Group → List Module
one segments groups =
    record {
      segments = segments;
      groups = groups;
      externals = [];
      publics = [];
      data_records = [];
      start = None;
    } ∷ []

abbrev first : List Module → (addresses : List ℕ) → (size : ℕ) → Option ℕ
first program addresses size = find (nat_lt 0) (excesses program addresses size)

-- a segment that begins 15 bytes above its frame
abbrev above : ℕ → List Module
above bytes = one (part (codes "A") Private 15 ∷ part (codes "B") Public bytes ∷ []) []

segment_fits : first (above 65521) (0 ∷ 15 ∷ []) 65536 ≡ None
segment_fits = refl

segment_over : first (above 65536) (0 ∷ 15 ∷ []) 65551 ≡ Some 15
segment_over = refl

-- a group of two
abbrev grouped : ℕ → List Module
grouped bytes =
    one (part (codes "A") Public 65535 ∷ part (codes "B") Public bytes ∷ [])
    (record { name = codes "G"; members = 0 ∷ 1 ∷ [] } ∷ [])

group_fits : first (grouped 1) (0 ∷ 65535 ∷ []) 65536 ≡ None
group_fits = refl

group_over : first (grouped 3) (0 ∷ 65535 ∷ []) 65538 ≡ Some 2
group_over = refl

-- fifteen private segments of 65,536 bytes, and one more
abbrev private_ones : ℕ → List Module
private_ones bytes = one (replicate 15 (part [] Private 65536) ++ part [] Private bytes ∷ []) []

abbrev fifteen : List ℕ
fifteen =
    0 ∷ 65536 ∷ 131072 ∷ 196608 ∷ 262144 ∷ 327680 ∷ 393216 ∷ 458752 ∷ 524288 ∷ 589824 ∷ 655360 ∷ 720896 ∷ 786432
    ∷ 851968 ∷ 917504 ∷ 983040 ∷ []

program_fits : first (private_ones 65520) fifteen 1048560 ≡ None
program_fits = refl

program_over : first (private_ones 65530) fifteen 1048570 ≡ Some 10
program_over = refl
