-- What `match` tells of a file: of each of its members where its segments stand in the image of a program, or why it
-- isn't read as a module.
use Rattle.std.specs.Prelude.{◌≡◌, ℕ, List, [], ◌++◌, All, map, slice_get, unwrap_or, Ok, Err}
use Rattle.std.specs.declared.result.Result.{Result}
use Rattle.std.specs.List.{flat_map}
use Rattle.byte_places.specs.declared.spans.Span.{Span}
use Rattle.omf_library.specs.Members.{PlainMember}
use Rattle.omf_match.specs.Byte.{byte_lines}
use Rattle.omf_match.specs.Told.{module_lines, module_spans, titled}
use Rattle.omf_module.specs.Module.{Module}
use Rattle.omf_plain.specs.declared.fault.RecordObstacle.{RecordObstacle}
use Rattle.doslib_text.specs.Faults.{file_fault, located, place_behind}
use Rattle.doslib_text.specs.Listing.{shown_name}
use Rattle.doslib_text.specs.Parts.{fault_in, members_in, whole_members}
use Rattle.doslib_match.specs.declared.matching.Wanted.{Wanted}
use Rattle.doslib_match.specs.declared.matching.Wanted.TheVariants.{All as AllSegments, Byte}
use Rattle.doslib_match.specs.Labels.{obstacle_label}
use Rattle.doslib_match.specs.Reading.{IsReadAs, Refusal}

-- what is printed of a module: of all of its segments that stand in the image, or of those that have a byte of it
abbrev pub wanted_lines : Wanted → (image : List ℕ) → Module → List ℕ
wanted_lines AllSegments image one = module_lines one image
wanted_lines (Byte address) image one = byte_lines one image address

-- the same of a module of a file at a path, by its name
abbrev pub module_text : Wanted → (image path name : List ℕ) → Module → List ℕ
module_text wanted image path name one = titled path name (wanted_lines wanted image one)

-- the bytes of the image that its segments have, where all are told of
abbrev pub wanted_spans : Wanted → (image : List ℕ) → Module → List Span
wanted_spans AllSegments image one = module_spans one image
wanted_spans (Byte address) image one = []

-- the type of the record at a place of a module
abbrev pub kind_at : (bytes : List ℕ) → (place : ℕ) → ℕ
kind_at bytes place = unwrap_or (slice_get bytes place) 0

-- the line of a member whose record at a place isn't taken
abbrev pub fault_line : (path : List ℕ) → PlainMember → (place : ℕ) → RecordObstacle → List ℕ
fault_line path m place why = located path (obstacle_label (kind_at m.bytes place) why) (place_behind m.place place)

-- a member, and what it is read as
pub record Tried : Type 0 where
  pub member : PlainMember
  pub read : Result Module Refusal

-- what is printed of a member, by what it is read as
abbrev pub read_text : Wanted → (image path name : List ℕ) → Result Module Refusal → List ℕ
read_text wanted image path name (Ok one) = module_text wanted image path name one
read_text wanted image path name (Err refusal) = []

abbrev pub tried_text : Wanted → (image path : List ℕ) → Tried → List ℕ
tried_text wanted image path t = read_text wanted image path (shown_name t.member) t.read

-- the bytes of the image that its segments have
abbrev pub read_spans : Wanted → (image : List ℕ) → Result Module Refusal → List Span
read_spans wanted image (Ok one) = wanted_spans wanted image one
read_spans wanted image (Err refusal) = []

abbrev pub tried_spans : Wanted → (image : List ℕ) → Tried → List Span
tried_spans wanted image t = read_spans wanted image t.read

-- the line of its fault, where it has one
abbrev pub read_fault : (path : List ℕ) → PlainMember → Result Module Refusal → List ℕ
read_fault path m (Ok one) = []
read_fault path m (Err refusal) = fault_line path m refusal.0 refusal.1

abbrev pub tried_fault : (path : List ℕ) → Tried → List ℕ
tried_fault path t = read_fault path t.member t.read

-- these are members, each with what it is read as
abbrev pub AreTried : List PlainMember → List Tried → Type 0
AreTried members tried = (map (λ t. t.member) tried ≡ members) × All (λ t. IsReadAs t.member.bytes t.read) tried

-- What is told of the file with these bytes at a path: what is printed of its members that are whole, the bytes of the
-- image that their segments have, and the lines of their faults and of the file's own.
abbrev pub IsMatch : Wanted → (image path file text : List ℕ) → (spans : List Span) → (faults : List ℕ) → Type 0
IsMatch wanted image path file text spans faults =
    (tried : List Tried) × AreTried (whole_members file) tried × (text ≡ flat_map (tried_text wanted image path) tried)
    × (spans ≡ flat_map (tried_spans wanted image) tried)
    × (faults ≡ flat_map (tried_fault path) tried ++ file_fault path (fault_in (members_in file)))
