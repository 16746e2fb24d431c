-- What is told of members, one after the other.
use Rattle.std.specs.Prelude.{◌≡◌, ℕ, List, ◌++◌}
use Rattle.std.specs.List.{flat_map}
use Rattle.omf_library.specs.Members.{PlainMember}
use Rattle.doslib_match.specs.declared.matching.Told.{Told}
use Rattle.doslib_match.specs.declared.matching.Wanted.{Wanted}
use Rattle.doslib_match.specs.Matching.{AreTried, Tried, tried_fault, tried_spans, tried_text}
use Rattle.doslib_match.specs.Reading.{IsReadAs}

-- what is told of these members was added
pub record AddsMembers {A : Type 0} (wanted : Wanted) (image path : List ℕ) (members : List PlainMember) (before after : Told A)
    : Type 0 where
  pub tried : List Tried
  pub are : AreTried members tried
  pub text : after.text.items ≡ before.text.items ++ flat_map (tried_text wanted image path) tried
  pub spans : after.spans.items ≡ before.spans.items ++ flat_map (tried_spans wanted image) tried
  pub faults : after.faults.items ≡ before.faults.items ++ flat_map (tried_fault path) tried

-- what is told of this one was
abbrev pub AddsMember : {A : Type 0} → Wanted → (image path : List ℕ) → PlainMember → (before after : Told A) → Type 0
AddsMember wanted image path m before after =
    (t : Tried) × (t.member ≡ m) × IsReadAs t.member.bytes t.read
    × (after.text.items ≡ before.text.items ++ tried_text wanted image path t)
    × (after.spans.items ≡ before.spans.items ++ tried_spans wanted image t)
    × (after.faults.items ≡ before.faults.items ++ tried_fault path t)
