-- A segment whose name and class are kept behind all bytes of a store.
use Rattle.std.proofs.Common.{◌≡◌, ℕ, List, [], ◌∷◌, ◌++◌, ap, ◌∙◌}
use Rattle.omf_record.specs.Numbers.{segment_len}
use Rattle.omf_record.specs.declared.segments.SegmentLength.{SegmentLength}
use Rattle.omf_module.specs.declared.Standing.{Standing}
use Rattle.omf_module.specs.declared.entries.SegmentEntry.{SegmentEntry}
use Rattle.omf_module.specs.Module.{Segment}
use Rattle.omf_module.specs.inside.Store.{Kept, elements, segment, Entries, kept, AreIn}
use Rattle.omf_module.proofs.Stored.{piece_stays, bytes_stay, last_of, last_piece, last_is_in}
use Rattle.omf_module.proofs.Stored.{segment_kept, segment_in}

module _ {A : Type 0} (bytes places : List ℕ) (e : Entries A) (h : AreIn bytes places e) (name class : List ℕ) where
  abbrev all : List ℕ
  all = (bytes ++ name) ++ class

  pub both_stay : (kept all places e ≡ kept bytes places e) × AreIn all places e
  both_stay =
      let a = bytes_stay bytes name places e h in
      let b = bytes_stay (bytes ++ name) class places e a.1 in
      (b.0 ∙ a.0, b.1)

  abbrev with_segment : SegmentEntry → Entries A
  with_segment p = record {
    names = e.names;
    segments = e.segments ++ p ∷ [];
    groups = e.groups;
    externals = e.externals;
    publics = e.publics;
    data_records = e.data_records;
  }

  abbrev part : SegmentLength → Standing → SegmentEntry
  part len standing = record {
    name = last_of bytes name;
    class = last_of (bytes ++ name) class;
    length = len;
    standing = standing;
  }

  module _ (len : SegmentLength) (standing : Standing) where
    abbrev said : ℕ → Segment
    said n = record { name = name; class = class; length = n; standing = standing }

    part_says : segment all (part len standing) ≡ said (segment_len len)
    part_says =
        let n = (piece_stays (bytes ++ name) class (last_of bytes name) (last_is_in bytes name)).0 ∙ last_piece bytes name in
        let c = last_piece (bytes ++ name) class in
        ap (λ x. record {
          name = x;
          class = elements all (last_of (bytes ++ name) class);
          length = segment_len len;
          standing = standing;
        }) n
        ∙ ap (λ x. record { name = name; class = x; length = segment_len len; standing = standing }) c

    pub part_kept : (n : ℕ) → segment_len len ≡ n
        → kept all places (with_segment (part len standing))
        ≡ record (kept bytes places e) { segments = (kept bytes places e).segments ++ said n ∷ [] }
    part_kept n is =
        segment_kept all places e both_stay.1 (part len standing) (part_says ∙ ap said is)
        ∙ ap (λ (k : Kept). record k { segments = k.segments ++ said n ∷ [] }) both_stay.0

    pub part_in : AreIn all places (with_segment (part len standing))
    part_in =
        segment_in all places e both_stay.1 (part len standing)
        ((piece_stays (bytes ++ name) class (last_of bytes name) (last_is_in bytes name)).1, last_is_in (bytes ++ name) class)
