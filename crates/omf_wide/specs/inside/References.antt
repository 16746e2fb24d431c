-- What a reference is made of whose displacement has two bytes or four: the fix data byte, and the indexes and the
-- displacement that it says stand behind it.
use Rattle.std.proofs.Common.{◌≡◌, ℕ, ◌/◌, ◌%◌, Bool, List, [], ◌∷◌, ◌++◌, Option, Some, None, refl, arith}
use Rattle.omf_codec.specs.Language.{◌⋆◌ as Joined, optional, Little, little, width_of}
use Rattle.omf_codec.specs.inside.Format.{Format, IsMade, Lawful, Completes, free}
use Rattle.omf_codec.specs.inside.FormatLaws.{both, both_lawful, both_blank, behind, when, when_lawful, when_blank}
use Rattle.omf_codec.specs.inside.FormatLaws.{when_canonical, WhenText, bits_at, map_same}
use Rattle.omf_codec.specs.inside.Heads.{ByHead, joined, by_head, by_head_lawful, by_head_blank}
use Rattle.omf_codec.specs.inside.Numbers.{number, number_lawful, number_blank}
use Rattle.omf_codec.specs.inside.PrimitiveLaws.{index, index_lawful, index_blank, fact_byte}
use Rattle.omf_record.specs.Body.{bits}
use Rattle.omf_record.specs.Canonical as canon
use Rattle.omf_record.specs.declared.fixups.Reference.{Reference}
use Rattle.omf_record.specs.inside.Fields.{FrameText, TargetText, FixData, absent}
use Rattle.omf_record.specs.inside.References as narrow
use Rattle.omf_record.specs.inside.References.{IsFixData, frame_datum_of, frame_datum_index, target_datum_of}
use Rattle.omf_record.specs.inside.References.{target_datum_index}
use Rattle.omf_wide.specs.Body.{ReferenceAt}
use Rattle.omf_wide.specs.declared.fixups.WideReference.{WideReference}

-- the same as a reference of 16 bits: the byte doesn't depend on the size of a displacement
abbrev pub plain : WideReference → Reference
plain r = record { frame = r.frame; target = r.target; displacement = r.displacement }

abbrev pub fix_data : WideReference → ℕ
fix_data r = canon.fix_data (plain r)

-- what stands behind a fix data byte
abbrev pub Behind : Bool → ℕ → Format (Option ℕ × (Option ℕ × Option ℕ)) (Option ℕ × (Option ℕ × Option ℕ))
Behind wide b = both (when (bits_at 64 4 b ≡ 0) index)
    (both (when (bits_at 8 2 b ≡ 0) index) (when (bits_at 4 2 b ≡ 0) (number wide)))

-- the reference that a fix data byte and what stands behind it say
abbrev pub reference_of : ℕ → Option ℕ × (Option ℕ × Option ℕ) → WideReference
reference_of b x = record { frame = frame_datum_of b x.0; target = target_datum_of b x.1.0; displacement = x.1.1 }

-- what stands behind the fix data byte of a reference
abbrev pub reference_tail : WideReference → Option ℕ × (Option ℕ × Option ℕ)
reference_tail r = (frame_datum_index r.frame, (target_datum_index r.target, r.displacement))

-- the canonical text
abbrev pub reference_text : Bool → WideReference → List ℕ
reference_text wide r =
    fix_data r
    ∷ (canon.frame_text r.frame
    ++ (canon.target_text r.target ++ when_canonical (little (width_of wide)) r.displacement))

module _ (L : ℕ → List ℕ → Type 0) where
  displacement_to : (x : Option ℕ) (b : ℕ) (text : List ℕ) → WhenText (b / 4 % 2 ≡ 0) L x text
      → (bits 2 2 b ≡ absent x) × optional L x text
  displacement_to x b text l = grind (arith, l)

  displacement_from : (x : Option ℕ) (b : ℕ) (text : List ℕ) → bits 2 2 b ≡ absent x → optional L x text
      → WhenText (b / 4 % 2 ≡ 0) L x text
  displacement_from x b text h l = grind (arith, h, l)

module _ (wide : Bool) where
  abbrev Tail : WideReference → List ℕ → Type 0
  Tail r = Joined (FrameText r.frame) (Joined (TargetText r.target) (optional (Little (width_of wide)) r.displacement))

  pub ByFixData : ByHead IsFixData (Behind wide) (λ (r : WideReference). FixData (plain r)) Tail
      (ReferenceAt (width_of wide)) (reference_text wide) reference_of fix_data reference_tail
  ByFixData = record {
    to = λ b x text lt h j.
        let f = narrow.frame_to b x.0 j.front lt h j.first in
        let t = narrow.target_to b x.1.0 j.second.front h j.second.first in
        let d = displacement_to (Little (width_of wide)) x.1.1 b j.second.rest j.second.second in
        ((f.0, t.0, d.0), joined j f.1 (joined j.second t.1 d.1));
    begins = λ r b lt h.
        let f = narrow.frame_in r.frame b lt h.0 in
        let t = narrow.target_in r.target b h.1 in
        (f.0, f.1, f.2, t.0, t.1);
    back = λ r b lt h. rw ((narrow.frame_in r.frame b lt h.0).3, (narrow.target_in r.target b h.1).2) refl;
    from = λ r b text lt h j. joined j (narrow.frame_from r.frame b j.front lt h.0 j.first)
        (joined j.second (narrow.target_from r.target b j.second.front h.1 j.second.first)
        (displacement_from (Little (width_of wide)) r.displacement b j.second.rest h.2 j.second.second));
    valid = λ r h. narrow.fits (plain r);
    best = λ r b h. narrow.fits (plain r);
    same = λ r h. rw (narrow.frame_same r.frame, narrow.target_same r.target) refl;
    view = λ b x. rw (
      map_same (λ x. x) (λ x. refl) x.0,
      map_same (λ x. x) (λ x. refl) x.1.0,
      map_same (λ x. x) (λ x. refl) x.1.1,
    ) refl;
    texts = λ r text. ((λ l. l), (λ l. l));
  }

  -- references
  abbrev pub reference : Format WideReference WideReference
  reference = free (λ x. x) (ReferenceAt (width_of wide)) (reference_text wide)

  pub reference_made : IsMade (behind (fact_byte IsFixData) (Behind wide) (λ rest. Unit {0})) reference
  reference_made = by_head ByFixData

  pub reference_lawful : Lawful reference
  reference_lawful = by_head_lawful ByFixData
      (λ b. both_lawful _ (when_lawful (bits_at 64 4 b ≡ 0) index index_lawful (λ r. tt)) (λ r. tt) _
      (both_lawful _ (when_lawful (bits_at 8 2 b ≡ 0) index index_lawful (λ r. tt)) (λ r. tt) _
      (when_lawful (bits_at 4 2 b ≡ 0) (number wide) (number_lawful wide) (λ r. tt)))) (λ b r. tt)

  pub reference_blank : Completes reference []
  reference_blank = by_head_blank ByFixData (grind arith)
      (λ b. both_blank (when (bits_at 64 4 b ≡ 0) index)
      (both (when (bits_at 8 2 b ≡ 0) index) (when (bits_at 4 2 b ≡ 0) (number wide)))
      (when_blank (bits_at 64 4 b) 0 index index_blank)
      (both_blank (when (bits_at 8 2 b ≡ 0) index) (when (bits_at 4 2 b ≡ 0) (number wide))
      (when_blank (bits_at 8 2 b) 0 index index_blank) (when_blank (bits_at 4 2 b) 0 (number wide) (number_blank wide))))
