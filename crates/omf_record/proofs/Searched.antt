-- What looking for a content finds.
use Rattle.std.proofs.Common.{◌≡◌, ℕ, ◌+◌, ◌<◌, ◌≤◌, ◌⊎◌, inl, inr, List, [], ◌∷◌, ◌++◌, refl, subst, arith}
use Rattle.omf_record.specs.declared.content.Found.{Found}
use Rattle.omf_record.specs.declared.content.Found.TheVariants.{Inside, Outside, Beyond}
use Rattle.omf_record.specs.Record.{Block, Content, Nested, Blocks, End, More}
use Rattle.omf_record.specs.Expansion.{stored_len, all_stored_len, contents_at, all_contents_at, LiesInOne}
use Rattle.omf_record.specs.inside.Searching.{Finds}

pub lies_either : (x width : ℕ) (cs ds : List (ℕ × ℕ)) → LiesInOne x width (cs ++ ds)
    → LiesInOne x width cs ⊎ LiesInOne x width ds
lies_either x width [] ds l = inr l
lies_either x width (c ∷ cs) ds (inl l) = inl (inl l)
lies_either x width (c ∷ cs) ds (inr l) = elim (lies_either x width cs ds l) [ inl h ↦ inl (inr h) | inr h ↦ inr h ]

lies_left : (x width : ℕ) (cs ds : List (ℕ × ℕ)) → LiesInOne x width cs → LiesInOne x width (cs ++ ds)
lies_left x width [] ds l = absurd l
lies_left x width (c ∷ cs) ds (inl l) = inl l
lies_left x width (c ∷ cs) ds (inr l) = inr (lies_left x width cs ds l)

lies_right : (x width : ℕ) (cs ds : List (ℕ × ℕ)) → LiesInOne x width ds → LiesInOne x width (cs ++ ds)
lies_right x width [] ds l = l
lies_right x width (c ∷ cs) ds l = inr (lies_right x width cs ds l)

-- no content begins before its block or ends behind it
mutual
  pub content_within : (x width place : ℕ) (b : Block) → LiesInOne x width (contents_at place b)
      → (place < x) × (x + width ≤ place + stored_len b)
  content_within x width place (Content repeat bytes) (inl l) = (omega (arith, l.0), omega (arith, l.1))
  content_within x width place (Content repeat bytes) (inr l) = absurd l
  content_within x width place (Nested repeat blocks) l =
      let h = contents_within x width (place + 4) blocks l in (omega (arith, h.0), omega (arith, h.1))

  pub contents_within : (x width place : ℕ) (bs : Blocks) → LiesInOne x width (all_contents_at place bs)
      → (place < x) × (x + width ≤ place + all_stored_len bs)
  contents_within x width place End l = absurd l
  contents_within x width place (More b bs) l =
      elim (lies_either x width (contents_at place b) (all_contents_at (place + stored_len b) bs) l) [
        | inl h ↦ let f = content_within x width place b h in (f.0, omega (arith, f.1))
        | inr h ↦
            let f = contents_within x width (place + stored_len b) bs h in (omega (arith, f.0), omega (arith, f.1))
      ]

-- ---- what is found in the blocks from one on

pub stops : (place : ℕ) (b : Block) {bs left : Blocks} (at width : ℕ) (z : Found) → left ≡ More b bs
    → ((end : ℕ) → z ≡ Beyond end → ⊥) → Finds at width (place + stored_len b) (contents_at place b) z
    → Finds at width (place + all_stored_len left) (all_contents_at place left) z
stops place b {bs} {left} at width z is other f = rw is (go z other f)
  where
    go : (z : Found) → ((end : ℕ) → z ≡ Beyond end → ⊥) → Finds at width (place + stored_len b) (contents_at place b) z
        → Finds at width (place + all_stored_len (More b bs)) (all_contents_at place (More b bs)) z
    go Inside other f = lies_left at width (contents_at place b) (all_contents_at (place + stored_len b) bs) f
    go Outside other f = (
      λ l. elim (lies_either at width (contents_at place b) (all_contents_at (place + stored_len b) bs) l) [
        | inl h ↦ f.0 h
        | inr h ↦ omega (arith, f.1, (contents_within at width (place + stored_len b) bs h).0)
      ],
      omega (arith, f.1),
    )
    go (Beyond end) other f = absurd (other end refl)

pub goes : (place : ℕ) (b : Block) {bs left : Blocks} (at width end : ℕ) (z : Found) → left ≡ More b bs
    → Finds at width (place + stored_len b) (contents_at place b) (Beyond end)
    → Finds at width (end + all_stored_len bs) (all_contents_at end bs) z
    → Finds at width (place + all_stored_len left) (all_contents_at place left) z
goes place b {bs} {left} at width end z is f g =
    rw is (go z (subst (λ x. Finds at width (x + all_stored_len bs) (all_contents_at x bs) z) f.1 g))
  where
    none : (LiesInOne at width (all_contents_at (place + stored_len b) bs) → ⊥)
        → LiesInOne at width (all_contents_at place (More b bs)) → ⊥
    none h l = elim (lies_either at width (contents_at place b) (all_contents_at (place + stored_len b) bs) l) [
      | inl a ↦ f.0 a
      | inr a ↦ h a
    ]

    go : (z : Found)
        → Finds at width (place + stored_len b + all_stored_len bs) (all_contents_at (place + stored_len b) bs) z
        → Finds at width (place + all_stored_len (More b bs)) (all_contents_at place (More b bs)) z
    go Inside g = lies_right at width (contents_at place b) (all_contents_at (place + stored_len b) bs) g
    go Outside g = (none g.0, omega (arith, g.1))
    go (Beyond more) g = (none g.0, omega (arith, g.1), omega (arith, g.2))
