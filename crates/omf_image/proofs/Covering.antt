-- Flags where relocated words begin tell whether data covers one of them.
use Rattle.std.proofs.Common.{◌≡◌, ℕ, ◌+◌, ◌-◌, ◌<◌, ◌≤◌, Bool, true, false, ◌||◌, leb, ltb, eqb, List, length, get_or}
use Rattle.std.proofs.Common.{refl, ◌∙◌, sym, arith, inl, inr, eq-eqb}
use Rattle.std.proofs.lemmas.Bool.{and_parts, or_cases, or_left, or_right, leb-true, ltb-true, cases_lt, true≢false}
use Rattle.std.proofs.lemmas.Bool.{eqb-true, false_from_ne_true}
use Rattle.omf_image.specs.Located.{LocatedBytes, covers}
use Rattle.omf_image.specs.inside.Whole.{covers_word}
use Rattle.omf_image.specs.inside.Leading.{IsListed}
use Rattle.omf_image.proofs.Carry.{covers-from}
use Rattle.omf_image.proofs.Members.{any_from, any_in}

covered_by : (a : ℕ) (d : LocatedBytes) → covers a d ≡ true → (d.start ≤ a) × (a < d.start + length d.bytes)
covered_by a d h =
    let both = and_parts (leb d.start a) (ltb a (d.start + length d.bytes)) h in
    (leb-true d.start a both.0, ltb-true a (d.start + length d.bytes) both.1)

pub covers_at : (d : LocatedBytes) (flags : List Bool) (ws : List ℕ) (a : ℕ) → IsListed flags ws
    → get_or flags a false ≡ true
    → 0 < length d.bytes → d.start - 1 ≤ a → a < d.start + length d.bytes → covers_word d ws ≡ true
covers_at d flags ws a m t some low high =
    let g = any_in (λ w. eqb a w) ws (sym (m a) ∙ t) in
    let w = g.0 in
    let e : a ≡ w = eqb-true a w g.2 in
    any_from (λ w. covers w d || covers (w + 1) d) ws w g.1
    (elim (cases_lt a d.start) [
      | inl l ↦
          or_right (covers w d) (covers (w + 1) d)
          (covers-from (w + 1) d (omega (arith, low, e)) (omega (arith, l, e, some)))
      | inr l ↦ or_left (covers w d) (covers (w + 1) d) (covers-from w d (omega (arith, l, e)) (omega (arith, high, e)))
    ])

pub covers_none : (d : LocatedBytes) (flags : List Bool) (ws : List ℕ) → IsListed flags ws
    → ((a : ℕ) → d.start - 1 ≤ a → a < d.start + length d.bytes → get_or flags a false ≡ false)
    → covers_word d ws ≡ false
covers_none d flags ws m none =
    false_from_ne_true (covers_word d ws) (λ t.
    let g = any_in (λ w. covers w d || covers (w + 1) d) ws t in
    let w = g.0 in
    let flagged : get_or flags w false ≡ true = m w ∙ any_from (λ v. eqb w v) ws w g.1 (eq-eqb w w refl) in
    elim (or_cases (covers w d) (covers (w + 1) d) g.2) [
      | inl c ↦ let i = covered_by w d c in true≢false (sym flagged ∙ none w (omega (arith, i.0)) i.1)
      | inr c ↦
          let i = covered_by (w + 1) d c in true≢false (sym flagged ∙ none w (omega (arith, i.0)) (omega (arith, i.1)))
    ])

pub covers_empty : (d : LocatedBytes) (ws : List ℕ) → length d.bytes ≡ 0 → covers_word d ws ≡ false
covers_empty d ws e =
    false_from_ne_true (covers_word d ws) (λ t.
    let g = any_in (λ w. covers w d || covers (w + 1) d) ws t in
    let w = g.0 in
    elim (or_cases (covers w d) (covers (w + 1) d) g.2) [
      | inl c ↦ let i = covered_by w d c in absurd (omega (arith, e, i.0, i.1))
      | inr c ↦ let i = covered_by (w + 1) d c in absurd (omega (arith, e, i.0, i.1))
    ])

-- ---- flags that were looked at one after the other

-- whether one of the flags from first to end is set
abbrev pub IsSeen : (flags : List Bool) (first end : ℕ) → Bool → Type 0
IsSeen flags first end true = (a : ℕ) × (first ≤ a) × (a < end) × (get_or flags a false ≡ true)
IsSeen flags first end false = (a : ℕ) → first ≤ a → a < end → get_or flags a false ≡ false

pub seen_words : (d : LocatedBytes) (flags : List Bool) (ws : List ℕ) (first end : ℕ) (seen : Bool) → IsListed flags ws
    → 0 < length d.bytes → first ≡ d.start - 1 → end ≡ d.start + length d.bytes
    → IsSeen flags first end seen → seen ≡ covers_word d ws
seen_words d flags ws first end true m some f e h =
    sym (covers_at d flags ws h.0 m h.3 some (omega (arith, f, h.1)) (omega (arith, e, h.2)))
seen_words d flags ws first end false m some f e h =
    sym (covers_none d flags ws m (λ a l k. h a (omega (arith, f, l)) (omega (arith, e, k))))
