-- The bytes of repeated data as they were stored, and copies of them laid over an image.
use Rattle.std.proofs.Common.{◌≡◌, ◌⊎◌, eq-eqb, ℕ, zero, suc, ◌+◌, ◌-◌, ◌<◌, ◌≤◌, Bool, true, false, ◌||◌, eqb, List}
use Rattle.std.proofs.Common.{[], ◌∷◌, map, set, replicate, length, get_or, inl, inr, arith, refl, ap, ◌∙◌, sym, subst}
use Rattle.std.proofs.Math.Bool.{or-false}
use Rattle.std.specs.List.{zip, list_any}
use Rattle.std.proofs.lemmas.Bool.{cases_eq, cases_lt, ne_eqb}
use Rattle.std.proofs.lemmas.List.{get_or-set_same, get_or-set_other, length-map, get_or-map, ext_get_or}
use Rattle.omf_record.specs.Expansion.{places, bytes, AreCopies}
use Rattle.omf_image.specs.declared.patch.Patch.{Patch}
use Rattle.omf_image.specs.declared.patch.Patch.TheVariants.{Byte, Word, Relocated}
use Rattle.omf_image.specs.inside.Patches.{patched_all, relocated_places}
use Rattle.omf_image.specs.inside.Marks.{IsMarked}
use Rattle.omf_image.specs.inside.Pages.{IsLaid, MakesPages}
use Rattle.omf_image.specs.inside.States.{State, begun, IsRoom, Holds}
use Rattle.omf_image.specs.inside.Stored.{begins, IsStored}
use Rattle.omf_image.proofs.Law.{length-patched_all}
use Rattle.omf_image.proofs.Meaning.{first_of_zip, second_of_zip}
use Rattle.omf_image.proofs.Leading.{in_page_sized, begun_told}
use Rattle.omf_image.proofs.Holding.{data_at, laid_byte, words_at, length-begun}

-- ---- flags of words
-- the words that patches begin
words_begun : (k : ℕ) (ps : List Patch) → list_any (λ w. eqb k w) (relocated_places ps) ≡ list_any (begins k) ps
words_begun k [] = refl
words_begun k (Byte i v ∷ ps) = words_begun k ps
words_begun k (Word i v ∷ ps) = words_begun k ps
words_begun k (Relocated i v ∷ ps) = ap (λ (b : Bool). eqb k i || b) (words_begun k ps)

-- and their addresses
moved_eqb : (start k i : ℕ) → eqb (start + k) (start + i) ≡ eqb k i
moved_eqb start k i = elim (cases_eq k i) [
  | inl e ↦ eq-eqb (start + k) (start + i) (ap (λ (j : ℕ). start + j) e) ∙ sym (eq-eqb k i e)
  | inr n ↦ ne_eqb (start + k) (start + i) (λ e. n (omega (arith, e))) ∙ sym (ne_eqb k i n)
]

words_moved : (start k : ℕ) (rs : List ℕ)
    → list_any (λ w. eqb (start + k) w) (map (λ i. start + i) rs) ≡ list_any (λ w. eqb k w) rs
words_moved start k [] = refl
words_moved start k (r ∷ rs) =
    ap (λ (b : Bool). b || list_any (λ w. eqb (start + k) w) (map (λ (i : ℕ). start + i) rs)) (moved_eqb start k r)
    ∙ ap (λ (b : Bool). eqb k r || b) (words_moved start k rs)

words_before : (start a : ℕ) (rs : List ℕ) → a < start → list_any (λ w. eqb a w) (map (λ i. start + i) rs) ≡ false
words_before start a [] h = refl
words_before start a (r ∷ rs) h =
    ap (λ (b : Bool). b || list_any (λ w. eqb a w) (map (λ (i : ℕ). start + i) rs))
    (ne_eqb a (start + r) (λ e. omega (arith, h, e)))
    ∙ words_before start a rs h

-- in a list of flags that reaches so far
flags_begun : (ws : List ℕ) (flags : List Bool) (a : ℕ) → a < length flags
    → get_or (begun ws flags) a false ≡ (get_or flags a false || list_any (λ w. eqb a w) ws)
flags_begun ws flags a h = begun_told ws flags a (λ w k e. subst (λ (n : ℕ). n < length flags) e h)

-- ---- the stored bytes
-- one position more
pub copied_next : (ps bs old new : List ℕ) (i k : ℕ) → length bs ≡ length ps → AreCopies (zip ps bs) → i < length ps
    → get_or ps i 0 < length old → new ≡ set old (get_or ps i 0) (get_or bs i 0)
    → (k < i → get_or old (get_or ps k 0) 0 ≡ get_or bs k 0) → k < i + 1 → get_or new (get_or ps k 0) 0 ≡ get_or bs k 0
copied_next ps bs old new i k n copies h room e before l =
    let p = get_or ps i 0 in
    let b = get_or bs i 0 in
    let z : places (zip ps bs) ≡ ps = first_of_zip ps bs (sym n) in
    let y : bytes (zip ps bs) ≡ bs = second_of_zip ps bs (sym n) in
    let m : length (zip ps bs) ≡ length ps = sym (length-map (zip ps bs) (λ (q : ℕ × ℕ). q.0)) ∙ ap length z in
    let at : (j : ℕ) → get_or (places (zip ps bs)) j 0 ≡ get_or ps j 0 = λ j. ap (λ (xs : List ℕ). get_or xs j 0) z in
    let byte : (j : ℕ) → get_or (bytes (zip ps bs)) j 0 ≡ get_or bs j 0 = λ j. ap (λ (xs : List ℕ). get_or xs j 0) y in
    ap (λ (xs : List ℕ). get_or xs (get_or ps k 0) 0) e
    ∙ elim (cases_eq (get_or ps k 0) p) [
      | inl q ↦
          ap (λ (j : ℕ). get_or (set old p b) j 0) q ∙ get_or-set_same old p b 0 room
          ∙ sym (byte i) ∙ sym (copies k i (omega (arith, l, h, m)) (omega (arith, h, m)) (at k ∙ q ∙ sym (at i)))
          ∙ byte k
      | inr q ↦
          get_or-set_other old p (get_or ps k 0) b 0 q
          ∙ before (elim (cases_eq k i) [
            | inl s ↦ absurd (q (ap (λ (j : ℕ). get_or ps j 0) s))
            | inr s ↦ omega (arith, l, s)
          ])
    ]

pub get_or-blank : {A : Type 0} (d : A) (n k : ℕ) → get_or (replicate n d) k d ≡ d
get_or-blank d zero k = refl
get_or-blank d (suc n) zero = refl
get_or-blank d (suc n) (suc k) = get_or-blank d n k

-- ---- copies over an image
zero_plus : (n : ℕ) → 0 + n ≡ n
zero_plus n = omega arith

not_true : (b : Bool) → (b ≡ true → ⊥) → b ≡ false
not_true true h = absurd (h refl)
not_true false h = refl

-- of the data's bytes, each with what is kept at its place
pub record AreLaid (ps laid : List ℕ) (start : ℕ) (s base new : State) : Type 0 where
  pub bytes : laid ≡ map (λ p. get_or s.image p 0) ps
  pub touched : new.touched ≡ map (λ p. get_or s.touched p false) ps
  pub relocated : new.relocated ≡ map (λ p. get_or s.relocated p false) ps
  pub image : IsLaid (data_at start laid) base.image new.image
  pub made : MakesPages (data_at start laid) base.made new.made
  pub words : length new.words ≡ length base.words
  pub flags : (k : ℕ) → k < length ps
      → get_or new.words (start + k) false
      ≡ (get_or base.words (start + k) false || get_or s.words (get_or ps k 0) false)
  pub rest : (a : ℕ) → (a < start) ⊎ (start + length ps ≤ a) → get_or new.words a false ≡ get_or base.words a false

module _ (ps bs laid : List ℕ) (start : ℕ) (s base new : State) (earlier : List Patch) (room : IsRoom 0 s)
    (ends : (k : ℕ) → k < length ps → get_or ps k 0 < length s.touched)
    (inside : start + length ps ≤ length base.image) (h : IsStored ps bs s earlier)
    (c : AreLaid ps laid start s base new) where
  laid_sized : length laid ≡ length ps
  laid_sized = ap length c.bytes ∙ length-map ps (λ (p : ℕ). get_or s.image p 0)

  laid_is : laid ≡ patched_all earlier bs
  laid_is =
      ext_get_or 0 laid (patched_all earlier bs) (laid_sized ∙ sym (length-patched_all earlier bs ∙ h.sized)) (λ k l.
      let m : k < length ps = omega (arith, l, laid_sized) in
      let p = get_or ps k 0 in
      let n : length (patched_all h.once h.contents) ≡ length h.contents = length-patched_all h.once h.contents in
      ap (λ (xs : List ℕ). get_or xs k 0) c.bytes ∙ get_or-map (λ (q : ℕ). get_or s.image q 0) ps k 0 0 m
      ∙ ap (λ (j : ℕ). get_or s.image j 0) (sym (zero_plus p))
      ∙ laid_byte 0 p (patched_all h.once h.contents) h.base.image s.image (omega (arith, n, h.ends k m)) h.holds.image
      ∙ sym (h.twins.copied k m))

  word_at_place : (k : ℕ) → k < length ps → get_or s.words (get_or ps k 0) false ≡ list_any (begins k) earlier
  word_at_place k m =
      let p = get_or ps k 0 in
      let n : length s.words ≡ length h.base.words =
      ap length h.holds.words ∙ length-begun (words_at 0 h.once) h.base.words in
      let a = ends k m in
      let b = room.inside in
      let d = room.words in
      ap (λ (f : List Bool). get_or f p false) h.holds.words
      ∙ flags_begun (words_at 0 h.once) h.base.words p (omega (arith, a, b, d, n))
      ∙ ap (λ (f : Bool). f || list_any (λ w. eqb p w) (words_at 0 h.once)) (h.blank p)
      ∙ ap (λ (j : ℕ). list_any (λ w. eqb j w) (words_at 0 h.once)) (sym (zero_plus p))
      ∙ words_moved 0 p (relocated_places h.once) ∙ words_begun p h.once ∙ sym (h.twins.begun k m)

  words_are : new.words ≡ begun (words_at start earlier) base.words
  words_are =
      ext_get_or false new.words (begun (words_at start earlier) base.words)
      (c.words ∙ sym (length-begun (words_at start earlier) base.words)) (λ a l.
      let m : a < length base.words = omega (arith, l, c.words) in
      let told = flags_begun (words_at start earlier) base.words a m in
      elim (cases_lt a start) [
        | inl before ↦
            c.rest a (inl before) ∙ sym (or-false (get_or base.words a false))
            ∙ ap (λ (b : Bool). get_or base.words a false || b)
            (sym (words_before start a (relocated_places earlier) before)) ∙ sym told
        | inr from ↦
            let k = a - start in
            let e : start + k ≡ a = omega (arith, from) in
            let here : list_any (λ w. eqb a w) (words_at start earlier) ≡ list_any (begins k) earlier =
            ap (λ (j : ℕ). list_any (λ w. eqb j w) (words_at start earlier)) (sym e)
            ∙ words_moved start k (relocated_places earlier) ∙ words_begun k earlier in
            elim (cases_lt k (length ps)) [
              | inl within ↦
                  ap (λ (j : ℕ). get_or new.words j false) (sym e) ∙ c.flags k within
                  ∙ ap (λ (b : Bool). get_or base.words (start + k) false || b) (word_at_place k within)
                  ∙ ap (λ (j : ℕ). get_or base.words j false || list_any (begins k) earlier) e
                  ∙ ap (λ (b : Bool). get_or base.words a false || b) (sym here) ∙ sym told
              | inr past ↦
                  c.rest a (inr (omega (arith, past, e))) ∙ sym (or-false (get_or base.words a false))
                  ∙ ap (λ (b : Bool). get_or base.words a false || b) (sym (none_past k past) ∙ sym here) ∙ sym told
            ]
      ])
    where
      none_past : (k : ℕ) → length ps ≤ k → list_any (begins k) earlier ≡ false
      none_past k past = not_true (list_any (begins k) earlier) (λ t. omega (arith, past, h.twins.inside k t))

  marks_are : IsMarked new.touched new.relocated earlier
  marks_are =
      let ts = length-map ps (λ (p : ℕ). get_or s.touched p false) in
      let rs = length-map ps (λ (p : ℕ). get_or s.relocated p false) in
      record {
        touches_told = λ k l.
            let m : k < length ps = omega (arith, l, ap length c.touched, ts) in
            ap (λ (f : List Bool). get_or f k false) c.touched
            ∙ get_or-map (λ (p : ℕ). get_or s.touched p false) ps k 0 false m
            ∙ h.holds.marked.touches_told (get_or ps k 0) (ends k m) ∙ sym (h.twins.touched k m);
        relocated_told = λ k l.
            let m : k < length ps = omega (arith, l, ap length c.relocated, rs) in
            ap (λ (f : List Bool). get_or f k false) c.relocated
            ∙ get_or-map (λ (p : ℕ). get_or s.relocated p false) ps k 0 false m
            ∙ h.holds.marked.relocated_told (get_or ps k 0) (omega (arith, ends k m, room.same))
            ∙ sym (h.twins.relocated k m);
      }

  pub copies_hold : Holds start bs base new earlier
  copies_hold = record {
    image = subst (λ (xs : List ℕ). IsLaid (data_at start xs) base.image new.image) laid_is c.image;
    made =
        λ k.
        c.made k
        ∙ ap (λ (b : Bool). b || get_or base.made k false) (in_page_sized k start laid bs (laid_sized ∙ sym h.sized));
    words = words_are;
    marked = marks_are;
    sized = ap length c.touched ∙ length-map ps (λ (p : ℕ). get_or s.touched p false) ∙ sym h.sized;
  }
