-- What is added once to stored bytes stands for what is added at each hit of repeated data.
use Rattle.std.proofs.Common.{◌≡◌, ℕ, ◌+◌, ◌-◌, ◌<◌, ◌≤◌, Bool, true, false, not, ◌||◌, ◌&&◌, leb, ltb, List, [], ◌∷◌}
use Rattle.std.proofs.Common.{◌++◌, flat_map, length, get_or, inl, inr, arith, refl, ap, ◌∙◌, sym, subst}
use Rattle.std.specs.List.{list_all, list_any}
use Rattle.std.proofs.lemmas.List.{append-nil}
use Rattle.std.proofs.lemmas.List.Folds.{list_any-append}
use Rattle.std.proofs.lemmas.Bool.{or_cases, and_parts, leb-true, ltb-true, eqb-true}
use Rattle.std.proofs.lemmas.Bool.Decides.{nat_tests}
use Rattle.omf_record.specs.declared.fixups.Location.{Location}
use Rattle.omf_record.specs.declared.fixups.Location.TheVariants.{LowByte, Offset, Base, Pointer, LoaderOffset}
use Rattle.omf_record.specs.Expansion.{StandTogether, StandWhole}
use Rattle.omf_record.specs.Numbers.{location_width}
use Rattle.omf_module.specs.declared.ResolvedFixup.{ResolvedFixup}
use Rattle.std.specs.Bool.{then_some}
use Rattle.omf_module.specs.Before.{first}
use Rattle.omf_image.specs.declared.reference.Base.{Base as Frame}
use Rattle.omf_image.specs.declared.reference.Base.TheVariants.{Relocatable as Moving, Absolute as Fixed}
use Rattle.omf_image.specs.declared.faults.FixKind.TheVariants.{Mixed, OutOfFrame, ShortTooFar, OverlapRelocated}
use Rattle.omf_image.specs.declared.patch.Patch.{Patch}
use Rattle.omf_image.specs.declared.patch.Patch.TheVariants.{Byte, Word, Relocated}
use Rattle.omf_image.specs.declared.reference.Resolved.{Resolved}
use Rattle.omf_image.specs.inside.Patches.{all_clear, patched_all, patch_start, patch_end, is_relocated}
use Rattle.omf_image.specs.inside.Marks.{touches, touches_relocated}
use Rattle.omf_image.specs.Reference.{frame'}
use Rattle.omf_image.specs.Value.{modulo, base_patch, patches_at}
use Rattle.omf_image.specs.inside.Distances.{from_frame}
use Rattle.omf_image.specs.Faults.{first_test, is_mixed, out_of_frame}
use Rattle.omf_image.specs.inside.States.{State, at_start, Holds}
use Rattle.omf_image.specs.Records.{hits, patches_on}
use Rattle.omf_image.specs.inside.Stored.{Copied, begins, Agree, Twins, IsStored, once_at}
use Rattle.omf_image.proofs.Law.{AllInside, length-patched_all}
use Rattle.omf_image.proofs.Holding.{patched_all-append}
use Rattle.omf_image.proofs.Hits.{in_hits, spaced_hits}
use Rattle.omf_image.proofs.Touched.{relocated_clear, word_clear, byte_clear, clear_nothing, clear_parts, clear_flat}
use Rattle.omf_image.proofs.Copies.{at_hit, copied_still, hits_have}
use Rattle.omf_image.proofs.Records.{width_some}
use Rattle.omf_image.proofs.Members.{any_from, any_in, In}

plus_zero : (i : ℕ) → i + 0 ≡ i
plus_zero i = omega arith

-- ---- what is asked of the bytes of a patch
-- it moves with the patch, and is true of its bytes alone
pub record OfBytes (tells : ℕ → Patch → Bool) : Type 0 where
  pub moved : (n k : ℕ) (p : Patch) → tells (n + k) (at_start n p) ≡ tells k p
  pub within : (k : ℕ) (p : Patch) → tells k p ≡ true → (patch_start p ≤ k) × (k < patch_end p)

touches_moved : (n k : ℕ) (p : Patch) → touches (n + k) (at_start n p) ≡ touches k p
touches_moved n k (Byte i v) = grind (arith, nat_tests)
touches_moved n k (Word i v) = grind (arith, nat_tests)
touches_moved n k (Relocated i v) = grind (arith, nat_tests)

touches_within : (k : ℕ) (p : Patch) → touches k p ≡ true → (patch_start p ≤ k) × (k < patch_end p)
touches_within k p h =
    let both = and_parts (leb (patch_start p) k) (ltb k (patch_end p)) h in
    (leb-true (patch_start p) k both.0, ltb-true k (patch_end p) both.1)

pub touches_bytes : OfBytes touches
touches_bytes = record { moved = touches_moved; within = touches_within }

relocated_moved : (n k : ℕ) (p : Patch) → touches_relocated (n + k) (at_start n p) ≡ touches_relocated k p
relocated_moved n k (Byte i v) = refl
relocated_moved n k (Word i v) = refl
relocated_moved n k (Relocated i v) = touches_moved n k (Relocated i v)

relocated_within : (k : ℕ) (p : Patch) → touches_relocated k p ≡ true → (patch_start p ≤ k) × (k < patch_end p)
relocated_within k p h = touches_within k p (and_parts (is_relocated p) (touches k p) h).1

pub relocated_bytes : OfBytes touches_relocated
relocated_bytes = record { moved = relocated_moved; within = relocated_within }

begins_moved : (n k : ℕ) (p : Patch) → begins (n + k) (at_start n p) ≡ begins k p
begins_moved n k (Byte i v) = refl
begins_moved n k (Word i v) = refl
begins_moved n k (Relocated i v) = grind (arith, nat_tests)

begins_within : (k : ℕ) (p : Patch) → begins k p ≡ true → (patch_start p ≤ k) × (k < patch_end p)
begins_within k (Byte i v) h = cc
begins_within k (Word i v) h = cc
begins_within k (Relocated i v) h = let e = eqb-true k i h in (omega (arith, e), omega (arith, e))

pub begins_bytes : OfBytes begins
begins_bytes = record { moved = begins_moved; within = begins_within }

start_moved : (n : ℕ) (p : Patch) → patch_start (at_start n p) ≡ n + patch_start p
start_moved n (Byte i v) = refl
start_moved n (Word i v) = refl
start_moved n (Relocated i v) = refl

end_moved : (n : ℕ) (p : Patch) → patch_end (at_start n p) ≡ n + patch_end p
end_moved n (Byte i v) = omega arith
end_moved n (Word i v) = omega arith
end_moved n (Relocated i v) = omega arith

-- ---- at one hit
any_moved : (tells : ℕ → Patch → Bool) → OfBytes tells → (n k : ℕ) (ps : List Patch)
    → list_any (tells (n + k)) (at_hit ps n) ≡ list_any (tells k) ps
any_moved tells of n k [] = refl
any_moved tells of n k (p ∷ ps) =
    ap (λ (b : Bool). b || list_any (tells (n + k)) (at_hit ps n)) (of.moved n k p)
    ∙ ap (λ (b : Bool). tells k p || b) (any_moved tells of n k ps)

any_within : (tells : ℕ → Patch → Bool) → OfBytes tells → (n w k : ℕ) (ps : List Patch) → AllInside w ps
    → list_any (tells k) (at_hit ps n) ≡ true → (n ≤ k) × (k < n + w)
any_within tells of n w k [] inside h = cc
any_within tells of n w k (p ∷ ps) inside h =
    elim (or_cases (tells k (at_start n p)) (list_any (tells k) (at_hit ps n)) h) [
      | inl t ↦
          let g = of.within k (at_start n p) t in
          let a = start_moved n p in
          let b = end_moved n p in
          let c = inside.0 in
          (omega (arith, g.0, a), omega (arith, g.1, b, c))
      | inr t ↦ any_within tells of n w k ps inside.1 t
    ]

-- ---- at all hits
alike : (a b : Bool) → (a ≡ true → b ≡ true) → (b ≡ true → a ≡ true) → a ≡ b
alike true b to from = sym (to refl)
alike false true to from = from refl
alike false false to from = refl

any_flat : (test : Patch → Bool) (f : ℕ → List Patch) (is : List ℕ)
    → list_any test (flat_map f is) ≡ list_any (λ i. list_any test (f i)) is
any_flat test f [] = refl
any_flat test f (i ∷ is) =
    list_any-append test (f i) (flat_map f is) ∙ ap (λ (b : Bool). list_any test (f i) || b) (any_flat test f is)

module _ (tells : ℕ → Patch → Bool) (of : OfBytes tells) (places : List ℕ) (o w : ℕ) (ps : List Patch)
    (inside : AllInside w ps) (together : StandTogether o w places) where
  -- one that is told at a hit is told at the place
  told_once : (i k : ℕ) → In i (hits o places) → list_any (tells k) (at_hit ps i) ≡ true
      → (k < length places) × (list_any (tells (get_or places k 0)) (at_hit ps o) ≡ true)
  told_once i k at t =
      let g = in_hits o places i at in
      let near = any_within tells of i w k ps inside t in
      let d = k - i in
      let e : i + d ≡ k = omega (arith, near.0) in
      let there = together i d g.0 g.1 (omega (arith, near.0, near.1)) in
      let place : get_or places k 0 ≡ o + d = ap (λ (j : ℕ). get_or places j 0) (sym e) ∙ there.1 in (
        omega (arith, there.0, e),
        ap (λ (j : ℕ). list_any (tells j) (at_hit ps o)) place ∙ any_moved tells of o d ps
            ∙ sym (any_moved tells of i d ps) ∙ ap (λ (j : ℕ). list_any (tells j) (at_hit ps i)) e ∙ t,
      )

  any_inside : (k : ℕ) → list_any (tells k) (flat_map (at_hit ps) (hits o places)) ≡ true → k < length places
  any_inside k h =
      let found =
      any_in (λ i. list_any (tells k) (at_hit ps i)) (hits o places)
      (sym (any_flat (tells k) (at_hit ps) (hits o places)) ∙ h) in
      (told_once found.0 k found.1 found.2).0

  any_hits : StandWhole o w places → (k : ℕ) → k < length places
      → list_any (tells k) (flat_map (at_hit ps) (hits o places)) ≡ list_any (tells (get_or places k 0)) (at_hit ps o)
  any_hits whole k h =
      any_flat (tells k) (at_hit ps) (hits o places)
      ∙ alike (list_any (λ i. list_any (tells k) (at_hit ps i)) (hits o places))
      (list_any (tells (get_or places k 0)) (at_hit ps o))
      (λ t.
      let found = any_in (λ i. list_any (tells k) (at_hit ps i)) (hits o places) t in
      (told_once found.0 k found.1 found.2).1)
      (λ t.
      let near = any_within tells of o w (get_or places k 0) ps inside t in
      let d = get_or places k 0 - o in
      let place : get_or places k 0 ≡ o + d = omega (arith, near.0) in
      let g = whole k d h (omega (arith, near.0, near.1)) place in
      let i = k - d in
      let e : i + d ≡ k = omega (arith, g.0) in
      any_from (λ i. list_any (tells k) (at_hit ps i)) (hits o places) i (hits_have o places i (omega (arith, h)) g.1)
      (ap (λ (j : ℕ). list_any (tells j) (at_hit ps i)) (sym e) ∙ any_moved tells of i d ps
      ∙ sym (any_moved tells of o d ps) ∙ ap (λ (j : ℕ). list_any (tells j) (at_hit ps o)) (sym place) ∙ t))

and_true : (b : Bool) → (b && true) ≡ b
and_true true = refl
and_true false = refl

and_same : (b : Bool) → (b && b) ≡ b
and_same true = refl
and_same false = refl

all_as : (test : ℕ → Bool) (b : Bool) (i : ℕ) (is : List ℕ) → ((j : ℕ) → In j (i ∷ is) → test j ≡ b)
    → list_all test (i ∷ is) ≡ b
all_as test b i [] h = ap (λ (c : Bool). c && true) (h i (inl refl)) ∙ and_true b
all_as test b i (j ∷ is) h =
    ap (λ (c : Bool). c && list_all test (j ∷ is)) (h i (inl refl))
    ∙ ap (λ (c : Bool). b && c) (all_as test b j is (λ k at. h k (inr at))) ∙ and_same b

-- ---- one fix-up more
-- of two bytes, one after the other
two : (tells : ℕ → Patch → Bool) (earlier once : List Patch) (i o e : ℕ)
    → list_any (tells (i + e)) earlier ≡ list_any (tells (o + e)) once
    → list_any (tells (i + (e + 1))) earlier ≡ list_any (tells (o + (e + 1))) once
    → (list_any (tells (i + e)) earlier || list_any (tells (i + e + 1)) earlier)
    ≡ (list_any (tells (o + e)) once || list_any (tells (o + e + 1)) once)
two tells earlier once i o e low high =
    let next : (n : ℕ) → n + e + 1 ≡ n + (e + 1) = λ n. omega arith in
    ap (λ (b : Bool). b || list_any (tells (i + e + 1)) earlier) low
    ∙ ap (λ (b : Bool). list_any (tells (o + e)) once || b)
    (ap (λ (k : ℕ). list_any (tells k) earlier) (next i) ∙ high
    ∙ ap (λ (k : ℕ). list_any (tells k) once) (sym (next o)))

agree_more : (tells : ℕ → Patch → Bool) (places : List ℕ) (earlier once more more' : List Patch)
    → Agree tells places earlier once → Agree tells places more more'
    → Agree tells places (earlier ++ more) (once ++ more')
agree_more tells places earlier once more more' a b k h =
    let p = get_or places k 0 in
    list_any-append (tells k) earlier more ∙ ap (λ (c : Bool). c || list_any (tells k) more) (a k h)
    ∙ ap (λ (c : Bool). list_any (tells p) once || c) (b k h)
    ∙ sym (list_any-append (tells p) once more')

copied_as : (contents contents' places bytes bytes' : List ℕ) → contents' ≡ contents → bytes' ≡ bytes
    → Copied contents places bytes → Copied contents' places bytes'
copied_as contents contents' places bytes bytes' e f h k l =
    ap (λ (b : List ℕ). get_or b k 0) f ∙ h k l ∙ ap (λ (c : List ℕ). get_or c (get_or places k 0) 0) (sym e)

module _ (places bytes contents : List ℕ) (earlier once : List Patch) (o w : ℕ) (ps : List Patch)
    (sized : length bytes ≡ length places) (ends : (k : ℕ) → k < length places → get_or places k 0 < length contents)
    (inside : AllInside w ps) (some : 0 < w) (together : StandTogether o w places) (whole : StandWhole o w places)
    (twins : Twins places bytes contents earlier once) where
  location_room : (i : ℕ) → In i (hits o places) → o + w ≤ length contents
  location_room i at =
      let g = in_hits o places i at in
      let last = together i (w - 1) g.0 g.1 (omega (arith, some)) in
      let end = ends (i + (w - 1)) last.0 in
      omega (arith, last.1, end, some)

  twins_at : (i : ℕ) → In i (hits o places)
      → Twins places bytes contents (earlier ++ flat_map (at_hit ps) (hits o places)) (once ++ at_hit ps o)
  twins_at i at =
      let all = flat_map (at_hit ps) (hits o places) in
      let n = length-patched_all once contents in
      let m = length-patched_all earlier bytes in
      record {
        copied =
            copied_as _ _ places _ _ (patched_all-append once (at_hit ps o) contents)
            (patched_all-append earlier all bytes)
            (copied_still (patched_all once contents) places (patched_all earlier bytes) o w ps inside
            (omega (arith, n, location_room i at)) (m ∙ sized) together whole (spaced_hits o w places together) some
            twins.copied);
        touched =
            agree_more touches places earlier once all (at_hit ps o) twins.touched
            (any_hits touches touches_bytes places o w ps inside together whole);
        relocated =
            agree_more touches_relocated places earlier once all (at_hit ps o) twins.relocated
            (any_hits touches_relocated relocated_bytes places o w ps inside together whole);
        begun =
            agree_more begins places earlier once all (at_hit ps o) twins.begun
            (any_hits begins begins_bytes places o w ps inside together whole);
        inside =
            λ k h.
            elim (or_cases (list_any (begins k) earlier) (list_any (begins k) all)
            (sym (list_any-append (begins k) earlier all) ∙ h)) [
              | inl t ↦ twins.inside k t
              | inr t ↦ any_inside begins begins_bytes places o w ps inside together k t
            ];
      }

  twins_more : (is : List ℕ) → is ≡ hits o places
      → Twins places bytes contents (earlier ++ flat_map (at_hit ps) is) (once ++ flat_map (at_hit ps) (once_at o is))
  twins_more [] e =
      subst (λ (l : List Patch). Twins places bytes contents l (once ++ [])) (sym (append-nil earlier))
      (subst (λ (l : List Patch). Twins places bytes contents earlier l) (sym (append-nil once)) twins)
  twins_more (i ∷ is) e =
      subst
      (λ (l : List ℕ). Twins places bytes contents (earlier ++ flat_map (at_hit ps) l) (once ++ (at_hit ps o ++ [])))
      (sym e)
      (subst
      (λ (l : List Patch). Twins places bytes contents (earlier ++ flat_map (at_hit ps) (hits o places)) (once ++ l))
      (sym (append-nil (at_hit ps o)))
      (twins_at i (subst (λ (l : List ℕ). In i l) e (inl refl))))

  -- ---- the test of an overlap
  clear_byte_at : (i d : ℕ) → i < length places → get_or places i 0 ≡ o → d < w → (tells : ℕ → Patch → Bool)
      → Agree tells places earlier once → list_any (tells (i + d)) earlier ≡ list_any (tells (o + d)) once
  clear_byte_at i d h e l tells agree =
      let g = together i d h e l in
      agree (i + d) g.0 ∙ ap (λ (j : ℕ). list_any (tells j) once) g.1

  clear_one : (i : ℕ) (p : Patch) → i < length places → get_or places i 0 ≡ o → patch_end p ≤ w
      → all_clear earlier (at_start i p ∷ []) ≡ all_clear once (at_start o p ∷ [])
  clear_one i (Byte e v) h q l =
      byte_clear (i + e) v earlier ∙ ap not (clear_byte_at i e h q (omega (arith, l)) touches_relocated twins.relocated)
      ∙ sym (byte_clear (o + e) v once)
  clear_one i (Word e v) h q l =
      word_clear (i + e) v earlier
      ∙ ap not
      (two touches_relocated earlier once i o e
      (clear_byte_at i e h q (omega (arith, l)) touches_relocated twins.relocated)
      (clear_byte_at i (e + 1) h q (omega (arith, l)) touches_relocated twins.relocated))
      ∙ sym (word_clear (o + e) v once)
  clear_one i (Relocated e v) h q l =
      relocated_clear (i + e) v earlier
      ∙ ap not
      (two touches earlier once i o e (clear_byte_at i e h q (omega (arith, l)) touches twins.touched)
      (clear_byte_at i (e + 1) h q (omega (arith, l)) touches twins.touched))
      ∙ sym (relocated_clear (o + e) v once)

  clear_hit : (qs : List Patch) → AllInside w qs → (i : ℕ) → In i (hits o places)
      → all_clear earlier (at_hit qs i) ≡ all_clear once (at_hit qs o)
  clear_hit [] k i at = clear_nothing earlier ∙ sym (clear_nothing once)
  clear_hit (q ∷ qs) k i at =
      let g = in_hits o places i at in
      clear_parts earlier (at_start i q ∷ []) (at_hit qs i)
      ∙ ap (λ (b : Bool). b && all_clear earlier (at_hit qs i)) (clear_one i q g.0 g.1 k.0)
      ∙ ap (λ (b : Bool). all_clear once (at_start o q ∷ []) && b) (clear_hit qs k.1 i at)
      ∙ sym (clear_parts once (at_start o q ∷ []) (at_hit qs o))

  clear_more : (is : List ℕ) → is ≡ hits o places
      → all_clear earlier (flat_map (at_hit ps) is) ≡ all_clear once (flat_map (at_hit ps) (once_at o is))
  clear_more [] e = clear_nothing earlier ∙ sym (clear_nothing once)
  clear_more (i ∷ is) e =
      clear_flat earlier (at_hit ps) (i ∷ is)
      ∙ all_as (λ j. all_clear earlier (at_hit ps j)) (all_clear once (at_hit ps o)) i is
      (λ j at. clear_hit ps inside j (subst (λ (l : List ℕ). In j l) e at))
      ∙ ap (all_clear once) (sym (append-nil (at_hit ps o)))

-- ---- a fix-up that isn't self-relative
base_at : (i e : ℕ) (f : Frame) → base_patch 0 (i + e) f ∷ [] ≡ at_hit (base_patch 0 e f ∷ []) i
base_at i e (Moving f) = refl
base_at i e (Fixed f) = refl

base_inside : (w e : ℕ) (f : Frame) → e + 2 ≤ w → AllInside w (base_patch 0 e f ∷ [])
base_inside w e (Moving f) h = (h, tt)
base_inside w e (Fixed f) h = (h, tt)

inside_location : (r : Resolved) (l : Location) → AllInside (location_width l) (patches_at 0 r false l 0 0)
inside_location r LowByte = (omega arith, tt)
inside_location r Offset = (omega arith, tt)
inside_location r LoaderOffset = (omega arith, tt)
inside_location r Base = base_inside 2 0 (frame' r) (omega arith)
inside_location r Pointer = (omega arith, base_inside 4 2 (frame' r) (omega arith))

at_place : (r : Resolved) (l : Location) (i a : ℕ) → patches_at 0 r false l i a ≡ at_hit (patches_at 0 r false l 0 0) i
at_place r LowByte i a = ap (λ (j : ℕ). Byte j (modulo 256 (from_frame 0 r)) ∷ []) (sym (plus_zero i))
at_place r Offset i a = ap (λ (j : ℕ). Word j (modulo 65536 (from_frame 0 r)) ∷ []) (sym (plus_zero i))
at_place r LoaderOffset i a = ap (λ (j : ℕ). Word j (modulo 65536 (from_frame 0 r)) ∷ []) (sym (plus_zero i))
at_place r Base i a = ap (λ (j : ℕ). base_patch 0 j (frame' r) ∷ []) (sym (plus_zero i)) ∙ base_at i 0 (frame' r)
at_place r Pointer i a =
    ap (λ (j : ℕ). Word j (modulo 65536 (from_frame 0 r)) ∷ base_patch 0 (i + 2) (frame' r) ∷ []) (sym (plus_zero i))
    ∙ ap (λ (l : List Patch). Word (i + 0) (modulo 65536 (from_frame 0 r)) ∷ l) (base_at i 2 (frame' r))

flat_same : (f g : ℕ → List Patch) → ((i : ℕ) → f i ≡ g i) → (is : List ℕ) → flat_map f is ≡ flat_map g is
flat_same f g e [] = refl
flat_same f g e (i ∷ is) =
    ap (λ (l : List Patch). l ++ flat_map f is) (e i) ∙ ap (λ (l : List Patch). g i ++ l) (flat_same f g e is)

out_same : (r : Resolved) (l : Location) (is is' : List ℕ) (start start' : ℕ)
    → out_of_frame false l r is start ≡ out_of_frame false l r is' start'
out_same r LowByte is is' start start' = refl
out_same r Offset is is' start start' = refl
out_same r LoaderOffset is is' start start' = refl
out_same r Base is is' start start' = refl
out_same r Pointer is is' start start' = refl

added_at : (r : Resolved) (l : Location) (start : ℕ) (is : List ℕ)
    → patches_on 0 r false l start is ≡ flat_map (at_hit (patches_at 0 r false l 0 0)) is
added_at r l start is = flat_same _ _ (λ i. at_place r l i (start + i)) is

module _ (r : Resolved) (l : Location) (start o : ℕ) (places bytes contents : List ℕ) (earlier once : List Patch)
    (sized : length bytes ≡ length places) (ends : (k : ℕ) → k < length places → get_or places k 0 < length contents)
    (together : StandTogether o (location_width l) places) (whole : StandWhole o (location_width l) places)
    (twins : Twins places bytes contents earlier once) where
  same_tests : (is : List ℕ) → is ≡ hits o places
      → first_test r false l start is earlier ≡ first_test r false l 0 (once_at o is) once
  same_tests is e =
      let ps = patches_at 0 r false l 0 0 in
      ap (λ (b : Bool).
      first
      (then_some (is_mixed false l r) Mixed ∷ then_some b OutOfFrame ∷ then_some false ShortTooFar
      ∷ then_some (not (all_clear earlier (patches_on 0 r false l start is))) OverlapRelocated ∷ []))
      (out_same r l is (once_at o is) start 0)
      ∙ ap
      (λ (b : Bool).
      first
      (then_some (is_mixed false l r) Mixed ∷ then_some (out_of_frame false l r (once_at o is) 0) OutOfFrame
      ∷ then_some false ShortTooFar ∷ then_some (not b) OverlapRelocated ∷ []))
      (ap (all_clear earlier) (added_at r l start is)
      ∙ clear_more places bytes contents earlier once o (location_width l) ps sized ends (inside_location r l)
      (width_some l) together whole twins is e
      ∙ ap (all_clear once) (sym (added_at r l 0 (once_at o is))))

  same_patches : (is : List ℕ) → is ≡ hits o places
      → Twins places bytes contents (earlier ++ patches_on 0 r false l start is)
      (once ++ patches_on 0 r false l 0 (once_at o is))
  same_patches is e =
      let ps = patches_at 0 r false l 0 0 in
      subst
      (λ (x : List Patch). Twins places bytes contents (earlier ++ x) (once ++ patches_on 0 r false l 0 (once_at o is)))
      (sym (added_at r l start is))
      (subst (λ (x : List Patch). Twins places bytes contents (earlier ++ flat_map (at_hit ps) is) (once ++ x))
      (sym (added_at r l 0 (once_at o is)))
      (twins_more places bytes contents earlier once o (location_width l) ps sized ends (inside_location r l)
      (width_some l) together whole twins is e))

-- ---- the state of the stored bytes
module _ (x : ResolvedFixup) (r : Resolved) (start : ℕ) (places bytes is : List ℕ) (now : State) (earlier : List Patch)
    (plain : x.self_relative ≡ false) (at : is ≡ hits x.offset places)
    (together : StandTogether x.offset (location_width x.location) places)
    (whole : StandWhole x.offset (location_width x.location) places) (s : IsStored places bytes now earlier) where
  pub stored_test : first_test r x.self_relative x.location start is earlier
      ≡ first_test r x.self_relative x.location 0 (once_at x.offset is) s.once
  stored_test =
      let l = x.location in
      ap (λ (b : Bool). first_test r b l start is earlier) plain
      ∙ same_tests r l start x.offset places bytes s.contents earlier s.once s.sized s.ends together whole s.twins is at
      ∙ ap (λ (b : Bool). first_test r b l 0 (once_at x.offset is) s.once) (sym plain)

  pub stored_more : (new : State)
      → Holds 0 s.contents s.base new (s.once ++ patches_on 0 r x.self_relative x.location 0 (once_at x.offset is))
      → IsStored places bytes new (earlier ++ patches_on 0 r x.self_relative x.location start is)
  stored_more new h =
      let l = x.location in
      record {
        contents = s.contents;
        base = s.base;
        once = s.once ++ patches_on 0 r x.self_relative x.location 0 (once_at x.offset is);
        sized = s.sized;
        ends = s.ends;
        blank = s.blank;
        holds = h;
        twins =
            subst
            (λ (b : Bool).
            Twins places bytes s.contents (earlier ++ patches_on 0 r b l start is)
            (s.once ++ patches_on 0 r b l 0 (once_at x.offset is))) (sym plain)
            (same_patches r l start x.offset places bytes s.contents earlier s.once s.sized s.ends together whole
            s.twins is at);
      }

-- where there is a hit, the location lies in the stored bytes
pub stored_room : (o w : ℕ) (places is : List ℕ) (n k : ℕ) → 0 < w → StandTogether o w places → is ≡ hits o places
    → ((j : ℕ) → j < length places → get_or places j 0 < n) → k < length (once_at o is)
    → get_or (once_at o is) k 0 + w ≤ n
stored_room o w places [] n k some together e ends h = absurd (omega (arith, h))
stored_room o w places (i ∷ is) n k some together e ends h =
    let g = in_hits o places i (subst (λ (l : List ℕ). In i l) e (inl refl)) in
    let last = together i (w - 1) g.0 g.1 (omega (arith, some)) in
    let end = ends (i + (w - 1)) last.0 in
    let z : k ≡ 0 = omega (arith, h) in
    omega (arith, ap (λ (j : ℕ). get_or (o ∷ []) j 0) z, last.1, end, some)

-- before any fix-up
pub stored_first : (places bytes contents : List ℕ) (base now : State) → length bytes ≡ length places
    → ((k : ℕ) → k < length places → get_or places k 0 < length contents)
    → ((k : ℕ) → get_or base.words k false ≡ false) → Copied contents places bytes → Holds 0 contents base now []
    → IsStored places bytes now []
stored_first places bytes contents base now n ends blank copied h = record {
  contents = contents;
  base = base;
  once = [];
  sized = n;
  ends = ends;
  blank = blank;
  holds = h;
  twins = record {
    copied = copied;
    touched = λ k l. refl;
    relocated = λ k l. refl;
    begun = λ k l. refl;
    inside = λ k l. cc;
  };
}
