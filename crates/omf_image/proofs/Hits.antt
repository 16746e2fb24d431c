-- The hits of a fix-up lie at least its width apart, so that what it adds at them is apart.
use Rattle.std.proofs.Common.{◌≡◌, ℕ, zero, suc, ◌+◌, ◌-◌, ◌<◌, ◌≤◌, Bool, true, false, not, ◌||◌, cond, leb, eqb, List}
use Rattle.std.proofs.Common.{[], ◌∷◌, ◌++◌, filter, flat_map, length, get_or, inl, inr, arith, refl, ap, ◌∙◌}
use Rattle.std.proofs.lemmas.Bool.{cases_lt, eqb-true, or_left, or_right, and_from, le-leb, and_parts}
use Rattle.std.proofs.lemmas.List.Folds.{list_all-append}
use Rattle.std.specs.List.{list_all, range_with_len}
use Rattle.omf_module.specs.declared.ResolvedFixup.{ResolvedFixup}
use Rattle.omf_module.specs.Module.{DataRecord}
use Rattle.omf_record.specs.declared.fixups.Location.{Location}
use Rattle.omf_record.specs.declared.fixups.Location.TheVariants.{LowByte, Offset, Base, Pointer, LoaderOffset}
use Rattle.omf_image.specs.declared.patch.Patch.{Patch}
use Rattle.omf_image.specs.declared.patch.Patch.TheVariants.{Word}
use Rattle.omf_image.specs.Patch.{clear}
use Rattle.omf_image.specs.inside.Patches.{all_clear, patch_start, patch_end, is_relocated}
use Rattle.omf_image.specs.declared.reference.Base.{Base as Frame}
use Rattle.omf_image.specs.declared.reference.Base.TheVariants.{Relocatable as Moving, Absolute as Fixed}
use Rattle.omf_image.specs.declared.reference.Resolved.{Resolved}
use Rattle.omf_image.specs.Reference.{frame'}
use Rattle.omf_image.specs.Value.{modulo, base_patch, patches_at}
use Rattle.omf_image.specs.inside.Distances.{from_frame}
use Rattle.omf_record.specs.Expansion.{StandTogether}
use Rattle.omf_record.specs.Numbers.{location_width}
use Rattle.omf_image.specs.Records.{hits, stored_of}
use Rattle.omf_image.specs.inside.WellPlaced.{LiesInContent}
use Rattle.omf_image.proofs.Law.{AllClear}
use Rattle.omf_image.proofs.Members.{In, in_filter}

abbrev pub SpacedBy : ℕ → List ℕ → Type 0
SpacedBy w [] = Unit {0}
SpacedBy w (i ∷ is) = ((j : ℕ) → In j is → i + w ≤ j) × SpacedBy w is

spaced_cond : (w : ℕ) (b : Bool) (x : ℕ) (xs : List ℕ) → (b ≡ true → (j : ℕ) → In j xs → x + w ≤ j) → SpacedBy w xs
    → SpacedBy w (cond b (x ∷ xs) xs)
spaced_cond w true x xs h k = (h refl, k)
spaced_cond w false x xs h k = k

pub spaced_filter : (p : ℕ → Bool) (w a n : ℕ) → ((i j : ℕ) → p i ≡ true → p j ≡ true → i < j → j < a + n → i + w ≤ j)
    → SpacedBy w (filter p (range_with_len a n))
spaced_filter p w a zero gap = tt
spaced_filter p w a (suc n) gap =
    spaced_cond w (p a) a (filter p (range_with_len (a + 1) n))
    (λ t j h. let g = in_filter p (a + 1) n j h in gap a j t g.2 (omega (arith, g.0)) (omega (arith, g.1)))
    (spaced_filter p w (a + 1) n (λ i j s t l m. gap i j s t l (omega arith)))

pub in_hits : (o : ℕ) (stored : List ℕ) (i : ℕ) → In i (hits o stored) → (i < length stored) × (get_or stored i 0 ≡ o)
in_hits o stored i h =
    let g = in_filter (λ i. eqb (get_or stored i 0) o) 0 (length stored) i h in
    (omega (arith, g.1), eqb-true (get_or stored i 0) o g.2)

-- the bytes of a location have stored places of their own, so another hit is past them
far : (o w : ℕ) (stored : List ℕ) → StandTogether o w stored → (i j : ℕ) → get_or stored i 0 ≡ o → get_or stored j 0 ≡ o
    → i < j → j < length stored → i + w ≤ j
far o w stored together i j ei ej l m =
    elim (cases_lt j (i + w)) [
      | inl near ↦
          let k = j - i in
          let e : i + k ≡ j = omega arith in
          let g = (together i k (omega arith) ei (omega arith)).1 in
          absurd (omega (arith, ap (λ (n : ℕ). get_or stored n 0) e, g))
      | inr past ↦ past
    ]

pub spaced_hits : (o w : ℕ) (stored : List ℕ) → StandTogether o w stored → SpacedBy w (hits o stored)
spaced_hits o w stored together = spaced_filter (λ i. eqb (get_or stored i 0) o) w 0 (length stored) (λ i j s t l m.
    let ei : get_or stored i 0 ≡ o = eqb-true (get_or stored i 0) o s in
    let ej : get_or stored j 0 ≡ o = eqb-true (get_or stored j 0) o t in
    far o w stored together i j ei ej l (omega (arith, m)))

pub hits_spaced : (d : DataRecord) (x : ResolvedFixup) → LiesInContent d x
    → SpacedBy (location_width x.location) (hits x.offset (stored_of d))
hits_spaced d x lies = spaced_hits x.offset (location_width x.location) (stored_of d) lies

-- all patches lie from lo to hi
abbrev pub Within : ℕ → ℕ → List Patch → Type 0
Within lo hi [] = Unit {0}
Within lo hi (p ∷ ps) = (lo ≤ patch_start p) × (patch_end p ≤ hi) × Within lo hi ps

pub within_append : (lo hi : ℕ) (ps qs : List Patch) → Within lo hi ps → Within lo hi qs → Within lo hi (ps ++ qs)
within_append lo hi [] qs h k = k
within_append lo hi (p ∷ ps) qs h k = (h.0, h.1, within_append lo hi ps qs h.2 k)

within_wider : (lo hi lo' hi' : ℕ) (ps : List Patch) → lo' ≤ lo → hi ≤ hi' → Within lo hi ps → Within lo' hi' ps
within_wider lo hi lo' hi' [] a b h = tt
within_wider lo hi lo' hi' (p ∷ ps) a b h =
    (omega (arith, h.0), omega (arith, h.1), within_wider lo hi lo' hi' ps a b h.2)

before : (p q : Patch) → patch_end p ≤ patch_start q → clear p q ≡ true
before p q h =
    or_right (not (is_relocated p || is_relocated q))
    (leb (patch_end p) (patch_start q) || leb (patch_end q) (patch_start p))
    (or_left (leb (patch_end p) (patch_start q)) (leb (patch_end q) (patch_start p))
    (le-leb (patch_end p) (patch_start q) h))

before_all : (p : Patch) (m hi : ℕ) (qs : List Patch) → patch_end p ≤ m → Within m hi qs → list_all (clear p) qs ≡ true
before_all p m hi [] h k = refl
before_all p m hi (q ∷ qs) h k =
    and_from (clear p q) (list_all (clear p) qs) (before p q (omega (arith, k.0))) (before_all p m hi qs h k.2)

before_each : (lo m hi : ℕ) (ps qs : List Patch) → Within lo m ps → Within m hi qs → all_clear ps qs ≡ true
before_each lo m hi [] qs h k = refl
before_each lo m hi (p ∷ ps) qs h k =
    and_from (list_all (clear p) qs) (all_clear ps qs) (before_all p m hi qs h.1 k) (before_each lo m hi ps qs h.2 k)

pub clear_append : (ps qs : List Patch) → AllClear ps → AllClear qs → all_clear ps qs ≡ true → AllClear (ps ++ qs)
clear_append [] qs h k c = k
clear_append (p ∷ ps) qs h k c =
    let both = and_parts (list_all (clear p) qs) (all_clear ps qs) c in (
      list_all-append (clear p) ps qs
          ∙ and_from (list_all (clear p) ps) (list_all (clear p) qs) h.0 both.0,
      clear_append ps qs h.1 k both.1,
    )

within_base : (i : ℕ) (f : Frame) (lo hi : ℕ) → lo ≤ i → i + 2 ≤ hi → Within lo hi (base_patch 0 i f ∷ [])
within_base i (Moving f) lo hi h k = (h, k, tt)
within_base i (Fixed f) lo hi h k = (h, k, tt)

-- what is added at one place lies in the location
patches_within : (r : Resolved) (s : Bool) (l : Location) (i a : ℕ)
    → Within i (i + location_width l) (patches_at 0 r s l i a)
patches_within r false LowByte i a = (omega arith, omega arith, tt)
patches_within r false Offset i a = (omega arith, omega arith, tt)
patches_within r false LoaderOffset i a = (omega arith, omega arith, tt)
patches_within r false Base i a = within_base i (frame' r) i (i + 2) (omega arith) (omega arith)
patches_within r false Pointer i a =
    (omega arith, omega arith, within_base (i + 2) (frame' r) i (i + 4) (omega arith) (omega arith))
patches_within r true LowByte i a = (omega arith, omega arith, tt)
patches_within r true Offset i a = (omega arith, omega arith, tt)
patches_within r true LoaderOffset i a = (omega arith, omega arith, tt)
patches_within r true Base i a = (omega arith, omega arith, tt)
patches_within r true Pointer i a = (omega arith, omega arith, tt)

-- and the halves of a pointer are apart
patches_clear : (r : Resolved) (s : Bool) (l : Location) (i a : ℕ) → AllClear (patches_at 0 r s l i a)
patches_clear r false LowByte i a = (refl, tt)
patches_clear r false Offset i a = (refl, tt)
patches_clear r false LoaderOffset i a = (refl, tt)
patches_clear r false Base i a = (refl, tt)
patches_clear r false Pointer i a = (
  before_all (Word i (modulo 65536 (from_frame 0 r))) (i + 2) (i + 4) (base_patch 0 (i + 2) (frame' r) ∷ [])
      (omega arith) (within_base (i + 2) (frame' r) (i + 2) (i + 4) (omega arith) (omega arith)),
  (refl, tt),
)
patches_clear r true LowByte i a = (refl, tt)
patches_clear r true Offset i a = (refl, tt)
patches_clear r true LoaderOffset i a = (refl, tt)
patches_clear r true Base i a = (refl, tt)
patches_clear r true Pointer i a = (refl, tt)

-- the patches of all hits lie past a place and inside the data
pub hits_within : (r : Resolved) (s : Bool) (l : Location) (start lo n : ℕ) (is : List ℕ)
    → ((i : ℕ) → In i is → (lo ≤ i) × (i + location_width l ≤ n))
    → Within lo n (flat_map (λ i. patches_at 0 r s l i (start + i)) is)
hits_within r s l start lo n [] h = tt
hits_within r s l start lo n (i ∷ is) h =
    let here = h i (inl refl) in
    within_append lo n (patches_at 0 r s l i (start + i)) (flat_map (λ i. patches_at 0 r s l i (start + i)) is)
    (within_wider i (i + location_width l) lo n (patches_at 0 r s l i (start + i)) here.0 here.1
    (patches_within r s l i (start + i)))
    (hits_within r s l start lo n is (λ j k. h j (inr k)))

pub hits_clear : (r : Resolved) (s : Bool) (l : Location) (start n : ℕ) (is : List ℕ) → SpacedBy (location_width l) is
    → ((i : ℕ) → In i is → i + location_width l ≤ n) → AllClear (flat_map (λ i. patches_at 0 r s l i (start + i)) is)
hits_clear r s l start n [] spaced room = tt
hits_clear r s l start n (i ∷ is) spaced room =
    let first = patches_at 0 r s l i (start + i) in
    let rest = flat_map (λ i. patches_at 0 r s l i (start + i)) is in
    clear_append first rest (patches_clear r s l i (start + i))
    (hits_clear r s l start n is spaced.1 (λ j k. room j (inr k)))
    (before_each i (i + location_width l) n first rest (patches_within r s l i (start + i))
    (hits_within r s l start (i + location_width l) n is (λ j k. (spaced.0 j k, room j (inr k)))))
