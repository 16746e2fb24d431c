-- By how many bytes the first that is too long is.
use Rattle.std.proofs.Common.{◌≡◌, ℕ, ◌+◌, ◌-◌, ◌*◌, ◌/◌, ◌<◌, ◌≤◌, Bool, true, false, cond, nat_lt, List, [], ◌∷◌}
use Rattle.std.proofs.Common.{◌++◌, ◌^◌, find, length, map, Option, Some, None, slice_get, get_or, refl, ap, sym, subst}
use Rattle.std.proofs.Common.{◌∙◌, arith, is_some}
use Rattle.std.proofs.lemmas.Bool.{ltb-true, ltb-false, lt-ltb, le-ltb}
use Rattle.std.proofs.lemmas.List.Folds.{find-append}
use Rattle.std.proofs.lemmas.Option.{get_or_from_slice_get, slice_get-map, slice_get_within}
use Rattle.std.specs.List.{AllByRecursion}
use Rattle.std.specs.Option.{option_map, option_map_or, option_or}
use Rattle.omf_module.specs.Module.{Module}
use Rattle.omf_place.specs.Excess.{IsExcessOf, excess_in, excesses, group_excess, group_excesses}
use Rattle.omf_place.specs.Excess.{segment_excess, segment_excesses}
use Rattle.omf_place.specs.Faults.{GroupTooLong, PlacementFault, ProgramTooLarge, SegmentTooLong}
use Rattle.omf_place.specs.Faults.{group_fault, is_too_long, segment_fault}
use Rattle.omf_place.specs.Parts.{Site, first_of_segment, placement_order, sites}
use Rattle.omf_place.specs.Placed.{IsPlaced, leads}
use Rattle.omf_place.specs.Tables.{Grpdef, group_span, grpdefs, leaders, segment_end, segment_frame}
use Rattle.omf_place.specs.declared.sites.Site as stored
use Rattle.omf_place.specs.declared.spans.SegmentSpan.{SegmentSpan}
use Rattle.omf_place.specs.inside.Numbered.{IsNumberedFrom}
use Rattle.omf_place.specs.inside.OfProgram.{is_long_group}
use Rattle.omf_place.specs.inside.Placing.{IsOnlyPlacement}
use Rattle.omf_place.specs.inside.Sites.{site, sites_view}
use Rattle.omf_place.specs.inside.Small.{IsSmall}
use Rattle.omf_place.specs.inside.Spans.{AreSpans, addresses_in, span_of}
use Rattle.omf_place.specs.inside.Steps.{is_long_segment, size_fault}
use Rattle.omf_place.proofs.Walks.{All-filter, found_in_order}

-- ---- the first of what is asked of each

pub find-mapped : {X Y : Type 0} (p : Y → Bool) (f : X → Y) (xs : List X)
    → find p (map f xs) ≡ option_map f (find (λ x. p (f x)) xs)
find-mapped p f [] = refl
find-mapped p f (x ∷ xs) =
    elim (p (f x)) as (λ b. cond b (Some (f x)) (find p (map f xs))
    ≡ option_map f (cond b (Some x) (find (λ y. p (f y)) xs)))
    [ true ↦ refl | false ↦ find-mapped p f xs ]

pub find-same : {X : Type 0} (p q : X → Bool) (xs : List X) → ((x : X) → p x ≡ q x) → find p xs ≡ find q xs
find-same p q [] same = refl
find-same p q (x ∷ xs) same = rw (same x, find-same p q xs same) refl

-- what is found has what each has
pub found-all : {X : Type 0} (P : X → Type 0) (p : X → Bool) (xs : List X) (x : X) → AllByRecursion P xs
    → find p xs ≡ Some x → P x
found-all P p [] x all e = absurd (let v : None ≡ Some x = e in cc)
found-all P p (y ∷ ys) x all e =
    (elim (p y) as (λ b. cond b (Some y) (find p ys) ≡ Some x → P x) [
      | true ↦ λ h. let same : y ≡ x = cc in subst P same all.0
      | false ↦ λ h. found-all P p ys x all.1 h
    ]) e

-- ---- what is too long is so by some bytes

pub positive : (n limit : ℕ) → nat_lt 0 (n - limit) ≡ nat_lt limit n
positive n limit =
    (elim (nat_lt limit n) as (λ b. nat_lt limit n ≡ b → nat_lt 0 (n - limit) ≡ b) [
      | true ↦ λ t. let h : limit < n = ltb-true _ _ t in lt-ltb 0 (n - limit) (omega arith)
      | false ↦ λ t. let h : n ≤ limit = ltb-false _ _ t in le-ltb 0 (n - limit) (omega arith)
    ]) refl

-- ---- combined segments

module _ (ss : List Site) (A : List ℕ) where
  -- that of the first which is too long
  pub segment-found : (o : Option Site) → o ≡ find (is_long_segment ss A) (leaders ss)
      → option_map (segment_excess ss A) o ≡ find (nat_lt 0) (segment_excesses ss A)
  segment-found o is =
      ap (option_map (segment_excess ss A))
      (is ∙ find-same (is_long_segment ss A) (λ a. nat_lt 0 (segment_excess ss A a)) (leaders ss)
      (λ a. sym (positive (segment_end ss A a) (16 * segment_frame ss A a + 65536))))
      ∙ sym (find-mapped (nat_lt 0) (segment_excess ss A) (leaders ss))

-- the first that is too long, as the code holds it
module _ (held : List stored.Site) (spans : List SegmentSpan) (x : stored.Site)
    (numbered : IsNumberedFrom 0 (sites_view held)) (are : AreSpans (sites_view held) spans)
    (is : Some (site x)
    ≡ find (is_long_segment (sites_view held) (addresses_in spans)) (leaders (sites_view held))) where
  leader-at : slice_get (sites_view held) x.position ≡ Some (site x)
  leader-at =
      let ss = sites_view held in
      found-all (λ a. slice_get ss a.position ≡ Some a) (is_long_segment ss (addresses_in spans)) (leaders ss) (site x)
      (All-filter (λ a. slice_get ss a.position ≡ Some a) (leads ss) (placement_order ss) (found_in_order ss numbered))
      (sym is)

  leader-there : slice_get spans x.position ≡ Some (span_of (sites_view held) (addresses_in spans) (site x))
  leader-there =
      let ss = sites_view held in
      let f = span_of ss (addresses_in spans) in
      ap (λ xs. slice_get xs x.position) are ∙ slice_get-map f ss x.position ∙ ap (option_map f) leader-at

  pub leader-within : x.position < length spans
  leader-within = slice_get_within spans x.position _ leader-there

  pub leader-span : (d : SegmentSpan)
      → get_or spans x.position d ≡ span_of (sites_view held) (addresses_in spans) (site x)
  leader-span d = get_or_from_slice_get spans x.position _ d leader-there

  pub leader-small : (d : SegmentSpan) → IsSmall (addresses_in spans) → (get_or spans x.position d).start < 2 ^ 127
  leader-small d small =
      subst (λ (s : SegmentSpan). s.start < 2 ^ 127) (sym (leader-span d))
      (small (first_of_segment (sites_view held) (site x)))

  pub leader-excess : (d : SegmentSpan) (n : ℕ)
      → n ≡ excess_in ((get_or spans x.position d).start / 16) (get_or spans x.position d).end
      → Some n ≡ find (nat_lt 0) (segment_excesses (sites_view held) (addresses_in spans))
  leader-excess d n e =
      ap Some (e ∙ ap (λ (s : SegmentSpan). excess_in (s.start / 16) s.end) (leader-span d))
      ∙ segment-found (sites_view held) (addresses_in spans) (Some (site x)) is

-- ---- groups

module _ (program : List Module) (A : List ℕ) where
  -- a group is too long by some bytes
  group-positive : (name : List ℕ) → nat_lt 0 (group_excess program A name) ≡ is_long_group program A name
  group-positive name =
      elim (group_span program A name) as (λ (o : Option (ℕ × ℕ)).
      nat_lt 0 (option_map_or (λ (s : ℕ × ℕ). excess_in (s.0 / 16) s.1) o 0)
      ≡ option_map_or (λ (s : ℕ × ℕ). is_too_long (s.0 / 16) s.1) o false)
      [ None ↦ refl | Some s ↦ positive s.1 (16 * (s.0 / 16) + 65536) ]

  -- of what GRPDEFs are asked, by their names
  named : (f : List ℕ → ℕ) (o : Option Grpdef) (n : Option (List ℕ))
      → option_map GroupTooLong n ≡ option_map (λ (g : Grpdef). GroupTooLong g.name) o
      → option_map f n ≡ option_map (λ (g : Grpdef). f g.name) o
  named f None None e = refl
  named f None (Some n) e = cc
  named f (Some g) None e = cc
  named f (Some g) (Some n) e = let same : n ≡ g.name = cc in ap (λ m. Some (f m)) same

  both-mapped : (o : Option Grpdef)
      → option_map GroupTooLong (option_map (λ (g : Grpdef). g.name) o) ≡ option_map (λ (g : Grpdef). GroupTooLong g.name) o
  both-mapped None = refl
  both-mapped (Some g) = refl

  -- that of the first which is too long, by its name
  pub group-found : (n : Option (List ℕ)) → option_map GroupTooLong n ≡ group_fault program A
      → option_map (group_excess program A) n
      ≡ find (nat_lt 0) (group_excesses program A)
  group-found n is =
      named (group_excess program A) (find (λ (g : Grpdef). is_long_group program A g.name) (grpdefs program)) n is
      ∙ ap (option_map (λ (g : Grpdef). group_excess program A g.name))
      (find-same (λ (g : Grpdef). is_long_group program A g.name) (λ (g : Grpdef). nat_lt 0 (group_excess program A g.name))
      (grpdefs program) (λ (g : Grpdef). sym (group-positive g.name)))
      ∙ sym (find-mapped (nat_lt 0) (λ (g : Grpdef). group_excess program A g.name) (grpdefs program))

  -- ---- all of them, one kind after the other

  module _ (size : ℕ) where
    abbrev here : List ℕ
    here = segment_excesses (sites program) A

    abbrev behind : List ℕ
    behind = group_excesses program A

    pub of-a-segment : (o : Option ℕ) (n : ℕ) → o ≡ find (nat_lt 0) here → o ≡ Some n
        → Some n ≡ find (nat_lt 0) (excesses program A size)
    of-a-segment o n is some =
        sym (find-append (nat_lt 0) here ((size - 1048560) ∷ behind)
        ∙ ap (λ f. option_or f (find (nat_lt 0) ((size - 1048560) ∷ behind))) (sym is ∙ some))

    none-before : (o : Option ℕ) → o ≡ find (nat_lt 0) here → o ≡ None
        → find (nat_lt 0) (excesses program A size) ≡ find (nat_lt 0) ((size - 1048560) ∷ behind)
    none-before o is none =
        find-append (nat_lt 0) here ((size - 1048560) ∷ behind)
        ∙ ap (λ f. option_or f (find (nat_lt 0) ((size - 1048560) ∷ behind))) (sym is ∙ none)

    pub of-the-program : (o : Option ℕ) → o ≡ find (nat_lt 0) here → o ≡ None → 0 < size - 1048560
        → Some (size - 1048560) ≡ find (nat_lt 0) (excesses program A size)
    of-the-program o is none large =
        sym (none-before o is none
        ∙ ap (λ b. cond b (Some (size - 1048560)) (find (nat_lt 0) behind))
        (lt-ltb 0 (size - 1048560) large))

    pub of-a-group : (o : Option ℕ) → o ≡ find (nat_lt 0) here → o ≡ None → size ≤ 1048560 → (p : Option ℕ)
        → p ≡ find (nat_lt 0) behind → p ≡ find (nat_lt 0) (excesses program A size)
    of-a-group o is none fits p e =
        e ∙ sym (none-before o is none
        ∙ ap (λ b. cond b (Some (size - 1048560)) (find (nat_lt 0) behind))
        (le-ltb 0 (size - 1048560) (omega (arith, fits))))

    -- ---- there is one exactly where one of these faults stands

    some-mapped : {X Y : Type 0} (f : X → Y) (o : Option X) → is_some (option_map f o) ≡ is_some o
    some-mapped f None = refl
    some-mapped f (Some x) = refl

    some-or : {X Y : Type 0} (a b : Option X) (c d : Option Y) → is_some a ≡ is_some c → is_some b ≡ is_some d
        → is_some (option_or a b) ≡ is_some (option_or c d)
    some-or None b None d e f = f
    some-or None b (Some y) d e f = absurd (let v : false ≡ true = e in cc)
    some-or (Some x) b None d e f = absurd (let v : true ≡ false = e in cc)
    some-or (Some x) b (Some y) d e f = refl

    some-segment : is_some (find (nat_lt 0) here) ≡ is_some (segment_fault (sites program) A)
    some-segment =
        let o = find (is_long_segment (sites program) A) (leaders (sites program)) in
        ap is_some (sym (segment-found (sites program) A o refl)) ∙ some-mapped (segment_excess (sites program) A) o
        ∙ sym (some-mapped (λ (a : Site). SegmentTooLong a.segment.name) o)

    some-group : is_some (find (nat_lt 0) behind) ≡ is_some (group_fault program A)
    some-group =
        let o = find (λ (g : Grpdef). is_long_group program A g.name) (grpdefs program) in
        let n = option_map (λ (g : Grpdef). g.name) o in
        ap is_some (sym (group-found n (both-mapped o)))
        ∙ some-mapped (group_excess program A) n ∙ some-mapped (λ (g : Grpdef). g.name) o
        ∙ sym (some-mapped (λ (g : Grpdef). GroupTooLong g.name) o)

    some-program : (rest : Option ℕ) (fault : Option PlacementFault) → is_some rest ≡ is_some fault
        → is_some (cond (nat_lt 0 (size - 1048560)) (Some (size - 1048560)) rest)
        ≡ is_some (option_or (size_fault size) fault)
    some-program rest fault same =
        ap (λ b. is_some (cond b (Some (size - 1048560)) rest)) (positive size 1048560)
        ∙ (elim (nat_lt 1048560 size) as (λ b. is_some (cond b (Some (size - 1048560)) rest)
        ≡ is_some (option_or (cond b (Some ProgramTooLarge) None) fault)) [ true ↦ refl | false ↦ same ])

    pub stands-with-fault : is_some (find (nat_lt 0) (excesses program A size))
        ≡ is_some
        (option_or (segment_fault (sites program) A) (option_or (size_fault size) (group_fault program A)))
    stands-with-fault =
        ap is_some (find-append (nat_lt 0) here ((size - 1048560) ∷ behind))
        ∙ some-or (find (nat_lt 0) here) (find (nat_lt 0) ((size - 1048560) ∷ behind)) (segment_fault (sites program) A)
        (option_or (size_fault size) (group_fault program A)) some-segment
        (some-program (find (nat_lt 0) behind) (group_fault program A) some-group)

-- ---- what is answered, where the code holds the sites of the program

module _ (program : List Module) (ss : List Site) (made : ss ≡ sites program) (A : List ℕ) (size : ℕ)
    (placed : IsPlaced ss A size) (only : IsOnlyPlacement ss A size) (o : Option ℕ)
    (first : o ≡ find (nat_lt 0) (segment_excesses ss A)) where
  stands : (given : Option ℕ) → given ≡ find (nat_lt 0) (excesses program A size) → IsExcessOf program given
  stands given e = (
    A,
    size,
    subst (λ s. IsPlaced s A size) made placed,
    subst (λ s. IsOnlyPlacement s A size) made only,
    e,
  )

  here-first : o ≡ find (nat_lt 0) (segment_excesses (sites program) A)
  here-first = first ∙ ap (λ s. find (nat_lt 0) (segment_excesses s A)) made

  pub segment-stands : (n : ℕ) → o ≡ Some n → IsExcessOf program (Some n)
  segment-stands n some = stands (Some n) (of-a-segment program A size o n here-first some)

  pub program-stands : o ≡ None → (n : ℕ) → n ≡ size - 1048560 → 0 < n → IsExcessOf program (Some n)
  program-stands none n is large =
      stands (Some n)
      (ap Some is ∙ of-the-program program A size o here-first none (subst (λ m. 0 < m) is large))

  pub group-stands : o ≡ None → size ≤ 1048560 → (p : Option ℕ) → p ≡ find (nat_lt 0) (group_excesses program A)
      → IsExcessOf program p
  group-stands none fits p e = stands p (of-a-group program A size o here-first none fits p e)
