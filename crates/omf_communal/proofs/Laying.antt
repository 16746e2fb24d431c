-- Places of variables, one after the other.
use Rattle.std.proofs.Common.{◌≡◌, ℕ, ◌+◌, ◌<◌, List, [], ◌∷◌, ◌++◌, ◌≤◌, length, map, drop, get_or, Ok, Err, ap, sym}
use Rattle.std.proofs.Common.{◌∙◌, append_assoc}
use Rattle.std.proofs.lemmas.List.{append-nil, at_drop_all, drop_more}
use Rattle.std.specs.declared.result.Result.{Result}
use Rattle.omf_library.specs.Members.{joined}
use Rattle.omf_library.specs.Records.{result_and_then}
use Rattle.omf_communal.specs.declared.declarations.Variable as lent
use Rattle.omf_communal.specs.declared.fault.PlanFault.{PlanFault}
use Rattle.omf_communal.specs.declared.places.Before.{Before}
use Rattle.omf_communal.specs.Deciding.{Variable, variable_said}
use Rattle.omf_communal.specs.Plan.{Place, far_lengths, far_lengths_of, far_next, far_place, far_places, near_end}
use Rattle.omf_communal.specs.Plan.{near_next, near_place, near_places}
use Rattle.omf_communal.specs.declared.places.Place as held
use Rattle.omf_communal.specs.declared.fault.PlanFault.TheVariants.{NearTooLong, CutElement, TooManySegments, Memory}
use Rattle.omf_communal.specs.Answers.{IsPlanFault}
use Rattle.omf_communal.specs.inside.Planned.{places_said}
use Rattle.omf_communal.proofs.Joining.{behind_one, joined-end, joined-nil}

-- the variables from a place of the list on
abbrev pub left : List lent.Variable → ℕ → List Variable
left vs i = map variable_said (drop i vs)

left-more : (vs : List lent.Variable) (i : ℕ) (x : lent.Variable) → i < length vs → x ≡ get_or vs i x
    → left vs i ≡ variable_said x ∷ left vs (i + 1)
left-more vs i x h e = ap (map variable_said) (drop_more vs i x h ∙ ap (λ y. y ∷ drop (i + 1) vs) (sym e))

-- ---- near ones

module _ (before : Before) (vs : List lent.Variable) (i : ℕ) (x : lent.Variable) (h : i < length vs)
    (e : x ≡ get_or vs i x) (at : ℕ)
    (old : List Place) (all : Result (List Place) PlanFault)
    (was : joined old (near_places before at i (left vs i)) ≡ all) where
  near_is : near_places before at i (left vs i)
      ≡ result_and_then (λ ps. joined ps (near_places before (near_next at x.extent) (i + 1) (left vs (i + 1))))
      (near_place before at i x.name.now x.extent)
  near_is = ap (near_places before at i) (left-more vs i x h e)

  pub near_more : (new : List Place) → joined old (near_place before at i x.name.now x.extent) ≡ Ok new
      → joined new (near_places before (near_next at x.extent) (i + 1) (left vs (i + 1))) ≡ all
  near_more new is =
      sym (ap (joined old) near_is
      ∙ behind_one old (near_place before at i x.name.now x.extent)
      (near_places before (near_next at x.extent) (i + 1) (left vs (i + 1))) new is) ∙ was

  pub near_fault : (f : PlanFault) → near_place before at i x.name.now x.extent ≡ Err f → all ≡ Err f
  near_fault f is =
      sym was
      ∙ ap (joined old)
      (near_is
      ∙ ap (result_and_then (λ ps. joined ps (near_places before (near_next at x.extent) (i + 1) (left vs (i + 1)))))
      is)

pub near_end-more : (vs : List lent.Variable) (i : ℕ) (x : lent.Variable) (at all : ℕ) → i < length vs
    → x ≡ get_or vs i x → near_end at (left vs i) ≡ all → near_end (near_next at x.extent) (left vs (i + 1)) ≡ all
near_end-more vs i x at all h e was = sym (ap (near_end at) (left-more vs i x h e)) ∙ was

-- ---- far ones

module _ (vs : List lent.Variable) (i : ℕ) (x : lent.Variable) (h : i < length vs) (e : x ≡ get_or vs i x) (segment : ℕ)
    (old : List Place) (all : Result (List Place) PlanFault)
    (was : joined old (far_places segment i (left vs i)) ≡ all) where
  far_is : far_places segment i (left vs i)
      ≡ result_and_then (λ ps. joined ps (far_places (far_next segment x.extent) (i + 1) (left vs (i + 1))))
      (far_place segment i x.name.now x.extent)
  far_is = ap (far_places segment i) (left-more vs i x h e)

  pub far_more : (new : List Place) → joined old (far_place segment i x.name.now x.extent) ≡ Ok new
      → joined new (far_places (far_next segment x.extent) (i + 1) (left vs (i + 1))) ≡ all
  far_more new is =
      sym (ap (joined old) far_is
      ∙ behind_one old (far_place segment i x.name.now x.extent)
      (far_places (far_next segment x.extent) (i + 1) (left vs (i + 1))) new is) ∙ was

  pub far_fault : (f : PlanFault) → far_place segment i x.name.now x.extent ≡ Err f → all ≡ Err f
  far_fault f is =
      sym was
      ∙ ap (joined old)
      (far_is
      ∙ ap (result_and_then (λ ps. joined ps (far_places (far_next segment x.extent) (i + 1) (left vs (i + 1))))) is)

pub far_lengths-more : (vs : List lent.Variable) (i : ℕ) (x : lent.Variable) (old new all : List ℕ) → i < length vs →
    x ≡ get_or vs i x → old ++ far_lengths (left vs i) ≡ all →
    new ≡ old ++ far_lengths_of x.extent → new ++ far_lengths (left vs (i + 1)) ≡ all
far_lengths-more vs i x old new all h e was is =
    ap (λ xs. xs ++ far_lengths (left vs (i + 1))) is
    ∙ append_assoc old (far_lengths_of x.extent) (far_lengths (left vs (i + 1)))
    ∙ ap (λ xs. old ++ xs) (sym (ap far_lengths (left-more vs i x h e))) ∙ was

-- ---- the first and the last

pub near_first : (before : Before) (vs : List lent.Variable) (ps : List held.Place) → ps ≡ []
    → joined (places_said ps) (near_places before 0 0 (left vs 0)) ≡ near_places before 0 0 (map variable_said vs)
near_first before vs ps e =
    ap (λ (qs : List held.Place). joined (places_said qs) (near_places before 0 0 (left vs 0))) e
    ∙ joined-nil (near_places before 0 0 (map variable_said vs))

pub near_last : (before : Before) (vs : List lent.Variable) (i at : ℕ) (ps : List Place)
    (all : Result (List Place) PlanFault)
    → length vs ≤ i → joined ps (near_places before at i (left vs i)) ≡ all → all ≡ Ok ps
near_last before vs i at ps all h was =
    joined-end ps all
    (ap (joined ps)
    (sym (at_drop_all (λ (us : List lent.Variable). near_places before at i (map variable_said us)) vs i h))
    ∙ was)

pub near_end-last : (vs : List lent.Variable) (i at all : ℕ) → length vs ≤ i → near_end at (left vs i) ≡ all → at ≡ all
near_end-last vs i at all h was =
    sym (at_drop_all (λ (us : List lent.Variable). near_end at (map variable_said us)) vs i h) ∙ was

pub far_first-of : (vs : List lent.Variable) (segment : ℕ) (ps : List held.Place) → ps ≡ []
    → joined (places_said ps) (far_places segment 0 (left vs 0)) ≡ far_places segment 0 (map variable_said vs)
far_first-of vs segment ps e =
    ap (λ (qs : List held.Place). joined (places_said qs) (far_places segment 0 (left vs 0))) e
    ∙ joined-nil (far_places segment 0 (map variable_said vs))

pub far_last : (vs : List lent.Variable) (i segment : ℕ) (ps : List Place) (all : Result (List Place) PlanFault)
    → length vs ≤ i → joined ps (far_places segment i (left vs i)) ≡ all → all ≡ Ok ps
far_last vs i segment ps all h was =
    joined-end ps all
    (ap (joined ps)
    (sym (at_drop_all (λ (us : List lent.Variable). far_places segment i (map variable_said us)) vs i h)) ∙ was)

pub far_lengths-last : (vs : List lent.Variable) (i : ℕ) (now all : List ℕ) → length vs ≤ i
    → now ++ far_lengths (left vs i) ≡ all → now ≡ all
far_lengths-last vs i now all h was =
    sym (append-nil now)
    ∙ ap (λ xs. now ++ xs) (sym (at_drop_all (λ (us : List lent.Variable). far_lengths (map variable_said us)) vs i h))
    ∙ was

-- a fault of a part is one of the whole
pub fault-through : {A B : Type 0} (e : PlanFault) (r : Result A PlanFault) (all : Result B PlanFault) → IsPlanFault e r
    → ((f : PlanFault) → r ≡ Err f → all ≡ Err f) → IsPlanFault e all
fault-through (NearTooLong v) r all h k = k (NearTooLong v) h
fault-through (CutElement v) r all h k = k (CutElement v) h
fault-through (TooManySegments v) r all h k = k (TooManySegments v) h
fault-through Memory r all h k = tt
