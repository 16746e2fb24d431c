-- The places of variables are apart.
use Rattle.std.proofs.Common.{◌≡◌, ℕ, zero, suc, ◌+◌, ◌-◌, ◌*◌, ◌%◌, ◌≤◌, true, false, cond, ltb, leb, min, List, []}
use Rattle.std.proofs.Common.{◌∷◌, ◌++◌, map, Ok, Err, refl, sym, subst, ◌∙◌, arith}
use Rattle.std.specs.Prelude.{sum}
use Rattle.std.proofs.lemmas.Bool.{leb-true}
use Rattle.std.proofs.lemmas.List.Sums.{sum_by-cons}
use Rattle.std.specs.List.{range_with_len}
use Rattle.omf_communal.specs.declared.declarations.Extent.{Extent}
use Rattle.omf_communal.specs.declared.declarations.Extent.TheVariants.{Near, Far}
use Rattle.omf_communal.specs.declared.fault.PlanFault.TheVariants.{NearTooLong, CutElement, TooManySegments}
use Rattle.omf_communal.specs.declared.places.Before.{Before}
use Rattle.omf_communal.specs.Apart.{AreApart, ArePlaced, FarRow, NearRow, Sized, far_of, fars, near_of, nears}
use Rattle.omf_communal.specs.Deciding.{Variable}
use Rattle.omf_communal.specs.Plan.{Place, far_first, far_lengths, far_lengths_of, far_next, far_place, far_places}
use Rattle.omf_communal.specs.Plan.{fits_near, is_cut, near_end, near_next, near_place, near_places, near_segment}
use Rattle.omf_communal.specs.Plan.{near_start, part_count, part_lengths}
use Rattle.omf_communal.proofs.Fitting.{and-parts, both, length-parts, made, made_with}

-- ---- near ones

one_near : (before : Before) (at index : ℕ) (name : List ℕ) (e : Extent) (ps : List Place) (end : ℕ) (ss : List Sized)
    (qs : List Place) →
    near_place before at index name e ≡ Ok ps →
    NearRow before (near_next at e) end ss qs → NearRow before at end (near_of name e ++ ss) (ps ++ qs)
one_near before at index name (Far count size) ps end ss qs e h =
    let is : [] ≡ ps = cc in
    subst (λ xs. NearRow before at end ss (xs ++ qs)) is h
one_near before at index name (Near n) ps end ss qs e h =
    let start = near_start at n in
    let p : Place = record { name = name; group = before.groups + 1; segment = before.segments + 1; offset = start } in
    let s : Sized = record { name = name; bytes = n } in
    (elim (fits_near start n) as (λ b.
    cond b (Ok (p ∷ [])) (Err (NearTooLong index)) ≡ Ok ps → NearRow before at end (s ∷ ss) (ps ++ qs)) [
      | true ↦ λ u.
          let is : p ∷ [] ≡ ps = cc in
          subst (λ xs. NearRow before at end (s ∷ ss) (xs ++ qs)) is
          (record { name = refl; group = refl; segment = refl; behind = behind at n }, h)
      | false ↦ λ u. absurd (cc)
    ]) e
  where
    behind : (at n : ℕ) → at ≤ near_start at n
    behind at n = elim (leb n 1) as (λ b. at ≤ cond b at (at + at % 2)) [ true ↦ omega arith | false ↦ omega arith ]

near_row : (before : Before) (at index : ℕ) (vs : List Variable) (ps : List Place)
    → near_places before at index vs ≡ Ok ps
    → NearRow before at (near_end at vs) (nears vs) ps
near_row before at index [] ps e = let is : [] ≡ ps = cc in subst (NearRow before at at []) is (omega arith)
near_row before at index (v ∷ vs) ps e =
    let next = near_next at v.extent in
    let parts = both (near_place before at index v.name v.extent) (near_places before next (index + 1) vs) ps e in
    subst (NearRow before at (near_end next vs) (nears (v ∷ vs))) (sym parts.4)
    (one_near before at index v.name v.extent parts.0 (near_end next vs) (nears vs) parts.1 parts.2
    (near_row before next (index + 1) vs parts.1 parts.3))

near_short : (before : Before) (at index : ℕ) (vs : List Variable) (ps : List Place) → at ≤ 65536
    → near_places before at index vs ≡ Ok ps
    → near_end at vs ≤ 65536
near_short before at index [] ps h e = h
near_short before at index (v ∷ vs) ps h e =
    let parts =
    both (near_place before at index v.name v.extent) (near_places before (near_next at v.extent) (index + 1) vs) ps
    e in
    near_short before (near_next at v.extent) (index + 1) vs parts.1
    (next_short before at index v.name v.extent parts.0 h parts.2)
    parts.3
  where
    next_short : (before : Before) (at index : ℕ) (name : List ℕ) (e : Extent) (ps : List Place) → at ≤ 65536
        → near_place before at index name e ≡ Ok ps → near_next at e ≤ 65536
    next_short before at index name (Far count size) ps h e = h
    next_short before at index name (Near n) ps h e =
        let start = near_start at n in
        (elim (fits_near start n) as (λ b.
        fits_near start n ≡ b
        → cond b
        (Ok (record { name = name; group = before.groups + 1; segment = before.segments + 1; offset = start } ∷ []))
        (Err (NearTooLong index))
        ≡ Ok ps → start + n ≤ 65536) [
          | true ↦ λ t u. leb-true _ _ (and-parts (ltb start 65536) (leb (start + n) 65536) t).1
          | false ↦ λ t u. absurd (cc)
        ]) refl e

-- ---- far ones

sum_from : (n a b : ℕ)
    → sum (map (λ k. min 65536 (b - 65536 * k)) (range_with_len a n)) ≡ min (65536 * n) (b - 65536 * a)
sum_from zero a b = omega arith
sum_from (suc n) a b =
    let rest = sum (map (λ k. min 65536 (b - 65536 * k)) (range_with_len (a + 1) n)) in
    let more : rest ≡ min (65536 * n) (b - 65536 * (a + 1)) = sum_from n (a + 1) b in
    let all : min 65536 (b - 65536 * a) + rest ≡ min (65536 * suc n) (b - 65536 * a) = omega (arith, more) in
    sum_by-cons (λ k. k) (min 65536 (b - 65536 * a)) (map (λ k. min 65536 (b - 65536 * k)) (range_with_len (a + 1) n))
    ∙ all

-- the segments of so many bytes have these
sum-parts : (bytes : ℕ) → sum (part_lengths bytes) ≡ bytes
sum-parts bytes =
    let all = sum_from (part_count bytes) 0 bytes in
    let enough : bytes ≤ 65536 * part_count bytes = omega arith in omega (arith, all, enough)

one_far : (segment index : ℕ) (name : List ℕ) (e : Extent) (ps : List Place) (parts : List ℕ) (ss : List Sized)
    (qs : List Place) → far_place segment index name e ≡ Ok ps →
    FarRow (far_next segment e) parts ss qs →
    FarRow segment (far_lengths_of e ++ parts) (far_of name e ++ ss) (ps ++ qs)
one_far segment index name (Near n) ps parts ss qs e h =
    let is : [] ≡ ps = cc in
    subst (λ xs. FarRow segment parts ss (xs ++ qs)) is h
one_far segment index name (Far count size) ps parts ss qs e h =
    let bytes = count * size in
    let next = segment + part_count bytes in
    let p : Place = record { name = name; group = 0; segment = segment; offset = 0 } in
    let s : Sized = record { name = name; bytes = bytes } in
    let all = part_lengths bytes ++ parts in
    (elim (is_cut count size) as (λ b.
    cond b (Err (CutElement index)) (cond (ltb 32768 next) (Err (TooManySegments index)) (Ok (p ∷ []))) ≡ Ok ps
    → FarRow segment all (s ∷ ss) (ps ++ qs)) [
      | true ↦ λ u. absurd (cc)
      | false ↦ λ u.
          (elim (ltb 32768 next) as (λ b.
          cond b (Err (TooManySegments index)) (Ok (p ∷ [])) ≡ Ok ps → FarRow segment all (s ∷ ss) (ps ++ qs)) [
            | true ↦ λ w. absurd (cc)
            | false ↦ λ w.
                let is : p ∷ [] ≡ ps = cc in
                subst (λ xs. FarRow segment all (s ∷ ss) (xs ++ qs)) is (
                  part_lengths bytes,
                  parts,
                  refl,
                  record { name = refl; group = refl; segment = refl; offset = refl; bytes = sum-parts bytes },
                  subst (λ n. FarRow (segment + n) parts ss qs) (sym (length-parts bytes)) h,
                )
          ]) u
    ]) e

far_row : (segment index : ℕ) (vs : List Variable) (ps : List Place) → far_places segment index vs ≡ Ok ps
    → FarRow segment (far_lengths vs) (fars vs) ps
far_row segment index [] ps e = let is : [] ≡ ps = cc in subst (FarRow segment [] []) is refl
far_row segment index (v ∷ vs) ps e =
    let next = far_next segment v.extent in
    let parts = both (far_place segment index v.name v.extent) (far_places next (index + 1) vs) ps e in
    subst (FarRow segment (far_lengths (v ∷ vs)) (fars (v ∷ vs))) (sym parts.4)
    (one_far segment index v.name v.extent parts.0 (far_lengths vs) (fars vs) parts.1 parts.2
    (far_row next (index + 1) vs parts.1 parts.3))

-- ---- the whole

-- without near ones the near segment ends where it begins
no_near : (before : Before) (at index : ℕ) (vs : List Variable) → near_places before at index vs ≡ Ok [] → nears vs ≡ []
no_near before at index vs e = empty (nears vs) (near_end at vs) at (near_row before at index vs [] e)
  where
    empty : (ss : List Sized) (end at : ℕ) → NearRow before at end ss [] → ss ≡ []
    empty [] end at h = refl
    empty (s ∷ ss) end at h = absurd h

apart_with : (before : Before) (vs : List Variable) (near far : List Place) → near_places before 0 0 vs ≡ Ok near →
    far_places (far_first before near) 0 vs ≡ Ok far →
    AreApart before vs
    (record { near = near_segment near (near_end 0 vs); far = far_lengths vs; places = near ++ far })
apart_with before vs [] far n f = record {
  near = [];
  far = far;
  all = refl;
  in_near = subst (λ ss. NearRow before 0 0 ss []) (sym (no_near before 0 0 vs n)) (omega arith);
  short = omega arith;
  in_far =
      subst (λ s. FarRow s (far_lengths vs) (fars vs) far) (omega arith) (far_row (before.segments + 1) 0 vs far f);
}
apart_with before vs (p ∷ ps) far n f = record {
  near = p ∷ ps;
  far = far;
  all = refl;
  in_near = near_row before 0 0 vs (p ∷ ps) n;
  short = near_short before 0 0 vs (p ∷ ps) (omega arith) n;
  in_far =
      subst (λ s. FarRow s (far_lengths vs) (fars vs) far) (omega arith) (far_row (before.segments + 2) 0 vs far f);
}

pub placed : ArePlaced
placed before vs p e =
    let one = made before vs p e in
    let two = made_with before vs one.0 (far_places (far_first before one.0) 0 vs) p one.2 in
    subst (AreApart before vs) two.2 (apart_with before vs one.0 two.0 one.1 two.1)
