-- A plan has indexes, offsets and lengths that records can say.
use Rattle.std.proofs.Common.{◌≡◌, ℕ, ◌+◌, ◌-◌, ◌*◌, ◌<◌, ◌≤◌, Bool, true, false, cond, ◌&&◌, ◌||◌, ltb, leb, min, List}
use Rattle.std.proofs.Common.{[]}
use Rattle.std.proofs.Common.{◌∷◌, ◌++◌, length, map, Option, Some, None, IfSome, Ok, Err, refl, ap, sym, subst, ◌∙◌}
use Rattle.std.proofs.Common.{arith, length-append, lit≤}
use Rattle.std.proofs.lemmas.List.{length-map}
use Rattle.std.proofs.lemmas.Bool.{leb-false, leb-true, ltb-false, ltb-true}
use Rattle.std.proofs.lemmas.List.FromFn.{length-range_with_len}
use Rattle.std.specs.declared.result.Result.{Result}
use Rattle.std.specs.List.{AllByRecursion, range_with_len}
use Rattle.omf_library.specs.Members.{joined}
use Rattle.omf_library.specs.Records.{result_and_then}
use Rattle.omf_write.specs.inside.Fits.{IsName}
use Rattle.omf_communal.specs.declared.declarations.Extent.{Extent}
use Rattle.omf_communal.specs.declared.declarations.Extent.TheVariants.{Near, Far}
use Rattle.omf_communal.specs.declared.fault.PlanFault.{PlanFault}
use Rattle.omf_communal.specs.declared.fault.PlanFault.TheVariants.{NearTooLong, CutElement, TooManySegments}
use Rattle.omf_communal.specs.declared.places.Before.{Before}
use Rattle.omf_communal.specs.Deciding.{Variable}
use Rattle.omf_communal.specs.Plan.{Place, Plan, far_first, far_lengths, far_lengths_of, far_next, far_place, is_full}
use Rattle.omf_communal.specs.Plan.{far_places, fits_near, is_cut, near_end, near_next, near_place, near_places}
use Rattle.omf_communal.specs.Plan.{near_segment, near_start, part_count, part_lengths, plan, plan_with}
use Rattle.omf_communal.specs.Whole.{IsNamed}

-- a place in one of so many segments, of one of so many groups or none
pub record FitsPlace (groups segments : ℕ) (p : Place) : Type 0 where
  pub group : p.group ≤ groups
  pub positive : 0 < p.segment
  pub segment : p.segment ≤ segments
  pub offset : p.offset < 65536
  pub name : IsName p.name

-- how many there are of what may be there
abbrev pub count_of : Option ℕ → ℕ
count_of None = 0
count_of (Some n) = 1

-- how many groups and segments there are with those of a plan
abbrev pub groups_with : Before → Plan → ℕ
groups_with before p = before.groups + count_of p.near

abbrev pub segments_with : Before → Plan → ℕ
segments_with before p = before.segments + count_of p.near + length p.far

pub record Fits (before : Before) (p : Plan) : Type 0 where
  pub names : before.names + 4 ≤ 32767
  pub near : IfSome p.near (λ n. n ≤ 65536)
  pub far : AllByRecursion (λ n. n ≤ 65536) p.far
  pub groups : groups_with before p ≤ 32767
  pub segments : segments_with before p ≤ 32767
  pub places : AllByRecursion (FitsPlace (groups_with before p) (segments_with before p)) p.places

-- indexes for four names, a segment and a group
pub record HasRoom (before : Before) : Type 0 where
  pub names : before.names + 4 ≤ 32767
  pub segments : before.segments < 32767
  pub groups : before.groups < 32767

pub or-parts : (a b : Bool) → (a || b) ≡ false → (a ≡ false) × (b ≡ false)
or-parts true b e = absurd (cc)
or-parts false b e = (refl, e)

pub has_room : (before : Before) → is_full before ≡ false → HasRoom before
has_room before e =
    let one = or-parts (ltb 32763 before.names) (leb 32767 before.segments || leb 32767 before.groups) e in
    let two = or-parts (leb 32767 before.segments) (leb 32767 before.groups) one.1 in
    let n = ltb-false 32763 before.names one.0 in
    let s = leb-false 32767 before.segments two.0 in
    let g = leb-false 32767 before.groups two.1 in
    record { names = omega (arith, n); segments = omega (arith, s); groups = omega (arith, g) }

All-append : {X : Type 0} (P : X → Type 0) (xs ys : List X) → AllByRecursion P xs → AllByRecursion P ys
    → AllByRecursion P (xs ++ ys)
All-append P [] ys h k = k
All-append P (x ∷ xs) ys h k = (h.0, All-append P xs ys h.1 k)

All-all : {X : Type 0} (P Q : X → Type 0) (xs : List X) → ((x : X) → P x → Q x) → AllByRecursion P xs
    → AllByRecursion Q xs
All-all P Q [] f h = tt
All-all P Q (x ∷ xs) f h = (f x h.0, All-all P Q xs f h.1)

-- the parts of an answer that two make
pub both : {A E : Type 0} (r : Result (List A) E) (next : Result (List A) E) (all : List A) →
    result_and_then (λ ps. joined ps next) r ≡ Ok all →
    (ps qs : List A) × (r ≡ Ok ps) × (next ≡ Ok qs) × (all ≡ ps ++ qs)
both (Ok ps) (Ok qs) all e = (ps, qs, refl, refl, sym (let u : ps ++ qs ≡ all = cc in u))
both (Ok ps) (Err f) all e = absurd (cc)
both (Err f) next all e = absurd (cc)

pub and-parts : (a b : Bool) → (a && b) ≡ true → (a ≡ true) × (b ≡ true)
and-parts true true e = (refl, refl)
and-parts true false e = absurd (cc)
and-parts false b e = absurd (cc)

-- ---- near ones

record IsNear (before : Before) (p : Place) : Type 0 where
  group : p.group ≡ before.groups + 1
  segment : p.segment ≡ before.segments + 1
  offset : p.offset < 65536
  name : IsName p.name

near_one : (before : Before) (at index : ℕ) (name : List ℕ) (e : Extent) (ps : List Place) → at ≤ 65536 → IsName name
    → near_place before at index name e ≡ Ok ps → AllByRecursion (IsNear before) ps × (near_next at e ≤ 65536)
near_one before at index name (Far count size) ps h named e =
    let is : [] ≡ ps = cc in
    (subst (λ qs. AllByRecursion (IsNear before) qs) is tt, h)
near_one before at index name (Near n) ps h named e =
    let start = near_start at n in
    let p : Place = record { name = name; group = before.groups + 1; segment = before.segments + 1; offset = start } in
    (elim (fits_near start n) as (λ b.
    fits_near start n ≡ b → cond b (Ok (p ∷ [])) (Err (NearTooLong index)) ≡ Ok ps
    → AllByRecursion (IsNear before) ps × (start + n ≤ 65536)) [
      | true ↦ λ t u.
          let parts = and-parts (ltb start 65536) (leb (start + n) 65536) t in
          let is : p ∷ [] ≡ ps = cc in
          let low : start < 65536 = ltb-true _ _ parts.0 in (
            subst (λ qs. AllByRecursion (IsNear before) qs) is
                (record { group = refl; segment = refl; offset = low; name = named }, tt),
            leb-true _ _ parts.1,
          )
      | false ↦ λ t u. absurd (cc)
    ]) refl e

near_all : (before : Before) (at index : ℕ) (vs : List Variable) (ps : List Place) → at ≤ 65536
    → AllByRecursion IsNamed vs
    → near_places before at index vs ≡ Ok ps → AllByRecursion (IsNear before) ps × (near_end at vs ≤ 65536)
near_all before at index [] ps h named e =
    let is : [] ≡ ps = cc in
    (subst (λ qs. AllByRecursion (IsNear before) qs) is tt, h)
near_all before at index (v ∷ vs) ps h named e =
    let parts =
    both (near_place before at index v.name v.extent) (near_places before (near_next at v.extent) (index + 1) vs) ps
    e in
    let one = near_one before at index v.name v.extent parts.0 h named.0 parts.2 in
    let rest = near_all before (near_next at v.extent) (index + 1) vs parts.1 one.1 named.1 parts.3 in (
      subst (λ qs. AllByRecursion (IsNear before) qs) (sym parts.4)
          (All-append (IsNear before) parts.0 parts.1 one.0 rest.0),
      rest.1,
    )

-- ---- far ones

record IsFar (low high : ℕ) (p : Place) : Type 0 where
  group : p.group ≡ 0
  from : low ≤ p.segment
  to : p.segment < high
  offset : p.offset ≡ 0
  name : IsName p.name

pub length-parts : (bytes : ℕ) → length (part_lengths bytes) ≡ part_count bytes
length-parts bytes =
    length-map (range_with_len 0 (part_count bytes)) (λ k. min 65536 (bytes - 65536 * k))
    ∙ length-range_with_len 0 (part_count bytes)

next-is : (segment : ℕ) (e : Extent) → far_next segment e ≡ segment + length (far_lengths_of e)
next-is segment (Near n) = omega arith
next-is segment (Far count size) = ap (λ n. segment + n) (sym (length-parts (count * size)))

far_one : (segment index : ℕ) (name : List ℕ) (e : Extent) (ps : List Place) → segment ≤ 32768 → IsName name →
    far_place segment index name e ≡ Ok ps →
    AllByRecursion (IsFar segment (far_next segment e)) ps × (far_next segment e ≤ 32768)
far_one segment index name (Near n) ps h named e =
    let is : [] ≡ ps = cc in
    (subst (λ qs. AllByRecursion (IsFar segment segment) qs) is tt, h)
far_one segment index name (Far count size) ps h named e =
    let next = segment + part_count (count * size) in
    let p : Place = record { name = name; group = 0; segment = segment; offset = 0 } in
    (elim (is_cut count size) as (λ b.
    cond b (Err (CutElement index)) (cond (ltb 32768 next) (Err (TooManySegments index)) (Ok (p ∷ []))) ≡ Ok ps
    → AllByRecursion (IsFar segment next) ps × (next ≤ 32768)) [
      | true ↦ λ u. absurd (cc)
      | false ↦ λ u.
          (elim (ltb 32768 next) as (λ b.
          ltb 32768 next ≡ b → cond b (Err (TooManySegments index)) (Ok (p ∷ [])) ≡ Ok ps
          → AllByRecursion (IsFar segment next) ps × (next ≤ 32768)) [
            | true ↦ λ t w. absurd (cc)
            | false ↦ λ t w.
                let is : p ∷ [] ≡ ps = cc in
                let more : segment < next = omega arith in (
                  subst (λ qs. AllByRecursion (IsFar segment next) qs) is
                      (record { group = refl; from = omega arith; to = more; offset = refl; name = named }, tt),
                  ltb-false _ _ t,
                )
          ]) refl u
    ]) e

wider : (low high low' high' : ℕ) → low' ≤ low → high ≤ high' → (p : Place) → IsFar low high p → IsFar low' high' p
wider low high low' high' h k p f = record {
  group = f.group;
  from = omega (arith, f.from, h);
  to = omega (arith, f.to, k);
  offset = f.offset;
  name = f.name;
}

far_all : (segment index : ℕ) (vs : List Variable) (ps : List Place) → segment ≤ 32768 → AllByRecursion IsNamed vs →
    far_places segment index vs ≡ Ok ps →
    AllByRecursion (IsFar segment (segment + length (far_lengths vs))) ps × (segment + length (far_lengths vs) ≤ 32768)
far_all segment index [] ps h named e =
    let is : [] ≡ ps = cc in
    (subst (λ qs. AllByRecursion (IsFar segment (segment + 0)) qs) is tt, omega (arith, h))
far_all segment index (v ∷ vs) ps h named e =
    let next = far_next segment v.extent in
    let parts = both (far_place segment index v.name v.extent) (far_places next (index + 1) vs) ps e in
    let one = far_one segment index v.name v.extent parts.0 h named.0 parts.2 in
    let rest = far_all next (index + 1) vs parts.1 one.1 named.1 parts.3 in
    let len = length-append (far_lengths_of v.extent) (far_lengths vs) in
    let step = next-is segment v.extent in
    let end : next + length (far_lengths vs) ≡ segment + length (far_lengths (v ∷ vs)) = omega (arith, len, step) in
    let high = segment + length (far_lengths (v ∷ vs)) in (
      subst (λ qs. AllByRecursion (IsFar segment high) qs) (sym parts.4)
          (All-append (IsFar segment high) parts.0 parts.1
          (All-all (IsFar segment next) (IsFar segment high) parts.0
          (wider segment next segment high (omega arith) (omega (arith, end))) one.0)
          (All-all (IsFar next (next + length (far_lengths vs))) (IsFar segment high) parts.1
          (wider next (next + length (far_lengths vs)) segment high (omega (arith, step)) (omega (arith, end)))
          rest.0)),
      omega (arith, rest.1, end),
    )

small_map : (f : ℕ → ℕ) (xs : List ℕ) → ((k : ℕ) → f k ≤ 65536) → AllByRecursion (λ n. n ≤ 65536) (map f xs)
small_map f [] h = tt
small_map f (x ∷ xs) h = (h x, small_map f xs h)

small_parts : (e : Extent) → AllByRecursion (λ n. n ≤ 65536) (far_lengths_of e)
small_parts (Near n) = tt
small_parts (Far count size) =
    small_map (λ k. min 65536 (count * size - 65536 * k)) (range_with_len 0 (part_count (count * size)))
    (λ k. omega arith)

small_all : (vs : List Variable) → AllByRecursion (λ n. n ≤ 65536) (far_lengths vs)
small_all [] = tt
small_all (v ∷ vs) =
    All-append (λ n. n ≤ 65536) (far_lengths_of v.extent) (far_lengths vs) (small_parts v.extent) (small_all vs)

-- ---- the whole

near_fits : (before : Before) (s : ℕ) → before.segments + 1 ≤ s → (p : Place) → IsNear before p
    → FitsPlace (before.groups + 1) s p
near_fits before s h p n = record {
  group = omega (arith, n.group);
  positive = omega (arith, n.segment);
  segment = omega (arith, n.segment, h);
  offset = n.offset;
  name = n.name;
}

far_fits : (g low high s : ℕ) → 0 < low → high ≤ s + 1 → (p : Place) → IsFar low high p → FitsPlace g s p
far_fits g low high s positive h p f = record {
  group = omega (arith, f.group);
  positive = omega (arith, f.from, positive);
  segment = omega (arith, f.to, h);
  offset = omega (arith, f.offset);
  name = f.name;
}

with_near : (before : Before) (vs : List Variable) (near far : List Place) → HasRoom before →
    AllByRecursion (IsNear before) near → near_end 0 vs ≤ 65536 → AllByRecursion IsNamed vs →
    far_places (far_first before near) 0 vs ≡ Ok far →
    Fits before (record { near = near_segment near (near_end 0 vs); far = far_lengths vs; places = near ++ far })
with_near before vs [] far room n end named e =
    let first = before.segments + 1 in
    let fars = far_all first 0 vs far (omega (arith, room.segments)) named e in
    let s = length (far_lengths vs) in
    record {
      names = room.names;
      near = tt;
      far = small_all vs;
      groups = omega (arith, room.groups);
      segments = omega (arith, fars.1);
      places =
          All-all (IsFar first (first + s)) (FitsPlace (before.groups + 0) (before.segments + 0 + s)) far
          (far_fits (before.groups + 0) first (first + s) (before.segments + 0 + s) (omega arith) (omega arith)) fars.0;
    }
with_near before vs (p ∷ ps) far room n end named e =
    let first = before.segments + 2 in
    let fars = far_all first 0 vs far (omega (arith, room.segments)) named e in
    let s = length (far_lengths vs) in
    let all = before.segments + 1 + s in
    record {
      names = room.names;
      near = end;
      far = small_all vs;
      groups = omega (arith, room.groups);
      segments = omega (arith, fars.1);
      places =
          All-append (FitsPlace (before.groups + 1) all) (p ∷ ps) far
          (All-all (IsNear before) (FitsPlace (before.groups + 1) all) (p ∷ ps) (near_fits before all (omega arith)) n)
          (All-all (IsFar first (first + s)) (FitsPlace (before.groups + 1) all) far
          (far_fits (before.groups + 1) first (first + s) all (omega arith) (omega arith)) fars.0);
    }

pub made_with : (before : Before) (vs : List Variable) (near : List Place) (r : Result (List Place) PlanFault)
    (p : Plan) →
    result_and_then
    (λ far.
    let q : Result Plan PlanFault =
    Ok (record { near = near_segment near (near_end 0 vs); far = far_lengths vs; places = near ++ far }) in q) r
    ≡ Ok p →
    (far : List Place) × (r ≡ Ok far)
    × ((let q : Plan =
    record { near = near_segment near (near_end 0 vs); far = far_lengths vs; places = near ++ far } in q) ≡ p)
made_with before vs near (Ok far) p e = (
  far,
  refl,
  (let q : Plan = record { near = near_segment near (near_end 0 vs); far = far_lengths vs; places = near ++ far } in
      let r : Result Plan PlanFault = Ok q in let u : r ≡ Ok p = e in cc),
)
made_with before vs near (Err f) p e = absurd (cc)

-- where there is a plan, there is room
pub planned : (before : Before) (vs : List Variable) (p : Plan) → plan before vs ≡ Ok p
    → HasRoom before × (result_and_then (plan_with before vs) (near_places before 0 0 vs) ≡ Ok p)
planned before vs p e =
    (elim (is_full before) as (λ b.
    is_full before ≡ b
    → cond b (Err (TooManySegments 0)) (result_and_then (plan_with before vs) (near_places before 0 0 vs)) ≡ Ok p
    → HasRoom before × (result_and_then (plan_with before vs) (near_places before 0 0 vs) ≡ Ok p)) [
      | true ↦ λ t u. absurd (cc)
      | false ↦ λ t u. (has_room before t, u)
    ]) refl e

pub made : (before : Before) (vs : List Variable) (p : Plan) → plan before vs ≡ Ok p
    → (near : List Place) × (near_places before 0 0 vs ≡ Ok near) × (plan_with before vs near ≡ Ok p)
made before vs p e = by (near_places before 0 0 vs) (planned before vs p e).1
  where
    by : (r : Result (List Place) PlanFault) → result_and_then (plan_with before vs) r ≡ Ok p
        → (near : List Place) × (r ≡ Ok near) × (plan_with before vs near ≡ Ok p)
    by (Ok near) u = (near, refl, u)
    by (Err f) u = absurd (cc)

pub plan_fits : (before : Before) (vs : List Variable) (p : Plan) → AllByRecursion IsNamed vs → plan before vs ≡ Ok p
    → Fits before p
plan_fits before vs p named e =
    let one = made before vs p e in
    let two = made_with before vs one.0 (far_places (far_first before one.0) 0 vs) p one.2 in
    let nears = near_all before 0 0 vs one.0 (lit≤ tt) named one.1 in
    subst (Fits before) two.2
    (with_near before vs one.0 two.0 (planned before vs p e).0 nears.0 nears.1 named two.1)
