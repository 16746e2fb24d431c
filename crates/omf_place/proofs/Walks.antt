-- The walk over the units.
use Rattle.std.proofs.Common.{◌≡◌, ◌≢◌, ℕ, zero, suc, ◌+◌, ◌-◌, ◌<◌, ◌≤◌, Bool, true, false, cond, List, [], ◌∷◌, ◌++◌}
use Rattle.std.proofs.Common.{length, map, filter, take, get_or, set, Some, None, slice_get, slice_index, nat_eq, not}
use Rattle.std.proofs.Common.{◌||◌, refl, ap, sym, ◌∙◌, arith, add-one, subst}
use Rattle.std.specs.List.{AllByRecursion}
use Rattle.std.specs.Option.{option_map}
use Rattle.std.specs.Prelude.{Option}
use Rattle.std.proofs.lemmas.List.{get_or-set_other}
use Rattle.std.proofs.lemmas.Option.{slice_get-map, slice_get-get_or, slice_get_within, get_or_from_slice_get}
use Rattle.omf_place.specs.declared.sites.Site as stored
use Rattle.omf_place.specs.declared.order.Rank.{Rank}
use Rattle.omf_place.specs.inside.Sites.{site, sites_view}
use Rattle.omf_place.specs.Parts.{Site, inserted, sorted, placement_order, is_part}
use Rattle.omf_place.specs.inside.Ranks.{rank, before}
use Rattle.omf_place.specs.inside.Placing.{is_common, parts}
use Rattle.omf_place.specs.Placed.{FollowFrom, IsNextStart, leads, is_unit, unit_alignment, unit_length}
use Rattle.omf_place.specs.Placed.{address_of}
use Rattle.omf_place.specs.inside.Numbered.{IsNumberedFrom}
use Rattle.omf_place.specs.declared.starts.Measure.{Measure}
use Rattle.omf_place.specs.inside.Walk.{IsUnitBounded, Places, PlacesUnit, KeepsOthers, unit_measure}
use Rattle.omf_module.specs.declared.Standing.TheVariants.{Absolute}

-- what holds of each element holds of each that a filter keeps, and of each of the list in order
pub All-filter : {X : Type 0} (P : X → Type 0) (p : X → Bool) (xs : List X) → AllByRecursion P xs
    → AllByRecursion P (filter p xs)
All-filter P p [] ps = tt
All-filter P p (x ∷ xs) ps =
    elim (p x) as (λ b. AllByRecursion P (cond b (x ∷ filter p xs) (filter p xs))) [
      | true ↦ (ps.0, All-filter P p xs ps.1)
      | false ↦ All-filter P p xs ps.1
    ]

All-inserted : {X : Type 0} (less : X → X → Bool) (P : X → Type 0) (x : X) (ys : List X) → P x → AllByRecursion P ys
    → AllByRecursion P (inserted less x ys)
All-inserted less P x [] p ps = (p, tt)
All-inserted less P x (y ∷ ys) p ps =
    elim (less x y) as (λ b. AllByRecursion P (cond b (x ∷ y ∷ ys) (y ∷ inserted less x ys)))
    [ true ↦ (p, ps) | false ↦ (ps.0, All-inserted less P x ys p ps.1) ]

pub All-sorted : {X : Type 0} (less : X → X → Bool) (P : X → Type 0) (xs : List X) → AllByRecursion P xs
    → AllByRecursion P (sorted less xs)
All-sorted less P [] ps = tt
All-sorted less P (x ∷ xs) ps = All-inserted less P x (sorted less xs) ps.0 (All-sorted less P xs ps.1)

pub All-map : {X : Type 0} (P Q : X → Type 0) (xs : List X) → ((x : X) → P x → Q x) → AllByRecursion P xs
    → AllByRecursion Q xs
All-map P Q [] f ps = tt
All-map P Q (x ∷ xs) f ps = (f x ps.0, All-map P Q xs f ps.1)

pub All-get : {X : Type 0} (P : X → Type 0) (xs : List X) (k : ℕ) (x : X) → AllByRecursion P xs
    → slice_get xs k ≡ Some x → P x
All-get P [] k x ps e = cc
All-get P (y ∷ ys) zero x ps e = let e' : y ≡ x = cc in subst P e' ps.0
All-get P (y ∷ ys) (suc k) x ps e = All-get P ys k x ps.1 e

-- no two have one position
abbrev pub Apart : List Site → Type 0
Apart [] = Unit {0}
Apart (x ∷ xs) = AllByRecursion (λ y. y.position ≢ x.position) xs × Apart xs

Apart-inserted : (less : Site → Site → Bool) (x : Site) (ys : List Site)
    → AllByRecursion (λ y. y.position ≢ x.position) ys → Apart ys → Apart (inserted less x ys)
Apart-inserted less x [] ps ap = (tt, tt)
Apart-inserted less x (y ∷ ys) ps ap =
    elim (less x y) as (λ b. Apart (cond b (x ∷ y ∷ ys) (y ∷ inserted less x ys))) [
      | true ↦
          (ps, ap)
      | false ↦ (
        All-inserted less (λ z. z.position ≢ y.position) x ys (λ e. ps.0 (sym e)) ap.0,
        Apart-inserted less x ys ps.1 ap.1,
      )
    ]

Apart-sorted : (less : Site → Site → Bool) (xs : List Site) → Apart xs → Apart (sorted less xs)
Apart-sorted less [] ap = tt
Apart-sorted less (x ∷ xs) ap =
    Apart-inserted less x (sorted less xs) (All-sorted less (λ y. y.position ≢ x.position) xs ap.0)
    (Apart-sorted less xs ap.1)

Apart-filter : (p : Site → Bool) (xs : List Site) → Apart xs → Apart (filter p xs)
Apart-filter p [] ap = tt
Apart-filter p (x ∷ xs) ap =
    elim (p x) as (λ b. Apart (cond b (x ∷ filter p xs) (filter p xs))) [
      | true ↦
          (All-filter (λ y. y.position ≢ x.position) p xs ap.0, Apart-filter p xs ap.1)
      | false ↦ Apart-filter p xs ap.1
    ]

from_below : (p : ℕ) (xs : List Site) → IsNumberedFrom p xs → AllByRecursion (λ y. p ≤ y.position) xs
from_below p [] n = tt
from_below p (x ∷ xs) n = (
  omega (arith, n.0),
  All-map (λ y. p + 1 ≤ y.position) (λ y. p ≤ y.position) xs (λ y h. omega arith) (from_below (p + 1) xs n.1),
)

Apart-numbered : (p : ℕ) (xs : List Site) → IsNumberedFrom p xs → Apart xs
Apart-numbered p [] n = tt
Apart-numbered p (x ∷ xs) n = (
  All-map (λ y. p + 1 ≤ y.position) (λ y. y.position ≢ x.position) xs
      (λ y h e. let f : x.position ≡ p = n.0 in omega arith) (from_below (p + 1) xs n.1),
  Apart-numbered (p + 1) xs n.1,
)

pub Apart-placement_order : (ss : List Site) → IsNumberedFrom 0 ss → Apart (placement_order ss)
Apart-placement_order ss n =
    Apart-sorted (λ a b. before (rank ss a) (rank ss b)) (parts ss) (Apart-filter is_part ss (Apart-numbered 0 ss n))

-- each site is found at its position
found_from : (p : ℕ) (xs : List Site) → IsNumberedFrom p xs
    → AllByRecursion (λ a. (p ≤ a.position) × (slice_get xs (a.position - p) ≡ Some a)) xs
found_from p [] n = tt
found_from p (x ∷ xs) n =
    let here : x.position - p ≡ 0 = omega (arith, n.0) in (
      (omega (arith, n.0), rw here refl),
      All-map (λ a. (p + 1 ≤ a.position) × (slice_get xs (a.position - (p + 1)) ≡ Some a))
          (λ a. (p ≤ a.position) × (slice_get (x ∷ xs) (a.position - p) ≡ Some a)) xs
          (λ a h.
          let low : p + 1 ≤ a.position = h.0 in
          let e : a.position - p ≡ suc (a.position - (p + 1)) = omega arith in (omega arith, rw e h.1))
          (found_from (p + 1) xs n.1),
    )

pub numbered_found : (ss : List Site) → IsNumberedFrom 0 ss → AllByRecursion (λ a. slice_get ss a.position ≡ Some a) ss
numbered_found ss n =
    All-map (λ a. (0 ≤ a.position) × (slice_get ss (a.position - 0) ≡ Some a)) (λ a. slice_get ss a.position ≡ Some a)
    ss
    (λ a h. let e : a.position - 0 ≡ a.position = omega arith in rw e at h.1) (found_from 0 ss n)

pub found_in_order : (ss : List Site) → IsNumberedFrom 0 ss
    → AllByRecursion (λ a. slice_get ss a.position ≡ Some a) (placement_order ss)
found_in_order ss n =
    All-sorted (λ a b. before (rank ss a) (rank ss b)) (λ a. slice_get ss a.position ≡ Some a) (parts ss)
    (All-filter (λ a. slice_get ss a.position ≡ Some a) is_part ss (numbered_found ss n))

-- the front of a list apart from the element after it
pub Apart-front : (xs : List Site) (k : ℕ) (u : Site) → Apart xs → slice_get xs k ≡ Some u
    → AllByRecursion (λ y. y.position ≢ u.position) (take k xs)
Apart-front [] k u ap e = cc
Apart-front (x ∷ xs) zero u ap e = tt
Apart-front (x ∷ xs) (suc k) u ap e =
    ((λ h. All-get (λ y. y.position ≢ x.position) xs k u ap.0 e (sym h)), Apart-front xs k u ap.1 e)

-- a write elsewhere keeps the chain
Follow-set : (ss : List Site) (addresses : List ℕ) (p v end : ℕ) (us : List Site) (size : ℕ) →
    AllByRecursion (λ u. u.position ≢ p) us →
    FollowFrom ss addresses end us size → FollowFrom ss (set addresses p v) end us size
Follow-set ss addresses p v end [] size apart f = f
Follow-set ss addresses p v end (u ∷ us) size apart f =
    let same : slice_index (set addresses p v) u.position ≡ slice_index addresses u.position =
    get_or-set_other addresses p u.position v 0 apart.0 in
    rw same (f.0, Follow-set ss addresses p v (slice_index addresses u.position + unit_length ss u) us size apart.1 f.1)

-- a chain, with one unit more
Follow-push : (ss : List Site) (addresses : List ℕ) (end : ℕ) (us : List Site) (last : ℕ) (u : Site) →
    FollowFrom ss addresses end us last →
    IsNextStart last (unit_alignment ss u) (address_of addresses u) →
    FollowFrom ss addresses end (us ++ u ∷ []) (address_of addresses u + unit_length ss u)
Follow-push ss addresses end [] last u f next =
    (subst (λ e. IsNextStart e (unit_alignment ss u) (address_of addresses u)) f next, refl)
Follow-push ss addresses end (x ∷ xs) last u f next =
    (f.0, Follow-push ss addresses (address_of addresses x + unit_length ss x) xs last u f.1 next)

option_map-Some : {X Y : Type 0} (f : X → Y) (o : Option X) (y : Y) → option_map f o ≡ Some y
    → (x : X) × (o ≡ Some x) × (f x ≡ y)
option_map-Some f None y e = cc
option_map-Some f (Some x) y e = (x, refl, cc)

units_only : (ss : List Site) (p : ℕ) (xs : List Site) → AllByRecursion (λ u. u.position ≢ p) (filter (is_unit ss) xs)
    → AllByRecursion (λ u. is_unit ss u ≡ true → u.position ≢ p) xs
units_only ss p [] ps = tt
units_only ss p (x ∷ xs) ps =
    (elim (is_unit ss x) as (λ b.
    is_unit ss x ≡ b
    → AllByRecursion (λ u. u.position ≢ p) (cond b (x ∷ filter (is_unit ss) xs) (filter (is_unit ss) xs))
    → (is_unit ss x ≡ true → x.position ≢ p) × AllByRecursion (λ u. is_unit ss u ≡ true → u.position ≢ p) xs) [
      | true ↦
          λ t qs. ((λ _. qs.0), units_only ss p xs qs.1)
      | false ↦ λ t qs. ((λ h. absurd (cc)), units_only ss p xs qs)
    ]) refl ps

abbrev pub no_site : stored.Site
no_site = record {
  position = 0;
  input = 0;
  number = 0;
  segment = record {
    name = record { ref_ptr = (0, 0); now = [] };
    class = record { ref_ptr = (0, 0); now = [] };
    length = 0;
    standing = Absolute 0 0;
  };
}

-- what the walk meets at k
pub record Meets (ss : List Site) (sites : List stored.Site) (k : ℕ) (r : Rank) (s : stored.Site) : Type 0 where
  pub within : r.own < length sites
  pub met : slice_get (placement_order ss) k ≡ Some (site s)
  pub own : (site s).position ≡ r.own
  pub rank : rank ss (site s) ≡ r

pub meets : (sites : List stored.Site) (ranks : List Rank) (k : ℕ) (r : Rank) (ds : stored.Site) →
    ranks ≡ map (rank (sites_view sites)) (placement_order (sites_view sites)) → IsNumberedFrom 0 (sites_view sites) →
    slice_get ranks k ≡ Some r →
    Meets (sites_view sites) sites k r (get_or sites r.own ds)
meets sites ranks k r ds order numbered e =
    let ss = sites_view sites in
    let u =
    option_map-Some (rank ss) (slice_get (placement_order ss) k) r
    (sym (slice_get-map (rank ss) (placement_order ss) k) ∙ ap (λ rs. slice_get rs k) (sym order) ∙ e) in
    let own : u.0.position ≡ r.own = ap (λ (q : Rank). q.own) u.2 in
    let at : slice_get ss r.own ≡ Some u.0 =
    subst (λ p. slice_get ss p ≡ Some u.0) own
    (All-get (λ a. slice_get ss a.position ≡ Some a) (placement_order ss) k u.0 (found_in_order ss numbered) u.1) in
    let s = option_map-Some site (slice_get sites r.own) u.0 (sym (slice_get-map site sites r.own) ∙ at) in
    let is : get_or sites r.own ds ≡ s.0 = get_or_from_slice_get sites r.own s.0 ds s.1 in
    let same : site (get_or sites r.own ds) ≡ u.0 = ap site is ∙ s.2 in
    record {
      within = slice_get_within sites r.own s.0 s.1;
      met = rw same u.1;
      own = ap (λ (a : Site). a.position) same ∙ own;
      rank = ap (rank ss) same ∙ u.2;
    }

module _ (sites : List stored.Site) (ranks : List Rank) (k : ℕ) (dr : Rank) (ds : stored.Site)
    (order : ranks ≡ map (rank (sites_view sites)) (placement_order (sites_view sites)))
    (numbered : IsNumberedFrom 0 (sites_view sites)) (h : k < length ranks) where
  at_k : Meets (sites_view sites) sites k (get_or ranks k dr) (get_or sites (get_or ranks k dr).own ds)
  at_k = meets sites ranks k (get_or ranks k dr) ds order numbered (slice_get-get_or ranks k dr h)

  pub met-within_at : (get_or ranks k dr).own < length sites
  met-within_at = at_k.within

  pub met-position : (addresses : List ℕ) → length addresses ≡ length sites
      → (get_or sites (get_or ranks k dr).own ds).position < length addresses
  met-position addresses e =
      let o : (get_or sites (get_or ranks k dr).own ds).position ≡ (get_or ranks k dr).own = at_k.own in
      let w : (get_or ranks k dr).own < length sites = at_k.within in omega arith

  pub met-leads : nat_eq (get_or ranks k dr).segment (get_or ranks k dr).own
      ≡ leads (sites_view sites) (site (get_or sites (get_or ranks k dr).own ds))
  met-leads = sym (ap (λ (r : Rank). nat_eq r.segment r.own) at_k.rank)

  pub met-bounded : AllByRecursion (IsUnitBounded (sites_view sites)) (placement_order (sites_view sites))
      → IsUnitBounded (sites_view sites) (site (get_or sites (get_or ranks k dr).own ds))
  met-bounded bounds =
      All-get (IsUnitBounded (sites_view sites)) (placement_order (sites_view sites)) k _ bounds at_k.met

  pub met : slice_get (placement_order (sites_view sites)) k ≡ Some (site (get_or sites (get_or ranks k dr).own ds))
  met = at_k.met

-- one step of the walk
pub filter-push : {X : Type 0} (p : X → Bool) (xs : List X) (x : X)
    → filter p (xs ++ x ∷ []) ≡ cond (p x) (filter p xs ++ x ∷ []) (filter p xs)
filter-push p [] x = refl
filter-push p (y ∷ ys) x =
    elim (p y) as (λ b.
    cond b (y ∷ filter p (ys ++ x ∷ [])) (filter p (ys ++ x ∷ []))
    ≡ cond (p x) (cond b (y ∷ filter p ys) (filter p ys) ++ x ∷ []) (cond b (y ∷ filter p ys) (filter p ys))) [
      | true ↦
          ap (λ zs. y ∷ zs) (filter-push p ys x)
          ∙ (elim (p x) as (λ b.
          y ∷ cond b (filter p ys ++ x ∷ []) (filter p ys) ≡ cond b (y ∷ (filter p ys ++ x ∷ [])) (y ∷ filter p ys)) [
            | true ↦ refl
            | false ↦ refl
          ])
      | false ↦ filter-push p ys x
    ]

pub take-push : {X : Type 0} (xs : List X) (k : ℕ) (x : X) → slice_get xs k ≡ Some x
    → take (suc k) xs ≡ take k xs ++ x ∷ []
take-push [] k x e = cc
take-push (y ∷ ys) zero x e = let e' : y ≡ x = cc in cc
take-push (y ∷ ys) (suc k) x e = ap (λ zs. y ∷ zs) (take-push ys k x e)

pub Follow-step : (ss : List Site) (old new : List ℕ) (k end last : ℕ) (u : Site) → IsNumberedFrom 0 ss →
    u.position < length old → slice_get (placement_order ss) k ≡ Some u →
    FollowFrom ss old 0 (filter (is_unit ss) (take k (placement_order ss))) end → PlacesUnit ss end old new last u →
    FollowFrom ss new 0 (filter (is_unit ss) (take (k + 1) (placement_order ss))) last
Follow-step ss old new k end last u numbered within e f step =
    let os = placement_order ss in
    let more : filter (is_unit ss) (take (k + 1) os)
    ≡ cond (is_unit ss u) (filter (is_unit ss) (take k os) ++ u ∷ []) (filter (is_unit ss) (take k os)) =
    rw (add-one, take-push os k u e) (filter-push (is_unit ss) (take k os) u) in
    rw more
    ((elim (is_unit ss u) as (λ b.
    is_unit ss u ≡ b
    → FollowFrom ss new 0 (cond b (filter (is_unit ss) (take k os) ++ u ∷ []) (filter (is_unit ss) (take k os))) last) [
      | true ↦ λ t.
          let st = step.unit t in
          let xs = filter (is_unit ss) (take k os) in
          let apart =
          All-filter (λ y. y.position ≢ u.position) (is_unit ss) (take k os)
          (Apart-front os k u (Apart-placement_order ss numbered) e) in
          let kept : FollowFrom ss new 0 xs end =
          subst (λ ad. FollowFrom ss ad 0 xs end) (sym st.1)
          (Follow-set ss old u.position (address_of new u) 0 xs end apart f) in
          subst (λ z. FollowFrom ss new 0 (xs ++ u ∷ []) z) (sym st.2) (Follow-push ss new 0 xs end u kept st.0)
      | false ↦ λ t.
          let so = step.other t in
          subst (λ z. FollowFrom ss new 0 (filter (is_unit ss) (take k os)) z) (sym so.1)
          (subst (λ ad. FollowFrom ss ad 0 (filter (is_unit ss) (take k os)) end) (sym so.0) f)
    ]) refl)

pub met-within : (sites : List stored.Site) (ranks : List Rank) (k : ℕ) (dr : Rank) →
    ranks ≡ map (rank (sites_view sites)) (placement_order (sites_view sites)) → IsNumberedFrom 0 (sites_view sites) →
    k < length ranks → (get_or ranks k dr).own < length sites
met-within sites ranks k dr order numbered h = met-within_at sites ranks k dr no_site order numbered h

-- what isn't a unit's position stays
pub Keeps-step : (ss : List Site) (first old new : List ℕ) (k end last : ℕ) (u : Site) →
    slice_get (placement_order ss) k ≡ Some u → PlacesUnit ss end old new last u →
    KeepsOthers ss first old → KeepsOthers ss first new
Keeps-step ss first old new k end last u e step kept p apart =
    (elim (is_unit ss u) as (λ b. is_unit ss u ≡ b → slice_index new p ≡ slice_index first p) [
      | true ↦ λ t.
          let st = step.unit t in
          let away : p ≢ u.position =
          λ h.
          All-get (λ y. is_unit ss y ≡ true → y.position ≢ p) (placement_order ss) k u
          (units_only ss p (placement_order ss) apart) e t (sym h) in
          ap (λ ad. slice_index ad p) st.1 ∙ get_or-set_other old u.position p (address_of new u) 0 away ∙ kept p apart
      | false ↦ λ t. ap (λ ad. slice_index ad p) (step.other t).0 ∙ kept p apart
    ]) refl

-- a step by a measure, as the step at its site
pub to_unit : (ss : List Site) (end : ℕ) (old new : List ℕ) (last : ℕ) (u : Site) (b : Bool) (m : Measure) →
    b ≡ leads ss u → m ≡ unit_measure ss u →
    Places (not (is_common u) || b) m end old new last u.position → PlacesUnit ss end old new last u
to_unit ss end old new last u b m eb em h =
    subst (λ z. Places (not (is_common u) || z) (unit_measure ss u) end old new last u.position) eb
    (subst (λ z. Places (not (is_common u) || b) z end old new last u.position) em h)

pub map_own : (sites : List stored.Site) (measures : List Measure) (i : ℕ) (m : Measure) (d : stored.Site) →
    measures ≡ map (unit_measure (sites_view sites)) (sites_view sites) → i < length sites →
    get_or measures i m ≡ unit_measure (sites_view sites) (site (get_or sites i d))
map_own sites measures i m d e h = ap (λ ms. get_or ms i m) e ∙ along (sites_view sites) sites i h
  where
    along : (all : List Site) (xs : List stored.Site) (i : ℕ) → i < length xs
        → get_or (map (unit_measure all) (sites_view xs)) i m ≡ unit_measure all (site (get_or xs i d))
    along all [] i h = absurd (omega arith)
    along all (x ∷ xs) zero h = refl
    along all (x ∷ xs) (suc i) h = along all xs i (omega arith)
