-- The inputs of a program whose parts stand.
use Rattle.std.proofs.Common.{◌≡◌, ℕ, ◌+◌, ◌<◌, ◌≤◌, ◌^◌, List, [], ◌∷◌, map, length, suc, Some, slice_get, get_or}
use Rattle.std.proofs.Common.{refl, ap, sym, ◌∙◌, arith, subst}
use Rattle.std.proofs.lemmas.List.{length-map}
use Rattle.std.proofs.lemmas.Option.{slice_get_within}
use Rattle.std.specs.List.{AllByRecursion}
use Rattle.omf_module.specs.declared.Standing.{Standing}
use Rattle.omf_module.specs.declared.Standing.TheVariants.{Absolute, Relocatable}
use Rattle.omf_module.specs.Module.{Module}
use Rattle.omf_module.specs.Sound.{GroupFits, IsMember, SegmentFits}
use Rattle.omf_place.specs.declared.inputs.Input as held
use Rattle.omf_place.specs.declared.spans.SegmentSpan.{SegmentSpan}
use Rattle.omf_place.specs.declared.stands.Stand.{Stand}
use Rattle.omf_place.specs.Parts.{Input, inputs_from, inputs}
use Rattle.omf_place.specs.Parts.{Site, sites}
use Rattle.omf_place.specs.Placed.{IsPlaced, address_of}
use Rattle.omf_place.specs.inside.Numbered.{IsNumberedFrom}
use Rattle.omf_place.specs.inside.Program.{addresses_of, AreStands, ArePlaced, HasStands, IsPlacedInput, IsSoundInput}
use Rattle.omf_place.specs.inside.Program.{RowIs, input_view}
use Rattle.omf_place.specs.inside.Sites.{site, sites_view}
use Rattle.omf_place.specs.inside.Spans.{IsLow, addresses_in, span_of}
use Rattle.omf_place.specs.inside.Stands.{StartsLow, stand_by, stand_of}
use Rattle.omf_place.proofs.KeyPlaces.{All-make, map_congr, map_two}
use Rattle.omf_place.proofs.LinkGroups.{to_recursion}
use Rattle.omf_place.proofs.LinkRows.{All-mapped_back, input_rows}
use Rattle.omf_place.proofs.SiteLists.{length-module_sites}
use Rattle.omf_place.proofs.SpanAddresses.{by_position}
use Rattle.omf_place.proofs.Walks.{All-map, numbered_found}
use Rattle.omf_place.proofs.Within.{address-within, end-low, start-within}

pub inputs-length : (p i : ℕ) (ms : List Module) → length (inputs_from p i ms) ≡ length ms
inputs-length p i [] = refl
inputs-length p i (m ∷ ms) = ap suc (inputs-length (p + length m.segments) (i + 1) ms)

All-mapped : {X Y : Type 0} (f : X → Y) (P : Y → Type 0) (xs : List X) → AllByRecursion (λ x. P (f x)) xs
    → AllByRecursion P (map f xs)
All-mapped f P [] ps = tt
All-mapped f P (x ∷ xs) ps = (ps.0, All-mapped f P xs ps.1)

pub indexed_from : (p i : ℕ) (ms : List Module) (count : ℕ) → i + length ms ≤ count
    → AllByRecursion (λ n. n.input < count) (inputs_from p i ms)
indexed_from p i [] count h = tt
indexed_from p i (m ∷ ms) count h =
    (omega (arith, h), indexed_from (p + length m.segments) (i + 1) ms count (omega (arith, h)))

lengths_from : (p i : ℕ) (ms : List Module)
    → AllByRecursion (λ n. length n.sites ≡ length n.says.segments) (inputs_from p i ms)
lengths_from p i [] = tt
lengths_from p i (m ∷ ms) = (length-module_sites p i 0 m.segments, lengths_from (p + length m.segments) (i + 1) ms)

stand_address : (ss : List Site) (A : List ℕ) (a : Site) (st : Standing)
    → (stand_by st (span_of ss A a)).address ≡ address_of A a
stand_address ss A a (Absolute frame offset) = refl
stand_address ss A a (Relocatable alignment kind) = refl

module _ (ss : List Site) (A : List ℕ) (size : ℕ) (numbered : IsNumberedFrom 0 ss) (placed : IsPlaced ss A size)
    (sound : AllByRecursion (λ a. SegmentFits a.segment) ss) (fits : size ≤ 1048560) where
  address-low : (k : ℕ) → get_or A k 0 < 2 ^ 21
  address-low k =
      let h = address-within ss A size numbered placed sound 1114351 (omega arith) (omega arith) k in omega (arith, h)

  pub spans-low : (spans : List SegmentSpan) → spans ≡ map (span_of ss A) ss → AllByRecursion IsLow spans
  spans-low spans is = subst (λ (xs : List SegmentSpan). AllByRecursion IsLow xs) (sym is)
      (All-mapped (span_of ss A) IsLow ss (All-make (λ a. IsLow (span_of ss A a)) ss
      (λ a. record {
        address = address-low a.position;
        start = address-low _;
        end = let h = end-low ss A size numbered placed sound 1114351 (omega arith) (omega arith) a in omega (arith, h);
      })))

  pub starts-low : AllByRecursion (StartsLow ss A) ss
  starts-low = All-map (λ a. slice_get ss a.position ≡ Some a) (StartsLow ss A) ss
      (λ a at part. let h = start-within ss A size numbered placed a at part in omega (arith, h))
      (numbered_found ss numbered)

  stands-address : (stands : List Stand) → stands ≡ map (stand_of ss A) ss → addresses_of stands ≡ A
  stands-address stands is =
      ap addresses_of is ∙ map_two (stand_of ss A) (λ (s : Stand). s.address) ss
      ∙ map_congr (λ a. (stand_of ss A a).address) (λ a. address_of A a) ss
      (All-make (λ a. (stand_of ss A a).address ≡ address_of A a) ss (λ a. stand_address ss A a a.segment.standing))
      ∙ by_position A 0 ss numbered (let e = placed.each in omega (arith, e))

  stands-are : (stands : List Stand) → stands ≡ map (stand_of ss A) ss → AreStands ss stands
  stands-are stands is = is ∙ ap (λ B. map (stand_of ss B) ss) (sym (stands-address stands is))

All-two : {X : Type 0} (P Q R : X → Type 0) (xs : List X) → ((x : X) → P x → Q x → R x) → AllByRecursion P xs
    → AllByRecursion Q xs → AllByRecursion R xs
All-two P Q R [] f ps qs = tt
All-two P Q R (x ∷ xs) f ps qs = (f x ps.0 qs.0, All-two P Q R xs f ps.1 qs.1)

module _ {H : Type 0} (program : List Module) (A : List ℕ) (size : ℕ) (numbered : IsNumberedFrom 0 (sites program))
    (placed : IsPlaced (sites program) A size)
    (fitting : AllByRecursion (λ a. SegmentFits a.segment) (sites program)) (fits : size ≤ 1048560)
    (xs : List (held.Input H)) (made : map input_view xs ≡ inputs program)
    (stands : AllByRecursion (HasStands (sites program) A) xs) (sound : AllByRecursion IsSoundInput xs) where
  abbrev Is : Input → Type 0
  Is n = RowIs n × (length n.sites ≡ length n.says.segments)

  views : (P : Input → Type 0) → AllByRecursion P (inputs program) → AllByRecursion (λ x. P (input_view x)) xs
  views P all = All-mapped_back input_view P xs (subst (λ ns. AllByRecursion P ns) (sym made) all)

  one : (x : held.Input H) → HasStands (sites program) A x → IsSoundInput x × Is (input_view x)
      → IsPlacedInput (sites program) A x
  one x own is =
      let m = x.says.now in
      let segments : length x.sites.now ≡ length m.segments = sym (length-map x.sites.now site) ∙ is.1.1 in
      let count : length x.stands.now ≡ length x.sites.now =
      ap length own ∙ length-map (sites_view x.sites.now) (stand_of (sites program) A) ∙ length-map x.sites.now site in
      record {
        sound = is.0;
        row = is.1.0;
        sites = segments;
        stands = count;
        low = subst (λ (ts : List Stand). AllByRecursion (λ s. s.address < 2 ^ 21) ts) (sym own)
            (All-mapped (stand_of (sites program) A) (λ s. s.address < 2 ^ 21) (sites_view x.sites.now)
            (All-make (λ a. (stand_of (sites program) A a).address < 2 ^ 21) (sites_view x.sites.now)
            (λ a.
            let e = stand_address (sites program) A a a.segment.standing in
            let l = address-low (sites program) A size numbered placed fitting fits a.position in
            omega (arith, e, l))));
        components =
            All-map (GroupFits m.segments m.groups m.externals)
            (λ g. AllByRecursion (λ k. k < length x.stands.now) g.members) m.groups
            (λ g fit. All-map (IsMember m.segments m.groups m.externals) (λ k. k < length x.stands.now) g.members
            (λ k c. let h = slice_get_within m.segments k c.0 c.1.0 in omega (arith, h, segments, count))
            (to_recursion (IsMember m.segments m.groups m.externals) g.members fit.members))
            (to_recursion (GroupFits m.segments m.groups m.externals) m.groups is.0.groups);
        own = own;
      }

  are-placed : ArePlaced program A xs
  are-placed =
      let count : length xs ≡ length program =
      sym (length-map xs input_view) ∙ ap length made ∙ inputs-length 0 0 program in
      record {
        made = made;
        each =
            All-two (HasStands (sites program) A) (λ x. IsSoundInput x × Is (input_view x))
            (IsPlacedInput (sites program) A) xs one stands
            (All-two IsSoundInput (λ x. Is (input_view x)) (λ x. IsSoundInput x × Is (input_view x)) xs
            (λ x p q. (p, q)) sound
            (views Is
            (All-two RowIs (λ n. length n.sites ≡ length n.says.segments) Is (inputs program) (λ n p q. (p, q))
            (input_rows program) (lengths_from 0 0 program))));
        indexed = views (λ n. n.input < length xs) (indexed_from 0 0 program (length xs) (omega (arith, count)));
        count = count;
      }

-- the stands and the inputs that the code gathers
module _ (program : List Module) (ss : List Site) (same : ss ≡ sites program) (A : List ℕ) (size : ℕ)
    (numbered : IsNumberedFrom 0 ss) (placed : IsPlaced ss A size)
    (fitting : AllByRecursion (λ a. SegmentFits a.segment) ss) (fits : size ≤ 1048560) (spans : List SegmentSpan)
    (own : addresses_in spans ≡ A) (stands given : List Stand)
    (are : stands ≡ map (stand_of ss (addresses_in spans)) ss) (is : given ≡ stands) where
  given-are : given ≡ map (stand_of ss A) ss
  given-are = is ∙ are ∙ ap (λ B. map (stand_of ss B) ss) own

  pub given-address : addresses_of given ≡ A
  given-address = stands-address ss A size numbered placed fitting fits given given-are

  pub given-stands : AreStands ss given
  given-stands = stands-are ss A size numbered placed fitting fits given given-are

  pub given-placed : {H : Type 0} (xs : List (held.Input H)) → map input_view xs ≡ inputs program →
      AllByRecursion (HasStands ss (addresses_of given)) xs → AllByRecursion IsSoundInput xs →
      ArePlaced program (addresses_of given) xs
  given-placed xs made has sound = subst (λ B. ArePlaced program B xs) (sym given-address)
      (are-placed program A size (subst (λ s. IsNumberedFrom 0 s) same numbered)
      (subst (λ s. IsPlaced s A size) same placed)
      (subst (λ s. AllByRecursion (λ a. SegmentFits a.segment) s) same fitting) fits xs made
      (subst (λ s. AllByRecursion (HasStands s A) xs) same
      (subst (λ B. AllByRecursion (HasStands ss B) xs) given-address has)) sound)
