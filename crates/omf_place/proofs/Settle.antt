-- The settled addresses are placed.
use Rattle.std.proofs.Common.{◌≡◌, ℕ, ◌+◌, Bool, true, false, cond, not, eq-eqb, List, [], ◌∷◌, map, filter, Some}
use Rattle.std.proofs.Common.{slice_get, slice_index, refl, ap, sym, ◌∙◌, subst}
use Rattle.std.specs.List.{AllByRecursion}
use Rattle.std.proofs.lemmas.List.{length-map}
use Rattle.std.proofs.lemmas.Option.{slice_get-map, get_or_from_slice_get}
use Rattle.std.specs.Option.{option_map}
use Rattle.omf_module.specs.declared.Standing.TheVariants.{Absolute, Relocatable}
use Rattle.omf_place.specs.Parts.{Site, placement_order, is_part}
use Rattle.omf_place.specs.inside.Ranks.{rank, before}
use Rattle.omf_place.specs.inside.Placing.{is_common, is_relocatable, parts}
use Rattle.omf_place.specs.Placed.{IsNextStart, FollowFrom, StandsAside, IsPlaced, address_of, is_unit}
use Rattle.omf_place.specs.Placed.{leads, unit_alignment, unit_length}
use Rattle.omf_place.specs.inside.Numbered.{IsNumberedFrom}
use Rattle.omf_place.specs.inside.Walk.{units, settled, settled_at}
use Rattle.omf_place.proofs.Walks.{All-filter, All-map, All-sorted, numbered_found, found_in_order}
use Rattle.omf_place.proofs.Leaders.{leader, or_right}
use Rattle.omf_place.proofs.Only.{part_combined}

at_map : (f : Site → ℕ) (ss : List Site) (i : ℕ) (a : Site) → slice_get ss i ≡ Some a → slice_index (map f ss) i ≡ f a
at_map f ss i a e = get_or_from_slice_get (map f ss) i (f a) 0 (slice_get-map f ss i ∙ ap (option_map f) e)

-- a unit keeps its address
settled-unit : (ss : List Site) (A : List ℕ) (a : Site) → is_part a ≡ true → is_unit ss a ≡ true
    → settled ss A a ≡ address_of A a
settled-unit ss A a part unit =
    (elim a.segment.standing as (λ st. is_relocatable st ≡ true → settled_at ss A a st ≡ address_of A a)
    [ Absolute frame offset ↦ λ e. cc | Relocatable alignment kind ↦ λ e. rw unit refl ]) part

Follow-along : (ss : List Site) (A B : List ℕ) (e : ℕ) (us : List Site) (s : ℕ)
    → AllByRecursion (λ u. address_of B u ≡ address_of A u) us → FollowFrom ss A e us s → FollowFrom ss B e us s
Follow-along ss A B e [] s same f = f
Follow-along ss A B e (u ∷ us) s same f = (
  subst (λ z. IsNextStart e (unit_alignment ss u) z) (sym same.0) f.0,
  subst (λ z. FollowFrom ss B (z + unit_length ss u) us s) (sym same.0)
      (Follow-along ss A B (address_of A u + unit_length ss u) us s same.1 f.1),
)

pub kept_filter : {X : Type 0} (p : X → Bool) (xs : List X) → AllByRecursion (λ x. p x ≡ true) (filter p xs)
kept_filter p [] = tt
kept_filter p (x ∷ xs) =
    (elim (p x) as (λ b. p x ≡ b → AllByRecursion (λ y. p y ≡ true) (cond b (x ∷ filter p xs) (filter p xs))) [
      | true ↦ λ t. (t, kept_filter p xs)
      | false ↦ λ t. kept_filter p xs
    ]) refl

pub All-both : {X : Type 0} (P Q R : X → Type 0) (xs : List X) → ((x : X) → P x → Q x → R x) → AllByRecursion P xs
    → AllByRecursion Q xs → AllByRecursion R xs
All-both P Q R [] f ps qs = tt
All-both P Q R (x ∷ xs) f ps qs = (f x ps.0 qs.0, All-both P Q R xs f ps.1 qs.1)

stands : (ss : List Site) (A : List ℕ) → IsNumberedFrom 0 ss → (a : Site) → slice_get ss a.position ≡ Some a
    → StandsAside ss (map (settled ss A) ss) a a.segment.standing
stands ss A numbered a at =
    let here : address_of (map (settled ss A) ss) a ≡ settled ss A a = at_map (settled ss A) ss a.position a at in
    (elim a.segment.standing as (λ st.
    a.segment.standing ≡ st → address_of (map (settled ss A) ss) a ≡ settled_at ss A a st
    → StandsAside ss (map (settled ss A) ss) a st) [
      | Absolute frame offset ↦ λ e h. h
      | Relocatable alignment kind ↦ λ e h t.
          let part : is_part a ≡ true = ap is_relocatable e in
          let l = leader ss a numbered at in
          let w = l.1 in
          let unit : is_unit ss l.0 ≡ true =
          or_right (not (is_common l.0)) (leads ss l.0) (eq-eqb (rank ss l.0).segment l.0.position w.leads) in
          let there : slice_index (map (settled ss A) ss) l.0.position ≡ address_of A l.0 =
          at_map (settled ss A) ss l.0.position l.0 w.at
          ∙ settled-unit ss A l.0 (part_combined ss a l.0 at w.at part w.combined) unit in
          let mine : settled_at ss A a (Relocatable alignment kind) ≡ slice_index A (rank ss a).segment = rw t refl in
          h ∙ mine ∙ ap (λ i. slice_index A i) (sym w.is) ∙ sym there
          ∙ ap (λ i. slice_index (map (settled ss A) ss) i) w.is
    ]) refl here

pub settled_placed : (ss : List Site) (A : List ℕ) (size : ℕ) → IsNumberedFrom 0 ss → FollowFrom ss A 0 (units ss) size
    → IsPlaced ss (map (settled ss A) ss) size
settled_placed ss A size numbered f =
    let part_of =
    All-filter (λ a. is_part a ≡ true) (is_unit ss) (placement_order ss)
    (All-sorted (λ a b. before (rank ss a) (rank ss b)) (λ a. is_part a ≡ true) (parts ss) (kept_filter is_part ss)) in
    let here =
    All-filter (λ a. slice_get ss a.position ≡ Some a) (is_unit ss) (placement_order ss) (found_in_order ss numbered) in
    let same =
    All-both (λ a. slice_get ss a.position ≡ Some a) (λ a. (is_part a ≡ true) × (is_unit ss a ≡ true))
    (λ u. address_of (map (settled ss A) ss) u ≡ address_of A u) (units ss)
    (λ a e h. at_map (settled ss A) ss a.position a e ∙ settled-unit ss A a h.0 h.1) here
    (All-both (λ a. is_part a ≡ true) (λ a. is_unit ss a ≡ true) (λ a. (is_part a ≡ true) × (is_unit ss a ≡ true))
    (units ss) (λ a p q. (p, q)) part_of (kept_filter (is_unit ss) (placement_order ss))) in
    record {
      each = length-map ss (settled ss A);
      units = Follow-along ss A (map (settled ss A) ss) 0 (units ss) size same f;
      others =
          All-map (λ a. slice_get ss a.position ≡ Some a)
          (λ a. StandsAside ss (map (settled ss A) ss) a a.segment.standing) ss (λ a e. stands ss A numbered a e)
          (numbered_found ss numbered);
    }
