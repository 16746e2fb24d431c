-- The groups of a module's segments, and its parts.
use Rattle.std.proofs.Common.{◌≡◌, ℕ, zero, suc, ◌+◌, ◌<◌, ◌≤◌, ◌||◌, Bool, true, false, cond, eqb, List, [], ◌∷◌}
use Rattle.std.proofs.Common.{◌-◌, ◌++◌, Option, Some, None, append-nil, length, length-set, drop, drop_of_length-le, find}
use Rattle.std.proofs.Common.{get_or, map, replicate, set, slice_get, take, take_all, refl, sym, ap, ap₂, ◌∙◌}
use Rattle.std.proofs.Common.{arith}
use Rattle.std.proofs.lemmas.Bool.{eqb-true, eqb-false}
use Rattle.std.proofs.lemmas.List.{get_or_default, get_or-replicate, get_or-set_other, get_or-set_same}
use Rattle.std.proofs.lemmas.List.{length-replicate}
use Rattle.std.proofs.lemmas.Option.{get_or_from_slice_get, none-some, same_Some, slice_get_within, some_pair_parts}
use Rattle.std.specs.List.{enumerate_from, flat_map, list_any}
use Rattle.link_map.proofs.Texts.{drop-one}
use Rattle.omf_frame.specs.Frame.{Frame}
use Rattle.omf_library.specs.Records.{module_records}
use Rattle.omf_lines.specs.Lines.{name_of}
use Rattle.omf_module.specs.Module.{Group, Module}
use Rattle.omf_place.specs.Layout.{Layout, ModulePlaces}
use Rattle.omf_place.specs.declared.layout.Position.{Position}
use Rattle.omf_place.specs.declared.layout.Position.TheVariants.{Relocatable}
use Rattle.link_map.specs.Detailed.{attribute_byte, group_name, group_of, has, module_parts, part_of, position_in}
use Rattle.link_map.specs.inside.Details.{HasGroups, filled, index_of, with_groups}

module _ {X : Type 0} (x : X) where
  pub length-filled : (ns : List ℕ) (t : List X) → length (filled x ns t) ≡ length t
  length-filled [] t = refl
  length-filled (n ∷ ns) t = length-filled ns (set t n x) ∙ length-set t n x

  set-at : (t : List X) (n k : ℕ) (d : X) → k < length t
      → get_or (set t n x) k d ≡ cond (eqb n k) x (get_or t k d)
  set-at t n k d h = go (eqb n k) refl
    where
      go : (b : Bool) → eqb n k ≡ b → get_or (set t n x) k d ≡ cond b x (get_or t k d)
      go true e = let same : n ≡ k = eqb-true n k e in rw same (get_or-set_same t k x d h)
      go false e = get_or-set_other t n k x d (λ same. eqb-false n k e (sym same))

  either : (a b : Bool) (y : X) → cond b x (cond a x y) ≡ cond (a || b) x y
  either true true y = refl
  either true false y = refl
  either false b y = refl

  filled-at : (ns : List ℕ) (t : List X) (k : ℕ) (d : X) → k < length t
      → get_or (filled x ns t) k d ≡ cond (list_any (λ n. eqb n k) ns) x (get_or t k d)
  filled-at [] t k d h = refl
  filled-at (n ∷ ns) t k d h =
      filled-at ns (set t n x) k d (omega (arith, h, length-set t n x))
      ∙ ap (cond (list_any (λ n. eqb n k) ns) x) (set-at t n k d h)
      ∙ either (eqb n k) (list_any (λ n. eqb n k) ns) (get_or t k d)

pub length-with_groups : (gs : List (ℕ × Group)) (t : List (Option ℕ)) → length (with_groups gs t) ≡ length t
length-with_groups [] t = refl
length-with_groups ((i, g) ∷ gs) t = length-filled (Some i) g.members (with_groups gs t) ∙ length-with_groups gs t

pub with_groups-at : (gs : List (ℕ × Group)) (t : List (Option ℕ)) (k : ℕ) → k < length t → get_or t k None ≡ None
    → get_or (with_groups gs t) k None ≡ index_of (find (has k) gs)
with_groups-at [] t k h none = none
with_groups-at ((i, g) ∷ gs) t k h none =
    filled-at (Some i) g.members (with_groups gs t) k None (omega (arith, h, length-with_groups gs t))
    ∙ ap (cond (has k (i, g)) (Some i)) (with_groups-at gs t k h none)
    ∙ first (has k (i, g)) (find (has k) gs)
  where
    first : (b : Bool) (found : Option (ℕ × Group))
        → cond b (Some i) (index_of found) ≡ index_of (cond b (Some (i, g)) found)
    first true found = refl
    first false found = refl

-- a slice of a whole vector that keeps its length is what the vector is then
written-whole : {X : Type 0} (slice items new : List X) (n : ℕ) → slice ≡ items → length new ≡ length slice
    → n ≡ length items → take n (new ++ drop (length new) items) ≡ new
written-whole slice items new n same keeps size =
    let none : drop (length new) items ≡ [] = drop_of_length-le items (omega (arith, keeps, ap length same)) in
    rw (none, append-nil new) (take_all n new (omega (arith, size, keeps, ap length same)))

-- the GRPDEF in front of the last ones is set too
pub table-more : (gs : List Group) (j : ℕ) (g : Group) (start slice items new : List (Option ℕ)) (n : ℕ) → 0 < j
    → slice_get gs (j - 1) ≡ Some g → items ≡ with_groups (enumerate_from j (drop j gs)) start
    → new ≡ filled (Some (j - 1)) g.members slice → slice ≡ items → n ≡ length items
    → take n (new ++ drop (length new) items) ≡ with_groups (enumerate_from (j - 1) (drop (j - 1) gs)) start
table-more gs j g start slice items new n low here was added same size =
    let i = j - 1 in
    let next : j ≡ i + 1 = omega (arith, low) in
    let rest = with_groups (enumerate_from (i + 1) (drop (i + 1) gs)) start in
    let before : slice ≡ rest = same ∙ was ∙ ap (λ m. with_groups (enumerate_from m (drop m gs)) start) next in
    let split : drop i gs ≡ g ∷ drop (i + 1) gs =
    drop-one gs i g (slice_get_within gs i g here)
    ∙ ap (λ x. x ∷ drop (i + 1) gs) (get_or_from_slice_get gs i g g here) in
    written-whole slice items new n same (ap length added ∙ length-filled (Some i) g.members slice) size ∙ added
    ∙ ap (filled (Some i) g.members) before
    ∙ ap (λ l. with_groups (enumerate_from i l) start) (sym split)

pub table-done : (m : Module) (j : ℕ) (table : List (Option ℕ)) → j ≤ 0
    → table ≡ with_groups (enumerate_from j (drop j m.groups)) (replicate (length m.segments) None) → HasGroups m table
table-done m j table low is =
    let first : j ≡ 0 = omega (arith, low) in
    let gs = enumerate_from 0 m.groups in
    let blank = replicate (length m.segments) None in
    let all : table ≡ with_groups gs blank =
    is ∙ ap (λ i. with_groups (enumerate_from i (drop i m.groups)) blank) first in
    let size = length-replicate (length m.segments) None in
    record {
      len = ap length all ∙ length-with_groups gs blank ∙ size;
      each = λ k h.
          ap (λ t. get_or t k None) all
          ∙ with_groups-at gs blank k (omega (arith, h, size))
          (get_or-replicate (length m.segments) k None None h);
    }

-- what is found stands at its index
abbrev FoundAt : List Group → (n i : ℕ) → Group → Type 0
FoundAt gs n i g = (j : ℕ) × (i ≡ n + j) × (slice_get gs j ≡ Some g)

found-first : (x : Group) (gs : List Group) (n k i : ℕ) (g : Group) (b : Bool) (found : Option (ℕ × Group))
    → (found ≡ Some (i, g) → FoundAt gs (n + 1) i g) → cond b (Some (n, x)) found ≡ Some (i, g)
    → FoundAt (x ∷ gs) n i g
found-first x gs n k i g true found later e =
    let (same, is) = some_pair_parts n i x g e in (zero, omega (arith, same), ap Some is)
found-first x gs n k i g false found later e =
    let (j, same, at) = later e in (suc j, omega (arith, same), at)

found-at : (gs : List Group) (n k i : ℕ) (g : Group) → find (has k) (enumerate_from n gs) ≡ Some (i, g)
    → FoundAt gs n i g
found-at [] n k i g e = absurd (none-some _ e)
found-at (x ∷ gs) n k i g e =
    found-first x gs n k i g (has k (n, x)) (find (has k) (enumerate_from (n + 1) gs)) (found-at gs (n + 1) k i g) e

pub group-at : (gs : List Group) (k i : ℕ) → Some i ≡ index_of (group_of gs k)
    → (g : Group) × (group_of gs k ≡ Some (i, g)) × (slice_get gs i ≡ Some g)
group-at gs k i e = go (group_of gs k) refl e
  where
    go : (r : Option (ℕ × Group)) → group_of gs k ≡ r → Some i ≡ index_of r
        → (g : Group) × (group_of gs k ≡ Some (i, g)) × (slice_get gs i ≡ Some g)
    go None is e = absurd (none-some _ (sym e))
    go (Some (h, g)) is e =
        let (j, same, at) = found-at gs 0 k h g is in
        let here : i ≡ h = cc in
        let there : h ≡ j = omega (arith, same) in
        rw here (g, is, rw there at)

-- it is one of the module's
pub group-within : (gs : List Group) (k i : ℕ) → Some i ≡ index_of (group_of gs k) → i < length gs
group-within gs k i e = let (g, is, at) = group-at gs k i e in slice_get_within gs i g at

pub group-named : (gs : List Group) (k i : ℕ) (g : Group) → Some i ≡ index_of (group_of gs k) → slice_get gs i ≡ Some g
    → g.name ≡ group_name (group_of gs k)
group-named gs k i g e here =
    let (found, is, at) = group-at gs k i e in rw is (ap (λ (x : Group). x.name) (same_Some _ _ (sym here ∙ at)))

-- and where a segment of it stands
pub group-placed : (places : ModulePlaces) (gs : List Group) (k i address : ℕ) (own frame : Option ℕ)
    (position : Position) → Some i ≡ index_of (group_of gs k) → length places.groups ≡ length gs
    → position ≡ Relocatable address own → frame ≡ get_or places.groups i None
    → Relocatable address frame ≡ position_in places (group_of gs k) position
group-placed places gs k i address own frame position e same stands is =
    let (g, found, at) = group-at gs k i e in
    let within : i < length places.groups = omega (arith, same, slice_get_within gs i g at) in
    rw (found, stands) (ap (Relocatable address) (is ∙ get_or_default places.groups i None own within))

-- what a module's records say of its parts
pub module-parts : (layout : Layout) (bytes : List ℕ) (frames : List Frame) (name attributes : List ℕ) (input : ℕ)
    (m : Module) → frames ≡ module_records bytes 0 → name ≡ name_of frames
    → attributes ≡ flat_map attribute_byte frames
    → map (part_of layout name attributes (input, m)) (enumerate_from 0 m.segments)
    ≡ module_parts layout bytes (input, m)
module-parts layout bytes frames name attributes input m records named said =
    ap₂ (λ n a. map (part_of layout n a (input, m)) (enumerate_from 0 m.segments)) named said
    ∙ ap (λ fs. map (part_of layout (name_of fs) (flat_map attribute_byte fs) (input, m)) (enumerate_from 0 m.segments))
    records
