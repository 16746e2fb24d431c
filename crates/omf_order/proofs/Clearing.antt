-- The first data that start-up code would clear, as the code finds it.
use Rattle.std.proofs.Common.{◌≡◌, ℕ, zero, suc, ◌+◌, Bool, true, false, cond, ◌&&◌, eqb, List, [], ◌∷◌, ◌++◌, length}
use Rattle.std.proofs.Common.{map, take, filter, get_or, Option, Some, None, is_some, slice_get, ◌<◌, refl, ap, sym, ◌∙◌, arith}
use Rattle.std.specs.List.{enumerate_from, flat_map, list_any, zip}
use Rattle.std.specs.Option.{option_map, option_to_list}
use Rattle.std.specs.Str.{bytes_eq}
use Rattle.omf_module.specs.declared.Kind.{Kind}
use Rattle.omf_module.specs.declared.Kind.TheVariants.{Private, Public, Stack, Common}
use Rattle.omf_module.specs.declared.Standing.{Standing}
use Rattle.omf_module.specs.declared.Standing.TheVariants.{Absolute, Relocatable}
use Rattle.omf_module.specs.declared.lookups.Segment as held_segment
use Rattle.omf_module.specs.Module.{DataRecord, Module, Segment}
use Rattle.omf_module.specs.Seen.{segment_seen}
use Rattle.omf_place.specs.Parts.{is_kind}
use Rattle.omf_order.specs.declared.openings.Combining.{Combining}
use Rattle.omf_order.specs.declared.parts.Part as held
use Rattle.omf_order.specs.Cleared.{Lost, has_bytes, is_cleared, joins, lost_by}
use Rattle.omf_order.specs.Parts.{Part, is_private}
use Rattle.omf_order.specs.Plan.{is_empty}
use Rattle.omf_order.specs.Segments.{kind_of}
use Rattle.omf_order.specs.inside.Held.{combining, joining, part_key, part_view, parts_view, same_joining}
use Rattle.omf_order.proofs.ByKey.{apart-over}
use Rattle.omf_order.proofs.FirstMet.{any_none, enumerated}
use Rattle.omf_order.proofs.Lists.{flat_map_one}

-- ---- which parts a segment combines with

kinds_meet : (j k : Kind) (b : ℕ) → is_private j ≡ false
    → same_joining (joining j) (joining k) ≡ is_kind k (Relocatable b j)
kinds_meet Private k b e = cc
kinds_meet Public Private b e = refl
kinds_meet Public Public b e = refl
kinds_meet Public Stack b e = refl
kinds_meet Public Common b e = refl
kinds_meet Stack Private b e = refl
kinds_meet Stack Public b e = refl
kinds_meet Stack Stack b e = refl
kinds_meet Stack Common b e = refl
kinds_meet Common Private b e = refl
kinds_meet Common Public b e = refl
kinds_meet Common Stack b e = refl
kinds_meet Common Common b e = refl

standing_meets : (s : Standing) (k : Kind) → is_private (kind_of s) ≡ false
    → same_joining (joining (kind_of s)) (joining k) ≡ is_kind k s
standing_meets (Absolute f o) k e = cc
standing_meets (Relocatable b j) k e = kinds_meet j k b e

alone : (k : Kind) (s : Standing) → is_private (kind_of s) ≡ true → is_kind k s ≡ false
alone Private s e = refl
alone Public (Absolute f o) e = refl
alone Public (Relocatable b Private) e = refl
alone Public (Relocatable b Public) e = cc
alone Public (Relocatable b Stack) e = cc
alone Public (Relocatable b Common) e = cc
alone Stack (Absolute f o) e = refl
alone Stack (Relocatable b Private) e = refl
alone Stack (Relocatable b Public) e = cc
alone Stack (Relocatable b Stack) e = cc
alone Stack (Relocatable b Common) e = cc
alone Common (Absolute f o) e = refl
alone Common (Relocatable b Private) e = refl
alone Common (Relocatable b Public) e = cc
alone Common (Relocatable b Stack) e = cc
alone Common (Relocatable b Common) e = cc

-- two keys are one
abbrev pub same_combining : Combining → Combining → Bool
same_combining a b =
    same_joining a.kind b.kind && (bytes_eq a.name.now b.name.now && bytes_eq a.class.now b.class.now)

-- by their keys
pub joins_by : (eq : Combining → Combining → Bool) (s : held_segment.Segment) (ps : List held.Part) →
    ((x y : Combining) → eq x y ≡ same_combining x y) → is_private (kind_of s.standing) ≡ false →
    list_any (eq (combining s)) (map part_key ps) ≡ list_any (joins (segment_seen s)) (parts_view ps)
joins_by eq s [] is e = refl
joins_by eq s (p ∷ ps) is e =
    let here : eq (combining s) (part_key p) ≡ joins (segment_seen s) (part_view p) =
    is (combining s) (part_key p)
    ∙ ap (λ b. b && (bytes_eq s.name.now p.name.now && bytes_eq s.class.now p.class.now))
    (standing_meets s.standing p.kind e) in
    rw (here, joins_by eq s ps is e) refl

-- a private one combines with none
pub joins_none : (s : held_segment.Segment) (ps : List held.Part) → is_private (kind_of s.standing) ≡ true
    → list_any (joins (segment_seen s)) (parts_view ps) ≡ false
joins_none s ps e =
    any_none (joins (segment_seen s)) (parts_view ps)
    (λ p. ap (λ b. b && (bytes_eq s.name.now p.name && bytes_eq s.class.now p.class)) (alone p.kind s.standing e))

-- ---- whether a data record has bytes

pub zip_empty : (ps bs : List ℕ) → length bs ≡ length ps → is_empty (zip ps bs) ≡ eqb (length bs) 0
zip_empty [] [] e = refl
zip_empty [] (b ∷ bs) e = absurd (omega (arith, e))
zip_empty (p ∷ ps) [] e = absurd (omega (arith, e))
zip_empty (p ∷ ps) (b ∷ bs) e = sym (apart-over (length (b ∷ bs)) 0 (omega arith))

-- ---- the first of what many give

front_at : {X : Type 0} (xs ys : List X) (x : X) → slice_get xs 0 ≡ Some x → slice_get (xs ++ ys) 0 ≡ Some x
front_at [] ys x e = cc
front_at (z ∷ zs) ys x e = e

pub nothing : {X : Type 0} (xs : List X) → slice_get xs 0 ≡ None → xs ≡ []
nothing [] e = refl
nothing (x ∷ xs) e = cc

front_nil : {X : Type 0} (xs ys : List X) → xs ++ ys ≡ [] → xs ≡ []
front_nil [] ys e = refl
front_nil (x ∷ xs) ys e = cc

back_nil : {X : Type 0} (xs ys : List X) → xs ++ ys ≡ [] → ys ≡ []
back_nil [] ys e = e
back_nil (x ∷ xs) ys e = cc

pub first_given : {X Y : Type 0} (f : X → List Y) (xs : List X) (i : ℕ) (x : X) (y : Y) → slice_get xs i ≡ Some x →
    flat_map f (take i xs) ≡ [] → slice_get (f x) 0 ≡ Some y → slice_get (flat_map f xs) 0 ≡ Some y
first_given f [] i x y e none is = cc
first_given f (z ∷ zs) zero x y e none is =
    let same : z ≡ x = cc in
    front_at (f z) (flat_map f zs) y (ap (λ v. slice_get (f v) 0) same ∙ is)
first_given f (z ∷ zs) (suc i) x y e none is =
    let here : f z ≡ [] = front_nil (f z) (flat_map f (take i zs)) none in
    let rest : flat_map f (take i zs) ≡ [] = back_nil (f z) (flat_map f (take i zs)) none in
    ap (λ ys. slice_get (ys ++ flat_map f zs) 0) here ∙ first_given f zs i x y e rest is

pub none_more : {X Y : Type 0} (f : X → List Y) (xs : List X) (i : ℕ) (x : X) → slice_get xs i ≡ Some x →
    flat_map f (take i xs) ≡ [] → f x ≡ [] → flat_map f (take (i + 1) xs) ≡ []
none_more f xs i x e none is = flat_map_one f xs i x e ∙ ap (λ ys. ys ++ f x) none ∙ is

-- the same of what is found of each, if anything
pub first_of : {L X Y : Type 0} (view : L → Y) (f : X → List Y) (xs : List X) (i : ℕ) (x : X) (o : Option L) →
    slice_get xs i ≡ Some x → flat_map f (take i xs) ≡ [] → is_some o ≡ true → option_map view o ≡ slice_get (f x) 0 →
    option_map view o ≡ slice_get (flat_map f xs) 0
first_of view f xs i x None e none t is = cc
first_of view f xs i x (Some l) e none t is = sym (first_given f xs i x (view l) e none (sym is))

pub none_of : {L X Y : Type 0} (view : L → Y) (f : X → List Y) (x : X) (o : Option L) → is_some o ≡ false →
    option_map view o ≡ slice_get (f x) 0 → f x ≡ []
none_of view f x None t is = nothing (f x) (sym is)
none_of view f x (Some l) t is = cc

at_place : {X : Type 0} (xs : List X) (i : ℕ) (d : X) → i < length xs → slice_get xs i ≡ Some (get_or xs i d)
at_place [] i d h = absurd (omega arith)
at_place (x ∷ xs) zero d h = refl
at_place (x ∷ xs) (suc i) d h = at_place xs i d (omega arith)

-- an element of a list, with its place
pub enumerated_at : {X : Type 0} (xs : List X) (i : ℕ) (x : X) → i < length xs → x ≡ get_or xs i x
    → slice_get (enumerate_from 0 xs) i ≡ Some (i, x)
enumerated_at xs i x h is = enumerated 0 xs i i x (at_place xs i x h ∙ ap Some (sym is)) (omega arith)

-- ---- what a data record has of it

pub lost_one : (early : List Part) (m : ℕ × Module) (d : DataRecord) (s : Segment) →
    slice_get m.1.segments d.segment ≡ Some s →
    lost_by early m d
    ≡ cond (has_bytes d && is_cleared early s) (record { input = m.0; segment = s.name } ∷ []) []
lost_one early m d s e =
    let f : Segment → Lost = λ s. record { input = m.0; segment = s.name } in
    ap (λ o. map f (filter (λ s. has_bytes d && is_cleared early s) (option_to_list o))) e
    ∙ (elim (has_bytes d && is_cleared early s) as (λ b. map f (cond b (s ∷ []) []) ≡ cond b (f s ∷ []) []) [
      | true ↦ refl
      | false ↦ refl
    ])

pub lost_here : (early : List Part) (m : ℕ × Module) (d : DataRecord) (s : Segment) →
    slice_get m.1.segments d.segment ≡ Some s → (has_bytes d && is_cleared early s) ≡ true →
    slice_get (lost_by early m d) 0 ≡ Some (record { input = m.0; segment = s.name })
lost_here early m d s e t =
    ap (λ ys. slice_get ys 0)
    (lost_one early m d s e ∙ ap (λ b. cond b (record { input = m.0; segment = s.name } ∷ []) []) t)

pub lost_not : (early : List Part) (m : ℕ × Module) (d : DataRecord) (s : Segment) →
    slice_get m.1.segments d.segment ≡ Some s → (has_bytes d && is_cleared early s) ≡ false →
    lost_by early m d ≡ []
lost_not early m d s e t =
    lost_one early m d s e ∙ ap (λ b. cond b (record { input = m.0; segment = s.name } ∷ []) []) t
