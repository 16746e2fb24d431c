-- Places of equal keys, as places of sites that combine or have one class.
use Rattle.std.proofs.Common.{◌≡◌, ℕ, Bool, true, false, cond, ◌&&◌, ◌||◌, eqb, eq-eqb, List, [], ◌∷◌, map, Option}
use Rattle.std.proofs.Common.{Some, None, slice_get, refl, ap, sym, ◌∙◌, subst}
use Rattle.std.proofs.lemmas.Bool.{eqb-true}
use Rattle.std.specs.List.{AllByRecursion, position_or_len}
use Rattle.std.specs.Str.{bytes_eq}
use Rattle.std.proofs.lemmas.Slice.Eq.{bytes_eq-Decides}
use Rattle.omf_module.specs.declared.Kind.{Kind}
use Rattle.omf_module.specs.declared.Kind.TheVariants.{Private, Public, Stack, Common}
use Rattle.omf_module.specs.declared.Standing.{Standing}
use Rattle.omf_module.specs.declared.Standing.TheVariants.{Absolute, Relocatable}
use Rattle.omf_place.specs.declared.order.Joining.{Joining}
use Rattle.omf_place.specs.declared.order.Joining.TheVariants as joining
use Rattle.omf_place.specs.Parts.{Site, combines, same_class, is_part}
use Rattle.omf_place.specs.inside.Ranks.{rank}
use Rattle.omf_place.specs.inside.Placing.{joins}
use Rattle.std.specs.Borrow.{Bor}
use denote.Enum.Bare.{sameb}
use Rattle.omf_place.specs.contracts.order.Joining.{the_type}
use Rattle.omf_place.specs.declared.order.SegmentKey.{SegmentKey}
use Rattle.omf_place.specs.declared.order.SegmentKey.TheVariants as held
use Rattle.omf_place.specs.declared.order.ClassKey.{ClassKey}
use Rattle.omf_place.specs.declared.order.ClassKey.TheVariants as held_class
use Rattle.omf_place.specs.inside.Keys.{key_view, class_view, Key, Alone, Joined, key, key_by, joining_of}
use Rattle.omf_place.specs.inside.Keys.{joining_of_kind, same_joining, same_key, class_of, same_option, class_place}
use Rattle.omf_place.specs.inside.Keys.{segment_place}
use Rattle.omf_place.proofs.Places.{place_map}
use Rattle.omf_place.proofs.SiteLists.{one_place}
use Rattle.omf_place.proofs.Walks.{numbered_found}
use Rattle.omf_place.specs.inside.Numbered.{IsNumberedFrom}

pub place_congr : {X : Type 0} (p q : X → Bool) (xs : List X) → AllByRecursion (λ x. p x ≡ q x) xs
    → position_or_len p xs ≡ position_or_len q xs
place_congr p q [] h = refl
place_congr p q (x ∷ xs) h = rw (h.0, place_congr p q xs h.1) refl

pub map_congr : {X Y : Type 0} (f g : X → Y) (xs : List X) → AllByRecursion (λ x. f x ≡ g x) xs → map f xs ≡ map g xs
map_congr f g [] h = refl
map_congr f g (x ∷ xs) h = rw (h.0, map_congr f g xs h.1) refl

pub All-make : {X : Type 0} (P : X → Type 0) (xs : List X) → ((x : X) → P x) → AllByRecursion P xs
All-make P [] f = tt
All-make P (x ∷ xs) f = (f x, All-make P xs f)

pub map_two : {X Y Z : Type 0} (f : X → Y) (h : Y → Z) (xs : List X) → map h (map f xs) ≡ map (λ x. h (f x)) xs
map_two f h [] = refl
map_two f h (x ∷ xs) = ap (λ ys. h (f x) ∷ ys) (map_two f h xs)

-- keys seen as those of the sites have the sites' places
pub places_along : {K V X : Type 0} (eq : K → K → Bool) (same : V → V → Bool) (view : K → V) (key_of : X → V)
    (keys : List K) (xs : List X) →
    ((k l : K) → eq k l ≡ same (view k) (view l)) → map view keys ≡ map key_of xs →
    map (λ k. position_or_len (eq k) keys) keys ≡ map (λ a. position_or_len (λ b. same (key_of a) (key_of b)) xs) xs
places_along {K} {V} {X} eq same view key_of keys xs is seen =
    let h : V → ℕ = λ v. position_or_len (same v) (map view keys) in
    let here : (k : K) → position_or_len (eq k) keys ≡ h (view k) = λ k.
    place_congr (eq k) (λ l. same (view k) (view l)) keys (All-make (λ l. eq k l ≡ same (view k) (view l)) keys (is k))
    ∙ sym (place_map view (same (view k)) keys) in
    let there : (a : X) → h (key_of a) ≡ position_or_len (λ b. same (key_of a) (key_of b)) xs = λ a.
    ap (λ vs. position_or_len (same (key_of a)) vs) seen ∙ place_map key_of (same (key_of a)) xs in
    map_congr (λ k. position_or_len (eq k) keys) (λ k. h (view k)) keys
    (All-make (λ k. position_or_len (eq k) keys ≡ h (view k)) keys here)
    ∙ sym (map_two view h keys) ∙ ap (λ vs. map h vs) seen ∙ map_two key_of h xs
    ∙ map_congr (λ a. h (key_of a)) (λ a. position_or_len (λ b. same (key_of a) (key_of b)) xs) xs
    (All-make (λ a. h (key_of a) ≡ position_or_len (λ b. same (key_of a) (key_of b)) xs) xs there)

abbrev both : Option Joining → Option Joining → Bool
both (Some j) (Some k) = same_joining j k
both x y = false

joins_kinds : (a b : ℕ) (j k : Kind) → joins (Relocatable a j) (Relocatable b k)
    ≡ both (joining_of_kind j) (joining_of_kind k)
joins_kinds a b Private k = refl
joins_kinds a b Public Private = refl
joins_kinds a b Public Public = refl
joins_kinds a b Public Stack = refl
joins_kinds a b Public Common = refl
joins_kinds a b Stack Private = refl
joins_kinds a b Stack Public = refl
joins_kinds a b Stack Stack = refl
joins_kinds a b Stack Common = refl
joins_kinds a b Common Private = refl
joins_kinds a b Common Public = refl
joins_kinds a b Common Stack = refl
joins_kinds a b Common Common = refl

joins_by : (s t : Standing) → joins s t ≡ both (joining_of s) (joining_of t)
joins_by (Absolute f o) t = refl
joins_by (Relocatable a j) (Relocatable b k) = joins_kinds a b j k
joins_by (Relocatable a Private) (Absolute f o) = refl
joins_by (Relocatable a Public) (Absolute f o) = refl
joins_by (Relocatable a Stack) (Absolute f o) = refl
joins_by (Relocatable a Common) (Absolute f o) = refl

apart_keys : (a b : Site) (x y : Option Joining) → eqb a.position b.position ≡ false →
    same_key (key_by a x) (key_by b y) ≡ both x y && (bytes_eq a.segment.name b.segment.name && same_class a b)
apart_keys a b None None e = e
apart_keys a b None (Some k) e = refl
apart_keys a b (Some j) None e = refl
apart_keys a b (Some j) (Some k) e = refl

bytes_eq-itself : (xs : List ℕ) → bytes_eq xs xs ≡ true
bytes_eq-itself xs = (bytes_eq-Decides xs xs).1 refl

same_joining-itself : (j : Joining) → same_joining j j ≡ true
same_joining-itself joining.Public = refl
same_joining-itself joining.Stack = refl
same_joining-itself joining.Common = refl

same_key-itself : (k : Key) → same_key k k ≡ true
same_key-itself (Alone p) = eq-eqb p p refl
same_key-itself (Joined j n c) = rw (same_joining-itself j, bytes_eq-itself n, bytes_eq-itself c) refl

pub keys_combine : (a b : Site) → (a.position ≡ b.position → a ≡ b) → same_key (key a) (key b) ≡ combines a b
keys_combine a b one =
    (elim (eqb a.position b.position) as (λ t. eqb a.position b.position ≡ t →
    same_key (key a) (key b)
    ≡ (t
    || (joins a.segment.standing b.segment.standing && (bytes_eq a.segment.name b.segment.name && same_class a b)))) [
      | true ↦
          λ e.
          let s : a ≡ b = one (eqb-true _ _ e) in
          subst (λ z. same_key (key a) (key z) ≡ true) s (same_key-itself (key a))
      | false ↦ λ e. apart_keys a b (joining_of a.segment.standing) (joining_of b.segment.standing) e
          ∙ ap (λ t. t && (bytes_eq a.segment.name b.segment.name && same_class a b))
          (sym (joins_by a.segment.standing b.segment.standing))
    ]) refl

All-within : {X : Type 0} (P Q : X → Type 0) (xs : List X) → ((x : X) → P x → Q x) → AllByRecursion P xs
    → AllByRecursion Q xs
All-within P Q [] f ps = tt
All-within P Q (x ∷ xs) f ps = (f x ps.0, All-within P Q xs f ps.1)

pub segment_places_are : (ss : List Site) → IsNumberedFrom 0 ss →
    map (λ a. position_or_len (λ b. same_key (key a) (key b)) ss) ss ≡ map (segment_place ss) ss
segment_places_are ss numbered =
    let at = numbered_found ss numbered in
    map_congr (λ a. position_or_len (λ b. same_key (key a) (key b)) ss) (segment_place ss) ss
    (All-within (λ a. slice_get ss a.position ≡ Some a)
    (λ a. position_or_len (λ b. same_key (key a) (key b)) ss ≡ segment_place ss a) ss
    (λ a ha. place_congr (λ b. same_key (key a) (key b)) (combines a) ss
    (All-within (λ b. slice_get ss b.position ≡ Some b) (λ b. same_key (key a) (key b) ≡ combines a b) ss
    (λ b hb. keys_combine a b (one_place ss a b ha hb)) at)) at)

-- the class of a part is first met at a part
pub class_place_is : (ss : List Site) (a : Site) → is_part a ≡ true → class_place ss a ≡ (rank ss a).class
class_place_is ss a part =
    place_congr (λ b. same_option (class_of a) (class_of b)) (λ b. is_part b && same_class a b) ss
    (All-make (λ b. same_option (class_of a) (class_of b) ≡ (is_part b && same_class a b)) ss
    (λ b.
    rw part
    (elim (is_part b) as (λ t.
    same_option (Some a.segment.class) (cond t (Some b.segment.class) None) ≡ (t && same_class a b)) [
      | true ↦ refl
      | false ↦ refl
    ])))

-- a test of keys, known by their cases
pub same_keys_by : (eq : SegmentKey → SegmentKey → Bool) → ((p q : ℕ) → eq (held.Alone p) (held.Alone q) ≡ eqb p q) →
    ((p : ℕ) (k : Joining) (n c : Bor (List ℕ)) → eq (held.Alone p) (held.Joined k n c) ≡ false) →
    ((p : ℕ) (k : Joining) (n c : Bor (List ℕ)) → eq (held.Joined k n c) (held.Alone p) ≡ false) →
    ((j k : Joining) (n c m d : Bor (List ℕ)) →
    eq (held.Joined j n c) (held.Joined k m d) ≡ same_joining j k && (bytes_eq n.now m.now && bytes_eq c.now d.now)) →
    (k l : SegmentKey) → eq k l ≡ same_key (key_view k) (key_view l)
same_keys_by eq f1 f2 f3 f4 (held.Alone p) (held.Alone q) = f1 p q
same_keys_by eq f1 f2 f3 f4 (held.Alone p) (held.Joined k m d) = f2 p k m d
same_keys_by eq f1 f2 f3 f4 (held.Joined j n c) (held.Alone q) = f3 q j n c
same_keys_by eq f1 f2 f3 f4 (held.Joined j n c) (held.Joined k m d) = f4 j k n c m d

pub same_classes_by : (eq : ClassKey → ClassKey → Bool) → (eq held_class.Absolute held_class.Absolute ≡ true) →
    ((n : Bor (List ℕ)) → eq held_class.Absolute (held_class.Of n) ≡ false) →
    ((n : Bor (List ℕ)) → eq (held_class.Of n) held_class.Absolute ≡ false) →
    ((n m : Bor (List ℕ)) → eq (held_class.Of n) (held_class.Of m) ≡ bytes_eq n.now m.now) →
    (k l : ClassKey) → eq k l ≡ same_option (class_view k) (class_view l)
same_classes_by eq f1 f2 f3 f4 held_class.Absolute held_class.Absolute = f1
same_classes_by eq f1 f2 f3 f4 held_class.Absolute (held_class.Of m) = f2 m
same_classes_by eq f1 f2 f3 f4 (held_class.Of n) held_class.Absolute = f3 n
same_classes_by eq f1 f2 f3 f4 (held_class.Of n) (held_class.Of m) = f4 n m

pub same_joinings : (j k : Joining) → sameb the_type j k ≡ same_joining j k
same_joinings joining.Public joining.Public = refl
same_joinings joining.Public joining.Stack = refl
same_joinings joining.Public joining.Common = refl
same_joinings joining.Stack joining.Public = refl
same_joinings joining.Stack joining.Stack = refl
same_joinings joining.Stack joining.Common = refl
same_joinings joining.Common joining.Public = refl
same_joinings joining.Common joining.Stack = refl
same_joinings joining.Common joining.Common = refl
