-- Where classes and combined segments are first met, and the parts that stand for them.
use Rattle.std.proofs.Common.{◌≡◌, ℕ, zero, suc, ◌+◌, ◌<◌, Bool, true, false, cond, not, ◌&&◌, eqb, ltb, List, [], ◌∷◌}
use Rattle.std.proofs.Common.{◌++◌, length, take, map, filter, get_or, Some, slice_get, refl, ap, sym, ◌∙◌, arith}
use Rattle.std.proofs.lemmas.List.{length-map, map-append}
use Rattle.std.specs.List.{enumerate_from, list_any, position_or_len}
use Rattle.std.specs.Str.{bytes_eq}
use Rattle.omf_module.specs.declared.Kind.{Kind}
use Rattle.omf_module.specs.declared.Kind.TheVariants.{Private, Public, Stack, Common}
use Rattle.omf_module.specs.declared.Standing.{Standing}
use Rattle.omf_module.specs.declared.Standing.TheVariants.{Absolute, Relocatable}
use Rattle.omf_module.specs.declared.lookups.Segment as held_segment
use Rattle.omf_module.specs.Module.{Segment}
use Rattle.omf_module.specs.Seen.{segment_seen}
use Rattle.omf_place.specs.Parts.{is_kind}
use denote.Enum.Bare.{sameb}
use Rattle.omf_order.specs.contracts.openings.Joining.{the_type}
use Rattle.omf_order.specs.declared.openings.Joining.{Joining}
use Rattle.omf_order.specs.declared.openings.Joining.TheVariants as joining_as
use Rattle.omf_order.specs.declared.parts.Part as part
use Rattle.omf_order.specs.Segments.{combine, kind_of, same_class}
use Rattle.omf_order.specs.Parts.{Part, first_place, is_private, opens, part_of}
use Rattle.omf_order.specs.inside.Held.{joining, part_view, part_with, same_joining, same_key, segments_view}
use Rattle.omf_order.proofs.Lists.{filter_one}
use Rattle.omf_order.proofs.Found.{found}
use Rattle.omf_order.proofs.Selecting.{map_place, same_places}

kinds_join : (j k : Kind) (b : ℕ) → is_private j ≡ false
    → same_joining (joining j) (joining k) ≡ is_kind j (Relocatable b k)
kinds_join Private k b e = cc
kinds_join Public Private b e = refl
kinds_join Public Public b e = refl
kinds_join Public Stack b e = refl
kinds_join Public Common b e = refl
kinds_join Stack Private b e = refl
kinds_join Stack Public b e = refl
kinds_join Stack Stack b e = refl
kinds_join Stack Common b e = refl
kinds_join Common Private b e = refl
kinds_join Common Public b e = refl
kinds_join Common Stack b e = refl
kinds_join Common Common b e = refl

standings_join : (s t : Standing) → is_private (kind_of s) ≡ false
    → same_joining (joining (kind_of s)) (joining (kind_of t)) ≡ is_kind (kind_of s) t
standings_join (Absolute f o) t e = cc
standings_join (Relocatable a j) (Relocatable b k) e = kinds_join j k b e
standings_join (Relocatable a Private) (Absolute f o) e = cc
standings_join (Relocatable a Public) (Absolute f o) e = refl
standings_join (Relocatable a Stack) (Absolute f o) e = refl
standings_join (Relocatable a Common) (Absolute f o) e = refl

none_join : (s t : Standing) → is_private (kind_of s) ≡ true → is_kind (kind_of s) t ≡ false
none_join (Absolute f o) t e = refl
none_join (Relocatable a Private) (Absolute f o) e = refl
none_join (Relocatable a Public) (Absolute f o) e = cc
none_join (Relocatable a Stack) (Absolute f o) e = cc
none_join (Relocatable a Common) (Absolute f o) e = cc
none_join (Relocatable a Private) (Relocatable b k) e = refl
none_join (Relocatable a Public) (Relocatable b k) e = cc
none_join (Relocatable a Stack) (Relocatable b k) e = cc
none_join (Relocatable a Common) (Relocatable b k) e = cc

keys_combine : (a b : Segment) → is_private (kind_of a.standing) ≡ false → same_key a b ≡ combine a b
keys_combine a b e = ap (λ t. t && (bytes_eq a.name b.name && same_class a b)) (standings_join a.standing b.standing e)

pub any_none : {X : Type 0} (p : X → Bool) (xs : List X) → ((x : X) → p x ≡ false) → list_any p xs ≡ false
any_none p [] h = refl
any_none p (x ∷ xs) h = rw (h x, any_none p xs h) refl

-- the place that the code compares with a segment's own
pub opens_by : (P : List Segment) (s : Segment) (c k : ℕ) → c ≡ position_or_len (same_class s) P →
    k ≡ position_or_len (same_key s) P →
    cond (is_private (kind_of s.standing)) c k ≡ first_place P s
opens_by P s c k ec ek =
    (elim (is_private (kind_of s.standing)) as (λ b.
    is_private (kind_of s.standing) ≡ b → cond b c k ≡ position_or_len (cond b (same_class s) (combine s)) P) [
      | true ↦ λ e. ec
      | false ↦ λ e. ek ∙ same_places (same_key s) (combine s) P (λ b. keys_combine s b e)
    ]) refl

-- the part that the code makes
pub part_by : (G : List Segment) (s : Segment) (c k : ℕ) → c ≡ position_or_len (same_class s) G →
    k ≡ position_or_len (same_key s) G →
    part_with s (ltb k (length G)) (ltb c (length G)) ≡ part_of G s
part_by G s c k ec ek =
    let class : ltb c (length G) ≡ list_any (same_class s) G = ap (λ n. ltb n (length G)) ec ∙ found (same_class s) G in
    let group : (not (is_private (kind_of s.standing)) && ltb k (length G)) ≡ list_any (combine s) G =
    (elim (is_private (kind_of s.standing)) as (λ b.
    is_private (kind_of s.standing) ≡ b → (not b && ltb k (length G)) ≡ list_any (combine s) G) [
      | true ↦
          λ e.
          sym (any_none (combine s) G
          (λ b. ap (λ t. t && (bytes_eq s.name b.name && same_class s b)) (none_join s.standing b.standing e)))
      | false ↦
          λ e.
          ap (λ n. ltb n (length G)) (ek ∙ same_places (same_key s) (combine s) G (λ b. keys_combine s b e))
          ∙ found (combine s) G
    ]) refl in
    ap (λ b. record (part_of G s) { in_group = b; class_in_group = ltb c (length G) }) group
    ∙ ap (λ b. record (part_of G s) { class_in_group = b }) class

pub enumerated : {X : Type 0} (n : ℕ) (xs : List X) (i j : ℕ) (x : X) → slice_get xs i ≡ Some x → j ≡ n + i
    → slice_get (enumerate_from n xs) i ≡ Some (j, x)
enumerated n [] i j x e h = cc
enumerated n (y ∷ ys) zero j x e h = let h' : n ≡ j = omega arith in cc
enumerated n (y ∷ ys) (suc i) j x e h = enumerated (n + 1) ys i j x e (omega arith)

-- one segment more
pub parts-more : (P G : List Segment) (i : ℕ) (s : Segment) → slice_get P i ≡ Some s →
    map (λ (p : ℕ × Segment). part_of G p.1) (filter (opens P) (take (i + 1) (enumerate_from 0 P))) ≡
    map (λ (p : ℕ × Segment). part_of G p.1) (filter (opens P) (take i (enumerate_from 0 P)))
    ++ cond (eqb (first_place P s) i) (part_of G s ∷ []) []
parts-more P G i s e =
    let x : ℕ × Segment = (i, s) in
    let f : ℕ × Segment → Part = λ (p : ℕ × Segment). part_of G p.1 in
    let at : slice_get (enumerate_from 0 P) i ≡ Some x = enumerated 0 P i i s e (omega arith) in
    let one : filter (opens P) (take (i + 1) (enumerate_from 0 P))
    ≡ filter (opens P) (take i (enumerate_from 0 P)) ++ cond (opens P x) (x ∷ []) [] =
    filter_one (opens P) (enumerate_from 0 P) i x at in
    let last : map f (cond (opens P x) (x ∷ []) []) ≡ cond (opens P x) (part_of G s ∷ []) [] =
    elim (opens P x) as (λ b. map f (cond b (x ∷ []) []) ≡ cond b (part_of G s ∷ []) []) [
      | true ↦ refl
      | false ↦ refl
    ] in
    ap (map f) one ∙ map-append f (filter (opens P) (take i (enumerate_from 0 P))) (cond (opens P x) (x ∷ []) [])
    ∙ ap (λ ys. map f (filter (opens P) (take i (enumerate_from 0 P))) ++ ys) last

pub length-enumerate : {X : Type 0} (n : ℕ) (xs : List X) → length (enumerate_from n xs) ≡ length xs
length-enumerate n [] = refl
length-enumerate n (x ∷ xs) = ap suc (length-enumerate (n + 1) xs)

-- ---- keys of the code

map_two : {X Y Z : Type 0} (f : X → Y) (h : Y → Z) (xs : List X) → map h (map f xs) ≡ map (λ x. h (f x)) xs
map_two f h [] = refl
map_two f h (x ∷ xs) = ap (λ ys. h (f x) ∷ ys) (map_two f h xs)

map_same : {X Y : Type 0} (f h : X → Y) (xs : List X) → ((x : X) → f x ≡ h x) → map f xs ≡ map h xs
map_same f h [] e = refl
map_same f h (x ∷ xs) e = rw (e x, map_same f h xs e) refl

-- places of keys that segments have, as places of the segments
pub places_by : {K X V : Type 0} (eq : K → K → Bool) (key : X → K) (view : X → V) (same : V → V → Bool) →
    ((x y : X) → eq (key x) (key y) ≡ same (view x) (view y)) →
    (asked held : List X) →
    map (λ k. position_or_len (eq k) (map key held)) (map key asked)
    ≡ map (λ v. position_or_len (same v) (map view held)) (map view asked)
places_by eq key view same is asked held =
    map_two key (λ k. position_or_len (eq k) (map key held)) asked
    ∙ map_same (λ x. position_or_len (eq (key x)) (map key held)) (λ x. position_or_len (same (view x)) (map view held))
    asked
    (λ x.
    map_place key (eq (key x)) held ∙ same_places (λ y. eq (key x) (key y)) (λ y. same (view x) (view y)) held (is x)
    ∙ sym (map_place view (same (view x)) held))
    ∙ sym (map_two view (λ v. position_or_len (same v) (map view held)) asked)

-- the same of lists that are those keys
pub places_of : {K X V : Type 0} (eq : K → K → Bool) (key : X → K) (view : X → V) (same : V → V → Bool) →
    ((x y : X) → eq (key x) (key y) ≡ same (view x) (view y)) →
    (a h : List K) (asked held : List X) → a ≡ map key asked → h ≡ map key held →
    map (λ k. position_or_len (eq k) h) a ≡ map (λ v. position_or_len (same v) (map view held)) (map view asked)
places_of eq key view same is a h asked held ea eh =
    ap (λ ks. map (λ k. position_or_len (eq k) h) ks) ea
    ∙ ap (λ hs. map (λ k. position_or_len (eq k) hs) (map key asked)) eh ∙ places_by eq key view same is asked held

pub same_joinings : (j k : Joining) → sameb the_type j k ≡ same_joining j k
same_joinings joining_as.Private joining_as.Private = refl
same_joinings joining_as.Private joining_as.Public = refl
same_joinings joining_as.Private joining_as.Stack = refl
same_joinings joining_as.Private joining_as.Common = refl
same_joinings joining_as.Public joining_as.Private = refl
same_joinings joining_as.Public joining_as.Public = refl
same_joinings joining_as.Public joining_as.Stack = refl
same_joinings joining_as.Public joining_as.Common = refl
same_joinings joining_as.Stack joining_as.Private = refl
same_joinings joining_as.Stack joining_as.Public = refl
same_joinings joining_as.Stack joining_as.Stack = refl
same_joinings joining_as.Stack joining_as.Common = refl
same_joinings joining_as.Common joining_as.Private = refl
same_joinings joining_as.Common joining_as.Public = refl
same_joinings joining_as.Common joining_as.Stack = refl
same_joinings joining_as.Common joining_as.Common = refl

-- ---- the loop over the placed segments

seen_at : (ps : List held_segment.Segment) (i : ℕ) (d : held_segment.Segment) → i < length ps
    → slice_get (segments_view ps) i ≡ Some (segment_seen (get_or ps i d))
seen_at [] i d h = absurd (omega arith)
seen_at (p ∷ ps) zero d h = refl
seen_at (p ∷ ps) (suc i) d h = seen_at ps i d (omega arith)

place_at : (f : Segment → ℕ) (ps : List held_segment.Segment) (i : ℕ) (d : held_segment.Segment) → i < length ps
    → get_or (map f (segments_view ps)) i 0 ≡ f (segment_seen (get_or ps i d))
place_at f [] i d h = absurd (omega arith)
place_at f (p ∷ ps) zero d h = refl
place_at f (p ∷ ps) (suc i) d h = place_at f ps i d (omega arith)

pub first-step : (ps gs : List held_segment.Segment) (i : ℕ) (d : held_segment.Segment) (cs ks gcs gks : List ℕ)
    (first : ℕ) (bk bc : Bool) (old new : List part.Part) → i < length ps →
    cs ≡ map (λ s. position_or_len (same_class s) (segments_view ps)) (segments_view ps) →
    ks ≡ map (λ s. position_or_len (same_key s) (segments_view ps)) (segments_view ps) →
    gcs ≡ map (λ s. position_or_len (same_class s) (segments_view gs)) (segments_view ps) →
    gks ≡ map (λ s. position_or_len (same_key s) (segments_view gs)) (segments_view ps) →
    bk ≡ ltb (get_or gks i 0) (length gs) → bc ≡ ltb (get_or gcs i 0) (length gs) →
    first ≡ cond (is_private (kind_of (get_or ps i d).standing)) (get_or cs i 0) (get_or ks i 0) →
    map part_view old
    ≡ map (λ (p : ℕ × Segment). part_of (segments_view gs) p.1)
    (filter (opens (segments_view ps)) (take i (enumerate_from 0 (segments_view ps)))) →
    map part_view new
    ≡ map part_view old ++ cond (eqb first i) (part_with (segment_seen (get_or ps i d)) bk bc ∷ []) [] →
    map part_view new
    ≡ map (λ (p : ℕ × Segment). part_of (segments_view gs) p.1)
    (filter (opens (segments_view ps)) (take (i + 1) (enumerate_from 0 (segments_view ps))))
first-step ps gs i d cs ks gcs gks first bk bc old new h ec ek egc egk ebk ebc ef was is =
    let P = segments_view ps in
    let G = segments_view gs in
    let s = segment_seen (get_or ps i d) in
    let c : get_or cs i 0 ≡ position_or_len (same_class s) P =
    ap (λ xs. get_or xs i 0) ec ∙ place_at (λ a. position_or_len (same_class a) P) ps i d h in
    let k : get_or ks i 0 ≡ position_or_len (same_key s) P =
    ap (λ xs. get_or xs i 0) ek ∙ place_at (λ a. position_or_len (same_key a) P) ps i d h in
    let gc : get_or gcs i 0 ≡ position_or_len (same_class s) G =
    ap (λ xs. get_or xs i 0) egc ∙ place_at (λ a. position_or_len (same_class a) G) ps i d h in
    let gk : get_or gks i 0 ≡ position_or_len (same_key s) G =
    ap (λ xs. get_or xs i 0) egk ∙ place_at (λ a. position_or_len (same_key a) G) ps i d h in
    let count : length gs ≡ length G = sym (length-map gs segment_seen) in
    let is_k : bk ≡ ltb (get_or gks i 0) (length G) = ebk ∙ ap (λ m. ltb (get_or gks i 0) m) count in
    let is_c : bc ≡ ltb (get_or gcs i 0) (length G) = ebc ∙ ap (λ m. ltb (get_or gcs i 0) m) count in
    let place : first ≡ first_place P s = ef ∙ opens_by P s _ _ c k in
    let made : part_with s bk bc ≡ part_of G s =
    ap (λ b. part_with s b bc) is_k ∙ ap (λ b. part_with s (ltb (get_or gks i 0) (length G)) b) is_c
    ∙ part_by G s _ _ gc gk in
    is ∙ ap (λ ys. ys ++ cond (eqb first i) (part_with s bk bc ∷ []) []) was
    ∙ ap
    (λ f.
    map (λ (p : ℕ × Segment). part_of G p.1) (filter (opens P) (take i (enumerate_from 0 P)))
    ++ cond (eqb f i) (part_with s bk bc ∷ []) []) place
    ∙ ap
    (λ q.
    map (λ (p : ℕ × Segment). part_of G p.1) (filter (opens P) (take i (enumerate_from 0 P)))
    ++ cond (eqb (first_place P s) i) (q ∷ []) []) made
    ∙ sym (parts-more P G i s (seen_at ps i d h))
