-- The bytes of an image that is kept in pages, and of one in which a page is replaced.
use Rattle.std.proofs.Common.{◌≡◌, ◌≢◌, ℕ, ◌+◌, ◌*◌, ◌/◌, ◌%◌, ◌<◌, ◌≤◌, Bool, true, false, not, List, [], ◌∷◌, map}
use Rattle.std.proofs.Common.{take, drop, set, flat_map, replicate, length, get_or, cond, eqb, All, refl, ap, ◌∙◌, sym}
use Rattle.std.proofs.Common.{arith, subst, inl, inr, eq-eqb, lit<, Vec, vec_len}
use Rattle.std.proofs.lemmas.List.{get_or_default, map-set, ext_get_or, length-append, length-take, length-set}
use Rattle.std.proofs.lemmas.List.{length-map, get_or-take, get_or-drop, length-drop, get_or-map, get_or_past}
use Rattle.std.proofs.lemmas.List.{length-replicate, get_or-replicate, get_or-set_same, get_or-set_other}
use Rattle.std.proofs.lemmas.List.Elements.{All-take, All-get_or, All-map, All-set, All-weaker, recursion_from_All}
use Rattle.std.proofs.lemmas.List.Concat.{get_or-flat_map}
use Rattle.std.proofs.lemmas.Bool.{cases_eq, cases_lt, cond-true, cond-false, ne_eqb, eqb-false}
use Rattle.std.specs.List.{AllByRecursion}
use Rattle.omf_image.specs.inside.Pages.{page_bytes, joined, made_pages, IsPage, IsPaged}

not-true : (b : Bool) → not b ≡ true → b ≡ false
not-true true h = cc
not-true false h = refl

length-rec : (n : ℕ) (xs : List (List ℕ)) → AllByRecursion (λ x. length (page_bytes x) ≡ n) xs
    → length (flat_map page_bytes xs) ≡ length xs * n
length-rec n [] h = omega arith
length-rec n (x ∷ xs) h = omega (arith, length-append (page_bytes x) (flat_map page_bytes xs), h.0, length-rec n xs h.1)

pub full : (p : List ℕ) → IsPage p → length (page_bytes p) ≡ 4096
full p h = elim h [
  | inl e ↦
      ap length (cond-true (eqb (length p) 0) (replicate 4096 0) p (eq-eqb (length p) 0 e))
      ∙ length-replicate {A = ℕ} 4096 0
  | inr e ↦ ap length (cond-false (eqb (length p) 0) (replicate 4096 0) p (ne_eqb (length p) 0 (λ k. omega arith))) ∙ e
]

all_full : (ps : List (List ℕ)) → All IsPage ps → All (λ p. length (page_bytes p) ≡ 4096) ps
all_full ps h = All-weaker IsPage (λ p. length (page_bytes p) ≡ 4096) full ps h

length-pages : (ps : List (List ℕ)) → All IsPage ps → length (flat_map page_bytes ps) ≡ length ps * 4096
length-pages ps h = length-rec 4096 ps (recursion_from_All (λ p. length (page_bytes p) ≡ 4096) ps (all_full ps h))

pub length-joined : (size : ℕ) (ps : List (List ℕ)) → IsPaged size ps → length (joined size ps) ≡ size
unfolding joined
length-joined size ps h = omega (arith, length-take size (flat_map page_bytes ps), length-pages ps h.each, h.room)

-- the byte at an address is that of its page
pub get_or-joined : (size : ℕ) (ps : List (List ℕ)) (a : ℕ) → IsPaged size ps → a < size
    → get_or (joined size ps) a 0 ≡ get_or (page_bytes (get_or ps (a / 4096) [])) (a % 4096) 0
unfolding joined
get_or-joined size ps a h k =
    let i = a / 4096 in
    let room = h.room in
    let n : length (take i ps) ≡ i = length-take i ps ∙ omega arith in
    let front : length (flat_map page_bytes (take i ps)) ≡ length (take i ps) * 4096 =
    length-pages (take i ps) (All-take IsPage i ps h.each) in
    let here : length (page_bytes (get_or ps i [])) ≡ 4096 =
    full (get_or ps i []) (All-get_or IsPage ps i [] (omega arith) h.each) in
    let place : a ≡ length (flat_map page_bytes (take i ps)) + a % 4096 = omega (arith, front, n) in
    get_or-take size (flat_map page_bytes ps) a 0 k
    ∙ ap (λ (b : ℕ). get_or (flat_map page_bytes ps) b 0) place
    ∙ get_or-flat_map page_bytes ps i (a % 4096) [] 0 (omega arith) (omega (arith, here))

pub absent : (p : List ℕ) (i : ℕ) → length p ≡ 0 → i < 4096 → get_or (page_bytes p) i 0 ≡ 0
absent p i e h =
    ap (λ (l : List ℕ). get_or l i 0) (cond-true (eqb (length p) 0) (replicate 4096 0) p (eq-eqb (length p) 0 e))
    ∙ get_or-replicate 4096 i 0 0 h

pub page_bytes-absent : (p : List ℕ) → length p ≡ 0 → page_bytes p ≡ replicate 4096 0
page_bytes-absent p e = cond-true (eqb (length p) 0) (replicate 4096 0) p (eq-eqb (length p) 0 e)

pub page_bytes-present : (p : List ℕ) → length p ≢ 0 → page_bytes p ≡ p
page_bytes-present p e = cond-false (eqb (length p) 0) (replicate 4096 0) p (ne_eqb (length p) 0 e)

-- which pages were made, one by one
pub get_or-made : (ps : List (List ℕ)) (k : ℕ) → get_or (made_pages ps) k false ≡ not (eqb (length (get_or ps k [])) 0)
unfolding made_pages
get_or-made ps k = elim (cases_lt k (length ps)) [
  | inl l ↦ get_or-map (λ (p : List ℕ). not (eqb (length p) 0)) ps k [] false l
  | inr l ↦ get_or_past (map (λ (p : List ℕ). not (eqb (length p) 0)) ps) k false (simp length-map l)
      ∙ sym (ap (λ (p : List ℕ). not (eqb (length p) 0)) (get_or_past ps k [] l))
]

pub paged-set : (size : ℕ) (ps : List (List ℕ)) (i : ℕ) (p : List ℕ) → IsPaged size ps → IsPage p
    → IsPaged size (set ps i p)
paged-set size ps i p h k =
    record { room = omega (arith, length-set ps i p, h.room); small = h.small; each = All-set IsPage ps i p k h.each }

-- a page with one byte replaced
pub joined-put : (size : ℕ) (ps : List (List ℕ)) (a v : ℕ) (p : List ℕ) → IsPaged size ps → a < size → length p ≡ 4096
    → p ≡ set (page_bytes (get_or ps (a / 4096) [])) (a % 4096) v
    → joined size (set ps (a / 4096) p) ≡ set (joined size ps) a v
joined-put size ps a v p h k n e =
    let i = a / 4096 in
    let qs = set ps i p in
    let old = page_bytes (get_or ps i []) in
    let room = h.room in
    let inside : i < length ps = omega arith in
    let here : length old ≡ 4096 = full (get_or ps i []) (All-get_or IsPage ps i [] inside h.each) in
    let paged = paged-set size ps i p h (inr n) in
    let new : page_bytes p ≡ p = page_bytes-present p (λ z. omega arith) in
    let n1 = length-joined size qs paged in
    let n2 : length (set (joined size ps) a v) ≡ size = length-set (joined size ps) a v ∙ length-joined size ps h in
    ext_get_or 0 (joined size qs) (set (joined size ps) a v) (n1 ∙ sym n2) (λ b l.
    let m : b < size = omega (arith, l, n1) in
    get_or-joined size qs b paged m ∙
    elim (cases_eq (b / 4096) i) [
      | inl q ↦
          ap (λ (j : ℕ). get_or (page_bytes (get_or qs j [])) (b % 4096) 0) q
          ∙ ap (λ (x : List ℕ). get_or (page_bytes x) (b % 4096) 0) (get_or-set_same ps i p [] inside)
          ∙ ap (λ (x : List ℕ). get_or x (b % 4096) 0) (new ∙ e)
          ∙ elim (cases_eq b a) [
            | inl r ↦
                ap (λ (j : ℕ). get_or (set old (a % 4096) v) (j % 4096) 0) r
                ∙ get_or-set_same old (a % 4096) v 0 (omega (arith, here))
                ∙ sym
                (ap (λ (j : ℕ). get_or (set (joined size ps) a v) j 0) r
                ∙ get_or-set_same (joined size ps) a v 0 (omega (arith, length-joined size ps h, k)))
            | inr r ↦
                get_or-set_other old (a % 4096) (b % 4096) v 0 (λ z. r (omega (arith, q, z)))
                ∙ ap (λ (j : ℕ). get_or (page_bytes (get_or ps j [])) (b % 4096) 0) (sym q)
                ∙ sym (get_or-set_other (joined size ps) a b v 0 r ∙ get_or-joined size ps b h m)
          ]
      | inr q ↦
          ap (λ (x : List ℕ). get_or (page_bytes x) (b % 4096) 0) (get_or-set_other ps i (b / 4096) p [] q)
          ∙ sym
          (get_or-set_other (joined size ps) a b v 0 (λ r. q (ap (λ (j : ℕ). j / 4096) r))
          ∙ get_or-joined size ps b h m)
    ])

pub made-put : (ps : List (List ℕ)) (i : ℕ) (p : List ℕ) (k : ℕ) → i < length ps → length p ≡ 4096
    → get_or (made_pages (set ps i p)) k false ≡ cond (eqb k i) true (get_or (made_pages ps) k false)
made-put ps i p k room n =
    get_or-made (set ps i p) k ∙
    elim (cases_eq k i) [
      | inl e ↦
          ap (λ (x : List ℕ). not (eqb (length x) 0))
          (ap (λ (j : ℕ). get_or (set ps i p) j []) e ∙ get_or-set_same ps i p [] room)
          ∙ ap not (ne_eqb (length p) 0 (λ z. omega arith))
          ∙ sym (cond-true (eqb k i) true (get_or (made_pages ps) k false) (eq-eqb k i e))
      | inr e ↦
          ap (λ (x : List ℕ). not (eqb (length x) 0)) (get_or-set_other ps i k p [] e) ∙ sym (get_or-made ps k)
          ∙ sym (cond-false (eqb k i) true (get_or (made_pages ps) k false) (ne_eqb k i e))
    ]

-- ---- pages as the code keeps them
pub length-lists : {A : Type 0} (ps : List (Vec ℕ A)) → length (map (λ (p : Vec ℕ A). p.items) ps) ≡ length ps
length-lists ps = simp length-map

pub get_or-lists : {A : Type 0} (ps : List (Vec ℕ A)) (i : ℕ) (p : Vec ℕ A) → i < length ps → p ≡ get_or ps i p
    → get_or (map (λ (p : Vec ℕ A). p.items) ps) i [] ≡ p.items
get_or-lists ps i p h e = get_or-map (λ (p : Vec ℕ _). p.items) ps i p [] h ∙ ap (λ (p : Vec ℕ _). p.items) (sym e)

-- an address inside the image has a page
pub page_inside : {A : Type 0} (size : ℕ) (ps : List (Vec ℕ A)) (a : ℕ)
    → IsPaged size (map (λ (p : Vec ℕ A). p.items) ps) → a < size → a / 4096 < length ps
page_inside size ps a h k = let room = h.room in omega (arith, length-lists ps, room)

pub page_is : {A : Type 0} (size : ℕ) (ps : List (Vec ℕ A)) (i : ℕ) (p : Vec ℕ A)
    → IsPaged size (map (λ (p : Vec ℕ A). p.items) ps) → i < length ps → p ≡ get_or ps i p → IsPage p.items
page_is size ps i p h k e =
    subst IsPage (get_or-lists ps i p k e)
    (All-get_or IsPage (map (λ (p : Vec ℕ _). p.items) ps) i [] (omega (arith, length-lists ps)) h.each)

pub byte_is : {A : Type 0} (size : ℕ) (ps : List (Vec ℕ A)) (a : ℕ) (p : Vec ℕ A)
    → IsPaged size (map (λ (p : Vec ℕ A). p.items) ps) → a < size → p ≡ get_or ps (a / 4096) p
    → get_or (joined size (map (λ (p : Vec ℕ A). p.items) ps)) a 0 ≡ get_or (page_bytes p.items) (a % 4096) 0
byte_is size ps a p h k e =
    get_or-joined size (map (λ (p : Vec ℕ _). p.items) ps) a h k
    ∙ ap (λ (l : List ℕ). get_or (page_bytes l) (a % 4096) 0)
    (get_or-lists ps (a / 4096) p (page_inside size ps a h k) e)

-- a page is replaced
pub paged-replaced : {A : Type 0} (size : ℕ) (ps : List (Vec ℕ A)) (i : ℕ) (p : Vec ℕ A)
    → IsPaged size (map (λ (p : Vec ℕ A). p.items) ps) → IsPage p.items
    → IsPaged size (map (λ (p : Vec ℕ A). p.items) (set ps i p))
paged-replaced size ps i p h k =
    subst (IsPaged size) (sym (map-set (λ (p : Vec ℕ _). p.items) ps i p))
    (paged-set size (map (λ (p : Vec ℕ _). p.items) ps) i p.items h k)

pub joined-replaced : {A : Type 0} (size : ℕ) (ps : List (Vec ℕ A)) (a v : ℕ) (old new : Vec ℕ A)
    → IsPaged size (map (λ (p : Vec ℕ A). p.items) ps) → a < size → old ≡ get_or ps (a / 4096) old
    → new.items ≡ set (page_bytes old.items) (a % 4096) v
    → joined size (map (λ (p : Vec ℕ A). p.items) (set ps (a / 4096) new))
    ≡ set (joined size (map (λ (p : Vec ℕ A). p.items) ps)) a v
joined-replaced size ps a v old new h k e w =
    let inside = page_inside size ps a h k in
    let there = get_or-lists ps (a / 4096) old inside e in
    let n : length new.items ≡ 4096 =
    ap length w ∙ length-set (page_bytes old.items) (a % 4096) v
    ∙ full old.items (page_is size ps (a / 4096) old h inside e) in
    ap (joined size) (map-set (λ (p : Vec ℕ _). p.items) ps (a / 4096) new)
    ∙ joined-put size (map (λ (p : Vec ℕ _). p.items) ps) a v new.items h k n
    (w ∙ ap (λ (l : List ℕ). set (page_bytes l) (a % 4096) v) (sym there))

pub made-replaced : {A : Type 0} (ps : List (Vec ℕ A)) (i k : ℕ) (new : Vec ℕ A) → i < length ps
    → length new.items ≡ 4096
    → get_or (made_pages (map (λ (p : Vec ℕ A). p.items) (set ps i new))) k false
    ≡ cond (eqb k i) true (get_or (made_pages (map (λ (p : Vec ℕ A). p.items) ps)) k false)
made-replaced ps i k new h n =
    ap (λ (l : List (List ℕ)). get_or (made_pages l) k false) (map-set (λ (p : Vec ℕ _). p.items) ps i new)
    ∙ made-put (map (λ (p : Vec ℕ _). p.items) ps) i new.items k (omega (arith, length-lists ps)) n

-- a page that was made has all its bytes
pub present : {A : Type 0} (size : ℕ) (ps : List (Vec ℕ A)) (i : ℕ) (p : Vec ℕ A)
    → IsPaged size (map (λ (p : Vec ℕ A). p.items) ps) → i < length ps → p ≡ get_or ps i p
    → get_or (made_pages (map (λ (p : Vec ℕ A). p.items) ps)) i false ≡ true → length p.items ≡ 4096
present size ps i p h k e m =
    let some =
    eqb-false (length p.items) 0
    (not-true (eqb (length p.items) 0)
    (ap (λ (l : List ℕ). not (eqb (length l) 0)) (sym (get_or-lists ps i p k e))
    ∙ sym (get_or-made (map (λ (p : Vec ℕ _). p.items) ps) i) ∙ m)) in
    elim (page_is size ps i p h k e) [ inl z ↦ absurd (some z) | inr n ↦ n ]

pub made_kept : (b : Bool) (j i : ℕ) → (j ≡ i → b ≡ true) → cond (eqb j i) true b ≡ b
made_kept b j i h = elim (cases_eq j i) [
  | inl e ↦ cond-true (eqb j i) true b (eq-eqb j i e) ∙ sym (h e)
  | inr e ↦ cond-false (eqb j i) true b (ne_eqb j i e)
]

-- the bytes from an address to the end of its page
pub piece_is : {A : Type 0} (size : ℕ) (ps : List (Vec ℕ A)) (a n : ℕ) (p : Vec ℕ A) (bytes : List ℕ)
    → IsPaged size (map (λ (p : Vec ℕ A). p.items) ps) → a < size → p ≡ get_or ps (a / 4096) p
    → bytes ≡ page_bytes p.items → n + a % 4096 ≤ 4096 → n + a ≤ size
    → take n (drop (a % 4096) bytes)
    ≡ take (length (take n (drop (a % 4096) bytes))) (drop a (joined size (map (λ (p : Vec ℕ A). p.items) ps)))
piece_is size ps a n p bytes h k e same low high =
    let inside = page_inside size ps a h k in
    let all = map (λ (p : Vec ℕ _). p.items) ps in
    let full_page : length bytes ≡ 4096 = ap length same ∙ full p.items (page_is size ps (a / 4096) p h inside e) in
    let m : length (take n (drop (a % 4096) bytes)) ≡ n = simp (length-take, length-drop) (omega (arith, full_page)) in
    let m2 : length (take n (drop a (joined size all))) ≡ n =
    simp (length-take, length-drop) (omega (arith, length-joined size all h)) in
    ext_get_or 0 (take n (drop (a % 4096) bytes)) (take n (drop a (joined size all))) (m ∙ sym m2) (λ j l.
    let jn : j < n = omega (arith, l, m) in
    let there : (a + j) / 4096 ≡ a / 4096 = omega (arith, low, jn) in
    let rest : (a + j) % 4096 ≡ a % 4096 + j = omega (arith, low, jn) in
    get_or-take n (drop (a % 4096) bytes) j 0 jn ∙ get_or-drop (a % 4096) bytes j 0
    ∙ sym (get_or-take n (drop a (joined size all)) j 0 jn ∙ get_or-drop a (joined size all) j 0
    ∙ get_or-joined size all (a + j) h (omega (arith, high, jn))
    ∙ ap (λ (q : ℕ). get_or (page_bytes (get_or all q [])) ((a + j) % 4096) 0) there
    ∙ ap (λ (l : List ℕ). get_or (page_bytes l) ((a + j) % 4096) 0) (get_or-lists ps (a / 4096) p inside e)
    ∙ ap (λ (q : ℕ). get_or (page_bytes p.items) q 0) rest
    ∙ ap (λ (l : List ℕ). get_or l (a % 4096 + j) 0) (sym same)))
    ∙ ap (λ (q : ℕ). take q (drop a (joined size all))) (sym m)

-- ---- an image without data
pub blank_paged : {A : Type 0} (size : ℕ) (ps : List (Vec ℕ A)) → size ≤ 1048560 → size ≤ 4096 * length ps
    → All (λ (p : Vec ℕ A). length p.items ≡ 0) ps → IsPaged size (map (λ (p : Vec ℕ A). p.items) ps)
blank_paged size ps h k e = record {
  room = omega (arith, length-lists ps);
  small = h;
  each =
      All-map IsPage (λ (p : Vec ℕ _). p.items) ps
      (All-weaker (λ (p : Vec ℕ _). length p.items ≡ 0) (λ (p : Vec ℕ _). IsPage p.items) (λ p z. inl z) ps e);
}

blank_page : {A : Type 0} (ps : List (Vec ℕ A)) (i : ℕ) → All (λ (p : Vec ℕ A). length p.items ≡ 0) ps
    → length (get_or (map (λ (p : Vec ℕ A). p.items) ps) i []) ≡ 0
blank_page ps i e = elim (cases_lt i (length ps)) [
  | inl l ↦
      All-get_or (λ (l : List ℕ). length l ≡ 0) (map (λ (p : Vec ℕ _). p.items) ps) i []
      (omega (arith, length-lists ps)) (All-map (λ (l : List ℕ). length l ≡ 0) (λ (p : Vec ℕ _). p.items) ps e)
  | inr l ↦ ap length (get_or_past (map (λ (p : Vec ℕ _). p.items) ps) i [] (omega (arith, length-lists ps)))
]

pub blank_bytes : {A : Type 0} (size : ℕ) (ps : List (Vec ℕ A)) → IsPaged size (map (λ (p : Vec ℕ A). p.items) ps)
    → All (λ (p : Vec ℕ A). length p.items ≡ 0) ps → joined size (map (λ (p : Vec ℕ A). p.items) ps) ≡ replicate size 0
blank_bytes size ps h e =
    let all = map (λ (p : Vec ℕ _). p.items) ps in
    let n = length-joined size all h in
    ext_get_or 0 (joined size all) (replicate size 0) (n ∙ sym (length-replicate {A = ℕ} size 0)) (λ a l.
    get_or-joined size all a h (omega (arith, l, n))
    ∙ absent (get_or all (a / 4096) []) (a % 4096) (blank_page ps (a / 4096) e) (omega arith)
    ∙ sym (get_or-replicate size a 0 0 (omega (arith, l, n))))

pub blank_made : {A : Type 0} (ps : List (Vec ℕ A)) (k : ℕ) → All (λ (p : Vec ℕ A). length p.items ≡ 0) ps
    → get_or (made_pages (map (λ (p : Vec ℕ A). p.items) ps)) k false ≡ false
blank_made ps k e =
    get_or-made (map (λ (p : Vec ℕ _). p.items) ps) k
    ∙ ap not (eq-eqb (length (get_or (map (λ (p : Vec ℕ _). p.items) ps) k [])) 0 (blank_page ps k e))

pub made_at : {A : Type 0} (ps : List (Vec ℕ A)) (i : ℕ) (p : Vec ℕ A) → i < length ps → p ≡ get_or ps i p
    → get_or (made_pages (map (λ (p : Vec ℕ A). p.items) ps)) i false ≡ not (eqb (vec_len p) 0)
made_at ps i p h e =
    get_or-made (map (λ (p : Vec ℕ _). p.items) ps) i
    ∙ ap (λ (l : List ℕ). not (eqb (length l) 0)) (get_or-lists ps i p h e)
    ∙ ap (λ (n : ℕ). not (eqb n 0)) (omega (arith, p.ok.0))

pub length-made : {A : Type 0} (ps : List (Vec ℕ A))
    → length (made_pages (map (λ (p : Vec ℕ A). p.items) ps)) ≡ length ps
unfolding made_pages
length-made ps = simp length-map

-- ---- bytes
abbrev pub AllBytes : List ℕ → Type 0
AllBytes xs = All (λ b. b < 256) xs

pub bytes_page : (p : List ℕ) → AllBytes p → AllBytes (page_bytes p)
bytes_page p h = elim (cases_eq (length p) 0) [
  | inl e ↦
      subst AllBytes (sym (page_bytes-absent p e))
      (λ k d l.
      subst (λ (b : ℕ). b < 256)
      (sym (get_or-replicate {A = ℕ} 4096 k 0 d (omega (arith, l, length-replicate {A = ℕ} 4096 0)))) (lit< tt))
  | inr e ↦ subst AllBytes (sym (page_bytes-present p e)) h
]

pub bytes_at : {A : Type 0} (ps : List (Vec ℕ A)) (i : ℕ) (p : Vec ℕ A) → i < length ps → p ≡ get_or ps i p
    → All (λ (p : Vec ℕ A). AllBytes p.items) ps → AllBytes p.items
bytes_at ps i p h e all = subst (λ (q : Vec ℕ _). AllBytes q.items) (sym e) (all i p h)

pub bytes_joined : {A : Type 0} (size : ℕ) (ps : List (Vec ℕ A)) → IsPaged size (map (λ (p : Vec ℕ A). p.items) ps)
    → All (λ (p : Vec ℕ A). AllBytes p.items) ps → AllBytes (joined size (map (λ (p : Vec ℕ A). p.items) ps))
bytes_joined size ps h all k d l =
    let lists = map (λ (p : Vec ℕ _). p.items) ps in
    let n = length-joined size lists h in
    let inside = page_inside size ps k h (omega (arith, l, n)) in
    let page = get_or lists (k / 4096) [] in
    let here : AllBytes page =
    All-get_or AllBytes lists (k / 4096) [] (omega (arith, length-lists ps, inside))
    (All-map AllBytes (λ (p : Vec ℕ _). p.items) ps all) in
    let full_page : length (page_bytes page) ≡ 4096 =
    full page (All-get_or IsPage lists (k / 4096) [] (omega (arith, length-lists ps, inside)) h.each) in
    let b : get_or (page_bytes page) (k % 4096) 0 < 256 =
    bytes_page page here (k % 4096) 0 (omega (arith, full_page)) in
    subst (λ (x : ℕ). x < 256)
    (sym (get_or_default (joined size lists) k d 0 l ∙ get_or-joined size lists k h (omega (arith, l, n)))) b
