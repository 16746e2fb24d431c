-- Data laid over an image, page by page.
use Rattle.std.proofs.Common.{◌≡◌, ◌⊎◌, ℕ, ◌+◌, ◌-◌, ◌*◌, ◌/◌, ◌%◌, ◌<◌, ◌≤◌, Bool, true, false, ◌&&◌, ◌||◌, List, []}
use Rattle.std.proofs.Common.{map, take, drop, set, length, get_or, cond, eqb, ltb, refl, ap, ◌∙◌, sym, arith, subst}
use Rattle.std.proofs.Common.{inl, inr, Vec}
use Rattle.std.proofs.Math.Bool.{or_assoc}
use Rattle.std.proofs.lemmas.List.{map-set, length-take, length-drop, get_or-take, get_or-drop, get_or_past}
use Rattle.std.proofs.lemmas.List.{get_or-set_same, get_or-set_other}
use Rattle.std.proofs.lemmas.List.Elements.{All-get_or}
use Rattle.std.proofs.lemmas.Bool.{cases_eq, cases_lt, cond-true, cond-false}
use Rattle.std.proofs.lemmas.Bool.Decides.{nat_tests}
use Rattle.omf_image.specs.Located.{LocatedBytes, covers, in_page}
use Rattle.omf_image.specs.inside.Whole.{byte_of}
use Rattle.omf_image.specs.inside.Pages.{page_bytes, joined, IsPage, IsPaged, IsLaid, MakesPages}
use Rattle.omf_image.proofs.Carry.{covers-from}
use Rattle.omf_image.proofs.Paging.{full, paged-set, page_bytes-present, length-joined, get_or-joined, get_or-lists}
use Rattle.omf_image.proofs.Paging.{page_inside}

abbrev pub front : ℕ → List ℕ → ℕ → LocatedBytes
front start bs i = record { start = start; bytes = take i bs }

abbrev pub piece : ℕ → List ℕ → (from to : ℕ) → LocatedBytes
piece start bs i j = record { start = start + i; bytes = take (j - i) (drop i bs) }

length-piece : (start i j : ℕ) (bs : List ℕ) → j ≤ length bs → length (take (j - i) (drop i bs)) ≡ j - i
length-piece start i j bs h = simp (length-take, length-drop) (omega arith)

pub covers_not : (a : ℕ) (d : LocatedBytes) → (a < d.start) ⊎ (d.start + length d.bytes ≤ a) → covers a d ≡ false
covers_not a d h = elim h [ inl l ↦ grind (arith, nat_tests) | inr l ↦ grind (arith, nat_tests) ]

-- data laid up to a place, and then the next piece of it
pub laid_on : (start i j : ℕ) (bs old now new : List ℕ) → i ≤ j → j ≤ length bs → IsLaid (front start bs i) old now
    → IsLaid (piece start bs i j) now new → IsLaid (front start bs j) old new
laid_on start i j bs old now new order h first next =
    let d = front start bs i in
    let e = piece start bs i j in
    let d' = front start bs j in
    let n : length d.bytes ≡ i = length-take i bs ∙ omega arith in
    let m : length e.bytes ≡ j - i = length-piece start i j bs h in
    let n' : length d'.bytes ≡ j = length-take j bs ∙ omega arith in
    record {
      sized = next.sized ∙ first.sized;
      each = λ a. next.each a ∙ elim (cases_lt a (start + i)) [
        | inl l ↦
            cond-false (covers a e) (byte_of a e) (get_or now a 0) (covers_not a e (inl l)) ∙ first.each a
            ∙ elim (cases_lt a start) [
              | inl k ↦
                  cond-false (covers a d) (byte_of a d) (get_or old a 0) (covers_not a d (inl k))
                  ∙ sym (cond-false (covers a d') (byte_of a d') (get_or old a 0) (covers_not a d' (inl k)))
              | inr k ↦
                  cond-true (covers a d) (byte_of a d) (get_or old a 0) (covers-from a d k (omega (arith, n)))
                  ∙ get_or-take i bs (a - start) 0 (omega arith)
                  ∙ sym
                  (cond-true (covers a d') (byte_of a d') (get_or old a 0) (covers-from a d' k (omega (arith, n')))
                  ∙ get_or-take j bs (a - start) 0 (omega arith))
            ]
        | inr l ↦ elim (cases_lt a (start + j)) [
          | inl k ↦
              cond-true (covers a e) (byte_of a e) (get_or now a 0) (covers-from a e l (omega (arith, m)))
              ∙ get_or-take (j - i) (drop i bs) (a - (start + i)) 0 (omega arith) ∙ get_or-drop i bs (a - (start + i)) 0
              ∙ ap (λ (q : ℕ). get_or bs q 0) (omega arith)
              ∙ sym
              (cond-true (covers a d') (byte_of a d') (get_or old a 0)
              (covers-from a d' (omega arith) (omega (arith, n'))) ∙ get_or-take j bs (a - start) 0 (omega arith))
          | inr k ↦
              cond-false (covers a e) (byte_of a e) (get_or now a 0) (covers_not a e (inr (omega (arith, m))))
              ∙ first.each a
              ∙ cond-false (covers a d) (byte_of a d) (get_or old a 0) (covers_not a d (inr (omega (arith, n))))
              ∙ sym
              (cond-false (covers a d') (byte_of a d') (get_or old a 0) (covers_not a d' (inr (omega (arith, n')))))
        ]
      ];
    }

-- data laid over a page is laid over the image
laid_in_page : (size : ℕ) (ps : List (List ℕ)) (a : ℕ) (bs p : List ℕ) → IsPaged size ps → a + length bs ≤ size
    → a % 4096 + length bs ≤ 4096 → 0 < length bs
    → IsLaid (record { start = a % 4096; bytes = bs }) (page_bytes (get_or ps (a / 4096) [])) p
    → IsLaid (record { start = a; bytes = bs }) (joined size ps) (joined size (set ps (a / 4096) p))
laid_in_page size ps a bs p h within one some laid =
    let i = a / 4096 in
    let qs = set ps i p in
    let old = page_bytes (get_or ps i []) in
    let d : LocatedBytes = record { start = a; bytes = bs } in
    let e : LocatedBytes = record { start = a % 4096; bytes = bs } in
    let room = h.room in
    let inside : i < length ps = omega arith in
    let here : length old ≡ 4096 = full (get_or ps i []) (All-get_or IsPage ps i [] inside h.each) in
    let n : length p ≡ 4096 = laid.sized ∙ here in
    let paged = paged-set size ps i p h (inr n) in
    let new : page_bytes p ≡ p = page_bytes-present p (λ z. omega arith) in
    let now_len = length-joined size qs paged in
    let old_len = length-joined size ps h in
    record {
      sized = now_len ∙ sym old_len;
      each = λ b. elim (cases_lt b size) [
        | inl m ↦ get_or-joined size qs b paged m ∙ elim (cases_eq (b / 4096) i) [
          | inl q ↦
              let there : get_or old (b % 4096) 0 ≡ get_or (joined size ps) b 0 =
              ap (λ (j : ℕ). get_or (page_bytes (get_or ps j [])) (b % 4096) 0) (sym q)
              ∙ sym (get_or-joined size ps b h m) in
              ap (λ (j : ℕ). get_or (page_bytes (get_or qs j [])) (b % 4096) 0) q
              ∙ ap (λ (x : List ℕ). get_or (page_bytes x) (b % 4096) 0) (get_or-set_same ps i p [] inside)
              ∙ ap (λ (x : List ℕ). get_or x (b % 4096) 0) new
              ∙ laid.each (b % 4096)
              ∙ elim (cases_lt b a) [
                | inl l ↦
                    cond-false (covers (b % 4096) e) _ _ (covers_not (b % 4096) e (inl (omega (arith, q)))) ∙ there
                    ∙ sym (cond-false (covers b d) _ _ (covers_not b d (inl l)))
                | inr l ↦ elim (cases_lt b (a + length bs)) [
                  | inl k ↦
                      cond-true (covers (b % 4096) e) _ _
                      (covers-from (b % 4096) e (omega (arith, q)) (omega (arith, q)))
                      ∙ ap (λ (j : ℕ). get_or bs j 0) (omega (arith, q))
                      ∙ sym (cond-true (covers b d) _ _ (covers-from b d l k))
                  | inr k ↦
                      cond-false (covers (b % 4096) e) _ _ (covers_not (b % 4096) e (inr (omega (arith, q)))) ∙ there
                      ∙ sym (cond-false (covers b d) _ _ (covers_not b d (inr k)))
                ]
              ]
          | inr q ↦
              ap (λ (x : List ℕ). get_or (page_bytes x) (b % 4096) 0) (get_or-set_other ps i (b / 4096) p [] q)
              ∙ sym (get_or-joined size ps b h m)
              ∙ sym
              (cond-false (covers b d) _ _
              (covers_not b d (elim (cases_lt b a) [ inl l ↦ inl l | inr l ↦ inr (omega (arith, q)) ])))
        ]
        | inr m ↦
            get_or_past (joined size qs) b 0 (omega (arith, now_len))
            ∙ sym
            (cond-false (covers b d) _ _ (covers_not b d (inr (omega arith)))
            ∙ get_or_past (joined size ps) b 0 (omega (arith, old_len)))
      ];
    }

-- a page is replaced by one over which data was laid
pub laid-replaced : {A : Type 0} (size : ℕ) (ps : List (Vec ℕ A)) (a : ℕ) (bs : List ℕ) (old new : Vec ℕ A)
    → IsPaged size (map (λ (p : Vec ℕ A). p.items) ps) → a + length bs ≤ size → a % 4096 + length bs ≤ 4096
    → 0 < length bs → old ≡ get_or ps (a / 4096) old
    → IsLaid (record { start = a % 4096; bytes = bs }) (page_bytes old.items) new.items
    → IsLaid (record { start = a; bytes = bs }) (joined size (map (λ (p : Vec ℕ A). p.items) ps))
    (joined size (map (λ (p : Vec ℕ A). p.items) (set ps (a / 4096) new)))
laid-replaced size ps a bs old new h within one some e laid =
    let all = map (λ (p : Vec ℕ _). p.items) ps in
    let there = get_or-lists ps (a / 4096) old (page_inside size ps a h (omega arith)) e in
    subst (λ (l : List (List ℕ)). IsLaid (record { start = a; bytes = bs }) (joined size all) (joined size l))
    (sym (map-set (λ (p : Vec ℕ _). p.items) ps (a / 4096) new))
    (laid_in_page size all a bs new.items h within one some
    (subst (λ (l : List ℕ). IsLaid (record { start = a % 4096; bytes = bs }) (page_bytes l) new.items) (sym there)
    laid))

-- ---- the pages that are made
page_on : (k start i j : ℕ) → i ≤ j
    → ((ltb 0 (j - i) && (ltb (start + i) (4096 * (k + 1)) && ltb (4096 * k) (start + i + (j - i))))
    || (ltb 0 i && (ltb start (4096 * (k + 1)) && ltb (4096 * k) (start + i))))
    ≡ (ltb 0 j && (ltb start (4096 * (k + 1)) && ltb (4096 * k) (start + j)))
page_on k start i j h = grind (arith, nat_tests)

in_page_front : (start i k : ℕ) (bs : List ℕ) → i ≤ length bs
    → in_page k (front start bs i) ≡ (ltb 0 i && (ltb start (4096 * (k + 1)) && ltb (4096 * k) (start + i)))
in_page_front start i k bs h =
    let n : length (take i bs) ≡ i = length-take i bs ∙ omega arith in
    ap (λ (m : ℕ). ltb 0 m && (ltb start (4096 * (k + 1)) && ltb (4096 * k) (start + m))) n

in_page_piece : (start i j k : ℕ) (bs : List ℕ) → j ≤ length bs
    → in_page k (piece start bs i j)
    ≡ (ltb 0 (j - i) && (ltb (start + i) (4096 * (k + 1)) && ltb (4096 * k) (start + i + (j - i))))
in_page_piece start i j k bs h =
    ap (λ (m : ℕ). ltb 0 m && (ltb (start + i) (4096 * (k + 1)) && ltb (4096 * k) (start + i + m)))
    (length-piece start i j bs h)

pub pages_on : (start i j : ℕ) (bs : List ℕ) (old now new : List Bool) → i ≤ j → j ≤ length bs
    → MakesPages (front start bs i) old now → MakesPages (piece start bs i j) now new
    → MakesPages (front start bs j) old new
pages_on start i j bs old now new order h first next k =
    next k ∙ ap (λ (b : Bool). in_page k (piece start bs i j) || b) (first k)
    ∙ sym (or_assoc (in_page k (piece start bs i j)) (in_page k (front start bs i)) (get_or old k false))
    ∙ ap (λ (b : Bool). b || get_or old k false)
    (ap (λ (b : Bool). b || in_page k (front start bs i)) (in_page_piece start i j k bs h)
    ∙ ap
    (λ (b : Bool). (ltb 0 (j - i) && (ltb (start + i) (4096 * (k + 1)) && ltb (4096 * k) (start + i + (j - i)))) || b)
    (in_page_front start i k bs (omega arith))
    ∙ page_on k start i j order ∙ sym (in_page_front start j k bs h))

only_page : (k a n : ℕ) → 0 < n → a % 4096 + n ≤ 4096
    → eqb k (a / 4096) ≡ (ltb 0 n && (ltb a (4096 * (k + 1)) && ltb (4096 * k) (a + n)))
only_page k a n some one = grind (arith, nat_tests)

cond_or : (x y : Bool) → cond x true y ≡ (x || y)
cond_or true y = refl
cond_or false y = refl

-- data in one page makes that page
pub page_made : (a k : ℕ) (bs : List ℕ) (b : Bool) → 0 < length bs → a % 4096 + length bs ≤ 4096
    → cond (eqb k (a / 4096)) true b ≡ (in_page k (record { start = a; bytes = bs }) || b)
page_made a k bs b some one =
    cond_or (eqb k (a / 4096)) b ∙ ap (λ (x : Bool). x || b) (only_page k a (length bs) some one)
