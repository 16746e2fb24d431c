-- A fix-up that adds the same at each hit keeps copies of a content the same: it may be added once, to what was stored.
use Rattle.std.proofs.Common.{◌≡◌, ◌⊎◌, ℕ, ◌+◌, ◌-◌, ◌/◌, ◌%◌, ◌<◌, ◌≤◌, eqb, List, [], ◌∷◌, map, flat_map, length}
use Rattle.std.proofs.Common.{get_or, refl, sym, ap, ◌∙◌, arith, inl, inr, eq-eqb}
use Rattle.std.proofs.lemmas.Bool.{cases_eq, cases_lt}
use Rattle.std.proofs.lemmas.List.{get_or-set_same, get_or-set_other}
use Rattle.omf_record.specs.Expansion.{StandTogether, StandWhole}
use Rattle.omf_image.specs.declared.patch.Patch.{Patch}
use Rattle.omf_image.specs.declared.patch.Patch.TheVariants.{Byte, Word, Relocated}
use Rattle.omf_image.specs.Words.{word_at, add_byte, add_word}
use Rattle.omf_image.specs.Patch.{patched}
use Rattle.omf_image.specs.inside.Patches.{patched_all, patch_end}
use Rattle.omf_image.specs.inside.States.{at_start}
use Rattle.omf_image.specs.Records.{hits}
use Rattle.omf_image.specs.inside.Stored.{Copied}
use Rattle.omf_image.proofs.Law.{AllInside, length-patched, length-patched_all}
use Rattle.omf_image.proofs.Holding.{patched_all-append}
use Rattle.omf_image.proofs.Moved.{add_word-low, add_word-high, add_word-other}
use Rattle.omf_image.proofs.Hits.{SpacedBy, in_hits}
use Rattle.omf_image.proofs.Members.{filter_has, In}

abbrev pub spot : List ℕ → ℕ → ℕ → ℕ
spot xs i d = get_or xs (i + d) 0

abbrev pub Same : (w i j : ℕ) → (xs ys : List ℕ) → Type 0
Same w i j xs ys = (d : ℕ) → d < w → spot xs i d ≡ spot ys j d

-- ---- one patch
byte_here : (v i : ℕ) (xs : List ℕ) → i < length xs → get_or (add_byte v i xs) i 0 ≡ (get_or xs i 0 + v) % 256
unfolding add_byte
byte_here v i xs h = get_or-set_same xs i ((get_or xs i 0 + v) % 256) 0 h

byte_else : (v i k : ℕ) (xs : List ℕ) → (k ≡ i → ⊥) → get_or (add_byte v i xs) k 0 ≡ get_or xs k 0
unfolding add_byte
byte_else v i k xs h = get_or-set_other xs i k ((get_or xs i 0 + v) % 256) 0 h

word_outside : (n w e v k : ℕ) (xs : List ℕ) → e + 2 ≤ w → (k < n) ⊎ (n + w ≤ k)
    → get_or (add_word v (n + e) xs) k 0 ≡ get_or xs k 0
word_outside n w e v k xs h (inl l) = add_word-other v (n + e) k xs (inl (omega (arith, l)))
word_outside n w e v k xs h (inr l) = add_word-other v (n + e) k xs (inr (omega (arith, l, h)))

outside_at : (n w : ℕ) (p : Patch) (xs : List ℕ) (k : ℕ) → patch_end p ≤ w → (k < n) ⊎ (n + w ≤ k)
    → get_or (patched (at_start n p) xs) k 0 ≡ get_or xs k 0
outside_at n w (Byte e v) xs k h (inl l) = byte_else v (n + e) k xs (λ q. omega (arith, q, l))
outside_at n w (Byte e v) xs k h (inr l) = byte_else v (n + e) k xs (λ q. omega (arith, q, l, h))
outside_at n w (Word e v) xs k h l = word_outside n w e v k xs h l
outside_at n w (Relocated e v) xs k h l = word_outside n w e v k xs h l

next : (i e : ℕ) → i + (e + 1) ≡ i + e + 1
next i e = omega arith

same_word_at : (i j w e : ℕ) (xs ys : List ℕ) → e + 2 ≤ w → Same w i j xs ys → word_at xs (i + e) ≡ word_at ys (j + e)
same_word_at i j w e xs ys h s =
    let low = s e (omega (arith, h)) in
    let high : get_or xs (i + e + 1) 0 ≡ get_or ys (j + e + 1) 0 =
    ap (λ (k : ℕ). get_or xs k 0) (sym (next i e)) ∙ s (e + 1) (omega (arith, h))
    ∙ ap (λ (k : ℕ). get_or ys k 0) (next j e) in
    omega (arith, low, high)

same_word : (i j w e v : ℕ) (xs ys : List ℕ) → e + 2 ≤ w → i + w ≤ length xs → j + w ≤ length ys → Same w i j xs ys
    → Same w i j (add_word v (i + e) xs) (add_word v (j + e) ys)
same_word i j w e v xs ys h n m s d l =
    let at = same_word_at i j w e xs ys h s in
    elim (cases_lt d e) [
      | inl a ↦
          add_word-other v (i + e) (i + d) xs (inl (omega (arith, a))) ∙ s d l
          ∙ sym (add_word-other v (j + e) (j + d) ys (inl (omega (arith, a))))
      | inr a ↦ elim (cases_eq d e) [
        | inl q ↦
            ap (λ (k : ℕ). get_or (add_word v (i + e) xs) (i + k) 0) q ∙ add_word-low v (i + e) xs (omega (arith, n, h))
            ∙ ap (λ (x : ℕ). (x + v) % 65536 % 256) at
            ∙ sym
            (ap (λ (k : ℕ). get_or (add_word v (j + e) ys) (j + k) 0) q
            ∙ add_word-low v (j + e) ys (omega (arith, m, h)))
        | inr q ↦ elim (cases_eq d (e + 1)) [
          | inl r ↦
              ap (λ (k : ℕ). get_or (add_word v (i + e) xs) k 0) (ap (λ (k : ℕ). i + k) r ∙ next i e)
              ∙ add_word-high v (i + e) xs (omega (arith, n, h))
              ∙ ap (λ (x : ℕ). (x + v) % 65536 / 256) at
              ∙ sym
              (ap (λ (k : ℕ). get_or (add_word v (j + e) ys) k 0) (ap (λ (k : ℕ). j + k) r ∙ next j e)
              ∙ add_word-high v (j + e) ys (omega (arith, m, h)))
          | inr r ↦
              add_word-other v (i + e) (i + d) xs (inr (omega (arith, a, q, r))) ∙ s d l
              ∙ sym (add_word-other v (j + e) (j + d) ys (inr (omega (arith, a, q, r))))
        ]
      ]
    ]

same_at : (i j w : ℕ) (p : Patch) (xs ys : List ℕ) → patch_end p ≤ w → i + w ≤ length xs → j + w ≤ length ys
    → Same w i j xs ys → Same w i j (patched (at_start i p) xs) (patched (at_start j p) ys)
same_at i j w (Byte e v) xs ys h n m s d l =
    elim (cases_eq d e) [
      | inl q ↦
          ap (λ (k : ℕ). get_or (add_byte v (i + e) xs) (i + k) 0) q ∙ byte_here v (i + e) xs (omega (arith, n, h))
          ∙ ap (λ (x : ℕ). (x + v) % 256) (s e (omega (arith, h)))
          ∙ sym
          (ap (λ (k : ℕ). get_or (add_byte v (j + e) ys) (j + k) 0) q ∙ byte_here v (j + e) ys (omega (arith, m, h)))
      | inr q ↦
          byte_else v (i + e) (i + d) xs (λ z. q (omega (arith, z))) ∙ s d l
          ∙ sym (byte_else v (j + e) (j + d) ys (λ z. q (omega (arith, z))))
    ]
same_at i j w (Word e v) xs ys h n m s d l = same_word i j w e v xs ys h n m s d l
same_at i j w (Relocated e v) xs ys h n m s d l = same_word i j w e v xs ys h n m s d l

-- ---- what is added at one hit
abbrev pub at_hit : List Patch → ℕ → List Patch
at_hit ps i = map (at_start i) ps

outside_all : (n w : ℕ) (ps : List Patch) (xs : List ℕ) (k : ℕ) → AllInside w ps → (k < n) ⊎ (n + w ≤ k)
    → get_or (patched_all (at_hit ps n) xs) k 0 ≡ get_or xs k 0
outside_all n w [] xs k h l = refl
outside_all n w (p ∷ ps) xs k h l = outside_all n w ps (patched (at_start n p) xs) k h.1 l ∙ outside_at n w p xs k h.0 l

same_all : (i j w : ℕ) (ps : List Patch) (xs ys : List ℕ) → AllInside w ps → i + w ≤ length xs → j + w ≤ length ys
    → Same w i j xs ys → Same w i j (patched_all (at_hit ps i) xs) (patched_all (at_hit ps j) ys)
same_all i j w [] xs ys h n m s = s
same_all i j w (p ∷ ps) xs ys h n m s =
    let a = length-patched (at_start i p) xs in
    let b = length-patched (at_start j p) ys in
    same_all i j w ps (patched (at_start i p) xs) (patched (at_start j p) ys) h.1 (omega (arith, a, n))
    (omega (arith, b, m)) (same_at i j w p xs ys h.0 n m s)

-- ---- at all hits
outside_hits : (w : ℕ) (ps : List Patch) (is : List ℕ) (xs : List ℕ) (k : ℕ) → AllInside w ps
    → ((i : ℕ) → In i is → (k < i) ⊎ (i + w ≤ k))
    → get_or (patched_all (flat_map (at_hit ps) is) xs) k 0 ≡ get_or xs k 0
outside_hits w ps [] xs k h l = refl
outside_hits w ps (i ∷ is) xs k h l =
    ap (λ (l : List ℕ). get_or l k 0) (patched_all-append (at_hit ps i) (flat_map (at_hit ps) is) xs)
    ∙ outside_hits w ps is (patched_all (at_hit ps i) xs) k h (λ j m. l j (inr m))
    ∙ outside_all i w ps xs k h (l i (inl refl))

inside_hits : (w : ℕ) (ps : List Patch) (is : List ℕ) (xs : List ℕ) (i d : ℕ) → AllInside w ps → SpacedBy w is
    → ((j : ℕ) → In j is → j + w ≤ length xs) → In i is → d < w
    → spot (patched_all (flat_map (at_hit ps) is) xs) i d ≡ spot (patched_all (at_hit ps i) xs) i d
inside_hits w ps [] xs i d h spaced room at l = absurd at
inside_hits w ps (m ∷ is) xs i d h spaced room (inl e) l =
    ap (λ (l : List ℕ). spot l i d) (patched_all-append (at_hit ps m) (flat_map (at_hit ps) is) xs)
    ∙ outside_hits w ps is (patched_all (at_hit ps m) xs) (i + d) h
    (λ j k. let far = spaced.0 j k in inl (omega (arith, far, e, l)))
    ∙ ap (λ (k : ℕ). spot (patched_all (at_hit ps k) xs) i d) (sym e)
inside_hits w ps (m ∷ is) xs i d h spaced room (inr at) l =
    let n : length (patched_all (at_hit ps m) xs) ≡ length xs = length-patched_all (at_hit ps m) xs in
    let far = spaced.0 i at in
    let here = room i (inr at) in
    ap (λ (l : List ℕ). spot l i d) (patched_all-append (at_hit ps m) (flat_map (at_hit ps) is) xs)
    ∙ inside_hits w ps is (patched_all (at_hit ps m) xs) i d h spaced.1
    (λ j k. let r = room j (inr k) in omega (arith, n, r)) at l
    ∙ same_all i i w ps (patched_all (at_hit ps m) xs) xs h (omega (arith, n, here)) here
    (λ e k. outside_all m w ps xs (i + e) h (inr (omega (arith, far)))) d l

-- ---- copies
pub hits_have : (o : ℕ) (stored : List ℕ) (i : ℕ) → i < length stored → get_or stored i 0 ≡ o → In i (hits o stored)
hits_have o stored i h e =
    filter_has (λ k. eqb (get_or stored k 0) o) 0 (length stored) i (omega arith) (omega (arith, h))
    (eq-eqb (get_or stored i 0) o e)

-- the same patches at each hit of repeated data are these patches once, at the stored place, and copied
pub copied_still : (contents stored bytes : List ℕ) (o w : ℕ) (ps : List Patch) → AllInside w ps
    → o + w ≤ length contents → length bytes ≡ length stored
    → StandTogether o w stored → StandWhole o w stored → SpacedBy w (hits o stored) → 0 < w
    → Copied contents stored bytes
    → Copied (patched_all (at_hit ps o) contents) stored (patched_all (flat_map (at_hit ps) (hits o stored)) bytes)
copied_still contents stored bytes o w ps inside room n together whole spaced some copied k h =
    let t = get_or stored k 0 in
    let is = hits o stored in
    let rooms : (j : ℕ) → In j is → j + w ≤ length bytes = λ j a.
    (let g = in_hits o stored j a in
    let last = (together j (w - 1) g.0 g.1 (omega (arith, some))).0 in omega (arith, last, some, n)) in
    let apart : ((t < o) ⊎ (o + w ≤ t))
    → get_or (patched_all (flat_map (at_hit ps) is) bytes) k 0 ≡ get_or (patched_all (at_hit ps o) contents) t 0 =
    λ far.
    outside_hits w ps is bytes k inside (λ i a.
    let g = in_hits o stored i a in
    elim (cases_lt k i) [
      | inl l ↦ inl l
      | inr l ↦ elim (cases_lt k (i + w)) [
        | inl m ↦
            let d = k - i in
            let e : i + d ≡ k = omega (arith, l) in
            let s = (together i d g.0 g.1 (omega (arith, l, m))).1 in
            let u : t ≡ o + d = ap (λ (j : ℕ). get_or stored j 0) (sym e) ∙ s in
            elim far [
              | inl x ↦ absurd (omega (arith, u, x))
              | inr x ↦ absurd (omega (arith, u, x, l, m))
            ]
        | inr m ↦ inr m
      ]
    ])
    ∙ copied k h ∙ sym (outside_all o w ps contents t inside far) in
    elim (cases_lt t o) [
      | inl l ↦ apart (inl l)
      | inr l ↦ elim (cases_lt t (o + w)) [
        | inr m ↦ apart (inr m)
        | inl m ↦
            let d = t - o in
            let u : t ≡ o + d = omega (arith, l) in
            let v = whole k d h (omega (arith, l, m)) u in
            let i = k - d in
            let e : i + d ≡ k = omega (arith, v.0) in
            let low : d < w = omega (arith, l, m) in
            let at : In i is = hits_have o stored i (omega (arith, h)) v.1 in
            let alike : Same w i o bytes contents = λ c lc.
            (let g = together i c (omega (arith, h)) v.1 lc in
            copied (i + c) g.0 ∙ ap (λ (j : ℕ). get_or contents j 0) g.1) in
            ap (λ (j : ℕ). get_or (patched_all (flat_map (at_hit ps) is) bytes) j 0) (sym e)
            ∙ inside_hits w ps is bytes i d inside spaced rooms at low
            ∙ same_all i o w ps bytes contents inside (rooms i at) room alike d low
            ∙ ap (λ (j : ℕ). get_or (patched_all (at_hit ps o) contents) j 0) (sym u)
      ]
    ]
