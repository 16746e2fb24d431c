-- Texts written one after the other, and the digits of a number.
use Rattle.std.proofs.Common.{◌≡◌, ℕ, ◌+◌, ◌-◌, ◌/◌, ◌%◌, ◌<◌, ◌≤◌, List, [], ◌∷◌, ◌++◌, length, get_or, take, drop}
use Rattle.std.proofs.Common.{map, replicate, min, set, refl, sym, ap, ap₂, subst, ◌∙◌, append_assoc, append-nil, arith}
use Rattle.std.proofs.Common.{take-append-drop, Ok, Err, Result, Bor}
use Rattle.std.specs.declared.option.Option.{Option}
use Rattle.std.specs.Result.{IsErrAnd}
use Rattle.std.specs.List.{concat, flat_map}
use Rattle.std.specs.Io.KnownBytes.{Appends}
use Rattle.std.specs.Int.Digits.{digits_of}
use Rattle.std.proofs.lemmas.List.{take_more, take-set-le, drop-set, drop-replicate, take-replicate, length-replicate}
use Rattle.std.proofs.lemmas.List.{length-drop, drop-append-le, map-append, nil_from_length, take-take, take_all}
use Rattle.std.proofs.lemmas.Grind.{flat_map-append}
use Rattle.std.proofs.lemmas.Int.Digits.{digits_of_step, length-digits_of-le}
use Rattle.omf_frame.specs.Device.{AppendsFront, Wrote}
use Rattle.omf_frame.proofs.Told.{Appends-trans, AppendsFront-more, AppendsFront-then, Wrote-then}
use Rattle.omf_text.specs.Printing.{digit, hexadecimal}
use Rattle.omf_text.specs.inside.Printing.{AppendsBut, WroteBut}

-- ---- texts one after the other

pub flat_map-take_more : {X : Type 0} (f : X → List ℕ) (xs : List X) (i : ℕ) (d : X) → i < length xs
    → flat_map f (take (i + 1) xs) ≡ flat_map f (take i xs) ++ f (get_or xs i d)
flat_map-take_more f xs i d h =
    ap (flat_map f) (take_more xs i d h)
    ∙ (flat_map-append f (take i xs) (get_or xs i d ∷ [])
    ∙ ap (λ l. flat_map f (take i xs) ++ l) (append-nil (f (get_or xs i d))))

-- the whole text is that of the first items and that of the others
flat_map-split : {X : Type 0} (f : X → List ℕ) (xs : List X) (i : ℕ)
    → flat_map f xs ≡ flat_map f (take i xs) ++ flat_map f (drop i xs)
flat_map-split f xs i = ap (flat_map f) (sym (take-append-drop i xs)) ∙ flat_map-append f (take i xs) (drop i xs)

-- the text of pieces, by their texts
pub pieces_joined : (pieces : List (Bor (List ℕ))) (texts : List (List ℕ)) → map (λ piece. piece.now) pieces ≡ texts
    → flat_map (λ piece. piece.now) pieces ≡ concat texts
pieces_joined pieces texts is = go pieces ∙ ap concat is
  where
    go : (ps : List (Bor (List ℕ))) → flat_map (λ piece. piece.now) ps ≡ concat (map (λ piece. piece.now) ps)
    go [] = refl
    go (p ∷ ps) = ap (λ l. p.now ++ l) (go ps)

-- two columns among the pieces of a head line
pub columns_joined : (pieces : List (Bor (List ℕ))) (a b c d e f g h i j : List ℕ)
    → map (λ piece. piece.now) pieces ≡ a ∷ b ∷ c ∷ d ∷ e ∷ f ∷ g ∷ h ∷ i ∷ j ∷ []
    → flat_map (λ piece. piece.now) pieces ≡ concat (a ∷ b ∷ c ∷ d ∷ (e ++ f) ∷ g ∷ (h ++ i) ∷ j ∷ [])
columns_joined pieces a b c d e f g h i j is =
    pieces_joined pieces _ is
    ∙ ap (λ l. a ++ (b ++ (c ++ (d ++ l))))
    (ap (λ l. e ++ (f ++ (g ++ l))) (sym (append_assoc h i (j ++ [])))
    ∙ sym (append_assoc e f (g ++ ((h ++ i) ++ (j ++ [])))))

-- a front of one more item was written
pub item_cut : {X : Type 0} (f : X → List ℕ) (xs : List X) (i : ℕ) (d : X) (a b c : Option (List ℕ)) → i < length xs
    → Appends a b (flat_map f (take i xs)) → AppendsFront b c (f (get_or xs i d)) → AppendsFront a c (flat_map f xs)
item_cut f xs i d a b c h p q =
    AppendsFront-more a c _ (flat_map f (drop (i + 1) xs)) _
    (subst (AppendsFront a c) (sym (flat_map-take_more f xs i d h)) (AppendsFront-then a b c _ _ p q))
    (flat_map-split f xs (i + 1))

-- all items were written
pub all_items : {X : Type 0} (f : X → List ℕ) (xs : List X) (i : ℕ) (a b : Option (List ℕ)) → length xs ≤ i
    → Appends a b (flat_map f (take i xs)) → Appends a b (flat_map f xs)
all_items f xs i a b h p = subst (λ l. Appends a b (flat_map f l)) (take_all i xs h) p

-- a writer failed at one of the items
pub items_cut : {X : Type 0} (f : X → List ℕ) (xs : List X) (i : ℕ) (d : X) (a b c : Option (List ℕ)) (l m n : ℕ)
    → i < length xs
    → Appends a b (flat_map f (take i xs)) → m ≡ l → AppendsFront b c (f (get_or xs i d)) × (n ≡ m + 1)
    → AppendsFront a c (flat_map f xs) × (n ≡ l + 1)
items_cut f xs i d a b c l m n h p none q = (item_cut f xs i d a b c h p q.0, q.1 ∙ ap (λ k. k + 1) none)

-- ---- an end that is held back

-- what was held back is written
pub Wrote-held : {X Y E : Type 0} (f : X → List ℕ) (xs : List X) (i : ℕ) (held : List ℕ) (a b c : Option (List ℕ))
    (l m n : ℕ) (r : Result Y E)
    → length xs ≤ i → AppendsBut held a b (flat_map f (take i xs)) → m ≡ l → Wrote b c m n held r
    → Wrote a c l n (flat_map f xs) r
Wrote-held f xs i held a b c l m n r h (front, split, done) none p =
    subst (λ text. Wrote a c l n text r) (sym split ∙ ap (flat_map f) (take_all i xs h))
    (Wrote-then a b c l m n front held r (done, none) p)

-- what was held back couldn't be written
pub WroteBut-cut : {X E : Type 0} (Q : E → Type 0) (held : List ℕ) (a b : Option (List ℕ)) (m n : ℕ) (bs more : List ℕ)
    (r : Result X E)
    → AppendsFront a b bs × (n ≡ m + 1) → IsErrAnd r Q → WroteBut held a b m n (bs ++ more) r
WroteBut-cut Q held a b m n bs more (Ok x) p is = absurd is
WroteBut-cut Q held a b m n bs more (Err e) p is = (AppendsFront-more a b bs more _ p.0 refl, p.1)

-- what was held back is written, and more is, so that nothing is held back
pub WroteBut-then : {X E : Type 0} (held : List ℕ) (a b c : Option (List ℕ)) (l m n : ℕ) (bs cs : List ℕ)
    (r : Result X E)
    → held ≡ [] → Appends a b bs → m ≡ l → Wrote b c m n cs r → WroteBut held a c l n (bs ++ cs) r
WroteBut-then held a b c l m n bs cs (Ok x) empty p none q = (
  (bs ++ cs, sym (ap (λ end. (bs ++ cs) ++ end) empty ∙ append-nil (bs ++ cs)), Appends-trans a b c bs cs p q.0),
  q.1
      ∙ none,
)
WroteBut-then held a b c l m n bs cs (Err e) empty p none q =
    (AppendsFront-then a b c bs cs p q.0, q.1 ∙ ap (λ k. k + 1) none)

-- one more piece is written or held back
pub piece_held : {X : Type 0} (f : X → List ℕ) (xs : List X) (i : ℕ) (d : X) (held after : List ℕ)
    (a b c : Option (List ℕ)) → i < length xs
    → AppendsBut held a b (flat_map f (take i xs)) → AppendsBut after b c (held ++ f (get_or xs i d))
    → AppendsBut after a c (flat_map f (take (i + 1) xs))
piece_held f xs i d held after a b c h (front, split, done) (more, parted, then) =
    let whole : flat_map f (take (i + 1) xs) ≡ (front ++ more) ++ after =
    flat_map-take_more f xs i d h
    ∙ (ap (λ l. l ++ f (get_or xs i d)) split
    ∙ (append_assoc front held (f (get_or xs i d))
    ∙ (ap (λ l. front ++ l) parted ∙ sym (append_assoc front more after)))) in
    (front ++ more, whole, Appends-trans a b c front more done then)

-- a front of what was held back and of one more piece was written
pub piece_cut : {X : Type 0} (f : X → List ℕ) (xs : List X) (i : ℕ) (d : X) (held : List ℕ) (a b c : Option (List ℕ))
    → i < length xs
    → AppendsBut held a b (flat_map f (take i xs)) → AppendsFront b c (held ++ f (get_or xs i d))
    → AppendsFront a c (flat_map f xs)
piece_cut f xs i d held a b c h (front, split, done) p =
    let whole : flat_map f (take (i + 1) xs) ≡ front ++ (held ++ f (get_or xs i d)) =
    flat_map-take_more f xs i d h
    ∙ (ap (λ l. l ++ f (get_or xs i d)) split ∙ append_assoc front held (f (get_or xs i d))) in
    AppendsFront-more a c _ (flat_map f (drop (i + 1) xs)) _
    (subst (AppendsFront a c) (sym whole) (AppendsFront-then a b c front _ done p)) (flat_map-split f xs (i + 1))

-- ---- the digits of a number

pub no_digits : (n : ℕ) → n ≡ 0 → digits_of 16 n ≡ []
no_digits n e =
    let none : length (digits_of 16 n) ≤ 0 = length-digits_of-le 16 0 n (omega arith) (omega (arith, e)) in
    nil_from_length (digits_of 16 n) (omega (arith, none))

pub digit_set : (digits : List ℕ) (s n x : ℕ) → 0 < n → 0 < s → s ≤ length digits → x ≡ digit (n % 16)
    → map digit (digits_of 16 n) ++ drop s digits
    ≡ map digit (digits_of 16 (n / 16)) ++ drop (s - 1) (set digits (s - 1) x)
digit_set digits s n x some room fits is =
    let step : digits_of 16 n ≡ digits_of 16 (n / 16) ++ (n % 16 ∷ []) = digits_of_step 16 n (omega arith) some in
    let next : (s - 1) + 1 ≡ s = omega arith in
    let here : drop (s - 1) (set digits (s - 1) x) ≡ digit (n % 16) ∷ drop s digits =
    drop-set digits (s - 1) x (omega arith) ∙ ap₂ (λ y k. y ∷ drop k digits) is next in
    ap (λ l. map digit l ++ drop s digits) step
    ∙ (ap (λ l. l ++ drop s digits) (map-append digit (digits_of 16 (n / 16)) (n % 16 ∷ []))
    ∙ (append_assoc (map digit (digits_of 16 (n / 16))) (digit (n % 16) ∷ []) (drop s digits)
    ∙ ap (λ l. map digit (digits_of 16 (n / 16)) ++ l) (sym here)))

pub zeros_kept : (digits : List ℕ) (s x : ℕ) → 0 < s → take s digits ≡ replicate s 48
    → take (s - 1) (set digits (s - 1) x) ≡ replicate (s - 1) 48
zeros_kept digits s x room zeros =
    take-set-le (s - 1) digits (s - 1) x (omega arith)
    ∙ (sym (take-take (s - 1) s digits (omega arith))
    ∙ (ap (take (s - 1)) zeros ∙ take-replicate (s - 1) s 48 (omega arith)))

-- what the digits hold from a place among the zeros before them
from_zeros : (digits : List ℕ) (m s : ℕ) → m ≤ s → take s digits ≡ replicate s 48
    → drop m digits ≡ replicate (s - m) 48 ++ drop s digits
from_zeros digits m s below zeros =
    ap (drop m) (sym (take-append-drop s digits) ∙ ap (λ l. l ++ drop s digits) zeros)
    ∙ (drop-append-le m (replicate s 48) (drop s digits) (omega (arith, length-replicate {A = ℕ} s 48))
    ∙ ap (λ l. l ++ drop s digits) (drop-replicate m s 48))

abbrev zeros_before : ℕ → List ℕ → List ℕ
zeros_before width l = replicate (width - length l) 48 ++ l

pub padded : (digits : List ℕ) (s n width : ℕ) → length digits ≡ 16 → s ≤ 16 → width ≤ 16
    → take s digits ≡ replicate s 48 → map digit (digits_of 16 n) ≡ drop s digits
    → drop (min s (16 - width)) digits ≡ hexadecimal width n
unfolding hexadecimal
padded digits s n width all within fits zeros are =
    let len : length (drop s digits) ≡ 16 - s = omega (arith, length-drop s digits) in
    let many : s - min s (16 - width) ≡ width - length (drop s digits) = omega (arith, len) in
    from_zeros digits (min s (16 - width)) s (omega arith) zeros
    ∙ (ap (λ k. replicate k 48 ++ drop s digits) many
    ∙ ap (zeros_before width) {x = drop s digits} {y = map digit (digits_of 16 n)} (sym are))
