-- From the data records to the memory: what holds of each datum holds of the bytes at all addresses.
use Rattle.std.proofs.Common.{◌≡◌, ◌≢◌, ℕ, ◌+◌, ◌-◌, ◌/◌, ◌%◌, ◌<◌, ◌≤◌, true, false, cond, ◌&&◌, List, [], ◌∷◌, ◌++◌}
use Rattle.std.proofs.Common.{map, filter, length, get_or, leb, ltb, inl, inr, arith, refl, ap, ◌∙◌, sym, subst}
use Rattle.std.proofs.lemmas.List.{append_assoc, append-nil}
use Rattle.std.proofs.lemmas.Bool.{cases_Bool, and_parts, and_from, leb-true, ltb-true, le-leb, lt-ltb, cond-true}
use Rattle.std.proofs.lemmas.Bool.{cond-false}
use Rattle.omf_image.specs.Words.{word_at, add_words}
use Rattle.omf_image.specs.Located.{LocatedBytes, covers, located}
use Rattle.omf_image.specs.inside.Whole.{byte_of}
use Rattle.omf_image.specs.inside.Leading.{last_or}
use Rattle.omf_image.proofs.Words.{length-add_word}
use Rattle.omf_image.proofs.Moved.{MovedBy, word, AllApart, AllWordsInside, add_words-moves, moved_once}
use Rattle.omf_image.proofs.Members.{In, In-cases, In-left, In-map, In-map-from, In-right}

-- a datum at paragraph 0, with the places of its relocated words
pub record Piece : Type 0 where
  pub datum : LocatedBytes
  pub words : List ℕ

-- the same at paragraph P
abbrev pub datum_at : ℕ → Piece → LocatedBytes
datum_at P p = record { start = p.datum.start; bytes = add_words P p.words p.datum.bytes }

abbrev pub datum_at_0 : Piece → LocatedBytes
datum_at_0 p = p.datum

-- the addresses of its relocated words
abbrev pub addresses : Piece → List ℕ
addresses p = map (λ w. p.datum.start + w) p.words

abbrev pub all_addresses : List Piece → List ℕ
all_addresses [] = []
all_addresses (p ∷ ps) = addresses p ++ all_addresses ps

-- no piece covers a byte of a word of rs or of a piece before it
abbrev pub Uncovered : List ℕ → List Piece → Type 0
Uncovered rs [] = Unit {0}
Uncovered rs (p ∷ ps) =
    ((r : ℕ) → In r rs → (covers r p.datum ≡ false) × (covers (r + 1) p.datum ≡ false))
    × Uncovered (rs ++ addresses p) ps

abbrev pub EachApart : List Piece → Type 0
EachApart [] = Unit {0}
EachApart (p ∷ ps) = AllApart p.words × AllWordsInside (length p.datum.bytes) p.words × EachApart ps

-- a datum laid over a memory
abbrev pub lay : LocatedBytes → (ℕ → ℕ) → ℕ → ℕ
lay d m a = cond (covers a d) (byte_of a d) (m a)

abbrev pub lay_all : List LocatedBytes → (ℕ → ℕ) → ℕ → ℕ
lay_all [] m = m
lay_all (d ∷ ds) m = lay_all ds (lay d m)

length-add_words : (P : ℕ) (rs : List ℕ) (xs : List ℕ) → length (add_words P rs xs) ≡ length xs
length-add_words P [] xs = refl
length-add_words P (r ∷ rs) xs = length-add_words P rs _ ∙ length-add_word P r xs

pub covers-from : (a : ℕ) (d : LocatedBytes) → d.start ≤ a → a < d.start + length d.bytes → covers a d ≡ true
covers-from a d h k = and_from _ _ (le-leb d.start a h) (lt-ltb a (d.start + length d.bytes) k)

covers-same : (P a : ℕ) (p : Piece) → covers a (datum_at P p) ≡ covers a p.datum
covers-same P a p =
    ap (λ (n : ℕ). leb p.datum.start a && ltb a (p.datum.start + n)) (length-add_words P p.words p.datum.bytes)

lay-in : (d : LocatedBytes) (m : ℕ → ℕ) (a : ℕ) → covers a d ≡ true → lay d m a ≡ byte_of a d
lay-in d m a h = cond-true (covers a d) (byte_of a d) (m a) h

lay-out : (d : LocatedBytes) (m : ℕ → ℕ) (a : ℕ) → covers a d ≡ false → lay d m a ≡ m a
lay-out d m a h = cond-false (covers a d) (byte_of a d) (m a) h

pub add_sub : (a b : ℕ) → a + b - a ≡ b
add_sub a b = omega arith

-- the i-th byte of a datum that is laid over a memory
lay-at : (d : LocatedBytes) (m : ℕ → ℕ) (i : ℕ) → i < length d.bytes → lay d m (d.start + i) ≡ get_or d.bytes i 0
lay-at d m i h =
    lay-in d m (d.start + i) (covers-from (d.start + i) d (omega arith) (omega arith))
    ∙ ap (λ (k : ℕ). get_or d.bytes k 0) (add_sub d.start i)

carry_one : (P : ℕ) (rs : List ℕ) (p : Piece) (m m' : ℕ → ℕ) → AllApart p.words
    → AllWordsInside (length p.datum.bytes) p.words
    → ((r : ℕ) → In r rs → (covers r p.datum ≡ false) × (covers (r + 1) p.datum ≡ false))
    → MovedBy P (λ r. In r rs) m m' → MovedBy P (λ r. In r (rs ++ addresses p)) (lay p.datum m) (lay (datum_at P p) m')
carry_one P rs p m m' apart inside free moved =
    let d = p.datum in
    let d' = datum_at P p in
    let own = add_words-moves P p.words d.bytes apart inside in
    let n : length d'.bytes ≡ length d.bytes = length-add_words P p.words d.bytes in
    let old : (a : ℕ) → covers a d ≡ false → (lay d m a ≡ m a) × (lay d' m' a ≡ m' a) =
    λ a h. (lay-out d m a h, lay-out d' m' a (covers-same P a p ∙ h)) in
    let new : (i : ℕ) → i < length d.bytes
    → (lay d m (d.start + i) ≡ get_or d.bytes i 0) × (lay d' m' (d.start + i) ≡ get_or d'.bytes i 0) =
    λ i h. (lay-at d m i h, lay-at d' m' i (omega arith)) in
    let word_old : (r : ℕ) → In r rs → word (lay d m) r ≡ word m r =
    λ r k. omega (arith, (old r (free r k).0).0, (old (r + 1) (free r k).1).0) in
    let next : (r w : ℕ) → r ≡ d.start + w → r + 1 ≡ d.start + (w + 1) = λ r w e. omega arith in
    let word_new : (r w : ℕ) → In w p.words → r ≡ d.start + w → word (lay d m) r ≡ word_at d.bytes w = λ r w k e.
    let room : w + 1 < length d.bytes = inside w k in
    omega (arith, ap (lay d m) e ∙ (new w (omega arith)).0, ap (lay d m) (next r w e) ∙ (new (w + 1) room).0) in
    record {
      low = λ r h. elim (In-cases r rs (addresses p) h) [
        | inl k ↦ (old r (free r k).0).1 ∙ moved.low r k ∙ ap (λ (x : ℕ). (x + P) % 65536 % 256) (sym (word_old r k))
        | inr k ↦
            let g = In-map d.start r p.words k in
            let room : g.0 + 1 < length d.bytes = inside g.0 g.1 in
            ap (lay d' m') g.2 ∙ (new g.0 (omega arith)).1 ∙ own.low g.0 g.1
            ∙ ap (λ (x : ℕ). (x + P) % 65536 % 256) (sym (word_new r g.0 g.1 g.2))
      ];
      high = λ r h. elim (In-cases r rs (addresses p) h) [
        | inl k ↦
            (old (r + 1) (free r k).1).1 ∙ moved.high r k ∙ ap (λ (x : ℕ). (x + P) % 65536 / 256) (sym (word_old r k))
        | inr k ↦
            let g = In-map d.start r p.words k in
            ap (lay d' m') (next r g.0 g.2) ∙ (new (g.0 + 1) (inside g.0 g.1)).1 ∙ own.high g.0 g.1
            ∙ ap (λ (x : ℕ). (x + P) % 65536 / 256) (sym (word_new r g.0 g.1 g.2))
      ];
      elsewhere = λ a h. elim (cases_Bool (covers a d)) [
        | inl t ↦
            let i = a - d.start in
            let low_end : d.start ≤ a =
            leb-true d.start a (and_parts (leb d.start a) (ltb a (d.start + length d.bytes)) t).0 in
            let high_end : a < d.start + length d.bytes =
            ltb-true a (d.start + length d.bytes) (and_parts (leb d.start a) (ltb a (d.start + length d.bytes)) t).1 in
            let e : a ≡ d.start + i = omega arith in
            let away : (w : ℕ) → In w p.words → (i ≢ w) × (i ≢ w + 1) = λ w k.
            let g = h (d.start + w) (In-right (d.start + w) rs (addresses p) (In-map-from d.start w p.words k)) in
            (λ f. g.0 (omega arith), λ f. g.1 (omega arith)) in
            ap (lay d' m') e ∙ (new i (omega arith)).1 ∙ own.elsewhere i away ∙ sym (new i (omega arith)).0
            ∙ sym (ap (lay d m) e)
        | inr t ↦ (old a t).1 ∙ moved.elsewhere a (λ r k. h r (In-left r rs (addresses p) k)) ∙ sym (old a t).0
      ];
    }

carry : (P : ℕ) (rs : List ℕ) (ps : List Piece) (m m' : ℕ → ℕ) → EachApart ps → Uncovered rs ps
    → MovedBy P (λ r. In r rs) m m'
    → MovedBy P (λ r. In r (rs ++ all_addresses ps)) (lay_all (map datum_at_0 ps) m) (lay_all (map (datum_at P) ps) m')
carry P rs [] m m' each free moved = subst (λ (l : List ℕ). MovedBy P (λ r. In r l) m m') (sym (append-nil rs)) moved
carry P rs (p ∷ ps) m m' each free moved =
    let step = carry_one P rs p m m' each.0 each.1 free.0 moved in
    subst
    (λ (l : List ℕ).
    MovedBy P (λ r. In r l) (lay_all (map datum_at_0 ps) (lay p.datum m))
    (lay_all (map (datum_at P) ps) (lay (datum_at P p) m'))) (append_assoc rs (addresses p) (all_addresses ps))
    (carry P (rs ++ addresses p) ps (lay p.datum m) (lay (datum_at P p) m') each.2 free.1 step)

-- laying all data in order gives each address the byte of the last datum that covers it
located-lay_all : (ds : List LocatedBytes) (m : ℕ → ℕ) (a : ℕ)
    → lay_all ds m a ≡ last_or (m a) (map (byte_of a) (filter (covers a) ds))
located-lay_all [] m a = refl
located-lay_all (d ∷ ds) m a =
    located-lay_all ds (lay d m) a
    ∙ (elim (cases_Bool (covers a d)) [
      | inl t ↦
          ap (λ (n : ℕ). last_or n (map (byte_of a) (filter (covers a) ds))) (lay-in d m a t)
          ∙ sym
          (ap (λ (l : List LocatedBytes). last_or (m a) (map (byte_of a) l))
          (cond-true (covers a d) (d ∷ filter (covers a) ds) (filter (covers a) ds) t))
      | inr t ↦
          ap (λ (n : ℕ). last_or n (map (byte_of a) (filter (covers a) ds))) (lay-out d m a t)
          ∙ sym
          (ap (λ (l : List LocatedBytes). last_or (m a) (map (byte_of a) l))
          (cond-false (covers a d) (d ∷ filter (covers a) ds) (filter (covers a) ds) t))
    ])

-- the program at paragraph P is the one at paragraph 0 with P added to its relocated words
pub moved_program : (P : ℕ) (ps : List Piece) → EachApart ps → Uncovered [] ps
    → MovedBy P (λ r. In r (all_addresses ps)) (located (map datum_at_0 ps)) (located (map (datum_at P) ps))
moved_program P ps each free =
    let none : ℕ → ℕ = λ a. 0 in
    let moved =
    carry P [] ps none none each free
    (record { low = λ r h. absurd h; high = λ r h. absurd h; elsewhere = λ a h. refl }) in
    let old : (a : ℕ) → lay_all (map datum_at_0 ps) none a ≡ located (map datum_at_0 ps) a =
    λ a. located-lay_all (map datum_at_0 ps) none a in
    let new : (a : ℕ) → lay_all (map (datum_at P) ps) none a ≡ located (map (datum_at P) ps) a =
    λ a. located-lay_all (map (datum_at P) ps) none a in
    let words : (r : ℕ) → word (lay_all (map datum_at_0 ps) none) r ≡ word (located (map datum_at_0 ps)) r =
    λ r. omega (arith, old r, old (r + 1)) in
    record {
      low = λ r h. sym (new r) ∙ moved.low r h ∙ ap (λ (x : ℕ). (x + P) % 65536 % 256) (words r);
      high = λ r h. sym (new (r + 1)) ∙ moved.high r h ∙ ap (λ (x : ℕ). (x + P) % 65536 / 256) (words r);
      elsewhere = λ a h. sym (new a) ∙ moved.elsewhere a h ∙ old a;
    }

-- an image and its relocations, moved by P, hold the program at P
pub image_moves : (P size : ℕ) (ps : List Piece) (image rs : List ℕ) → EachApart ps → Uncovered [] ps
    → length image ≡ size → ((a : ℕ) → a < size → get_or image a 0 ≡ located (map datum_at_0 ps) a) → AllApart rs
    → AllWordsInside size rs → ((r : ℕ) → In r rs → In r (all_addresses ps))
    → ((r : ℕ) → In r (all_addresses ps) → In r rs) → (a : ℕ) → a < size
    → get_or (add_words P rs image) a 0 ≡ located (map (datum_at P) ps) a
image_moves P size ps image rs each free n holds apart inside there back a h =
    let moved = moved_program P ps each free in
    let list = add_words-moves P rs image apart (λ r k. subst (λ (s : ℕ). r + 1 < s) (sym n) (inside r k)) in
    moved_once P rs (λ a. get_or image a 0) (λ a. get_or (add_words P rs image) a 0) (located (map datum_at_0 ps))
    (located (map (datum_at P) ps)) size
    list
    (record {
      low = λ r k. moved.low r (there r k);
      high = λ r k. moved.high r (there r k);
      elsewhere = λ a k. moved.elsewhere a (λ r l. k r (back r l));
    })
    inside holds a h
