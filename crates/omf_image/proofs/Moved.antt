-- Two memories of which one is the other with P added to words that share no byte.
use Rattle.std.proofs.Common.{◌≡◌, ◌≢◌, ◌⊎◌, ℕ, ◌+◌, ◌*◌, ◌/◌, ◌%◌, ◌<◌, ◌≤◌, List, [], ◌∷◌, length, get_or, set, inl}
use Rattle.std.proofs.Common.{inr, arith, refl, ap, ◌∙◌, sym, subst}
use Rattle.std.proofs.lemmas.List.{get_or-set_same, get_or-set_other, length-set}
use Rattle.std.proofs.lemmas.Bool.{cases_eq, cases_lt}
use Rattle.omf_image.specs.Words.{word_at, put_word, add_word, add_words}
use Rattle.omf_image.proofs.Words.{get_or-put_word_other, word_at-put_word_other, length-add_word}
use Rattle.omf_image.proofs.Members.{In}

-- the word at r of a memory
abbrev pub word : (ℕ → ℕ) → ℕ → ℕ
word m r = m r + 256 * m (r + 1)

-- m' is m with P added to the words at W
pub record MovedBy (P : ℕ) (W : ℕ → Type 0) (m m' : ℕ → ℕ) : Type 0 where
  pub low : (r : ℕ) → W r → m' r ≡ (word m r + P) % 65536 % 256
  pub high : (r : ℕ) → W r → m' (r + 1) ≡ (word m r + P) % 65536 / 256
  pub elsewhere : (a : ℕ) → ((r : ℕ) → W r → (a ≢ r) × (a ≢ r + 1)) → m' a ≡ m a

-- the word of the list in which an address lies, if there is one
pub find_word : (a : ℕ) (rs : List ℕ)
    → ((r : ℕ) × In r rs × ((a ≡ r) ⊎ (a ≡ r + 1))) ⊎ ((r : ℕ) → In r rs → (a ≢ r) × (a ≢ r + 1))
find_word a [] = inr (λ r h. absurd h)
find_word a (x ∷ xs) =
    elim (cases_eq a x) [
      | inl e ↦ inl (x, inl refl, inl e)
      | inr n ↦ elim (cases_eq a (x + 1)) [
        | inl e ↦ inl (x, inl refl, inr e)
        | inr n' ↦ elim (find_word a xs) [
          | inl f ↦ inl (f.0, inr f.1, f.2)
          | inr g ↦
              inr (λ r h. elim h [ inl e ↦ (λ k. n (k ∙ e), λ k. n' (k ∙ ap (λ (y : ℕ). y + 1) e)) | inr h' ↦ g r h' ])
        ]
      ]
    ]

-- such a memory is the only one
pub moved_once : (P : ℕ) (rs : List ℕ) (m m' n n' : ℕ → ℕ) (size : ℕ) → MovedBy P (λ r. In r rs) m m'
    → MovedBy P (λ r. In r rs) n n' → ((r : ℕ) → In r rs → r + 1 < size) → ((a : ℕ) → a < size → m a ≡ n a) → (a : ℕ)
    → a < size → m' a ≡ n' a
moved_once P rs m m' n n' size p q inside same a h =
    elim (find_word a rs) [
      | inl f ↦
          let r = f.0 in
          let k : r + 1 < size = inside r f.1 in
          let w : word m r ≡ word n r = omega (arith, same r (omega arith), same (r + 1) k) in
          elim f.2 [
            | inl e ↦
                ap m' e ∙ p.low r f.1 ∙ ap (λ (x : ℕ). (x + P) % 65536 % 256) w ∙ sym (q.low r f.1) ∙ ap n' (sym e)
            | inr e ↦
                ap m' e ∙ p.high r f.1 ∙ ap (λ (x : ℕ). (x + P) % 65536 / 256) w ∙ sym (q.high r f.1) ∙ ap n' (sym e)
          ]
      | inr g ↦ p.elsewhere a g ∙ same a h ∙ sym (q.elsewhere a g)
    ]

-- each two words share no byte
abbrev pub ApartWords : ℕ → ℕ → Type 0
ApartWords r s = (r + 2 ≤ s) ⊎ (s + 2 ≤ r)

abbrev pub AllApart : List ℕ → Type 0
AllApart [] = Unit {0}
AllApart (r ∷ rs) = ((s : ℕ) → In s rs → ApartWords r s) × AllApart rs

abbrev pub AllWordsInside : ℕ → List ℕ → Type 0
AllWordsInside n rs = (r : ℕ) → In r rs → r + 1 < n

memory : List ℕ → ℕ → ℕ
memory xs a = get_or xs a 0

pub add_word-low : (P r : ℕ) (xs : List ℕ) → r + 1 < length xs
    → get_or (add_word P r xs) r 0 ≡ (word_at xs r + P) % 65536 % 256
unfolding add_word put_word
add_word-low P r xs h =
    let w = (word_at xs r + P) % 65536 in
    get_or-set_other (set xs r (w % 256)) (r + 1) r (w / 256) 0 (omega arith)
    ∙ get_or-set_same xs r (w % 256) 0 (omega arith)

pub add_word-high : (P r : ℕ) (xs : List ℕ) → r + 1 < length xs
    → get_or (add_word P r xs) (r + 1) 0 ≡ (word_at xs r + P) % 65536 / 256
unfolding add_word put_word
add_word-high P r xs h =
    let w = (word_at xs r + P) % 65536 in
    let n : length (set xs r (w % 256)) ≡ length xs = length-set xs r (w % 256) in
    get_or-set_same (set xs r (w % 256)) (r + 1) (w / 256) 0 (omega arith)

pub add_word-other : (P r a : ℕ) (xs : List ℕ) → (a < r) ⊎ (r + 1 < a) → get_or (add_word P r xs) a 0 ≡ get_or xs a 0
unfolding add_word
add_word-other P r a xs h = get_or-put_word_other xs r ((word_at xs r + P) % 65536) a h

not_in_word : (r s a : ℕ) → ApartWords r s → r ≤ a → a ≤ r + 1 → (a ≢ s) × (a ≢ s + 1)
not_in_word r s a (inl l) h h' = (λ e. omega arith, λ e. omega arith)
not_in_word r s a (inr l) h h' = (λ e. omega arith, λ e. omega arith)

outside_word : (r a : ℕ) → a ≢ r → a ≢ r + 1 → (a < r) ⊎ (r + 1 < a)
outside_word r a h h' = elim (cases_lt a r) [ inl l ↦ inl l | inr l ↦ inr (omega arith) ]

pub add_words-moves : (P : ℕ) (rs : List ℕ) (xs : List ℕ) → AllApart rs → AllWordsInside (length xs) rs
    → MovedBy P (λ r. In r rs) (λ a. get_or xs a 0) (λ a. get_or (add_words P rs xs) a 0)
unfolding add_word
add_words-moves P [] xs apart inside = record { low = λ r h. absurd h; high = λ r h. absurd h; elsewhere = λ a h. refl }
add_words-moves P (r ∷ rs) xs apart inside =
    let ys = add_word P r xs in
    let n : length ys ≡ length xs = length-add_word P r xs in
    let room : r + 1 < length xs = inside r (inl refl) in
    let rest = add_words-moves P rs ys apart.1 (λ s h. subst (λ (k : ℕ). s + 1 < k) (sym n) (inside s (inr h))) in
    let here : (a : ℕ) → (r ≤ a) → (a ≤ r + 1) → get_or (add_words P rs ys) a 0 ≡ get_or ys a 0 =
    λ a h h'. rest.elsewhere a (λ s k. not_in_word r s a (apart.0 s k) h h') in
    let same : (s : ℕ) → In s rs → word_at ys s ≡ word_at xs s =
    λ s k.
    word_at-put_word_other xs s r ((word_at xs r + P) % 65536)
    (elim (apart.0 s k) [ inl l ↦ inl (omega arith) | inr l ↦ inr (omega arith) ]) in
    record {
      low = λ s h. elim h [
        | inl e ↦
            ap (λ (x : ℕ). get_or (add_words P rs ys) x 0) e ∙ here r (omega arith) (omega arith)
            ∙ add_word-low P r xs room ∙ ap (λ (x : ℕ). (word_at xs x + P) % 65536 % 256) (sym e)
        | inr k ↦ rest.low s k ∙ ap (λ (w : ℕ). (w + P) % 65536 % 256) (same s k)
      ];
      high = λ s h. elim h [
        | inl e ↦
            ap (λ (x : ℕ). get_or (add_words P rs ys) (x + 1) 0) e ∙ here (r + 1) (omega arith) (omega arith)
            ∙ add_word-high P r xs room ∙ ap (λ (x : ℕ). (word_at xs x + P) % 65536 / 256) (sym e)
        | inr k ↦ rest.high s k ∙ ap (λ (w : ℕ). (w + P) % 65536 / 256) (same s k)
      ];
      elsewhere =
          λ a h.
          rest.elsewhere a (λ s k. h s (inr k))
          ∙ add_word-other P r a xs (outside_word r a (h r (inl refl)).0 (h r (inl refl)).1);
    }
