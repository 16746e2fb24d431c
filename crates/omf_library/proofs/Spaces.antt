-- Bytes without the spaces at their end.
use Rattle.std.proofs.Common.{◌≡◌, ◌≢◌, ℕ, zero, suc, ◌-◌, ◌<◌, ◌≤◌, Bool, true, false, ◌&&◌, List, [], ◌∷◌, length}
use Rattle.std.proofs.Common.{get_or, take, cond, eqb, refl, sym, ap, ◌∙◌, arith}
use Rattle.std.specs.List.{list_all}
use Rattle.std.proofs.lemmas.Bool.{eq-eqb, ne_eqb}
use Rattle.std.proofs.lemmas.List.{length-take-le, take-take, take_all, get_or-take}
use Rattle.omf_library.specs.Archive.{without_spaces}

abbrev is_space : ℕ → Bool
is_space c = eqb c 32

all-taken : (bytes : List ℕ) (n : ℕ) → length bytes ≡ suc n → get_or bytes n 0 ≡ 32
    → list_all is_space (take n bytes) ≡ list_all is_space bytes
all-taken [] n len last = absurd (omega (arith, len))
all-taken (b ∷ []) zero len last = sym (ap (λ t. t && true) (eq-eqb b 32 last))
all-taken (b ∷ []) (suc n) len last = absurd (omega (arith, len))
all-taken (b ∷ c ∷ bs) zero len last = absurd (omega (arith, len))
all-taken (b ∷ c ∷ bs) (suc n) len last = ap (λ t. is_space b && t) (all-taken (c ∷ bs) n (omega (arith, len)) last)

-- one space less at the end
pub spaces-taken : (bytes : List ℕ) (n : ℕ) → length bytes ≡ suc n → get_or bytes n 0 ≡ 32
    → without_spaces (take n bytes) ≡ without_spaces bytes
spaces-taken [] n len last = absurd (omega (arith, len))
spaces-taken (b ∷ []) zero len last = sym (ap (λ t. cond (t && true) [] (b ∷ [])) (eq-eqb b 32 last))
spaces-taken (b ∷ []) (suc n) len last = absurd (omega (arith, len))
spaces-taken (b ∷ c ∷ bs) zero len last = absurd (omega (arith, len))
spaces-taken (b ∷ c ∷ bs) (suc n) len last =
    ap (λ t. cond (is_space b && t) [] (b ∷ without_spaces (take n (c ∷ bs))))
    (all-taken (c ∷ bs) n (omega (arith, len)) last)
    ∙ ap (λ l. cond (list_all is_space (b ∷ c ∷ bs)) [] (b ∷ l)) (spaces-taken (c ∷ bs) n (omega (arith, len)) last)

and-false : (b : Bool) → (b && false) ≡ false
and-false true = refl
and-false false = refl

all-last : (bytes : List ℕ) (n : ℕ) → length bytes ≡ suc n → get_or bytes n 0 ≢ 32 → list_all is_space bytes ≡ false
all-last [] n len last = absurd (omega (arith, len))
all-last (b ∷ []) zero len last = ap (λ t. t && true) (ne_eqb b 32 last)
all-last (b ∷ []) (suc n) len last = absurd (omega (arith, len))
all-last (b ∷ c ∷ bs) zero len last = absurd (omega (arith, len))
all-last (b ∷ c ∷ bs) (suc n) len last =
    ap (λ t. is_space b && t) (all-last (c ∷ bs) n (omega (arith, len)) last) ∙ and-false (is_space b)

-- no space at the end
pub spaces-none : (bytes : List ℕ) (n : ℕ) → length bytes ≡ suc n → get_or bytes n 0 ≢ 32 → without_spaces bytes ≡ bytes
spaces-none [] n len last = absurd (omega (arith, len))
spaces-none (b ∷ []) zero len last = ap (λ t. cond (t && true) [] (b ∷ [])) (ne_eqb b 32 last)
spaces-none (b ∷ []) (suc n) len last = absurd (omega (arith, len))
spaces-none (b ∷ c ∷ bs) zero len last = absurd (omega (arith, len))
spaces-none (b ∷ c ∷ bs) (suc n) len last =
    ap (λ t. cond t [] (b ∷ without_spaces (c ∷ bs))) (all-last (b ∷ c ∷ bs) (suc n) len last)
    ∙ ap (λ l. b ∷ l) (spaces-none (c ∷ bs) n (omega (arith, len)) last)

-- the same of a front of so many bytes
pub spaces_less : (bytes : List ℕ) (len : ℕ) → 0 < len → len ≤ length bytes → get_or bytes (len - 1) 0 ≡ 32
    → without_spaces (take (len - 1) bytes) ≡ without_spaces (take len bytes)
spaces_less bytes len some within last =
    let n : length (take len bytes) ≡ suc (len - 1) = length-take-le len bytes within ∙ omega arith in
    ap without_spaces (sym (take-take (len - 1) len bytes (omega arith)))
    ∙ spaces-taken (take len bytes) (len - 1) n (get_or-take len bytes (len - 1) 0 (omega arith) ∙ last)

pub spaces_kept : (bytes : List ℕ) (len : ℕ) → 0 < len → len ≤ length bytes → get_or bytes (len - 1) 0 ≢ 32
    → without_spaces (take len bytes) ≡ take len bytes
spaces_kept bytes len some within last =
    let n : length (take len bytes) ≡ suc (len - 1) = length-take-le len bytes within ∙ omega arith in
    spaces-none (take len bytes) (len - 1) n (λ e. last (sym (get_or-take len bytes (len - 1) 0 (omega arith)) ∙ e))

pub spaces_all : (bytes : List ℕ) (len : ℕ) → len ≡ length bytes
    → without_spaces (take len bytes) ≡ without_spaces bytes
spaces_all bytes len e = ap without_spaces (take_all len bytes (omega (arith, e)))
