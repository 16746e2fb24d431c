-- The families of types have none in common.
use Rattle.std.proofs.Common.{◌≡◌, ℕ, ◌==◌, Bool, true, false, not, ◌||◌, refl, sym, subst, ◌∙◌, arith}
use Rattle.std.proofs.lemmas.Bool.Decides.{nat_tests}
use Rattle.omf_plain.specs.Reading.{is_narrow, is_wide, is_data, is_repeated, is_later}

-- a type is one, and of one that isn't in the other family
last : (kind x : ℕ) (P : ℕ → Bool) → (kind == x) ≡ true → P kind ≡ true → P x ≡ false → ⊥
last kind x P e f out =
    let is : kind ≡ x = grind (arith, nat_tests) in
    let both : true ≡ false = sym f ∙ subst (λ k. P k ≡ P x) (sym is) refl ∙ out in
    absurd cc

-- or it is another one
step : (kind x : ℕ) (rest : Bool) (P : ℕ → Bool) → (rest || (kind == x)) ≡ true → P kind ≡ true → P x ≡ false
    → (rest ≡ true → ⊥) → ⊥
step kind x rest P e f out behind = go (kind == x) rest refl refl e
  where
    go : (b r : Bool) → (kind == x) ≡ b → rest ≡ r → (r || b) ≡ true → ⊥
    go true r is same e = last kind x P is f out
    go false true is same e = behind same
    go false false is same e = cc

pub narrow_wide : (kind : ℕ) → is_narrow kind ≡ true → is_wide kind ≡ true → ⊥
narrow_wide kind e f =
    step kind 0xB6 _ is_wide e f refl (λ e1. step kind 0xB4 _ is_wide e1 f refl (λ e2.
    step kind 0xA2 _ is_wide e2 f refl (λ e3. step kind 0xA0 _ is_wide e3 f refl (λ e4.
    step kind 0x9A _ is_wide e4 f refl (λ e5. step kind 0x96 _ is_wide e5 f refl (λ e6.
    step kind 0x94 _ is_wide e6 f refl (λ e7. step kind 0x90 _ is_wide e7 f refl (λ e8.
    step kind 0x8C _ is_wide e8 f refl (λ e9. step kind 0x88 _ is_wide e9 f refl (λ e10.
    last kind 0x80 is_wide e10 f refl))))))))))

pub narrow_data : (kind : ℕ) → is_narrow kind ≡ true → is_data kind ≡ true → ⊥
narrow_data kind f e = last kind 0xA1 is_narrow e f refl

pub narrow_repeated : (kind : ℕ) → is_narrow kind ≡ true → is_repeated kind ≡ true → ⊥
narrow_repeated kind f e = last kind 0xA3 is_narrow e f refl

pub wide_data : (kind : ℕ) → is_wide kind ≡ true → is_data kind ≡ true → ⊥
wide_data kind f e = last kind 0xA1 is_wide e f refl

pub wide_repeated : (kind : ℕ) → is_wide kind ≡ true → is_repeated kind ≡ true → ⊥
wide_repeated kind f e = last kind 0xA3 is_wide e f refl

pub data_repeated : (kind : ℕ) → is_data kind ≡ true → is_repeated kind ≡ true → ⊥
data_repeated kind f e = last kind 0xA3 is_data e f refl

-- ---- any other type

out_of : (a b c d : Bool) → not (a || b || c || d) ≡ true → (a ≡ false) × (b ≡ false) × (c ≡ false) × (d ≡ false)
out_of true b c d e = absurd cc
out_of false true c d e = absurd cc
out_of false false true d e = absurd cc
out_of false false false true e = absurd cc
out_of false false false false e = (refl, refl, refl, refl)

others : (kind : ℕ) → is_later kind ≡ true → (is_narrow kind ≡ false) × (is_wide kind ≡ false)
    × (is_data kind ≡ false) × (is_repeated kind ≡ false)
others kind e = out_of (is_narrow kind) (is_wide kind) (is_data kind) (is_repeated kind) e

clash : (b : Bool) → b ≡ true → b ≡ false → ⊥
clash b e f = cc

pub narrow_later : (kind : ℕ) → is_narrow kind ≡ true → is_later kind ≡ true → ⊥
narrow_later kind e f = clash (is_narrow kind) e (others kind f).0

pub wide_later : (kind : ℕ) → is_wide kind ≡ true → is_later kind ≡ true → ⊥
wide_later kind e f = clash (is_wide kind) e (others kind f).1

pub data_later : (kind : ℕ) → is_data kind ≡ true → is_later kind ≡ true → ⊥
data_later kind e f = clash (is_data kind) e (others kind f).2

pub repeated_later : (kind : ℕ) → is_repeated kind ≡ true → is_later kind ≡ true → ⊥
repeated_later kind e f = clash (is_repeated kind) e (others kind f).3
