-- What loading a .COM file answers, by whether it fits.
use Rattle.std.proofs.Common.{◌≡◌, ℕ, ◌+◌, ◌*◌, ◌≤◌, ◌<◌, min, List, length, take, inl, inr, ap, ◌∙◌, sym, subst}
use Rattle.std.proofs.Common.{arith, Result, Ok, Err}
use Rattle.std.specs.Prelude.{nat_le}
use Rattle.std.proofs.lemmas.Bool.{cases_lt, cond-true, cond-false, le-leb, lt-leb}
use Rattle.std.proofs.lemmas.List.{take_all}
use Rattle.flat_file.specs.declared.loading.ComFault.{ComFault}
use Rattle.flat_file.specs.declared.loading.ComFault.TheVariants.{TooLong, DoesNotFit, Memory}
use Rattle.flat_file.specs.Covered.{memory_len}
use Rattle.flat_file.specs.Com.{LoadedCom, loaded, loading, Loads}

pub too_long : (psp : ℕ) (file : List ℕ) → 65280 < length file → loading psp file ≡ Err TooLong
unfolding loading
too_long psp file h = cond-false (nat_le (length file) 65280) _ _ (lt-leb (length file) 65280 h)

pub does_not_fit : (psp : ℕ) (file : List ℕ) → length file ≤ 65280 → memory_len < 16 * psp + 65536
    → loading psp file ≡ Err DoesNotFit
unfolding loading
does_not_fit psp file short h =
    cond-true (nat_le (length file) 65280) _ _ (le-leb (length file) 65280 short)
    ∙ cond-false (nat_le (16 * psp + 65536) memory_len) _ _ (lt-leb (16 * psp + 65536) memory_len h)

pub does_fit : (psp : ℕ) (file : List ℕ) → length file ≤ 65280 → 16 * psp + 65536 ≤ memory_len
    → loading psp file ≡ Ok (loaded psp file)
unfolding loading
does_fit psp file short h =
    cond-true (nat_le (length file) 65280) _ _ (le-leb (length file) 65280 short)
    ∙ cond-true (nat_le (16 * psp + 65536) memory_len) _ _ (le-leb (16 * psp + 65536) memory_len h)

pub no_memory : (r : Result LoadedCom ComFault) (psp : ℕ) (file : List ℕ) (e : ComFault) → length file ≤ 65280
    → 16 * psp + 65536 ≤ memory_len → r ≡ Err e → e ≡ Memory → Loads r (loading psp file)
no_memory r psp file e short h x y =
    subst (λ (s : Result LoadedCom ComFault). Loads s (loading psp file)) (sym (x ∙ ap Err y))
    (subst (λ (s : Result LoadedCom ComFault). Loads (Err Memory) s) (sym (does_fit psp file short h)) tt)

-- the bytes that stay
kept_bytes : (xs : List ℕ) (n kept : ℕ) → kept ≡ min (length xs) n → take kept xs ≡ take n xs
kept_bytes xs n kept least = elim (cases_lt (length xs) n) [
  | inl short ↦
      take_all kept xs (omega (arith, least, short)) ∙ sym (take_all n xs (omega (arith, short)))
  | inr long ↦ let same : kept ≡ n = omega (arith, least, long) in ap (λ (k : ℕ). take k xs) same
]

made : ℕ → List ℕ → LoadedCom
made psp bytes = record { bytes = bytes; registers = record { cs = psp; ip = 256; ss = psp; sp = 65534 } }

pub loads_as : (psp kept : ℕ) (file bytes : List ℕ) → length file ≤ 65280 → 16 * psp + 65536 ≤ memory_len
    → kept ≡ min (length file) 65278 → bytes ≡ take kept file
    → loading psp file
    ≡ Ok (record { bytes = bytes; registers = record { cs = psp; ip = 256; ss = psp; sp = 65534 } })
unfolding made
loads_as psp kept file bytes short h least is =
    does_fit psp file short h
    ∙ ap (λ (b : List ℕ). Ok (made psp b)) (sym (is ∙ kept_bytes file 65278 kept least))
