-- What loading answers, by whether the program fits.
use Rattle.std.proofs.Common.{◌≡◌, ℕ, ◌+◌, ◌*◌, ◌<◌, ◌≤◌, List, map, ap, ◌∙◌, sym, subst, Result, Ok, Err}
use Rattle.std.specs.Prelude.{nat_le}
use Rattle.std.proofs.lemmas.Bool.{le-leb, lt-leb, cond-true, cond-false}
use Rattle.omf_image.specs.declared.start.Registers.{Registers}
use Rattle.omf_image.specs.Registers.{moved}
use Rattle.omf_image.specs.Words.{add_words}
use Rattle.mz.specs.declared.fault.FileFault.{FileFault}
use Rattle.mz.specs.declared.fault.FileFault.TheVariants.{DoesNotFit}
use Rattle.mz.specs.declared.fault.MzFault.{MzFault}
use Rattle.mz.specs.declared.fault.MzFault.TheVariants.{Memory}
use Rattle.mz.specs.Header.{entry_address}
use Rattle.mz.specs.File.{MzFile}
use Rattle.mz.specs.Loading.{Loaded, loaded, needed_len, loading, Loads}
use Rattle.mz.specs.Laws.{memory_len}

pub does_not_fit : (P : ℕ) (f : MzFile) → memory_len < 16 * P + needed_len f → loading P f ≡ Err DoesNotFit
unfolding loading
does_not_fit P f h =
    cond-false (nat_le (16 * P + needed_len f) memory_len) _ _ (lt-leb (16 * P + needed_len f) memory_len h)

pub does_fit : (P : ℕ) (f : MzFile) → 16 * P + needed_len f ≤ memory_len → loading P f ≡ Ok (loaded P f)
unfolding loading
does_fit P f h = cond-true (nat_le (16 * P + needed_len f) memory_len) _ _ (le-leb (16 * P + needed_len f) memory_len h)

pub no_memory : (r : Result Loaded MzFault) (P : ℕ) (f : MzFile) (e : MzFault) → 16 * P + needed_len f ≤ memory_len
    → r ≡ Err e → e ≡ Memory → Loads r (loading P f)
no_memory r P f e h x y =
    subst (λ (s : Result Loaded MzFault). Loads s (loading P f)) (sym (x ∙ ap Err y))
    (subst (λ (s : Result Loaded FileFault). Loads (Err Memory) s) (sym (does_fit P f h)) tt)

made : (P : ℕ) → Registers → List ℕ → Loaded
made P r bytes = record { bytes = bytes; registers = moved P r }

pub loads_as : (P : ℕ) (f : MzFile) (r : Registers) (bytes : List ℕ) → 16 * P + needed_len f ≤ memory_len
    → r ≡ f.header.registers → bytes ≡ add_words P (map entry_address f.entries) f.image
    → loading P f ≡ Ok (record { bytes = bytes; registers = moved P r })
unfolding loaded made
loads_as P f r bytes fits x y =
    does_fit P f fits ∙ ap (λ (b : List ℕ). Ok (made P f.header.registers b)) (sym y)
    ∙ ap (λ (k : Registers). Ok (made P k bytes)) (sym x)
