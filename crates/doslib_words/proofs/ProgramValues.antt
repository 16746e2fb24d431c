-- What the digits of a paragraph say.
use Rattle.std.proofs.Common.{◌≡◌, ◌∙◌, ◌⊎◌, ℕ, List, length, IsOk, Ok, Err, Result, ap, arith}
use Rattle.std.proofs.Common.{false, true, refl, sym, subst, inl, inr, true≢false}
use Rattle.std.specs.Int.{from_be_bytes, w16}
use Rattle.std.proofs.lemmas.Nat.{be_bytes_2}
use Rattle.hex.specs.Hex.{decode_of, decode_sized}
use Rattle.hex.specs.declared.error.FromHexError.{FromHexError}
use Rattle.hex.proofs.HexLemmas.{IsOk-decode_sized, decode_of-ok, decode_sized-ok, decode_sized-twice}
use Rattle.clap.specs.Words.{Text}
use Rattle.command_line.specs.declared.words_fault.WordsFault.{WordsFault}
use Rattle.command_line.specs.declared.words_fault.WordsFault.TheVariants.{Memory}
use Rattle.doslib_words.specs.Program.{IsFourDigits, IsNoParagraph, IsParagraph}
use Rattle.doslib_words.specs.inside.Words.{IsWrong}

-- ---- a paragraph

four_digits : (digits bytes : List ℕ) (r : Result (List ℕ) FromHexError) → r ≡ decode_sized digits 2 → r ≡ Ok bytes
    → IsFourDigits digits
four_digits digits bytes r is read = (IsOk-decode_sized digits 2).0 (rw (← is, read) refl)

pub paragraph_read : (digits bytes : List ℕ) (r : Result (List ℕ) FromHexError) (n : ℕ) → r ≡ decode_sized digits 2
    → r ≡ Ok bytes → n ≡ from_be_bytes w16 bytes
    → IsParagraph digits n
paragraph_read digits bytes r n is read number =
    let sized : decode_sized digits 2 ≡ Ok bytes = sym is ∙ read in
    let twice = decode_sized-ok digits 2 bytes sized in
    let whole : decode_of digits ≡ Ok bytes = sym (decode_sized-twice digits 2 twice) ∙ sized in
    let parts = decode_of-ok digits bytes whole in
    let two : length bytes ≡ 2 = omega (arith, twice, parts.2) in
    (four_digits digits bytes r is read, whole ∙ ap (λ b. Ok b) (sym (be_bytes_2 bytes n two parts.3 number)))

pub no_paragraph : (digits : List ℕ) (r : Result (List ℕ) FromHexError) (e : FromHexError)
    → r ≡ decode_sized digits 2 → r ≡ Err e → IsNoParagraph digits
no_paragraph digits r e is read = λ four.
    let good : IsOk (decode_sized digits 2) = (IsOk-decode_sized digits 2).1 four in
    let bad : false ≡ true = subst IsOk (sym is ∙ read) good in
    absurd (true≢false (sym bad))

-- a refusal for it
pub refused_so : (digits : Text) (fault : WordsFault) → IsNoParagraph digits → (fault ≡ Memory) ⊎ IsWrong fault
    → (fault ≡ Memory) ⊎ (IsWrong fault × IsNoParagraph digits)
refused_so digits fault none (inl m) = inl m
refused_so digits fault none (inr w) = inr (w, none)
