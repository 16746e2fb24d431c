-- What the values of the subcommand that the command enters give.
use Rattle.std.proofs.Common.{◌≡◌, ◌<◌, ◌∙◌, ◌&&◌, ◌||◌, ◌⊎◌, ℕ, Bool, List, [], length, Some}
use Rattle.std.proofs.Common.{Result, Ok, Err, IsSome, IsOk, codes, is_some, false, true, refl, sym, ap, subst, arith}
use Rattle.std.proofs.Common.{inl, inr, true≢false}
use Rattle.std.specs.Prelude.{IsSomeAnd}
use Rattle.std.specs.List.{list_any}
use Rattle.std.specs.Str.{bytes_eq}
use Rattle.std.specs.Int.{from_be_bytes, to_be_bytes, w16}
use Rattle.std.specs.Borrow.{Bor}
use Rattle.std.proofs.lemmas.Bool.{both_ways, false_from_ne_true}
use Rattle.std.proofs.lemmas.List.{length-map}
use Rattle.std.proofs.lemmas.Nat.{be_bytes_2}
use Rattle.std.proofs.lemmas.Slice.Eq.{bytes_eq-Decides}
use Rattle.hex.specs.Hex.{decode_of, decode_sized}
use Rattle.hex.specs.declared.error.FromHexError.{FromHexError}
use Rattle.hex.proofs.HexLemmas.{IsOk-decode_sized, decode_of-ok, decode_sized-ok, decode_sized-twice}
use Rattle.clap.specs.Words.{Row, Text, all_of, built, fault_of, first_of, is_simple, is_simple_and_free, subcommand_of}
use Rattle.clap.proofs.OnLiterals.{clap_on_literals}
use Rattle.command_line.specs.Values.{texts}
use Rattle.command_line.specs.declared.words_fault.WordsFault.{WordsFault}
use Rattle.command_line.specs.declared.words_fault.WordsFault.TheVariants.{Help, Wrong, Memory}
use Rattle.command_line.proofs.Parses.{simple_from_free}
use Rattle.command_line.proofs.Required.{enters_one, is_entered, required_given, wants_values}
use Rattle.command_line.proofs.Taken.{is_settled_app, takes_where_no_fault}
use Rattle.omf_words.specs.declared.words.Job.{Job}
use Rattle.omf_words.specs.Words.{HasTooManyFiles, HasWrongParagraph, IsFourDigits, IsJobFor, IsJobOf}
use Rattle.omf_words.specs.Words.{IsRefusalFor, omf_command}
use Rattle.omf_words.specs.inside.Words.{IsEntered, IsRefusalOf, IsWrong}

-- ---- the paragraph

pub four_digits : (digits bytes : List ℕ) (r : Result (List ℕ) FromHexError) → r ≡ decode_sized digits 2 → r ≡ Ok bytes
    → IsFourDigits digits
four_digits digits bytes r is read = (IsOk-decode_sized digits 2).0 (rw (← is, read) refl)

pub paragraph_read : (digits bytes : List ℕ) (r : Result (List ℕ) FromHexError) (n : ℕ) → r ≡ decode_sized digits 2
    → r ≡ Ok bytes → n ≡ from_be_bytes w16 bytes
    → decode_of digits ≡ Ok (to_be_bytes w16 n)
paragraph_read digits bytes r n is read number =
    let sized : decode_sized digits 2 ≡ Ok bytes = sym is ∙ read in
    let twice = decode_sized-ok digits 2 bytes sized in
    let whole : decode_of digits ≡ Ok bytes = sym (decode_sized-twice digits 2 twice) ∙ sized in
    let parts = decode_of-ok digits bytes whole in
    let two : length bytes ≡ 2 = omega (arith, twice, parts.2) in
    whole ∙ ap (λ b. Ok b) (sym (be_bytes_2 bytes n two parts.3 number))

pub not_four : (digits : List ℕ) (r : Result (List ℕ) FromHexError) (e : FromHexError) → r ≡ decode_sized digits 2
    → r ≡ Err e → IsFourDigits digits → ⊥
not_four digits r e is read four =
    let good : IsOk (decode_sized digits 2) = (IsOk-decode_sized digits 2).1 four in
    let bad : false ≡ true = subst IsOk (sym is ∙ read) good in
    absurd (true≢false (sym bad))

-- ---- refusals

abbrev is_help : WordsFault → Bool
is_help (Help text) = true
is_help _ = false

never : {P : Type 0} (text : _) → (Help text ≡ Memory) ⊎ ⊥ → P
never text (inl e) = absurd (true≢false (ap is_help e))
never text (inr e) = absurd e

pub too_many : (rows : List Row) (files : List (Bor Text)) (fault : WordsFault) → (fault ≡ Memory) ⊎ IsWrong fault
    → all_of (codes "FILES") rows ≡ Some (texts files) → 65535 < length files
    → IsRefusalOf (codes "link") rows fault
too_many rows files Memory wrong is many = tt
too_many rows files (Wrong text) wrong is many =
    let long : 65535 < length (texts files) = omega (arith, length-map files (λ s. s.now), many) in
    inl (refl, subst (λ o. IsSomeAnd o (λ fs. 65535 < length fs)) (sym is) long)
too_many rows files (Help text) wrong is many = never text wrong

pub wrong_paragraph : (rows : List Row) (digits : Text) (fault : WordsFault) → (fault ≡ Memory) ⊎ IsWrong fault
    → first_of (codes "PARAGRAPH") rows ≡ Some digits → (IsFourDigits digits → ⊥)
    → IsRefusalOf (codes "load") rows fault
wrong_paragraph rows digits Memory wrong is not = tt
wrong_paragraph rows digits (Wrong text) wrong is not =
    inr (refl, subst (λ o. IsSomeAnd o (λ ds. IsFourDigits ds → ⊥)) (sym is) not)
wrong_paragraph rows digits (Help text) wrong is not = never text wrong

-- ---- the values that a subcommand asks for

one_there : (a : Bool) → ((a && true) || false) ≡ true → a ≡ true
one_there true e = refl
one_there false e = e

two_there : (a b : Bool) → ((a && (b && true)) || false) ≡ true → (a ≡ true) × (b ≡ true)
two_there true true e = (refl, refl)
two_there true false e = absurd (true≢false (sym e))
two_there false b e = absurd (true≢false (sym e))

pub show_values : (name : Text) (rows : List Row) → IsEntered name rows → name ≡ codes "show"
    → IsSome (first_of (codes "FILE") rows)
unfolding IsEntered clap_on_literals
show_values name rows entered is =
    one_there (is_some (first_of (codes "FILE") rows)) (subst (λ n. IsEntered n rows) is entered)

pub check_values : (name : Text) (rows : List Row) → IsEntered name rows → name ≡ codes "check"
    → IsSome (first_of (codes "FILE") rows)
unfolding IsEntered clap_on_literals
check_values name rows entered is =
    one_there (is_some (first_of (codes "FILE") rows)) (subst (λ n. IsEntered n rows) is entered)

pub rewrite_values : (name : Text) (rows : List Row) → IsEntered name rows → name ≡ codes "rewrite"
    → IsSome (first_of (codes "IN") rows) × IsSome (first_of (codes "OUT") rows)
unfolding IsEntered clap_on_literals
rewrite_values name rows entered is =
    two_there (is_some (first_of (codes "IN") rows)) (is_some (first_of (codes "OUT") rows))
    (subst (λ n. IsEntered n rows) is entered)

pub link_values : (name : Text) (rows : List Row) → IsEntered name rows → name ≡ codes "link"
    → IsSome (first_of (codes "OUT") rows) × IsSome (first_of (codes "FILES") rows)
unfolding IsEntered clap_on_literals
link_values name rows entered is =
    two_there (is_some (first_of (codes "OUT") rows)) (is_some (first_of (codes "FILES") rows))
    (subst (λ n. IsEntered n rows) is entered)

pub load_values : (name : Text) (rows : List Row) → IsEntered name rows → name ≡ codes "load"
    → IsSome (first_of (codes "FILE") rows) × IsSome (first_of (codes "PARAGRAPH") rows)
unfolding IsEntered clap_on_literals
load_values name rows entered is =
    two_there (is_some (first_of (codes "FILE") rows)) (is_some (first_of (codes "PARAGRAPH") rows))
    (subst (λ n. IsEntered n rows) is entered)

differs : (x name : Text) → (name ≡ x → ⊥) → bytes_eq x name ≡ false
differs x name other = false_from_ne_true _ (λ e. other (sym ((bytes_eq-Decides x name).0 e)))

pub one_of_five : (name : Text) (rows : List Row) → IsEntered name rows → (name ≡ codes "show" → ⊥)
    → (name ≡ codes "check" → ⊥) → (name ≡ codes "rewrite" → ⊥) → (name ≡ codes "link" → ⊥)
    → (name ≡ codes "load" → ⊥) → ⊥
unfolding IsEntered
one_of_five name rows entered show check rewrite link load =
    let none : false ≡ true =
    rw (
      differs (codes "show") name show,
      differs (codes "check") name check,
      differs (codes "rewrite") name
          rewrite,
      differs (codes "link") name link,
      differs (codes "load") name load,
    ) at entered in
    absurd (true≢false (sym none))

-- ---- the command

pub omf_is_free : is_simple_and_free omf_command ≡ true
unfolding omf_command clap_on_literals
omf_is_free = refl

pub omf_is_simple : is_simple omf_command ≡ true
omf_is_simple = simple_from_free omf_command omf_is_free

omf_is_settled : is_settled_app (built omf_command) ≡ true
unfolding omf_command clap_on_literals
omf_is_settled = refl

omf_wants_values : wants_values (built omf_command) ≡ true
unfolding omf_command clap_on_literals
omf_wants_values = refl

-- the built command has the subcommand `help` beside its own
own_subcommand : (name : Text) (rows : List Row) → bytes_eq (codes "help") name ≡ false
    → list_any (is_entered name rows) (built omf_command).subs ≡ true → IsEntered name rows
unfolding omf_command IsEntered clap_on_literals
own_subcommand name rows other any = rw other at any

pub entered_here : (words : List Text) (name : Text) (rows : List Row) → fault_of omf_command words ≡ []
    → subcommand_of omf_command words ≡ Some (name, rows) → IsEntered name rows
entered_here words name rows e met =
    let law = required_given omf_command words name rows omf_wants_values e met in
    own_subcommand name rows
    (differs (codes "help") name (λ is. both_ways _ law.0 ((bytes_eq-Decides name (codes "help")).1 is))) law.1

pub one_entered : (words : List Text) → fault_of omf_command words ≡ [] → IsSome (subcommand_of omf_command words)
one_entered words e = enters_one omf_command words omf_wants_values e

pub job_for : (words : List Text) (name : Text) (rows : List Row) (job : Job) → fault_of omf_command words ≡ []
    → subcommand_of omf_command words ≡ Some (name, rows) → IsJobOf name rows job
    → IsJobFor words job
unfolding IsJobFor
job_for words name rows job e met fits = (
  takes_where_no_fault omf_command words omf_is_simple omf_is_settled e,
  subst (λ o. IsSomeAnd o (λ p. IsJobOf p.0 p.1 job)) (sym met) fits,
)

pub refusal_for : (words : List Text) (name : Text) (rows : List Row) (fault : WordsFault)
    → subcommand_of omf_command words ≡ Some (name, rows) → IsRefusalOf name rows fault
    → IsRefusalFor words fault
unfolding IsRefusalFor
refusal_for words name rows Memory met fits = tt
refusal_for words name rows (Wrong text) met fits =
    subst (λ o. IsSomeAnd o (λ p. HasTooManyFiles p.0 p.1 ⊎ HasWrongParagraph p.0 p.1)) (sym met) fits
refusal_for words name rows (Help text) met fits = fits

pub memory_refuses : (words : List Text) → IsRefusalFor words Memory
unfolding IsRefusalFor
memory_refuses words = tt
