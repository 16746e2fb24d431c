-- What the values of the subcommand that the command enters give.
use Rattle.std.proofs.Common.{◌≡◌, ◌&&◌, ◌||◌, Bool, List, [], Some}
use Rattle.std.proofs.Common.{IsSome, codes, is_some, false, true, refl, sym, subst, true≢false}
use Rattle.std.specs.Prelude.{IsSomeAnd}
use Rattle.std.specs.List.{list_any}
use Rattle.std.specs.Str.{bytes_eq}
use Rattle.std.proofs.lemmas.Bool.{both_ways, false_from_ne_true}
use Rattle.std.proofs.lemmas.Slice.Eq.{bytes_eq-Decides}
use Rattle.clap.specs.Words.{Row, Text, built, fault_of, first_of, is_simple, is_simple_and_free, subcommand_of}
use Rattle.clap.proofs.OnLiterals.{clap_on_literals}
use Rattle.command_line.proofs.Parses.{simple_from_free}
use Rattle.command_line.proofs.Required.{enters_one, is_entered, required_given, wants_values}
use Rattle.command_line.proofs.Taken.{is_settled_app, takes_where_no_fault}
use Rattle.command_line.specs.declared.words_fault.WordsFault.{WordsFault}
use Rattle.command_line.specs.declared.words_fault.WordsFault.TheVariants.{Help, Wrong, Memory}
use Rattle.doslib_words.specs.declared.words.Job.{Job}
use Rattle.doslib_words.specs.Program.{HasWrongPlace}
use Rattle.doslib_words.specs.Words.{IsJobFor, IsJobOf, IsRefusalFor, doslib_command}
use Rattle.doslib_words.specs.inside.Words.{IsEntered, IsRefusalOf}

-- ---- the values that a subcommand asks for

one_there : (a : Bool) → ((a && true) || false) ≡ true → a ≡ true
one_there true e = refl
one_there false e = e

two_there : (a b : Bool) → ((a && (b && true)) || false) ≡ true → (a ≡ true) × (b ≡ true)
two_there true true e = (refl, refl)
two_there true false e = absurd (true≢false (sym e))
two_there false b e = absurd (true≢false (sym e))

three_there : (a b c : Bool) → ((a && (b && (c && true))) || false) ≡ true → (a ≡ true) × (b ≡ true) × (c ≡ true)
three_there true true true e = (refl, refl, refl)
three_there true true false e = absurd (true≢false (sym e))
three_there true false c e = absurd (true≢false (sym e))
three_there false b c e = absurd (true≢false (sym e))

pub list_values : (name : Text) (rows : List Row) → IsEntered name rows → name ≡ codes "list"
    → IsSome (first_of (codes "FILES") rows)
unfolding IsEntered clap_on_literals
list_values name rows entered is =
    one_there (is_some (first_of (codes "FILES") rows)) (subst (λ n. IsEntered n rows) is entered)

pub show_values : (name : Text) (rows : List Row) → IsEntered name rows → name ≡ codes "show"
    → IsSome (first_of (codes "FILES") rows)
unfolding IsEntered clap_on_literals
show_values name rows entered is =
    one_there (is_some (first_of (codes "FILES") rows)) (subst (λ n. IsEntered n rows) is entered)

pub program_values : (name : Text) (rows : List Row) → IsEntered name rows → name ≡ codes "program"
    → IsSome (first_of (codes "FILE") rows)
unfolding IsEntered clap_on_literals
program_values name rows entered is =
    one_there (is_some (first_of (codes "FILE") rows)) (subst (λ n. IsEntered n rows) is entered)

pub match_values : (name : Text) (rows : List Row) → IsEntered name rows → name ≡ codes "match"
    → IsSome (first_of (codes "PROGRAM") rows) × IsSome (first_of (codes "FILES") rows)
unfolding IsEntered clap_on_literals
match_values name rows entered is =
    two_there (is_some (first_of (codes "PROGRAM") rows)) (is_some (first_of (codes "FILES") rows))
    (subst (λ n. IsEntered n rows) is entered)

pub compare_values : (name : Text) (rows : List Row) → IsEntered name rows → name ≡ codes "compare"
    → IsSome (first_of (codes "PROGRAM") rows) × IsSome (first_of (codes "OTHER") rows)
    × IsSome (first_of (codes "FILES") rows)
unfolding IsEntered clap_on_literals
compare_values name rows entered is =
    three_there (is_some (first_of (codes "PROGRAM") rows)) (is_some (first_of (codes "OTHER") rows))
    (is_some (first_of (codes "FILES") rows)) (subst (λ n. IsEntered n rows) is entered)

pub names_values : (name : Text) (rows : List Row) → IsEntered name rows → name ≡ codes "names"
    → IsSome (first_of (codes "FILES") rows)
unfolding IsEntered clap_on_literals
names_values name rows entered is =
    one_there (is_some (first_of (codes "FILES") rows)) (subst (λ n. IsEntered n rows) is entered)

pub make_values : (name : Text) (rows : List Row) → IsEntered name rows → name ≡ codes "make"
    → IsSome (first_of (codes "LIB") rows) × IsSome (first_of (codes "FILES") rows)
unfolding IsEntered clap_on_literals
make_values name rows entered is =
    two_there (is_some (first_of (codes "LIB") rows)) (is_some (first_of (codes "FILES") rows))
    (subst (λ n. IsEntered n rows) is entered)

pub add_values : (name : Text) (rows : List Row) → IsEntered name rows → name ≡ codes "add"
    → IsSome (first_of (codes "LIB") rows) × IsSome (first_of (codes "FILES") rows)
unfolding IsEntered clap_on_literals
add_values name rows entered is =
    two_there (is_some (first_of (codes "LIB") rows)) (is_some (first_of (codes "FILES") rows))
    (subst (λ n. IsEntered n rows) is entered)

pub delete_values : (name : Text) (rows : List Row) → IsEntered name rows → name ≡ codes "delete"
    → IsSome (first_of (codes "LIB") rows) × IsSome (first_of (codes "MEMBERS") rows)
unfolding IsEntered clap_on_literals
delete_values name rows entered is =
    two_there (is_some (first_of (codes "LIB") rows)) (is_some (first_of (codes "MEMBERS") rows))
    (subst (λ n. IsEntered n rows) is entered)

pub replace_values : (name : Text) (rows : List Row) → IsEntered name rows → name ≡ codes "replace"
    → IsSome (first_of (codes "LIB") rows) × IsSome (first_of (codes "FILES") rows)
unfolding IsEntered clap_on_literals
replace_values name rows entered is =
    two_there (is_some (first_of (codes "LIB") rows)) (is_some (first_of (codes "FILES") rows))
    (subst (λ n. IsEntered n rows) is entered)

pub extract_values : (name : Text) (rows : List Row) → IsEntered name rows → name ≡ codes "extract"
    → IsSome (first_of (codes "LIB") rows) × IsSome (first_of (codes "MEMBERS") rows)
unfolding IsEntered clap_on_literals
extract_values name rows entered is =
    two_there (is_some (first_of (codes "LIB") rows)) (is_some (first_of (codes "MEMBERS") rows))
    (subst (λ n. IsEntered n rows) is entered)

differs : (x name : Text) → (name ≡ x → ⊥) → bytes_eq x name ≡ false
differs x name other = false_from_ne_true _ (λ e. other (sym ((bytes_eq-Decides x name).0 e)))

pub one_of_all : (name : Text) (rows : List Row) → IsEntered name rows → (name ≡ codes "list" → ⊥)
    → (name ≡ codes "show" → ⊥) → (name ≡ codes "program" → ⊥) → (name ≡ codes "match" → ⊥)
    → (name ≡ codes "compare" → ⊥) → (name ≡ codes "names" → ⊥) → (name ≡ codes "make" → ⊥)
    → (name ≡ codes "add" → ⊥) → (name ≡ codes "delete" → ⊥) → (name ≡ codes "replace" → ⊥)
    → (name ≡ codes "extract" → ⊥) → ⊥
unfolding IsEntered
one_of_all name rows entered list show program matching comparing names make add delete replace extract =
    let none : false ≡ true =
    rw (
      differs (codes "list") name list,
      differs (codes "show") name show,
      differs (codes "program") name program,
      differs (codes "match") name matching,
      differs (codes "compare") name comparing,
      differs (codes "names") name names,
      differs (codes "make") name make,
      differs (codes "add") name add,
      differs (codes "delete") name delete,
      differs (codes "replace") name replace,
      differs (codes "extract") name extract,
    ) at entered in
    absurd (true≢false (sym none))

-- ---- the command

pub doslib_is_free : is_simple_and_free doslib_command ≡ true
unfolding doslib_command clap_on_literals
doslib_is_free = refl

pub doslib_is_simple : is_simple doslib_command ≡ true
doslib_is_simple = simple_from_free doslib_command doslib_is_free

doslib_is_settled : is_settled_app (built doslib_command) ≡ true
unfolding doslib_command clap_on_literals
doslib_is_settled = refl

doslib_wants_values : wants_values (built doslib_command) ≡ true
unfolding doslib_command clap_on_literals
doslib_wants_values = refl

-- the built command has the subcommand `help` beside its own
own_subcommand : (name : Text) (rows : List Row) → bytes_eq (codes "help") name ≡ false
    → list_any (is_entered name rows) (built doslib_command).subs ≡ true → IsEntered name rows
unfolding doslib_command IsEntered clap_on_literals
own_subcommand name rows other any = rw other at any

pub entered_here : (words : List Text) (name : Text) (rows : List Row) → fault_of doslib_command words ≡ []
    → subcommand_of doslib_command words ≡ Some (name, rows) → IsEntered name rows
entered_here words name rows e met =
    let law = required_given doslib_command words name rows doslib_wants_values e met in
    own_subcommand name rows
    (differs (codes "help") name (λ is. both_ways _ law.0 ((bytes_eq-Decides name (codes "help")).1 is))) law.1

pub one_entered : (words : List Text) → fault_of doslib_command words ≡ []
    → IsSome (subcommand_of doslib_command words)
one_entered words e = enters_one doslib_command words doslib_wants_values e

pub job_for : (words : List Text) (name : Text) (rows : List Row) (job : Job) → fault_of doslib_command words ≡ []
    → subcommand_of doslib_command words ≡ Some (name, rows) → IsJobOf name rows job
    → IsJobFor words job
unfolding IsJobFor
job_for words name rows job e met fits = (
  takes_where_no_fault doslib_command words doslib_is_simple doslib_is_settled e,
  subst (λ o. IsSomeAnd o (λ p. IsJobOf p.0 p.1 job)) (sym met) fits,
)

-- ---- refusals

pub refusal_for : (words : List Text) (name : Text) (rows : List Row) (fault : WordsFault)
    → subcommand_of doslib_command words ≡ Some (name, rows) → IsRefusalOf name rows fault
    → IsRefusalFor words fault
unfolding IsRefusalFor
refusal_for words name rows Memory met fits = tt
refusal_for words name rows (Wrong text) met fits =
    subst (λ o. IsSomeAnd o (λ p. (p.0 ≡ codes "program") × HasWrongPlace p.1)) (sym met) fits
refusal_for words name rows (Help text) met fits = fits

pub memory_refuses : (words : List Text) → IsRefusalFor words Memory
unfolding IsRefusalFor
memory_refuses words = tt
