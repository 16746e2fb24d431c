-- What the values of the command line give.
use Rattle.std.proofs.Common.{◌≡◌, ◌∙◌, Bool, List, Some, Result, Ok, Err, [], map, true, false, refl, sym, ap, subst, codes}
use Rattle.std.proofs.Common.{cond}
use Rattle.std.specs.Prelude.{◌==◌, ◌||◌, IfErr}
use Rattle.std.specs.declared.option.Option.{Option}
use Rattle.std.specs.List.{slice_split}
use Rattle.clap.specs.Words.{App, HasMatchesOf, Row, Text, fault_of, first_of, found_of, is_simple_and_free, kind_of, matches_of, rows_of}
use Rattle.clap.specs.Kinds.{FailsBy}
use Rattle.clap.specs.declared.error.Error.{Error}
use Rattle.clap.specs.declared.error.ErrorKind.TheVariants.{OutOfMemory}
use Rattle.clap.specs.declared.parser.matches.ArgMatches.{ArgMatches}
use Rattle.clap.proofs.OnLiterals.{clap_on_literals}
use Rattle.command_line.proofs.Parses.{memory_fails, no_fault, rows_given}
use Rattle.doslink_words.specs.declared.job.Job.{Job}
use Rattle.doslink_words.specs.Said.{SaidItem, Class, Dosseg, Listed}
use Rattle.doslink_words.specs.Words.{AreTaken, IsJobFor, IsJobOf, asked, doslink_command, has_wrong_value, is_dosseg, is_no_form, is_no_map_form, is_no_stack}
use Rattle.doslink_words.specs.Words.{order_asked}

-- ---- the command

pub doslink_is_free : is_simple_and_free doslink_command ≡ true
unfolding doslink_command clap_on_literals
doslink_is_free = refl

-- what a parse of the command gives where it succeeds
pub job_for : {T : Type 0} (a : App) (words given : List Text) (m : ArgMatches) (r : Result T Error) (v : T) (job : Job)
    → given ≡ asked words → a ≡ doslink_command → (is_simple_and_free a ≡ true → FailsBy (fault_of a given) r)
    → r ≡ Ok v → HasMatchesOf a given m → has_wrong_value (rows_of (found_of m)) ≡ false
    → IsJobOf given (rows_of (found_of m)) job → IsJobFor words job
unfolding AreTaken IsJobFor
job_for a words given m r v job same is fails met matched length fits =
    let rows = rows_given doslink_command a given is doslink_is_free m matched in (
      (
        subst (λ ws. fault_of doslink_command ws ≡ []) same
            (no_fault doslink_command a given is doslink_is_free r v fails met),
        subst (λ ws. has_wrong_value (matches_of doslink_command ws) ≡ false) same
            (subst (λ rs. has_wrong_value rs ≡ false) rows length),
      ),
      subst (λ ws. IsJobOf ws (matches_of doslink_command ws) job) same
          (subst (λ rs. IsJobOf given rs job) rows fits),
    )

-- where words are taken, nothing fails but memory ..
pub taken_fails : {T : Type 0} (a : App) (words given : List Text) (r : Result T Error) (e : Error)
    → given ≡ asked words → a ≡ doslink_command → (is_simple_and_free a ≡ true → FailsBy (fault_of a given) r)
    → r ≡ Err e → AreTaken words → kind_of e ≡ OutOfMemory
unfolding AreTaken
taken_fails a words given r e same is fails met taken =
    memory_fails doslink_command a given is doslink_is_free r e fails met
    (subst (λ ws. fault_of doslink_command ws ≡ []) (sym same) taken.0)

-- .. and no value is wrong
pub taken_values : (a : App) (words given : List Text) (m : ArgMatches) → given ≡ asked words → a ≡ doslink_command
    → HasMatchesOf a given m → AreTaken words → has_wrong_value (rows_of (found_of m)) ≡ false
unfolding AreTaken
taken_values a words given m same is matched taken =
    subst (λ rs. has_wrong_value rs ≡ false)
    (sym (rows_given doslink_command a given is doslink_is_free m matched))
    (subst (λ ws. has_wrong_value (matches_of doslink_command ws) ≡ false) (sym same) taken.1)

-- an order that is no DOSSEG lists classes
pub listed_order : (word : Text) (items : List SaidItem) → is_dosseg word ≡ false
    → items ≡ map Class (slice_split (λ byte. byte == 44) word) → Listed items ≡ order_asked (Some word)
listed_order word items other same =
    ap (λ (xs : List SaidItem). Listed xs) same
    ∙ sym (ap (λ (b : Bool). cond b Dosseg (Listed (map Class (slice_split (λ byte. byte == 44) word)))) other)

-- ---- whether values are wrong

pub IfErr-same : {T E P : Type 0} (r : Result T E) → P → IfErr r (λ _. P)
IfErr-same (Ok value) holds = tt
IfErr-same (Err fault) holds = holds

-- whether a form or that of the map is wrong
abbrev rest_of : List Row → Bool
rest_of rows =
    is_no_form (first_of (codes "FORM") rows) (first_of (codes "PARAGRAPH") rows)
    || is_no_map_form (first_of (codes "NAME") rows)

module _ (rows : List Row) (n : Option Text) (same : n ≡ first_of (codes "N") rows) where
  -- a stack is
  pub stack_wrong : is_no_stack n ≡ true → has_wrong_value rows ≡ true
  stack_wrong wrong = ap (λ (b : Bool). b || rest_of rows) (sym (ap is_no_stack same) ∙ wrong)

  module _ (f p : Option Text) (form : f ≡ first_of (codes "FORM") rows) (at : p ≡ first_of (codes "PARAGRAPH") rows)
      (stack : is_no_stack n ≡ false) where
    same_form : is_no_form (first_of (codes "FORM") rows) (first_of (codes "PARAGRAPH") rows) ≡ is_no_form f p
    same_form =
        sym (ap (λ (x : Option Text). is_no_form x (first_of (codes "PARAGRAPH") rows)) form) ∙ sym (ap (is_no_form f) at)

    by_form : has_wrong_value rows ≡ (is_no_form f p || is_no_map_form (first_of (codes "NAME") rows))
    by_form =
        ap (λ (b : Bool). b || rest_of rows) (sym (ap is_no_stack same) ∙ stack)
        ∙ ap (λ (b : Bool). b || is_no_map_form (first_of (codes "NAME") rows)) same_form

    -- a form is
    pub form_wrong : is_no_form f p ≡ true → has_wrong_value rows ≡ true
    form_wrong wrong =
        by_form ∙ ap (λ (b : Bool). b || is_no_map_form (first_of (codes "NAME") rows)) wrong

    -- neither is: that of the map is or isn't
    pub wrong_by_map_form : (m : Option Text) → m ≡ first_of (codes "NAME") rows → is_no_form f p ≡ false
        → has_wrong_value rows ≡ is_no_map_form m
    wrong_by_map_form m name fine =
        by_form
        ∙ (ap (λ (b : Bool). b || is_no_map_form (first_of (codes "NAME") rows)) fine ∙ sym (ap is_no_map_form name))
