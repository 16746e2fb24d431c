use Rattle.std.proofs.Common.{◌∙◌, Bool, cond, Option, None, Some, ap, arith, sym}
use Rattle.std.specs.List.{list_any}
use Rattle.std.specs.Option.{option_and_then}
use Rattle.clap.specs.Words.{Text}
use Rattle.makefile_words.specs.Jobs.{ends_folder}
use Rattle.makefile_words.proofs.Splitting.{split-none, split-some}
use Rattle.makefile_words.proofs.job.name_extension.Goals as goal
use Rattle.makefile_words.proofs.job.name_extension.Goals.{in_default-via-in-Some+else-not-has_folder}
use Rattle.makefile_words.proofs.job.name_extension.Goals.{in_default-via-in_default}

-- what stands behind the dot, where no folder does
abbrev of_split : Option (Text × Text) → Option Text
of_split = option_and_then (λ parts. cond (list_any ends_folder parts.1) None (Some parts.1))

pub returns-in-Some : goal.returns-in-Some
returns-in-Some c =
    let rest = c.in-Some.rest.now in
    sym
    (ap of_split (split-some 46 c.args.name.now c.in-Some.field-0-0.now rest c.in-Some.ensures.cases (omega arith))
    ∙ ap (λ (b : Bool). cond b None (Some rest)) (sym c.has_folder.ensures ∙ c.if-not-has_folder.true))

pub returns-in_default : goal.returns-in_default
returns-in_default c = elim c.in_default.branch [
  | in_default-via-in-Some+else-not-has_folder w ↦
      let rest = w.in-Some.rest.now in
      sym
      (ap of_split (split-some 46 c.args.name.now w.in-Some.field-0-0.now rest w.in-Some.ensures.cases (omega arith))
      ∙ ap (λ (b : Bool). cond b None (Some rest)) (sym w.has_folder.ensures ∙ w.if-not-has_folder.false))
  | in_default-via-in_default w ↦
      sym (ap of_split (split-none 46 c.args.name.now w.in_default.ensures.cases (omega arith)))
]
