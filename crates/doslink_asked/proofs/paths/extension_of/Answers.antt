use Rattle.std.proofs.Common.{◌≡◌, ◌∙◌, [], None, Some, ap, arith, sym, true}
use Rattle.std.proofs.lemmas.Bool.{cond-true}
use Rattle.doslink_files.specs.Paths.{has_extension}
use Rattle.doslink_asked.proofs.Splitting.{back-of-split}
use Rattle.doslink_asked.proofs.paths.extension_of.Goals as goal

pub returns-in-Some : goal.returns-in-Some
returns-in-Some c =
    let text = c.args.path.now in
    let has : has_extension text ≡ true =
    sym (c.has_extension.ensures ∙ ap has_extension c.as_bytes.ensures.value)
    ∙ c.if-not-has_extension.false in
    back-of-split 46 text [] (Some (c.in-Some.field-0-0, c.in-Some.extension)) c.in-Some.ensures.cases (omega arith)
    ∙ sym (cond-true _ _ _ has)

pub returns-in-None : goal.returns-in-None
returns-in-None c =
    let text = c.args.path.now in
    let has : has_extension text ≡ true =
    sym (c.has_extension.ensures ∙ ap has_extension c.as_bytes.ensures.value)
    ∙ c.if-not-has_extension.false in
    back-of-split 46 text [] None c.in-None.ensures.cases (omega arith) ∙ sym (cond-true _ _ _ has)
