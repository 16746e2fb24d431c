use Rattle.std.proofs.Common.{◌∙◌, [], List, None, Option, Some, ap, sym}
use Rattle.std.specs.Prelude.{unwrap_or}
use Rattle.std.proofs.lemmas.Result.{IfOk-weaker}
use Rattle.clap.specs.Words.{Text, found_of}
use Rattle.command_line.proofs.Values.{values_given}
use Rattle.doslink_words.specs.Tokens.{texts}
use Rattle.doslink_words.proofs.words.values_of.Goals as goal

pub returns-in-Some : goal.returns-in-Some
returns-in-Some c =
    let given =
    values_given (found_of c.args.values.now) c.args.id.now c.get_strs.result (Some c.in-Some.list) c.get_strs.ensures
    c.in-Some.is in
    IfOk-weaker c.from_slice.result _ _
    (λ list same. ap texts same ∙ sym (ap (λ (o : Option (List Text)). unwrap_or o []) given))
    c.from_slice.ensures.items

pub returns-in-None : goal.returns-in-None
returns-in-None c =
    let given =
    values_given (found_of c.args.values.now) c.args.id.now c.get_strs.result None c.get_strs.ensures c.in-None.is in
    ap texts c.new.ensures.items ∙ sym (ap (λ (o : Option (List Text)). unwrap_or o []) given)
