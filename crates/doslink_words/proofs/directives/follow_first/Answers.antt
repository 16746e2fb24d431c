use Rattle.std.proofs.Common.{◌≡◌, ◌∙◌, Err, ap, rules, sym}
use Rattle.std.specs.List.{take-map}
use Rattle.doslink_words.specs.Operands.{operand_count}
use Rattle.doslink_words.specs.Said.{said_of}
use Rattle.doslink_words.specs.inside.Tokens.{all_placed, placed_of}
use Rattle.doslink_words.proofs.PartsLemmas.{first_done, first_fault, pieces_same}
use Rattle.doslink_words.proofs.directives.follow_first.Goals as goal

pub returns-in_err-follow_directive-clause-meant : goal.returns-in_err-follow_directive-clause-meant
returns-in_err-follow_directive-clause-meant c =
    let is : c.from_residual-in_err-follow_directive.result ≡ Err c.in_err-follow_directive.field-0.0 = search rules in
    first_fault (placed_of c.args.first) (all_placed c.args.behind.now) _ (said_of c.args.directives.now)
    (said_of c.follow_directive.new.directives) c.in_ok-directive.directive c.operand_count-count.result
    c.in_ok-directive.ensures (c.operand_count-count.ensures.count
    ∙ sym (ap (operand_count c.in_ok-directive.directive) (pieces_same c.args.behind.now)))
    (sym (take-map placed_of c.operand_count-count.result c.args.behind.now)) _ c.in_err-follow_directive.field-0.0
    c.in_err-follow_directive.ensures is

pub returns-clause-meant : goal.returns-clause-meant
returns-clause-meant c =
    first_done (placed_of c.args.first) (all_placed c.args.behind.now) _ (said_of c.args.directives.now)
    (said_of c.follow_directive.new.directives) c.in_ok-directive.directive c.operand_count-count.result
    c.in_ok-directive.ensures (c.operand_count-count.ensures.count
    ∙ sym (ap (operand_count c.in_ok-directive.directive) (pieces_same c.args.behind.now)))
    (sym (take-map placed_of c.operand_count-count.result c.args.behind.now)) c.in_ok-follow_directive.ensures
