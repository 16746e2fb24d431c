use Rattle.std.proofs.Common.{[], sym, ◌∙◌}
use Rattle.std.proofs.lemmas.List.{append-nil}
use Rattle.omf_module.proofs.pieces.lengthen.Goals as goal

pub returns-in_err-resize-clause-kept : goal.returns-in_err-resize-clause-kept
returns-in_err-resize-clause-kept g c =
    ([], c.in_err-resize.ensures.items ∙ sym (append-nil c.args.list.now.items))
