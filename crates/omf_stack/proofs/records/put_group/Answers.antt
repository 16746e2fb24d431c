use Rattle.std.proofs.Common.{◌++◌, [], ◌∷◌, ◌∙◌, ap, subst, sym}
use Rattle.omf_record.specs.Canonical.{FitsFrame}
use Rattle.omf_record.specs.Record.{Grpdef}
use Rattle.omf_record.specs.View.{view}
use Rattle.omf_stack.proofs.Bodies.{group_fits}
use Rattle.omf_stack.proofs.records.put_group.Goals as goal

pub put_record-requires-clause-fits : goal.put_record-requires-clause-fits
unfolding view
put_record-requires-clause-fits g c =
    subst (λ ns. FitsFrame (Grpdef 1 ns))
    (sym (c.in_ok-push.ensures.items ∙ ap (λ ns. ns ++ 1 ∷ []) c.new-segments.ensures.items)) group_fits
