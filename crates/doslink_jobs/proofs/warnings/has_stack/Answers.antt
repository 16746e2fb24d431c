use Rattle.std.proofs.Common.{◌∙◌, ap, arith, refl, sym}
use Rattle.std.proofs.lemmas.List.{take_all}
use Rattle.std.specs.List.{list_any}
use Rattle.omf_communal.proofs.Searching.{any_at, any_kept}
use Rattle.doslink_jobs.specs.inside.Warnings.{holds_stack}
use Rattle.doslink_jobs.proofs.warnings.has_stack.Goals as goal

pub loop-index-init : goal.loop-index-init
loop-index-init g c = refl

pub returns-then-holds_stack : goal.returns-then-holds_stack
returns-then-holds_stack g c =
    sym (any_at holds_stack c.args.one.now.segments c.loop-index.index _ c.segment-part.ensures
    (sym c.holds_stack.ensures ∙ c.if-holds_stack.true))

pub loop-index-preserved : goal.loop-index-preserved
loop-index-preserved g c =
    any_kept holds_stack c.args.one.now.segments c.loop-index.index _ c.segment-part.ensures
    c.loop-index.invariant (sym c.holds_stack.ensures ∙ c.if-holds_stack.false)

pub returns : goal.returns
returns g c =
    sym (ap (list_any holds_stack) (sym (take_all c.loop-index.index c.args.one.now.segments (omega arith)))
    ∙ c.loop-index.invariant)
