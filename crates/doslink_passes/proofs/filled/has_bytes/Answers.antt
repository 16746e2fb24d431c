use Rattle.std.proofs.Common.{◌∙◌, ap, arith, nat_lt, refl, sym}
use Rattle.std.proofs.lemmas.Bool.{le-ltb, lt-ltb}
use Rattle.std.proofs.lemmas.List.{take_all}
use Rattle.std.specs.List.{list_any}
use Rattle.omf_communal.proofs.Searching.{any_at, any_kept}
use Rattle.omf_module.specs.Module.{Segment}
use Rattle.doslink_passes.proofs.filled.has_bytes.Goals as goal

pub loop-index-init : goal.loop-index-init
loop-index-init g c = refl

pub returns-then-segment-gt0 : goal.returns-then-segment-gt0
returns-then-segment-gt0 g c =
    sym (any_at (λ (s : Segment). nat_lt 0 s.length) c.args.one.now.segments c.loop-index.index _ c.segment.ensures
    (lt-ltb 0 c.segment.result.length c.if-segment-gt0.true))

pub loop-index-preserved : goal.loop-index-preserved
loop-index-preserved g c =
    any_kept (λ (s : Segment). nat_lt 0 s.length) c.args.one.now.segments c.loop-index.index _ c.segment.ensures
    c.loop-index.invariant (le-ltb 0 c.segment.result.length c.if-segment-gt0.false)

pub returns : goal.returns
returns g c =
    sym (ap (list_any (λ (s : Segment). nat_lt 0 s.length))
    (sym (take_all c.loop-index.index c.args.one.now.segments (omega arith))) ∙ c.loop-index.invariant)
