use Rattle.std.proofs.Common.{◌∙◌, ◌&&◌, ap, arith, not, refl, sym}
use Rattle.std.proofs.lemmas.List.{take_all}
use Rattle.std.specs.List.{list_any}
use Rattle.omf_module.specs.Module.{ExternalSymbol}
use Rattle.omf_place.specs.Names.{agrees}
use Rattle.omf_order.proofs.Lists.{any_at, any_kept}
use Rattle.omf_order.proofs.marks.is_external.Goals as goal

pub returns-then-is_asked : goal.returns-then-is_asked
returns-then-is_asked g c =
    sym (any_at (λ (e : ExternalSymbol). not e.local && agrees c.args.names e.name c.args.name.now)
    c.args.from.now.externals c.loop-index.index _ c.external-external.ensures
    (sym c.is_asked.ensures ∙ c.if-is_asked.true))

pub loop-index-preserved : goal.loop-index-preserved
loop-index-preserved g c =
    any_kept (λ (e : ExternalSymbol). not e.local && agrees c.args.names e.name c.args.name.now)
    c.args.from.now.externals c.loop-index.index _ c.external-external.ensures c.loop-index.invariant
    (sym c.is_asked.ensures ∙ c.if-is_asked.false)

pub loop-index-init : goal.loop-index-init
loop-index-init g c = refl

pub returns : goal.returns
returns g c =
    let xs = c.args.from.now.externals in
    sym
    (ap (list_any (λ (e : ExternalSymbol). not e.local && agrees c.args.names e.name c.args.name.now))
    (sym (take_all c.loop-index.index xs (omega arith)))
    ∙ c.loop-index.invariant)
