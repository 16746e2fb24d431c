use Rattle.std.proofs.Common.{◌∙◌, ◌&&◌, ap, arith, not, refl, sym}
use Rattle.std.proofs.lemmas.List.{take_all}
use Rattle.std.specs.List.{list_any}
use Rattle.omf_module.specs.Module.{PublicSymbol}
use Rattle.omf_place.specs.Names.{agrees}
use Rattle.omf_order.proofs.Lists.{any_at, any_kept}
use Rattle.omf_order.proofs.marks.is_public.Goals as goal

pub returns-then-is_offered : goal.returns-then-is_offered
returns-then-is_offered g c =
    sym (any_at (λ (e : PublicSymbol). not e.local && agrees c.args.names e.name c.args.name.now)
    c.args.from.now.publics c.loop-index.index _ c.public_symbol-public.ensures
    (sym c.is_offered.ensures ∙ c.if-is_offered.true))

pub loop-index-preserved : goal.loop-index-preserved
loop-index-preserved g c =
    any_kept (λ (e : PublicSymbol). not e.local && agrees c.args.names e.name c.args.name.now) c.args.from.now.publics
    c.loop-index.index _ c.public_symbol-public.ensures c.loop-index.invariant
    (sym c.is_offered.ensures ∙ c.if-is_offered.false)

pub loop-index-init : goal.loop-index-init
loop-index-init g c = refl

pub returns : goal.returns
returns g c =
    let xs = c.args.from.now.publics in
    sym
    (ap (list_any (λ (e : PublicSymbol). not e.local && agrees c.args.names e.name c.args.name.now))
    (sym (take_all c.loop-index.index xs (omega arith)))
    ∙ c.loop-index.invariant)
