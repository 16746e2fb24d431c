use Rattle.std.proofs.Common.{ap, ap₂, length, map, sym, ◌∙◌}
use Rattle.doslink_passes.specs.Sources.{source_bytes}
use Rattle.doslink_passes.proofs.Fronts.{length-behind, linked-of, map-behind}
use Rattle.doslink_passes.proofs.linked.behind_first.Goals as goal

pub returns : goal.returns
returns g c =
    ap₂ linked-of (ap (map source_bytes) c.without_first-sources.ensures ∙ map-behind source_bytes _)
    c.without_first-modules.ensures

pub invariant_of-result : goal.invariant_of-result
invariant_of-result g c = record {
  even = ap length c.without_first-sources.ensures ∙ length-behind _ _ c.args.linked.even
      ∙ sym (ap length c.without_first-modules.ensures);
}
