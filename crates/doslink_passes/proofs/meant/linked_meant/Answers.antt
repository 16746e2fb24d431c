use Rattle.std.proofs.Common.{ap, length, map, sym, ◌∙◌}
use Rattle.std.proofs.lemmas.List.{length-map}
use Rattle.doslink_passes.specs.Sources.{source_bytes}
use Rattle.doslink_passes.specs.inside.Passing.{taking_of}
use Rattle.doslink_passes.proofs.MeantModules.{meant-count}
use Rattle.doslink_passes.proofs.Fronts.{linked-of}
use Rattle.doslink_passes.proofs.meant.linked_meant.Goals as goal

pub invariant_of-result : goal.invariant_of-result
invariant_of-result g c = record {
  even = c.args.linked.even
      ∙ sym (meant-count (taking_of c.args.packs c.args.meanings.now)
      (linked-of (map source_bytes c.deref.result.now) c.args.linked.modules.items) _ c.in_ok-modules.ensures
      (length-map c.deref.result.now source_bytes ∙ ap length c.deref.ensures.value ∙ c.args.linked.even));
}
