use Rattle.std.proofs.Common.{◌∙◌, ap, length}
use Rattle.std.proofs.lemmas.List.{length-map}
use Rattle.omf_module.specs.Seen.{segment_seen}
use Rattle.omf_order.specs.inside.Held.{segments_view}
use Rattle.omf_order.proofs.openings.first_met.Goals as goal

pub returns : goal.returns
returns g c =
    let asked = c.args.asked.now in
    record {
      by_class = c.in_ok-classes.ensures;
      by_key = c.in_ok-combined.ensures;
      class_count =
          ap length c.in_ok-classes.ensures ∙ length-map (segments_view asked) _ ∙ length-map asked segment_seen;
      key_count =
          ap length c.in_ok-combined.ensures ∙ length-map (segments_view asked) _ ∙ length-map asked segment_seen;
    }
