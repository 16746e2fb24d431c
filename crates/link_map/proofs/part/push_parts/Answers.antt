use Rattle.std.proofs.Common.{rules, ◌<◌, ◌∙◌, ◌++◌, ap, length, sym}
use Rattle.link_map.specs.Detailed.{part_line}
use Rattle.link_map.specs.declared.part.ListedPart.{ListedPart}
use Rattle.link_map.specs.inside.Details.{part_seen}
use Rattle.link_map.proofs.Lines.{flat_map-map}
use Rattle.link_map.proofs.Texts.{all-done, all-more}
use Rattle.link_map.proofs.part.push_parts.Goals as goal

pub loop-part-preserved : goal.loop-part-preserved
loop-part-preserved g c =
    let here : c.loop-part.part-index < length c.args.parts.now = search rules in
    all-more (λ (p : ListedPart). part_line (part_seen p)) c.args.parts.now c.loop-part.part-index _
    c.loop-part.text.items _ _ here c.in_ok-push_part.ensures c.loop-part.invariant

pub returns : goal.returns
returns g c =
    all-done (λ (p : ListedPart). part_line (part_seen p)) c.args.parts.now c.loop-part.part-index _ _
    c.loop-part-test.false c.loop-part.invariant
    ∙ ap (λ l. c.args.text.now.items ++ l) (sym (flat_map-map part_line part_seen c.args.parts.now))
