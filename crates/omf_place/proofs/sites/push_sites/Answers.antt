use Rattle.std.proofs.Common.{length, ap, ◌∙◌, arith, append_assoc, length-append}
use Rattle.std.proofs.lemmas.List.{map-append}
use Rattle.omf_place.proofs.SiteLists.{module_sites-more, All-at_get, All-push}
use Rattle.omf_module.specs.Sound.{SegmentFits}
use Rattle.omf_place.specs.inside.Sites.{sites_view}
use Rattle.omf_place.proofs.sites.push_sites.Goals as goal

pub loop-number-preserved : goal.loop-number-preserved
loop-number-preserved g c =
    let more =
    module_sites-more (length c.args.sites.now.items) c.args.input c.loop-number.number c.args.from.now.segments _
    c.len-position.result c.segment.ensures (omega arith) in
    record {
      count = ap length c.in_ok-push.ensures.items ∙ length-append c.loop-number.sites.items _ ∙ omega arith;
      made = rw (c.in_ok-push.ensures.items, map-append, c.loop-number.invariant.made, more, append_assoc);
      sound =
          rw (c.in_ok-push.ensures.items, map-append)
          (All-push (λ a. SegmentFits a.segment) (sites_view c.loop-number.sites.items) _ c.loop-number.invariant.sound
          (All-at_get SegmentFits _ _ _ c.promises.ensures.segments c.segment.ensures));
    }
