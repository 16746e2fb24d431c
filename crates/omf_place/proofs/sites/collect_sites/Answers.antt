use Rattle.std.proofs.Common.{length, ap, ◌∙◌, arith, refl, sym, subst}
use Rattle.std.proofs.lemmas.Option.{slice_get_read}
use Rattle.std.proofs.lemmas.List.{length-map}
use Rattle.omf_place.proofs.SiteLists.{sites_from-more, numbered_sites, take-all}
use Rattle.omf_place.specs.inside.Placing.{sites_from}
use Rattle.omf_place.specs.inside.Numbered.{IsNumberedFrom}
use Rattle.omf_place.specs.inside.Sites.{site}
use Rattle.omf_place.proofs.sites.collect_sites.Goals as goal

pub loop-input-preserved : goal.loop-input-preserved
loop-input-preserved g c =
    let more =
    sites_from-more c.loop-input.input c.args.modules.now c.index-modules-input.result (length c.loop-input.sites.items)
    (slice_get_read c.args.modules.now _ _ _ refl c.loop-input-test.true c.index-modules-input.is)
    (sym (length-map c.loop-input.sites.items site) ∙ ap length c.loop-input.invariant.made) in
    record {
      made = c.in_ok-push_sites.ensures.made ∙ rw (c.loop-input.invariant.made, more);
      sound = c.in_ok-push_sites.ensures.sound;
    }

pub returns-clause-numbered : goal.returns-clause-numbered
returns-clause-numbered g c =
    subst (λ ss. IsNumberedFrom 0 ss)
    (sym
    (c.loop-input.invariant.made
    ∙ ap (λ ms. sites_from 0 0 ms) (take-all c.loop-input.input c.args.modules.now (omega arith))))
    (numbered_sites c.args.modules.now)
