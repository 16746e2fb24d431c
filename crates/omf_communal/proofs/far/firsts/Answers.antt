use Rattle.std.proofs.Common.{◌∙◌, ap, arith, false, get_or, refl}
use Rattle.std.proofs.lemmas.List.{take_all}
use Rattle.omf_communal.specs.Far as reach
use Rattle.omf_communal.specs.Modules.{bytes_of}
use Rattle.omf_communal.proofs.Listing.{offered-turn}
use Rattle.omf_communal.proofs.Reaching.{first-next}
use Rattle.omf_communal.proofs.far.firsts.Goals as goal

pub loop-name-preserved : goal.loop-name-preserved
loop-name-preserved g c =
    let names = c.args.names in
    let xs = c.args.list.now in
    let i = c.loop-name.name-index in
    record {
      met = λ q.
          offered-turn names q _ xs i _ false _ _ c.loop-name-test.true refl (c.loop-name.invariant.met q)
          (c.in_ok-push_first.ensures.met q);
      found = first-next names xs i _ c.loop-name-test.true _ c.loop-name.firsts.items _ c.loop-name.invariant.found
          (c.loop-name.invariant.met (get_or xs i _)) c.in_ok-push_first.ensures.firsts;
    }

pub returns : goal.returns
returns g c =
    c.loop-name.invariant.found
    ∙ ap (λ ns. reach.firsts c.args.names (bytes_of ns)) (take_all c.loop-name.name-index c.args.list.now (omega arith))
