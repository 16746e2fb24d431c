use Rattle.std.proofs.Common.{◌<◌, length, refl, rules, sym}
use Rattle.doslib_show.proofs.Listing.{externals-all, externals-more, externals-none}
use Rattle.doslib_show.specs.inside.Parts.{plain_names}
use Rattle.doslib_show.proofs.names.Names.add_communals.Goals as goal

pub loop-communal-init : goal.loop-communal-init
loop-communal-init g c = sym (externals-none (plain_names c.args.self.now))

pub loop-communal-preserved : goal.loop-communal-preserved
loop-communal-preserved g c =
    let here : c.loop-communal.communal-index < length c.args.communals.now = search rules in
    externals-more (λ c. c.name.now) (plain_names c.args.self.now) (plain_names c.loop-communal.self)
    c.loop-communal.self.externals.items c.push.new.self.items _ c.args.communals.now c.loop-communal.communal-index _
    here c.loop-communal.invariant refl c.in_ok-push.ensures.items refl

pub returns : goal.returns
returns g c =
    externals-all (λ c. c.name.now) (plain_names c.args.self.now) (plain_names c.loop-communal.self)
    c.args.communals.now c.loop-communal.communal-index c.loop-communal-test.false c.loop-communal.invariant
