use Rattle.std.proofs.Common.{◌<◌, length, refl, rules, sym}
use Rattle.doslib_show.proofs.Listing.{externals-all, externals-more, externals-none}
use Rattle.doslib_show.specs.inside.Parts.{plain_names}
use Rattle.doslib_show.proofs.names.Names.add_externals.Goals as goal

pub loop-external-init : goal.loop-external-init
loop-external-init g c = sym (externals-none (plain_names c.args.self.now))

pub loop-external-preserved : goal.loop-external-preserved
loop-external-preserved g c =
    let here : c.loop-external.external-index < length c.args.externals.now = search rules in
    externals-more (λ e. e.name.now) (plain_names c.args.self.now) (plain_names c.loop-external.self)
    c.loop-external.self.externals.items c.push.new.self.items _ c.args.externals.now c.loop-external.external-index _
    here c.loop-external.invariant refl c.in_ok-push.ensures.items refl

pub returns : goal.returns
returns g c =
    externals-all (λ e. e.name.now) (plain_names c.args.self.now) (plain_names c.loop-external.self)
    c.args.externals.now c.loop-external.external-index c.loop-external-test.false c.loop-external.invariant
