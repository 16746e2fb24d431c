use Rattle.std.proofs.Common.{◌<◌, length, refl, rules, sym}
use Rattle.omf_library.specs.Names.{texts}
use Rattle.doslib_show.specs.Names.{name_of}
use Rattle.doslib_show.specs.inside.Parts.{plain_names}
use Rattle.doslib_show.proofs.Listing.{externals-all, externals-more, externals-none}
use Rattle.doslib_show.proofs.names.Names.add_listed_externals.Goals as goal

pub loop-external-init : goal.loop-external-init
loop-external-init g c = record {
  same = refl;
  added = sym (externals-none (plain_names c.args.self.now));
}

pub loop-external-preserved : goal.loop-external-preserved
loop-external-preserved g c =
    let here : c.loop-external.external-index < length c.args.externals.now = search rules in
    record {
      same = c.loop-external.invariant.same;
      added =
          externals-more (λ e. name_of (texts c.args.self.now.listed.items) e.name) (plain_names c.args.self.now)
          (plain_names c.loop-external.self) c.loop-external.self.externals.items c.push.new.self.items
          c.name_of-name.result c.args.externals.now c.loop-external.external-index _ here
          c.loop-external.invariant.added refl c.in_ok-push.ensures.items
          (rw (c.deref.ensures.value, c.loop-external.invariant.same) at c.name_of-name.ensures);
    }

pub returns : goal.returns
returns g c =
    externals-all (λ e. name_of (texts c.args.self.now.listed.items) e.name) (plain_names c.args.self.now)
    (plain_names c.loop-external.self) c.args.externals.now c.loop-external.external-index c.loop-external-test.false
    c.loop-external.invariant.added
