use Rattle.std.proofs.Common.{arith}
use Rattle.omf_library.proofs.Naming.{names_first, names_told, names_turn}
use Rattle.omf_library.proofs.names.all_names.Goals as goal

pub loop-frame-init : goal.loop-frame-init
loop-frame-init g c =
    names_first c.args.frames.now c.new-listed.result.items c.new-3.result.items c.new-4.result.items
    c.new-5.result.items c.new-7.result.items c.new-6.result.items c.new-listed.ensures.items c.new-3.ensures.items
    c.new-4.ensures.items c.new-5.ensures.items c.new-6.ensures.items c.new-7.ensures.items

pub loop-frame-preserved : goal.loop-frame-preserved
loop-frame-preserved g c =
    let noted = c.in_ok-add_names.ensures in
    names_turn c.args.frames.now c.loop-frame.frame-index c.frame-item.result _ _ c.loop-frame-test.true
    c.frame-item.is c.loop-frame.invariant (record {
      listed_more = noted.listed;
      externals_more = noted.externals;
      offered_more = noted.offered;
      communals_more = noted.communals;
      aliases_more = noted.aliases;
      libraries_more = noted.libraries;
      asked_more = noted.dosseg;
    })

pub returns : goal.returns
returns g c =
    let told = names_told c.args.frames.now c.loop-frame.frame-index _ (omega arith) c.loop-frame.invariant in
    record {
      externals = told.all_externals;
      offered = told.all_offered;
      communals = told.all_communals;
      aliases = told.all_aliases;
      libraries = told.all_libraries;
      dosseg = told.asked;
    }
