use Rattle.std.proofs.Common.{◌≡◌, ◌++◌, map, take}
use Rattle.omf_record.specs.View.{external_view}
use Rattle.omf_module.specs.inside.Entries as defined
use Rattle.omf_module.proofs.builder.add_externals.Given as goal

abbrev pub invariant-loop-external : goal.invariant-loop-external
invariant-loop-external g l =
    l.store
    ≡ record l.fn.store {
      externals =
          l.fn.store.externals
          ++ map (defined.external_of l.fn.local) (map external_view (take l.external-index l.names));
    }
