use Rattle.std.proofs.Common.{◌≡◌, ◌<◌, ◌++◌, map, take}
use Rattle.std.specs.List.{AllByRecursion}
use Rattle.omf_record.specs.Record.{Public}
use Rattle.omf_record.specs.View.{public_view}
use Rattle.omf_module.specs.inside.Entries as defined
use Rattle.omf_module.proofs.builder.add_publics.Given as goal

abbrev pub invariant-loop-public : goal.invariant-loop-public
invariant-loop-public g l = record {
  base : l.base ≡ l.fn.base;
  kept : l.store
      ≡ record l.fn.store {
        publics =
            l.fn.store.publics
            ++ map (defined.public_of l.fn.local l.fn.base) (map public_view (take l.public-index l.publics));
      };
  fits : AllByRecursion (λ (p : Public). p.offset < 65536) (map public_view (take l.public-index l.publics));
}
