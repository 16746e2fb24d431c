use Rattle.std.proofs.Common.{◌≡◌, false, take}
use Rattle.std.specs.List.{list_any}
use Rattle.omf_order.specs.Marks.{is_external, is_public}
use Rattle.omf_order.proofs.marks.is_wanted.Given as goal

abbrev pub invariant-loop-each : goal.invariant-loop-each
invariant-loop-each g l = record {
  publics : list_any (is_public l.names l.name) (take l.each-index l.modules) ≡ false;
  externals : l.wanted ≡ list_any (is_external l.names l.name) (take l.each-index l.modules);
}
