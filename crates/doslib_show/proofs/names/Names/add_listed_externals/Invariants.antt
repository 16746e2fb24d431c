use Rattle.std.proofs.Common.{◌≡◌, map, take}
use Rattle.omf_library.specs.Names.{texts}
use Rattle.doslib_show.specs.Names.{name_of, with_externals}
use Rattle.doslib_show.specs.inside.Parts.{plain_names}
use Rattle.doslib_show.proofs.names.Names.add_listed_externals.Given as goal

abbrev pub invariant-loop-external : goal.invariant-loop-external
invariant-loop-external g l = record {
  same : l.self.listed.items ≡ l.initial.self.listed.items;
  added : plain_names l.self
      ≡ with_externals (plain_names l.initial.self)
      (map (λ e. name_of (texts l.initial.self.listed.items) e.name) (take l.external-index l.externals));
}
