use Rattle.omf_library.specs.Names.{texts}
use Rattle.omf_library.specs.Said.{aliases_said}
use Rattle.omf_library.proofs.Naming.{NamesLeft}
use Rattle.omf_library.proofs.names.all_names.Given as goal

abbrev pub invariant-loop-frame : goal.invariant-loop-frame
invariant-loop-frame g l =
    NamesLeft l.fn.frames l.frame-index (record {
      listed = texts l.listed.items;
      externals = texts l.said.externals.items;
      offered = texts l.said.offered.items;
      communals = texts l.said.communals.items;
      aliases = aliases_said l.said.aliases.items;
      libraries = texts l.said.libraries.items;
      dosseg = l.said.dosseg;
    })
