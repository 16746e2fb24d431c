use Rattle.std.proofs.Common.{◌≡◌, ◌++◌, take}
use Rattle.omf_library.specs.Names.{texts}
use Rattle.omf_plain.specs.View.{seen_by, taking_of}
use Rattle.omf_plain.proofs.pass.Pass.note_names.Given as goal

abbrev pub invariant-loop-name : goal.invariant-loop-name
invariant-loop-name g l = record {
  taking : taking_of l.self ≡ taking_of l.fn.self;
  seen : seen_by l.self
      ≡ record (seen_by l.fn.self) { names = (seen_by l.fn.self).names ++ texts (take l.name-index l.names) };
}
