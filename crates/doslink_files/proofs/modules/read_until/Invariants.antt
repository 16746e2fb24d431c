use Rattle.std.specs.Prelude.{List, ℕ}
use Rattle.std.specs.declared.option.Option.{Option}
use Rattle.std.specs.Io.KnownBytes.{Consumes}
use Rattle.doslink_files.proofs.modules.read_until.Given as goal

abbrev pub invariant-loop : goal.invariant-loop
invariant-loop g l = (told : Option (List ℕ)) → Consumes told (g.R.Read.remaining l.fn.file) l.fn.bytes.items
    → Consumes told (g.R.Read.remaining l.file) l.bytes.items
