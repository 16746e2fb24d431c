use Rattle.doslink_files.proofs.Parts.{IsKnown, IsRead}
use Rattle.doslink_files.proofs.modules.read_modules.Given as goal

abbrev pub invariant-loop : goal.invariant-loop
invariant-loop g l =
    let told = g.R.Read.remaining l.fn.file in
    IsKnown told × IsRead told (g.R.Read.remaining l.file) l.bytes.items l.more
