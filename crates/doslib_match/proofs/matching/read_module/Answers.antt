use Rattle.doslib_match.proofs.matching.read_module.Goals as goal

pub returns : goal.returns
returns g c = (c.in_ok-read.read.widths, rw c.none.ensures.empty at c.in_ok-read.ensures)
