use Rattle.std.proofs.Common.{None, Some}
use Rattle.doslink_asked.proofs.Splitting.{back-of-split}
use Rattle.doslink_asked.proofs.paths.behind_last.Goals as goal

pub returns-in-Some : goal.returns-in-Some
returns-in-Some c =
    back-of-split c.args.parting c.args.path.now c.args.path.now (Some (c.in-Some.field-0-0, c.in-Some.name))
    c.in-Some.ensures.cases c.requires

pub returns-in-None : goal.returns-in-None
returns-in-None c =
    back-of-split c.args.parting c.args.path.now c.args.path.now None c.in-None.ensures.cases c.requires
