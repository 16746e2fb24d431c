use Rattle.std.proofs.Common.{Some, None, ap, ◌∙◌}
use Rattle.omf_place.specs.inside.Program.{addresses_of}
use Rattle.omf_place.proofs.Excessive.{group-found}
use Rattle.omf_place.proofs.groups.Groups.first_excess.Goals as goal

pub returns-in-None : goal.returns-in-None
returns-in-None g c =
    let p = c.args.self.now.program.now in
    group-found p.modules.now (addresses_of p.stands.now) None c.in-None.ensures

pub returns-in-Some : goal.returns-in-Some
returns-in-Some g c =
    let p = c.args.self.now.program.now in
    ap Some c.excess.ensures
    ∙ group-found p.modules.now (addresses_of p.stands.now) (Some c.in-Some.first.now.name.now) c.in-Some.ensures
