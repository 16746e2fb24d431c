use Rattle.std.proofs.Common.{length, map, ap, ◌∙◌, arith}
use Rattle.omf_place.specs.inside.HeldNames.{entry_view}
use Rattle.omf_place.specs.inside.Program.{addresses_of}
use Rattle.omf_place.proofs.Owners.{owned}
use Rattle.omf_place.proofs.laying.public_table.Goals as goal

pub index_publics-requires : goal.index_publics-requires
index_publics-requires g c =
    let p = c.args.groups.now.program.now in
    owned (length p.modules.now) p.modules.now (addresses_of p.stands.now) (omega arith) c.deref.result.now
    (ap (λ es. map entry_view es) c.deref.ensures.value ∙ c.in_ok-entries.ensures)
