use Rattle.std.proofs.Common.{refl, [], arith}
use Rattle.std.proofs.lemmas.List.{map-id}
use Rattle.omf_record.specs.Record.{Linnum}
use Rattle.omf_wide.specs.Said.{Plain}
use Rattle.omf_wide.proofs.Layouts.{body, linnum_narrow, linnum_to}
use Rattle.omf_wide.proofs.parse.linnum.Goals as goal

pub narrow_parts-requires : goal.narrow_parts-requires
narrow_parts-requires g c κs = (
  (refl, tt),
  (linnum_narrow g.row.A.Denot, body g.row.A.Denot (Plain (Linnum 0 0 [])) 0x95 (omega arith) refl),
)

pub returns : goal.returns
unfolding Rattle.omf_wide.specs.View.said_view Rattle.omf_record.specs.View.view
returns g c =
    linnum_to g.row.A.Denot (c.in_ok-group.group, (c.in_ok-group.segment, c.in_ok-group.lines.items)) c.args.bytes.now
    (rw (map-id c.in_ok-group.lines.items) at c.in_ok-group.ensures)
