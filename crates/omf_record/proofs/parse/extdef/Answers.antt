use Rattle.std.proofs.Common.{refl, [], true, false, inl, inr}
use Rattle.omf_record.specs.Record.{Extdef}
use Rattle.omf_record.specs.inside.Kinds.{body}
use Rattle.omf_record.proofs.parse.extdef.Goals as goal

pub parts-requires : goal.parts-requires
parts-requires g c κs = (
  (refl, tt),
  elim c.requires [
    | inl e ↦ body g.row.A.Denot (Extdef false []) c.args.kind e
    | inr e ↦ body g.row.A.Denot (Extdef true []) c.args.kind e
  ],
)

pub returns : goal.returns
unfolding Rattle.omf_record.specs.Body.Body Rattle.omf_record.specs.View.view
returns g c = (elim c.requires [ inl e ↦ rw e refl | inr e ↦ rw e refl ], c.in_ok-names.ensures)
