use Rattle.std.proofs.Common.{refl, [], true, false, inl, inr}
use Rattle.omf_record.specs.Record.{Pubdef}
use Rattle.omf_record.specs.declared.externals.PublicBase.TheVariants.{InSegment}
use Rattle.omf_record.specs.inside.Kinds.{body}
use Rattle.omf_record.proofs.parse.pubdef.Goals as goal

pub parts-requires : goal.parts-requires
parts-requires g c κs = (
  (refl, tt),
  elim c.requires [
    | inl e ↦ body g.row.A.Denot (Pubdef false (InSegment 0 0) []) c.args.kind e
    | inr e ↦ body g.row.A.Denot (Pubdef true (InSegment 0 0) []) c.args.kind e
  ],
)

pub returns : goal.returns
unfolding Rattle.omf_record.specs.Body.Body Rattle.omf_record.specs.View.view
returns g c = (elim c.requires [ inl e ↦ rw e refl | inr e ↦ rw e refl ], c.in_ok-base.ensures)
