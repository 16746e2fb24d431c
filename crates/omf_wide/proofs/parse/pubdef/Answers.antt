use Rattle.std.proofs.Common.{refl, [], true, false, inl, inr, map, nat_eq, arith}
use Rattle.omf_record.specs.Record.{Pubdef}
use Rattle.omf_record.specs.View.{public_view}
use Rattle.omf_record.specs.declared.externals.PublicBase.TheVariants.{InSegment}
use Rattle.omf_wide.specs.Said.{Plain}
use Rattle.omf_wide.proofs.Layouts.{body, pubdef_narrow, pubdef_to}
use Rattle.omf_wide.proofs.parse.pubdef.Goals as goal

pub narrow_parts-requires : goal.narrow_parts-requires
narrow_parts-requires g c κs = (
  (refl, tt),
  elim c.requires [
    | inl e ↦ (
      pubdef_narrow g.row.A.Denot false (InSegment 0 0) c.args.kind e,
      body g.row.A.Denot (Plain (Pubdef false (InSegment 0 0) [])) c.args.kind (omega (arith, e)) e,
    )
    | inr e ↦ (
      pubdef_narrow g.row.A.Denot true (InSegment 0 0) c.args.kind e,
      body g.row.A.Denot (Plain (Pubdef true (InSegment 0 0) [])) c.args.kind (omega (arith, e)) e,
    )
  ],
)

pub returns : goal.returns
unfolding Rattle.omf_wide.specs.View.said_view Rattle.omf_record.specs.View.view
returns g c =
    pubdef_to g.row.A.Denot (nat_eq c.args.kind 0xB7) c.args.kind
    (c.in_ok-base.base, map public_view c.in_ok-base.publics.items) c.args.bytes.now
    (elim c.requires [ inl e ↦ rw e refl | inr e ↦ rw e refl ]) c.in_ok-base.ensures
