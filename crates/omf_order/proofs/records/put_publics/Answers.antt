use Rattle.std.proofs.Common.{map, subst, sym, arith}
use Rattle.std.proofs.lemmas.List.{length-map}
use Rattle.omf_record.specs.Canonical.{FitsFrame}
use Rattle.omf_record.specs.Record.{Pubdef}
use Rattle.omf_record.specs.View.{view}
use Rattle.omf_record.specs.declared.externals.PublicBase.TheVariants.{InSegment}
use Rattle.std.proofs.Common.{false, ◌+◌}
use Rattle.omf_order.specs.Records.{public_of}
use Rattle.omf_order.specs.inside.Held.{names_view}
use Rattle.omf_order.proofs.Bodies.{publics_fit}
use Rattle.omf_order.proofs.records.put_publics.Goals as goal

pub put_record-requires-clause-fits : goal.put_record-requires-clause-fits
unfolding view
put_record-requires-clause-fits g c =
    let names = names_view c.args.names.now in
    subst (λ ps. FitsFrame (Pubdef false (InSegment 1 c.segment_index.result) ps)) (sym c.in_ok-publics.ensures)
    (subst (λ n. FitsFrame (Pubdef false (InSegment 1 n) (map public_of names))) (sym c.segment_index.ensures)
    (publics_fit (c.args.place + 1) names (omega arith) (omega (arith, c.requires.place))
    (omega (arith, c.requires.few, length-map c.args.names.now (λ n. n.now))) c.requires.names))
