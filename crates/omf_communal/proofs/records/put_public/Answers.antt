use Rattle.std.proofs.Common.{◌∙◌, ◌++◌, [], ◌∷◌, ap, map, subst, sym, arith}
use Rattle.omf_record.specs.Canonical.{FitsFrame}
use Rattle.omf_record.specs.Record.{Pubdef}
use Rattle.omf_record.specs.View.{public_view, view}
use Rattle.omf_record.specs.declared.externals.Public.{Public}
use Rattle.omf_record.specs.declared.externals.PublicBase.TheVariants.{InSegment}
use Rattle.omf_write.proofs.Bodies.{IsBytes-from}
use Rattle.omf_communal.proofs.Bodies.{public_fits}
use Rattle.omf_communal.proofs.records.put_public.Goals as goal

pub put_record-requires-clause-fits : goal.put_record-requires-clause-fits
unfolding view
put_record-requires-clause-fits g c =
    let at = c.args.standing in
    let p : Public = record { name = c.args.name; offset = at.offset; type_index = 0 } in
    subst (λ ps. FitsFrame (Pubdef c.args.local (InSegment at.group at.segment) (map public_view ps)))
    (sym (c.in_ok-push.ensures.items ∙ ap (λ ps. ps ++ p ∷ []) c.new-publics.ensures.items))
    (public_fits c.args.local at.group at.segment at.offset c.args.name.now at.group_in at.segment_positive
    at.segment_in (omega arith)
    (c.requires, IsBytes-from c.args.name.now (λ i. omega (arith, c.type_inv.name i))))
