use Rattle.std.proofs.Common.{◌∙◌, ◌++◌, ◌∷◌, [], ap, map, subst, sym, arith}
use Rattle.omf_record.specs.Canonical.{FitsFrame}
use Rattle.omf_record.specs.Record.{Lnames}
use Rattle.omf_record.specs.View.{view}
use Rattle.omf_order.proofs.Bodies.{name_fits}
use Rattle.omf_write.proofs.Bodies.{IsBytes-from}
use Rattle.omf_order.proofs.records.put_name.Goals as goal

pub put_record-requires-clause-fits : goal.put_record-requires-clause-fits
unfolding view
put_record-requires-clause-fits g c =
    subst (λ ns. FitsFrame (Lnames (map (λ n. n.now) ns)))
    (sym (c.in_ok-push.ensures.items ∙ ap (λ ns. ns ++ c.args.name ∷ []) c.new-names.ensures.items))
    (name_fits c.args.name.now (c.requires, IsBytes-from c.args.name.now (λ i. omega (arith, c.type_inv.name i))))
