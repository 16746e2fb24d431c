use Rattle.std.proofs.Common.{◌∙◌, ◌++◌, ◌∷◌, [], ap, map, subst, sym, arith}
use Rattle.omf_record.specs.Canonical.{FitsFrame}
use Rattle.omf_record.specs.Record.{Lnames}
use Rattle.omf_record.specs.View.{view}
use Rattle.omf_write.proofs.Bodies.{IsBytes-from, names_fit}
use Rattle.omf_write.proofs.records.put_names.Goals as goal

pub put_record-requires-clause-fits : goal.put_record-requires-clause-fits
unfolding view
put_record-requires-clause-fits g c =
    subst (λ ns. FitsFrame (Lnames (map (λ n. n.now) ns)))
    (sym
    (c.in_ok-push-2.ensures.items
    ∙ ap (λ ns. ns ++ c.args.other ∷ [])
    (c.in_ok-push.ensures.items ∙ ap (λ ns. ns ++ c.args.one ∷ []) c.new-names.ensures.items)))
    (names_fit c.args.one.now c.args.other.now
    (c.requires.one, IsBytes-from c.args.one.now (λ i. omega (arith, c.type_inv.one i)))
    (c.requires.other, IsBytes-from c.args.other.now (λ i. omega (arith, c.type_inv.other i))))
