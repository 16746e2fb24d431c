use Rattle.std.proofs.Common.{◌∙◌, ◌&&◌, ap, not, sym}
use Rattle.std.specs.Str.{bytes_eq}
use Rattle.omf_order.specs.Parts.{is_private}
use Rattle.omf_order.proofs.Clearing.{joins_by, joins_none}
use Rattle.omf_order.proofs.FirstMet.{same_joinings}
use Rattle.omf_order.proofs.cleared.is_early.Goals as goal

pub returns-then-not-is_private : goal.returns-then-not-is_private
returns-then-not-is_private g c = λ parts e.
    (rw (c.combining_of.ensures, e) at c.has.ensures)
    ∙ joins_by _ c.args.segment.now parts
    (λ x y.
    ap (λ b. b && (bytes_eq x.name.now y.name.now && bytes_eq x.class.now y.class.now)) (same_joinings x.kind y.kind))
    (ap is_private (sym c.kind_of.ensures) ∙ sym c.is_private.ensures ∙ c.if-not-is_private.true)

pub returns-else-not-is_private : goal.returns-else-not-is_private
returns-else-not-is_private g c = λ parts e.
    ap not c.if-not-is_private.false
    ∙ sym
    (joins_none c.args.segment.now parts
    (ap is_private (sym c.kind_of.ensures) ∙ sym c.is_private.ensures ∙ c.if-not-is_private.false))
