use Rattle.std.proofs.Common.{◌∙◌, sym, arith}
use Rattle.omf_image.proofs.Touched.{relocated_test, other_test}
use Rattle.omf_image.proofs.marks.is_clear.Goals as goal

pub returns-then-is_relocated : goal.returns-then-is_relocated
returns-then-is_relocated c earlier m =
    relocated_test c.args.patch c.args.touched.now c.args.relocated.now earlier c.start-start.result _
    (sym c.is_relocated.ensures ∙ c.if-is_relocated.true)
    (sym c.start-start.ensures) (omega (arith, c.start-start.ensures, c.width.ensures)) c.requires.touched m

pub returns-else-is_relocated : goal.returns-else-is_relocated
returns-else-is_relocated c earlier m =
    other_test c.args.patch c.args.touched.now c.args.relocated.now earlier c.start-start.result _
    (sym c.is_relocated.ensures ∙ c.if-is_relocated.false)
    (sym c.start-start.ensures) (omega (arith, c.start-start.ensures, c.width.ensures)) c.requires.relocated m
