use Rattle.std.proofs.Common.{◌∙◌, length, sym, arith}
use Rattle.std.specs.Prelude.{is_some, nat_lt}
use Rattle.std.proofs.lemmas.Bool.{lt-ltb, le-ltb}
use Rattle.omf_image.specs.Registers.{stack}
use Rattle.flat_file.specs.Forms.{has_relocations, one_segment_fault}
use Rattle.flat_file.proofs.Choosing.{none_there, segment_no_fault, segment_relocated, segment_stack, segment_too_long}
use Rattle.flat_file.proofs.Choosing.{some_there}
use Rattle.flat_file.proofs.from_start.one_segment_fault.Goals as goal

pub returns-then-not-is_empty : goal.returns-then-not-is_empty
unfolding one_segment_fault
returns-then-not-is_empty g c =
    segment_relocated (has_relocations c.args.program.now) (is_some (stack c.args.layout.now c.args.modules.now))
    (nat_lt 65536 (length c.args.program.now.image))
    (some_there c.args.program.now.relocations c.relocations.result.now c.is_empty.result c.is_empty.ensures
    c.relocations.ensures c.if-not-is_empty.true)

pub returns-then-has_stack : goal.returns-then-has_stack
unfolding one_segment_fault
returns-then-has_stack g c =
    segment_stack (has_relocations c.args.program.now) (is_some (stack c.args.layout.now c.args.modules.now))
    (nat_lt 65536 (length c.args.program.now.image))
    (none_there c.args.program.now.relocations c.relocations.result.now c.is_empty.result c.is_empty.ensures
    c.relocations.ensures c.if-not-is_empty.false)
    (sym c.has_stack.ensures ∙ c.if-has_stack.true)

pub returns-then-size-gt-SEGMENT_LEN : goal.returns-then-size-gt-SEGMENT_LEN
unfolding one_segment_fault
returns-then-size-gt-SEGMENT_LEN g c =
    segment_too_long (has_relocations c.args.program.now) (is_some (stack c.args.layout.now c.args.modules.now))
    (nat_lt 65536 (length c.args.program.now.image))
    (none_there c.args.program.now.relocations c.relocations.result.now c.is_empty.result c.is_empty.ensures
    c.relocations.ensures c.if-not-is_empty.false)
    (sym c.has_stack.ensures ∙ c.if-has_stack.false)
    (lt-ltb 65536 (length c.args.program.now.image) (omega (arith, c.if-size-gt-SEGMENT_LEN.true, c.size.ensures.size)))

pub returns-else-size-gt-SEGMENT_LEN : goal.returns-else-size-gt-SEGMENT_LEN
unfolding one_segment_fault
returns-else-size-gt-SEGMENT_LEN g c =
    segment_no_fault (has_relocations c.args.program.now) (is_some (stack c.args.layout.now c.args.modules.now))
    (nat_lt 65536 (length c.args.program.now.image))
    (none_there c.args.program.now.relocations c.relocations.result.now c.is_empty.result c.is_empty.ensures
    c.relocations.ensures c.if-not-is_empty.false)
    (sym c.has_stack.ensures ∙ c.if-has_stack.false)
    (le-ltb 65536 (length c.args.program.now.image)
    (omega (arith, c.if-size-gt-SEGMENT_LEN.false, c.size.ensures.size)))
