use Rattle.std.proofs.Common.{◌∙◌, ◌==◌, ◌&&◌, not, length, sym, arith}
use Rattle.std.specs.Prelude.{is_some, nat_lt}
use Rattle.std.proofs.lemmas.Bool.{lt-ltb, le-ltb, not_from_true, not_from_false}
use Rattle.omf_image.specs.Registers.{stack}
use Rattle.flat_file.specs.Covered.{first_covered}
use Rattle.flat_file.specs.Forms.{com_fault, has_relocations}
use Rattle.flat_file.proofs.Choosing.{relocated, stack_segment, other_start, data_below, too_long, no_fault, some_there}
use Rattle.flat_file.proofs.Choosing.{none_there}
use Rattle.flat_file.proofs.com.com_fault.Goals as goal

pub returns-then-not-is_empty : goal.returns-then-not-is_empty
unfolding com_fault
returns-then-not-is_empty g c =
    relocated (has_relocations c.args.program.now) (is_some (stack c.args.layout.now c.args.modules.now))
    (not (c.args.program.now.registers.cs == 0 && c.args.program.now.registers.ip == 256))
    (nat_lt (first_covered c.args.layout.now c.args.modules.now) 256) (nat_lt 65536 (length c.args.program.now.image))
    (some_there c.args.program.now.relocations c.relocations.result.now c.is_empty.result c.is_empty.ensures
    c.relocations.ensures c.if-not-is_empty.true)

pub returns-then-has_stack : goal.returns-then-has_stack
unfolding com_fault
returns-then-has_stack g c =
    stack_segment (has_relocations c.args.program.now) (is_some (stack c.args.layout.now c.args.modules.now))
    (not (c.args.program.now.registers.cs == 0 && c.args.program.now.registers.ip == 256))
    (nat_lt (first_covered c.args.layout.now c.args.modules.now) 256) (nat_lt 65536 (length c.args.program.now.image))
    (none_there c.args.program.now.relocations c.relocations.result.now c.is_empty.result c.is_empty.ensures
    c.relocations.ensures c.if-not-is_empty.false)
    (sym c.has_stack.ensures ∙ c.if-has_stack.true)

pub returns-then-not-starts_at_100h : goal.returns-then-not-starts_at_100h
unfolding com_fault
returns-then-not-starts_at_100h g c =
    other_start (has_relocations c.args.program.now) (is_some (stack c.args.layout.now c.args.modules.now))
    (not (c.args.program.now.registers.cs == 0 && c.args.program.now.registers.ip == 256))
    (nat_lt (first_covered c.args.layout.now c.args.modules.now) 256) (nat_lt 65536 (length c.args.program.now.image))
    (none_there c.args.program.now.relocations c.relocations.result.now c.is_empty.result c.is_empty.ensures
    c.relocations.ensures c.if-not-is_empty.false)
    (sym c.has_stack.ensures ∙ c.if-has_stack.false)
    (not_from_false (c.args.program.now.registers.cs == 0 && c.args.program.now.registers.ip == 256)
    (sym c.starts_at_100h.ensures ∙ c.if-not-starts_at_100h.true))

pub returns-then-first_covered-from : goal.returns-then-first_covered-from
unfolding com_fault
returns-then-first_covered-from g c =
    data_below (has_relocations c.args.program.now) (is_some (stack c.args.layout.now c.args.modules.now))
    (not (c.args.program.now.registers.cs == 0 && c.args.program.now.registers.ip == 256))
    (nat_lt (first_covered c.args.layout.now c.args.modules.now) 256) (nat_lt 65536 (length c.args.program.now.image))
    (none_there c.args.program.now.relocations c.relocations.result.now c.is_empty.result c.is_empty.ensures
    c.relocations.ensures c.if-not-is_empty.false)
    (sym c.has_stack.ensures ∙ c.if-has_stack.false)
    (not_from_true (c.args.program.now.registers.cs == 0 && c.args.program.now.registers.ip == 256)
    (sym c.starts_at_100h.ensures ∙ c.if-not-starts_at_100h.false))
    (lt-ltb (first_covered c.args.layout.now c.args.modules.now) 256
    (omega (arith, c.if-first_covered-from.true, c.first_covered.ensures, c.from.ensures)))

pub returns-then-size-gt-SEGMENT_LEN : goal.returns-then-size-gt-SEGMENT_LEN
unfolding com_fault
returns-then-size-gt-SEGMENT_LEN g c =
    too_long (has_relocations c.args.program.now) (is_some (stack c.args.layout.now c.args.modules.now))
    (not (c.args.program.now.registers.cs == 0 && c.args.program.now.registers.ip == 256))
    (nat_lt (first_covered c.args.layout.now c.args.modules.now) 256) (nat_lt 65536 (length c.args.program.now.image))
    (none_there c.args.program.now.relocations c.relocations.result.now c.is_empty.result c.is_empty.ensures
    c.relocations.ensures c.if-not-is_empty.false)
    (sym c.has_stack.ensures ∙ c.if-has_stack.false)
    (not_from_true (c.args.program.now.registers.cs == 0 && c.args.program.now.registers.ip == 256)
    (sym c.starts_at_100h.ensures ∙ c.if-not-starts_at_100h.false))
    (le-ltb (first_covered c.args.layout.now c.args.modules.now) 256
    (omega (arith, c.if-first_covered-from.false, c.first_covered.ensures, c.from.ensures)))
    (lt-ltb 65536 (length c.args.program.now.image) (omega (arith, c.if-size-gt-SEGMENT_LEN.true, c.size.ensures.size)))

pub returns-else-size-gt-SEGMENT_LEN : goal.returns-else-size-gt-SEGMENT_LEN
unfolding com_fault
returns-else-size-gt-SEGMENT_LEN g c =
    no_fault (has_relocations c.args.program.now) (is_some (stack c.args.layout.now c.args.modules.now))
    (not (c.args.program.now.registers.cs == 0 && c.args.program.now.registers.ip == 256))
    (nat_lt (first_covered c.args.layout.now c.args.modules.now) 256) (nat_lt 65536 (length c.args.program.now.image))
    (none_there c.args.program.now.relocations c.relocations.result.now c.is_empty.result c.is_empty.ensures
    c.relocations.ensures c.if-not-is_empty.false)
    (sym c.has_stack.ensures ∙ c.if-has_stack.false)
    (not_from_true (c.args.program.now.registers.cs == 0 && c.args.program.now.registers.ip == 256)
    (sym c.starts_at_100h.ensures ∙ c.if-not-starts_at_100h.false))
    (le-ltb (first_covered c.args.layout.now c.args.modules.now) 256
    (omega (arith, c.if-first_covered-from.false, c.first_covered.ensures, c.from.ensures)))
    (le-ltb 65536 (length c.args.program.now.image)
    (omega (arith, c.if-size-gt-SEGMENT_LEN.false, c.size.ensures.size)))
