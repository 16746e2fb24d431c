-- What a stack wants, by the bytes that are left of the length that is asked for.
use Rattle.std.specs.Prelude.{ℕ, ◌==◌, if◌then◌else◌, None, Some}
use Rattle.std.specs.declared.option.Option.{Option}
use Rattle.omf_module.specs.Module.{Segment}
use Rattle.omf_stack.specs.Answer.{Answer, Added, Enough, TooLong}
use Rattle.omf_stack.specs.Records.{part_bytes}

abbrev pub wanted_left : (stack : Segment) → (left : Option ℕ) → Answer
wanted_left stack None = TooLong
wanted_left stack (Some left) = if left == 0 then Enough else Added (part_bytes stack left)
