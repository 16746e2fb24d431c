-- How long the segments of a program are whose stack is cut to a length: of its parts, in order, each keeps of its bytes
-- what is left of the length.
use Rattle.std.specs.Prelude.{ℕ, ◌-◌, ◌&&◌, nat_lt, if◌then◌else◌, List, [], ◌∷◌, Option, None, Some}
use Rattle.omf_module.specs.Module.{Segment}
use Rattle.omf_stack.specs.Stack.{is_of, stack_length}

-- the length that a segment gets where so many bytes are left for those of the stack: none where it is as before
abbrev pub cut_length : (stack : Segment) → (left : ℕ) → Segment → Option ℕ
cut_length stack left s = if is_of stack s && nat_lt left s.length then Some left else None

-- those of segments: behind a part of the stack as many fewer are left as it asks for
abbrev pub cut_lengths : (stack : Segment) → (left : ℕ) → List Segment → List (Option ℕ)
cut_lengths stack left [] = []
cut_lengths stack left (s ∷ ss) =
    cut_length stack left s ∷ cut_lengths stack (left - stack_length stack (s ∷ [])) ss
