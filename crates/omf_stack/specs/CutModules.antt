-- The modules of a program with a stack that is cut to a length (TIS OMF 1.1, SEGDEF, the segment length): of its
-- parts, in order, each keeps of its bytes what is left of the length. All data has to lie in its segment then.
use Rattle.std.specs.Prelude.{◌≡◌, ℕ, ◌+◌, ◌-◌, List, [], ◌∷◌, Ok, Err}
use Rattle.std.specs.declared.result.Result.{Result}
use Rattle.std.specs.Option.{option_map_or}
use Rattle.omf_library.specs.Members.{joined}
use Rattle.omf_library.specs.Records.{result_and_then}
use Rattle.omf_module.specs.Lengths.{with_lengths}
use Rattle.omf_module.specs.Module.{Module, Segment}
use Rattle.omf_stack.specs.declared.fault.CutFault.{CutFault}
use Rattle.omf_stack.specs.declared.fault.CutFault.TheVariants.{Memory, Outside}
use Rattle.omf_stack.specs.Answer.{length_asked}
use Rattle.omf_stack.specs.Cut.{cut_lengths}
use Rattle.omf_stack.specs.Stack.{segments, stack_length, stack_part}

-- the module with this index, or the place in it of data that lies outside
abbrev pub in_module : (index : ℕ) → Result Module ℕ → Result Module CutFault
in_module index (Ok m) = Ok m
in_module index (Err place) = Err (Outside index place)

-- modules, the first of which has this index, where so many bytes are left; or the first that has data outside
abbrev pub cut_from : (stack : Segment) → (left index : ℕ) → List Module → Result (List Module) CutFault
cut_from stack left index [] = Ok []
cut_from stack left index (m ∷ ms) = result_and_then
    (λ one. joined (one ∷ []) (cut_from stack (left - stack_length stack m.segments) (index + 1) ms))
    (in_module index (with_lengths (cut_lengths stack left m.segments) m))

-- those of a program, whose stack has at most so many bytes; without a stack they are the same
abbrev pub cut_program : List Module → (bytes : ℕ) → Result (List Module) CutFault
cut_program program bytes = option_map_or
    (λ stack. cut_from stack (length_asked bytes) 0 program) (stack_part (segments program)) (Ok program)

-- the fault is that one, unless it is want of memory
abbrev pub IsCutFault : CutFault → Result (List Module) CutFault → Type 0
IsCutFault (Outside index place) stands = stands ≡ Err (Outside index place)
IsCutFault Memory stands = Unit {0}
