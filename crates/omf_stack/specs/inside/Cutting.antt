-- Modules that get other lengths of their segments, in two steps: the lengths of all, and the modules with them.
use Rattle.std.specs.Prelude.{ℕ, ◌+◌, ◌-◌, List, [], ◌∷◌, map, Option, Ok, Vec}
use Rattle.std.specs.declared.result.Result.{Result}
use Rattle.std.specs.Option.{option_map}
use Rattle.omf_library.specs.Members.{joined}
use Rattle.omf_library.specs.Records.{result_and_then}
use Rattle.omf_module.specs.Lengths.{with_lengths}
use Rattle.omf_module.specs.Module.{Module, Segment}
use Rattle.omf_stack.specs.declared.fault.CutFault.{CutFault}
use Rattle.omf_stack.specs.Answer.{length_asked}
use Rattle.omf_stack.specs.Cut.{cut_lengths}
use Rattle.omf_stack.specs.CutModules.{in_module}
use Rattle.omf_stack.specs.Stack.{segments, stack_length, stack_part}

-- lists without where they lie in memory
abbrev pub lists : {X A : Type 0} → List (Vec X A) → List (List X)
lists vs = map (λ v. v.items) vs

-- the lengths that the segments of modules get where so many bytes are left
abbrev pub lengths_of : (stack : Segment) → (left : ℕ) → List Module → List (List (Option ℕ))
lengths_of stack left [] = []
lengths_of stack left (m ∷ ms) =
    cut_lengths stack left m.segments ∷ lengths_of stack (left - stack_length stack m.segments) ms

-- those of a program, if it has a stack
abbrev pub lengths_in : List Module → (bytes : ℕ) → Option (List (List (Option ℕ)))
lengths_in program bytes =
    option_map (λ stack. lengths_of stack (length_asked bytes) program) (stack_part (segments program))

-- modules, the first of which has this index, with these lengths of their segments
abbrev pub lengthened : (index : ℕ) → List (List (Option ℕ)) → List Module → Result (List Module) CutFault
lengthened index ls [] = Ok []
lengthened index [] (m ∷ ms) = Ok []
lengthened index (l ∷ ls) (m ∷ ms) =
    result_and_then (λ one. joined (one ∷ []) (lengthened (index + 1) ls ms)) (in_module index (with_lengths l m))
