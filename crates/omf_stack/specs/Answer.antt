-- What a program's stack wants to have a length that is asked for.
use Rattle.std.specs.Prelude.{ℕ, ◌-◌, ◌==◌, min, Bool, nat_lt, if◌then◌else◌, List}
use Rattle.std.specs.List.{list_any}
use Rattle.std.specs.Option.{option_map_or}
use Rattle.std.specs.Str.{bytes_eq}
use Rattle.omf_module.specs.Module.{Group, Module, Segment}
use Rattle.omf_stack.specs.declared.stack.Stack as lent
use Rattle.omf_stack.specs.declared.stack.Stack.TheVariants as stack
use Rattle.omf_stack.specs.Records.{dgroup, new_bytes, part_bytes}
use Rattle.omf_stack.specs.Stack.{segments, stack_length, stack_part}

-- nothing, a module that has these bytes behind all others, or fewer bytes in the modules
pub data Answer : Type 0 where
  Enough TooLong : Answer
  Added : (bytes : List ℕ) → Answer

-- one without where its bytes lie in memory
abbrev pub answer_said : {A : Type 0} → lent.Stack A → Answer
answer_said stack.Enough = Enough
answer_said stack.TooLong = TooLong
answer_said (stack.Added bytes) = Added bytes.items

-- the length that is asked for: a segment has at most 65,536 bytes
abbrev pub length_asked : ℕ → ℕ
length_asked bytes = min bytes 65536

-- some module has a group DGROUP
abbrev pub is_dgroup : Group → Bool
is_dgroup g = bytes_eq g.name dgroup

abbrev pub has_dgroup : List Module → Bool
has_dgroup program = list_any (λ m. list_any is_dgroup m.groups) program

-- what a stack wants that has a length
abbrev pub wanted_by : (stack : Segment) → (length asked : ℕ) → Answer
wanted_by stack length asked =
    if nat_lt asked length then TooLong
    else if length == asked then Enough
    else Added (part_bytes stack (asked - length))

-- what a program wants
abbrev pub answer : List Module → (bytes : ℕ) → Answer
answer program bytes = option_map_or
    (λ stack. wanted_by stack (stack_length stack (segments program)) (length_asked bytes))
    (stack_part (segments program))
    (Added (new_bytes (has_dgroup program) (length_asked bytes)))
