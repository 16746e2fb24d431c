-- The bytes of a module that is added are those of a whole module that no check refuses.
use Rattle.std.specs.Prelude.{◌≡◌, ℕ, All, List}
use Rattle.std.specs.List.{AllByRecursion}
use Rattle.omf_frame.specs.Primitives.{IsBytes}
use Rattle.omf_module.specs.Bytes.{ModuleBytes}
use Rattle.omf_module.specs.Module.{Module, Segment}
use Rattle.omf_module.specs.Sound.{IsSound}
use Rattle.omf_record.specs.Records.{Placed}
use Rattle.omf_stack.specs.Answer.{Added, answer}
use Rattle.omf_stack.specs.Stack.{segments}

-- name and class of a segment are bytes
abbrev pub IsOfBytes : Segment → Type 0
IsOfBytes s = IsBytes s.name × IsBytes s.class

-- so they are for all modules that were read
abbrev pub AreWhole : Type 0
AreWhole =
    (program : List Module) (asked : ℕ) (bytes : List ℕ) → All IsSound program →
    AllByRecursion IsOfBytes (segments program) → answer program asked ≡ Added bytes →
    (rs : List Placed) × ModuleBytes rs bytes
