-- The bytes of an order module are those of a whole module that no check refuses.
use Rattle.std.specs.Prelude.{◌≤◌, All, List, length}
use Rattle.std.specs.List.{AllByRecursion}
use Rattle.omf_frame.specs.Primitives.{IsBytes}
use Rattle.omf_module.specs.Bytes.{ModuleBytes}
use Rattle.omf_module.specs.Module.{Module, Segment}
use Rattle.omf_module.specs.Sound.{IsSound}
use Rattle.omf_place.specs.declared.names.Names.{Names}
use Rattle.omf_record.specs.Records.{Placed}
use Rattle.omf_order.specs.declared.order.Order.{Order}
use Rattle.omf_order.specs.Answer.{part_limit}
use Rattle.omf_order.specs.Plan.{plan}
use Rattle.omf_order.specs.Records.{module_bytes}

-- name and class of a segment are bytes
abbrev pub IsOfBytes : Segment → Type 0
IsOfBytes s = IsBytes s.name × IsBytes s.class

-- those of a module
abbrev pub HasByteNames : Module → Type 0
HasByteNames m = AllByRecursion IsOfBytes m.segments

-- the bytes for a program are those of a whole module
abbrev pub IsWhole : Order → Names → List Module → Type 0
IsWhole order names program = (rs : List Placed) × ModuleBytes rs (module_bytes (plan order names program))

-- so they are for all modules that were read, where there are few enough parts
abbrev pub AreWhole : Type 0
AreWhole =
    (order : Order) (names : Names) (program : List Module) → All IsSound program → AllByRecursion HasByteNames program →
    length (plan order names program).parts ≤ part_limit → IsWhole order names program
