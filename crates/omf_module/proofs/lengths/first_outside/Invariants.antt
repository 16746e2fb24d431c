use Rattle.std.proofs.Common.{◌≡◌, map, drop}
use Rattle.std.specs.Bool.{then_some}
use Rattle.omf_module.specs.Before.{first}
use Rattle.omf_module.specs.Lengths.{is_outside}
use Rattle.omf_module.specs.Module.{DataRecord}
use Rattle.omf_module.proofs.lengths.first_outside.Given as goal

-- those that are left decide
abbrev pub invariant-loop-index : goal.invariant-loop-index
invariant-loop-index g l =
    let told = λ (d : DataRecord). then_some (is_outside l.store.segments d) d.place in
    first (map told (drop l.index l.store.data_records)) ≡ first (map told l.store.data_records)
