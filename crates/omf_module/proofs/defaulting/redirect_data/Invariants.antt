use Rattle.std.proofs.Common.{◌≡◌, ℕ, List, ◌++◌, map, take, drop}
use Rattle.std.specs.List.{AllByRecursion}
use Rattle.omf_module.specs.Defaulted.{data_in}
use Rattle.omf_module.specs.inside.Store.{data_record, DataIsIn}
use Rattle.omf_module.proofs.defaulting.redirect_data.Given as goal

-- those before the index are changed, and all keep their bytes and places
abbrev pub invariant-loop-index : goal.invariant-loop-index
invariant-loop-index g l = record {
  says : (bytes places : List ℕ) → map (data_record bytes places) l.data_records
      ≡ map (data_in l.meanings) (take l.index (map (data_record bytes places) l.fn.data_records))
      ++ drop l.index (map (data_record bytes places) l.fn.data_records);
  inside : (bytes places : List ℕ) → AllByRecursion (DataIsIn bytes places) l.fn.data_records
      → AllByRecursion (DataIsIn bytes places) l.data_records;
}
