-- The tables of a module, as its records fill them.
use Rattle.std.specs.Prelude.{ℕ, List}
use Rattle.omf_module.specs.Module.{Segment, Group, ExternalSymbol, PublicSymbol, DataRecord}

-- the names, and what the records so far define
pub record Kept : Type 0 where
  pub names : List (List ℕ)
  pub segments : List Segment
  pub groups : List Group
  pub externals : List ExternalSymbol
  pub publics : List PublicSymbol
  pub data_records : List DataRecord
