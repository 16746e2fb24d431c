-- What a record says that came after Intel's (TIS OMF 1.1, the section of each), free of how its body spells it.
-- Indexes are as read: they count from 1, and 0 means none.
use Rattle.std.specs.Prelude.{ℕ, Bool, List}
use Rattle.omf_wide.specs.Communals.{Communal}
use Rattle.omf_extended.specs.declared.comdats.Comdat as comdats
use Rattle.omf_extended.specs.declared.patches.Patch.{Patch}
use Rattle.omf_extended.specs.declared.patches.PatchLocation.{PatchLocation}
use Rattle.omf_extended.specs.declared.symbols.SymbolLine.{SymbolLine}

-- ALIAS: a name, and the one that it stands for
pub record Standing : Type 0 where
  pub name : List ℕ
  pub substitute : List ℕ

-- a record of each of the types; one that is wide has numbers of four bytes where others have two
pub data Extended : Type 0 where
  Comdef : (local : Bool) (communals : List Communal) (unknown : List ℕ) → Extended
  Alias : (aliases : List Standing) → Extended
  Comdat : (wide : Bool) (comdat : comdats.Comdat) (bytes : List ℕ) → Extended
  Linsym : (wide continuation : Bool) (name : ℕ) (lines : List SymbolLine) → Extended
  Bakpat : (wide : Bool) (segment : ℕ) (location : PatchLocation) (patches : List Patch) → Extended
  Nbkpat : (wide : Bool) (location : PatchLocation) (name : ℕ) (patches : List Patch) → Extended
  Lidata : (segment offset : ℕ) (content : List ℕ) → Extended
  Vernum : (text : List ℕ) → Extended
  Vendext : (vendor : ℕ) (bytes : List ℕ) → Extended
