-- What a whole module says (TIS OMF 1.1, the section of each record). Segments, groups and externals are numbered from
-- 0 in their lists.
-- A local name is known in its own module alone; externals and publics, local ones and others, stand in one list each.
use Rattle.std.specs.Prelude.{ℕ, Bool, List, Option}
use Rattle.omf_module.specs.declared.Standing.{Standing}
use Rattle.omf_record.specs.declared.externals.PublicBase.{PublicBase}
use Rattle.omf_module.specs.declared.ResolvedFixup.{ResolvedFixup}
use Rattle.omf_module.specs.declared.Start.{Start}

-- a segment: its name and class, its length in bytes, and where it stands
pub record Segment : Type 0 where
  pub name : List ℕ
  pub class : List ℕ
  pub length : ℕ
  pub standing : Standing

-- a part of a group: its members are segments of this module
pub record Group : Type 0 where
  pub name : List ℕ
  pub members : List ℕ

-- a name that the module uses
pub record ExternalSymbol : Type 0 where
  pub name : List ℕ
  pub local : Bool

-- a name that the module defines, and where
pub record PublicSymbol : Type 0 where
  pub name : List ℕ
  pub base : PublicBase
  pub offset : ℕ
  pub local : Bool

-- a data record: its place, the segment and offset where its data begins, the data as pairs of a stored place and a
-- byte, with the fix-ups on it
pub record DataRecord : Type 0 where
  pub place : ℕ
  pub segment : ℕ
  pub offset : ℕ
  pub pairs : List (ℕ × ℕ)
  pub fixups : List ResolvedFixup

-- the whole module, and where the program starts if it says so
pub record Module : Type 0 where
  pub segments : List Segment
  pub groups : List Group
  pub externals : List ExternalSymbol
  pub publics : List PublicSymbol
  pub data_records : List DataRecord
  pub start : Option Start
