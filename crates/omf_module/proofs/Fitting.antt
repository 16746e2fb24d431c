-- The promises of a module by recursion over its lists, for inductions.
use Rattle.std.proofs.Common.{ℕ, zero, suc, ◌+◌, ◌<◌, ◌≤◌, List, [], ◌∷◌, length, arith, slice_index_or}
use Rattle.std.specs.Prelude.{IfSome}
use Rattle.std.specs.List.{AllByRecursion}
use Rattle.omf_record.specs.Expansion.{AreCopies}
use Rattle.omf_module.specs.Module.{Segment, Group, ExternalSymbol, PublicSymbol, DataRecord, Module}
use Rattle.omf_module.specs.Sound.{IsShort, SegmentFits, BaseMeans, IsPart, IsMember, FixupFits, DataFits, StartFits}
use Rattle.omf_module.specs.Sound.{IsSound}

pub record DataFitting (ss : List Segment) (gs : List Group) (es : List ExternalSymbol) (d : DataRecord) : Type 0 where
  pub segment : Segment
  pub is_part : IsPart ss gs es d.segment segment
  pub inside : d.offset + length d.pairs ≤ segment.length
  pub copies : AreCopies d.pairs
  pub fixups : AllByRecursion (FixupFits ss gs es d) d.fixups

pub record Fitting (m : Module) : Type 0 where
  pub segments : AllByRecursion SegmentFits m.segments
  pub group_names : AllByRecursion (λ (g : Group). IsShort g.name) m.groups
  pub externals : AllByRecursion (λ (e : ExternalSymbol). IsShort e.name) m.externals
  pub public_names : AllByRecursion (λ (p : PublicSymbol). IsShort p.name × (p.offset < 65536)) m.publics
  pub groups : AllByRecursion (λ (g : Group). AllByRecursion (IsMember m.segments m.groups m.externals) g.members)
      m.groups
  pub publics : AllByRecursion (λ (p : PublicSymbol). BaseMeans m.segments m.groups m.externals p.base) m.publics
  pub data_records : AllByRecursion (DataFitting m.segments m.groups m.externals) m.data_records
  pub start : IfSome m.start (StartFits m.segments m.groups m.externals)

all_at : {X : Type 0} (P : X → Type 0) (xs : List X) → AllByRecursion P xs → (k : ℕ) (d : X) → k < length xs
    → P (slice_index_or xs k d)
all_at P [] h k d lt = absurd (omega arith)
all_at P (x ∷ xs) h zero d lt = h.0
all_at P (x ∷ xs) h (suc k) d lt = all_at P xs h.1 k d (omega arith)

data_fits : (ss : List Segment) (gs : List Group) (es : List ExternalSymbol) (d : DataRecord) → DataFitting ss gs es d
    → DataFits ss gs es d
data_fits ss gs es d h = record {
  segment = h.segment;
  is_part = h.is_part;
  inside = h.inside;
  copies = h.copies;
  fixups = all_at _ d.fixups h.fixups;
}

pub sound_is : (m : Module) → Fitting m → IsSound m
sound_is m h = record {
  segments = all_at _ m.segments h.segments;
  groups =
      λ k d lt. record {
        name = all_at _ m.groups h.group_names k d lt;
        members = all_at _ (slice_index_or m.groups k d).members (all_at _ m.groups h.groups k d lt);
      };
  externals = all_at _ m.externals h.externals;
  publics =
      λ k d lt.
      let n = all_at _ m.publics h.public_names k d lt in
      record { name = n.0; base = all_at _ m.publics h.publics k d lt; offset = n.1 };
  data_records =
      λ k d lt.
      data_fits m.segments m.groups m.externals (slice_index_or m.data_records k d)
      (all_at _ m.data_records h.data_records k d lt);
  start = h.start;
}
