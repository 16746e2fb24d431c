-- What records have said so far, and one record more.
use Rattle.std.proofs.Common.{◌≡◌, ℕ, zero, suc, ◌+◌, true, false, List, [], ◌∷◌, ◌++◌, length, None, ap, ◌∙◌, arith}
use Rattle.std.proofs.Common.{length-append}
use Rattle.omf_record.specs.Records.{Placed}
use Rattle.omf_module.specs.declared.fault.CheckFault.TheVariants.{GroupOfAbsolute}
use Rattle.omf_module.specs.Before.{entry}
use Rattle.omf_module.specs.Faults.{component_fault, is_absolute}
use Rattle.omf_module.specs.inside.Checking.{begun, when}
use Rattle.omf_module.specs.Module.{Segment}
use Rattle.omf_module.specs.Tables.{groups_in, names, segments_in}
use Rattle.omf_module.specs.inside.Said.{groups, segments}
use Rattle.omf_module.specs.inside.Said.{names_in}
use Rattle.omf_module.proofs.Growing.{begun_push}
use Rattle.omf_write.proofs.Clean.{groups-push, names-push, segments-push}

-- what records say so far: how many names, segments and groups
pub record Ready (n s g : ℕ) (before : List Placed) : Type 0 where
  pub is_begun : begun before ≡ true
  pub name_count : length (names before) ≡ n
  pub segment_count : length (segments before) ≡ s
  pub group_count : length (groups before) ≡ g

-- one record more, by how many names, segments and groups it has
pub ready-more : (n s g : ℕ) (before : List Placed) (x : Placed) → Ready n s g before →
    Ready (n + length (names_in x.says)) (s + length (segments_in (names before) x.says))
    (g + length (groups_in (names before) x.says)) (before ++ x ∷ [])
ready-more n s g before x r = record {
  is_begun = begun_push before x;
  name_count =
      ap length (names-push before x) ∙ length-append (names before) (names_in x.says)
      ∙ ap (λ k. k + length (names_in x.says)) r.name_count;
  segment_count =
      ap length (segments-push before x) ∙ length-append (segments before) (segments_in (names before) x.says)
      ∙ ap (λ k. k + length (segments_in (names before) x.says)) r.segment_count;
  group_count =
      ap length (groups-push before x) ∙ length-append (groups before) (groups_in (names before) x.says)
      ∙ ap (λ k. k + length (groups_in (names before) x.says)) r.group_count;
}

pub ready-as : (n s g m t h : ℕ) (before : List Placed) → n ≡ m → s ≡ t → g ≡ h → Ready n s g before
    → Ready m t h before
ready-as n s g m t h before e f k r = record {
  is_begun = r.is_begun;
  name_count = r.name_count ∙ e;
  segment_count = r.segment_count ∙ f;
  group_count = r.group_count ∙ k;
}

-- the segment behind others may stand in a group
pub component_last : (ss : List Segment) (x : Segment) (k : ℕ) → length ss ≡ k → is_absolute x.standing ≡ false
    → component_fault (entry (ss ++ x ∷ []) (suc k)) ≡ None
component_last [] x zero e h = ap (λ t. when t GroupOfAbsolute) h
component_last [] x (suc k) e h = absurd (omega (arith, e))
component_last (s ∷ ss) x zero e h = absurd (omega (arith, e))
component_last (s ∷ ss) x (suc k) e h = component_last ss x k (omega (arith, e)) h
