-- The layout of what was linked is bounded.
use Rattle.std.proofs.Common.{◌≡◌, ℕ, ◌≤◌, inl, inr, nat_lt, true, List, Result, Ok, Err, IfOk, Some, None, refl}
use Rattle.std.proofs.Common.{sym, subst, ◌∙◌}
use Rattle.std.proofs.lemmas.Bool.{cases_lt, lt-ltb}
use Rattle.std.specs.declared.option.Option.{Option}
use Rattle.std.specs.Option.{option_or}
use Rattle.omf_module.specs.Module.{Module}
use Rattle.omf_place.specs.Bounded.{IsBounded}
use Rattle.omf_place.specs.Faults.{ProgramTooLarge, segment_fault}
use Rattle.omf_place.specs.inside.Placing.{IsOnlyLayout}
use Rattle.omf_place.specs.inside.Steps.{later_fault, size_fault}
use Rattle.omf_place.specs.Layout.{Layout}
use Rattle.omf_place.specs.Parts.{sites}
use Rattle.omf_place.specs.declared.names.Names.{Names}
use Rattle.omf_place.proofs.Bounding.{bounded}
use Rattle.omf_place.proofs.Ended.{layout_stands}
use Rattle.omf_faults.specs.declared.fault.LinkFault.{LinkFault}
use Rattle.omf_commands.specs.declared.linking.Report.{Report}
use Rattle.omf_commands.specs.Modules.{LinksModules}

or_none : {X : Type 0} (a b : Option X) → option_or a b ≡ None → (a ≡ None) × (b ≡ None)
or_none None b e = (refl, e)
or_none (Some x) b e = cc

size_fits : (size : ℕ) → size_fault size ≡ None → size ≤ 1048560
size_fits size none = elim (cases_lt 1048560 size) [
  | inl h ↦ absurd (let test : nat_lt 1048560 size ≡ true = lt-ltb 1048560 size h in
      let some : size_fault size ≡ Some ProgramTooLarge = rw test refl in
      let e : Some ProgramTooLarge ≡ None = sym some ∙ none in cc)
  | inr h ↦ h
]

bounded_layout : (names : Names) (program : List Module) (layout : Layout) → IsOnlyLayout names program layout
    → IsBounded program layout
bounded_layout names program layout only =
    let (addresses, placed, none, is) = layout_stands names program layout only in
    let first =
    or_none (segment_fault (sites program) addresses)
    (option_or (size_fault layout.size) (later_fault names program addresses)) none in
    let second = or_none (size_fault layout.size) (later_fault names program addresses) first.1 in
    bounded names program addresses layout.size placed first.0 (size_fits layout.size second.0) layout is

pub bounded_report : {A : Type 0} (names : Names) (modules : List Module) (wold wnew : Option (List ℕ))
    (r : Result (Report A) (LinkFault A)) → LinksModules names modules wold wnew r
    → IfOk r (λ report. IsBounded report.modules.items report.layout)
bounded_report names modules wold wnew (Ok report) (is, file) =
    subst (λ ms. IsBounded ms report.layout) (sym is.read)
    (bounded_layout names modules report.layout is.linked.is_layout)
bounded_report names modules wold wnew (Err fault) links = tt
