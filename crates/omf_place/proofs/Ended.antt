-- What placement answers, from what its last step gives.
use Rattle.std.proofs.Common.{◌≡◌, ℕ, ◌<◌, ◌≤◌, true, false, cond, nat_lt, List, Option, Some, None, Result, Ok, Err}
use Rattle.std.proofs.Common.{refl, ap, sym, ◌∙◌, subst, arith}
use Rattle.std.proofs.lemmas.Bool.{ltb-true}
use Rattle.std.specs.Option.{option_map_or, option_or}
use Rattle.omf_module.specs.Module.{Module}
use Rattle.omf_place.specs.declared.names.Names.{Names}
use Rattle.omf_place.specs.Faults.{IsPlacedAs, PlacementFault, placement_fault, segment_fault}
use Rattle.omf_place.specs.Faults.{ProgramTooLarge}
use Rattle.omf_place.specs.inside.Steps.{later_fault, size_fault}
use Rattle.omf_place.specs.Layout.{Layout, layout_at}
use Rattle.omf_place.specs.Parts.{sites}
use Rattle.omf_place.specs.Placed.{IsPlaced}
use Rattle.omf_place.specs.inside.Placing.{IsFirstFault, IsOnlyLayout, IsOnlyPlacement}

or_first : {X : Type 0} (a b c : Option X) (f : X) → option_or a b ≡ Some f → option_or a (option_or b c) ≡ Some f
or_first None b c f e = ap (λ o. option_or o c) e
or_first (Some x) b c f e = e

-- what is given where a fault stands, and where none does
abbrev given : Layout → Option PlacementFault → Result Layout PlacementFault
given layout fault = option_map_or Err fault (Ok layout)

given-fault : (layout : Layout) {o : Option PlacementFault} {f : PlacementFault} → o ≡ Some f
    → given layout o ≡ Err f
given-fault layout e = ap (given layout) e

given-layout : (layout : Layout) {o : Option PlacementFault} → o ≡ None → given layout o ≡ Ok layout
given-layout layout e = ap (given layout) e

given-ok : (layout here : Layout) (o : Option PlacementFault) → Ok layout ≡ given here o → (o ≡ None) × (layout ≡ here)
given-ok layout here None e = (refl, (let f : layout ≡ here = cc in f))
given-ok layout here (Some f) e = cc

-- a program is placed as one thing
pub one_answer : (names : Names) (program : List Module) (one other : Result Layout PlacementFault)
    → IsPlacedAs names program one → IsPlacedAs names program other → one ≡ other
one_answer names program one other (A, size, placed, only, is) (B, end, also, _, there) =
    let same = only B end also in
    is ∙ ap (λ C. given (layout_at names program C size) (placement_fault names program C size)) (sym same.0)
    ∙ ap (λ n. given (layout_at names program B n) (placement_fault names program B n)) (sym same.1) ∙ sym there

pub one_layout : (names : Names) (program : List Module) (one other : Layout) → IsOnlyLayout names program one
    → IsOnlyLayout names program other → one ≡ other
one_layout names program one other is also =
    let same : Ok one ≡ Ok other = one_answer names program (Ok one) (Ok other) is also in cc

-- a layout is that at the only addresses, and no fault stands there
pub layout_stands : (names : Names) (program : List Module) (layout : Layout) → IsOnlyLayout names program layout
    → (addresses : List ℕ) × IsPlaced (sites program) addresses layout.size
    × (placement_fault names program addresses layout.size ≡ None)
    × (layout ≡ layout_at names program addresses layout.size)
layout_stands names program layout (A, size, placed, only, is) =
    let h = given-ok layout (layout_at names program A size) (placement_fault names program A size) is in
    let s : size ≡ layout.size = sym (ap (λ (l : Layout). l.size) h.1) in (
      A,
      subst (λ n. IsPlaced (sites program) A n) s placed,
      subst (λ n. placement_fault names program A n ≡ None) s h.0,
      subst (λ n. layout ≡ layout_at names program A n) s h.1,
    )

size_fits : (size : ℕ) → size ≤ 1048560 → size_fault size ≡ None
size_fits size h =
    (elim (nat_lt 1048560 size) as (λ b. nat_lt 1048560 size ≡ b → cond b (Some ProgramTooLarge) None ≡ None) [
      | true ↦ λ t. absurd (let l : 1048560 < size = ltb-true _ _ t in omega arith)
      | false ↦ λ t. refl
    ]) refl

module _ (names : Names) (program : List Module) (A : List ℕ) (size : ℕ) (placed : IsPlaced (sites program) A size)
    (only : IsOnlyPlacement (sites program) A size) where
  pub early-fault : (f : PlacementFault) → option_or (segment_fault (sites program) A) (size_fault size) ≡ Some f
      → IsFirstFault names program f
  early-fault f e = (
    A,
    size,
    placed,
    only,
    sym (given-fault (layout_at names program A size)
        (or_first (segment_fault (sites program) A) (size_fault size) (later_fault names program A) f e)),
  )

  module _ (short : segment_fault (sites program) A ≡ None) (fits : size ≤ 1048560) where
    later-is : placement_fault names program A size ≡ later_fault names program A
    later-is =
        ap (λ o. option_or o (option_or (size_fault size) (later_fault names program A))) short
        ∙ ap (λ o. option_or o (later_fault names program A)) (size_fits size fits)

    pub late-fault : (f : PlacementFault) → later_fault names program A ≡ Some f → IsFirstFault names program f
    late-fault f e = (A, size, placed, only, sym (given-fault (layout_at names program A size) (later-is ∙ e)))

    only_at : later_fault names program A ≡ None → IsOnlyLayout names program (layout_at names program A size)
    only_at none = (A, size, placed, only, sym (given-layout (layout_at names program A size) (later-is ∙ none)))

    pub only-layout : later_fault names program A ≡ None → (l : Layout) → l ≡ layout_at names program A size
        → IsOnlyLayout names program l
    only-layout none l e = subst (λ k. IsOnlyLayout names program k) (sym e) (only_at none)
