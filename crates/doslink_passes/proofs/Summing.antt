-- Fix-ups and a start that were of 32 bits, and their sums.
use Rattle.std.proofs.Common.{◌≡◌, ◌≢◌, ◌⊎◌, ℕ, Bool, true, false, List, Some, None, Ok, Err, IfSome, cond, is_some}
use Rattle.std.proofs.Common.{inl, inr, refl, sym, subst, ap, ◌∙◌, true≢false}
use Rattle.std.specs.declared.option.Option.{Option}
use Rattle.std.specs.Option.{option_or}
use Rattle.omf_image.specs.Overflow.{first_overflow, start_overflow}
use Rattle.omf_module.specs.Module.{Module}
use Rattle.omf_place.specs.Faults.{PlacementFault}
use Rattle.omf_place.specs.inside.Placing.{IsFirstFault, IsOnlyLayout}
use Rattle.omf_place.proofs.Ended.{one_answer, one_layout}
use Rattle.omf_place.specs.Layout.{Layout}
use Rattle.omf_place.specs.Said.{said}
use Rattle.omf_place.specs.declared.faults.PlaceFault.{PlaceFault}
use Rattle.omf_place.specs.declared.faults.PlaceFault.TheVariants as held
use Rattle.omf_place.specs.declared.names.Names.{Names}
use Rattle.omf_plain.specs.declared.widths.Widths.{Widths}
use Rattle.doslink_passes.specs.declared.sums.Narrowed.{Narrowed}
use Rattle.doslink_passes.specs.Sums.{AllFit, HaveOverflow, SomeOverflows, narrow_fixups, narrow_start}
use Rattle.doslink_passes.specs.inside.Narrowed.{NoneOverflows, TellsSums}

-- ---- what is looked at

-- neither is too great
pub none-above : (fixup start : Option (ℕ × ℕ)) (narrow : Bool) → None ≡ option_or fixup (cond narrow start None)
    → (is_some fixup ≡ false) × (narrow ≡ true → is_some start ≡ false)
none-above None None narrow none = (refl, λ so. refl)
none-above None (Some x) true none = cc
none-above None (Some x) false none = (refl, λ so. cc)
none-above (Some x) start narrow none = cc

-- one is
pub some-above : (fixup start : Option (ℕ × ℕ)) (narrow : Bool) (at : ℕ × ℕ)
    → Some at ≡ option_or fixup (cond narrow start None)
    → (is_some fixup ≡ true) ⊎ ((narrow ≡ true) × (is_some start ≡ true))
some-above (Some x) start narrow at some = inl refl
some-above None (Some x) true at some = inr (refl, refl)
some-above None None true at some = cc
some-above None start false at some = cc

-- ---- whether a sum is too great

first-none : (names : Names) (modules : List Module) (fault : PlacementFault) (layout : Layout)
    → IsFirstFault names modules fault → IsOnlyLayout names modules layout → ⊥
first-none names modules fault layout first is =
    let clash : Err fault ≡ Ok layout = one_answer names modules (Err fault) (Ok layout) first is in cc

none-placed : {A : Type 0} (names : Names) (modules : List Module) (fault : PlaceFault A) (layout : Layout)
    → fault ≢ held.Memory → IfSome (said fault) (IsFirstFault names modules) → IsOnlyLayout names modules layout → ⊥
none-placed names modules held.Memory layout other first is = other refl
none-placed names modules (held.SegmentTooLong name) layout other first is =
    first-none names modules _ layout first is
none-placed names modules held.ProgramTooLarge layout other first is = first-none names modules _ layout first is
none-placed names modules (held.GroupTooLong name) layout other first is = first-none names modules _ layout first is
none-placed names modules (held.DuplicatePublic name) layout other first is =
    first-none names modules _ layout first is

module _ (found : Layout → List Module → Option (ℕ × ℕ)) (names : Names) (modules : List Module) where
  -- none is
  none-over : (layout : Layout) → IsOnlyLayout names modules layout → is_some (found layout modules) ≡ false
      → HaveOverflow found names modules → ⊥
  none-over layout is none (placed, only, over) =
      let there : placed ≡ layout = one_layout names modules placed layout only is in
      true≢false (sym over ∙ ap (λ l. is_some (found l modules)) there ∙ none)

  -- not where modules have no layout
  none-laid : {A : Type 0} (fault : PlaceFault A) → fault ≢ held.Memory
      → IfSome (said fault) (IsFirstFault names modules) → HaveOverflow found names modules → ⊥
  none-laid fault failed first (placed, only, over) = none-placed names modules fault placed failed first only

-- ---- which one is told

-- none of modules that have no layout
pub tells-unplaced : {A : Type 0} (narrowed : Narrowed) (names : Names) (modules : List Module)
    (fault : PlaceFault A) (at : Option (ℕ × ℕ)) → at ≡ None → fault ≢ held.Memory
    → IfSome (said fault) (IsFirstFault names modules) → TellsSums narrowed names modules at
tells-unplaced narrowed names modules fault at none failed first =
    subst (TellsSums narrowed names modules) (sym none) (record {
      fixups = none-laid first_overflow names modules fault failed first;
      start = λ narrow. none-laid start_overflow names modules fault failed first;
    })

-- the first of modules that have a layout
pub tells-first : (narrowed : Narrowed) (names : Names) (modules : List Module) (layout : Layout)
    (at : Option (ℕ × ℕ)) → IsOnlyLayout names modules layout
    → at ≡ option_or (first_overflow layout modules) (cond narrowed.start (start_overflow layout modules) None)
    → TellsSums narrowed names modules at
tells-first narrowed names modules layout None only is =
    let none = none-above (first_overflow layout modules) (start_overflow layout modules) narrowed.start is in
    record {
      fixups = none-over first_overflow names modules layout only none.0;
      start = λ narrow. none-over start_overflow names modules layout only (none.1 narrow);
    }
tells-first narrowed names modules layout (Some x) only is =
    elim (some-above (first_overflow layout modules) (start_overflow layout modules) narrowed.start x is) as
    (λ e. HaveOverflow first_overflow names modules
    ⊎ ((narrowed.start ≡ true) × HaveOverflow start_overflow names modules)) [
      | inl over ↦ inl (layout, only, over)
      | inr over ↦ inr (over.0, (layout, only, over.1))
    ]

-- ---- of what there is

-- nothing was of 32 bits
pub none-narrow : (widths : List Widths) (names : Names) (modules : List Module) → narrow_fixups widths ≡ false
    → narrow_start widths ≡ false → AllFit widths names modules
none-narrow widths names modules fixups start = record {
  fixups = λ some. absurd (true≢false (sym some ∙ fixups));
  start = λ some. absurd (true≢false (sym some ∙ start));
}

-- none is too great
pub all-fit : (narrowed : Narrowed) (widths : List Widths) (names : Names) (modules : List Module)
    → narrowed.start ≡ narrow_start widths → NoneOverflows narrowed names modules → AllFit widths names modules
all-fit narrowed widths names modules start none = record {
  fixups = λ some. none.fixups;
  start = λ some. none.start (start ∙ some);
}

-- one is
pub one-over : (narrowed : Narrowed) (widths : List Widths) (names : Names) (modules : List Module)
    → narrowed.start ≡ narrow_start widths
    → HaveOverflow first_overflow names modules
    ⊎ ((narrowed.start ≡ true) × HaveOverflow start_overflow names modules) → SomeOverflows widths names modules
one-over narrowed widths names modules start (inl over) = inl over
one-over narrowed widths names modules start (inr over) = inr (sym start ∙ over.0, over.1)

-- the same told of what is seen of modules
pub told-sums : (n : Narrowed) (names seen : Names) (modules held : List Module) (at found : Option (ℕ × ℕ))
    → seen ≡ names → held ≡ modules → found ≡ at → TellsSums n seen held found → TellsSums n names modules at
told-sums n names seen modules held at found named same is tells =
    subst (TellsSums n names modules) is
    (subst (λ ms. TellsSums n names ms found) same (subst (λ ns. TellsSums n ns held found) named tells))
