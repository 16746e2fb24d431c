-- The first of the faults of a .COM file, and of one segment, by what stands.
use Rattle.std.proofs.Common.{◌≡◌, ◌==◌, ℕ, Bool, true, false, List, [], ◌∷◌, length, Option, Some, None, refl, sym, ap}
use Rattle.std.proofs.Common.{◌∙◌}
use Rattle.std.proofs.Common.{arith, ◌&&◌, not}
use Rattle.std.specs.Prelude.{is_some, nat_lt}
use Rattle.std.proofs.lemmas.Bool.{eqb-true, eqb-false, lt-ltb, le-ltb}
use Rattle.std.specs.Bool.{then_some}
use Rattle.omf_module.specs.Before.{first}
use Rattle.omf_module.specs.Module.{Module}
use Rattle.omf_place.specs.Layout.{Layout}
use Rattle.omf_image.specs.Program.{Program}
use Rattle.omf_image.specs.Registers.{stack}
use Rattle.flat_file.specs.Covered.{first_covered}
use Rattle.flat_file.specs.Forms.{com_fault, has_relocations, one_segment_fault}
use Rattle.flat_file.specs.declared.fault.FormFault.{FormFault}
use Rattle.flat_file.specs.declared.fault.FormFault.TheVariants.{Relocated, StackSegment, OtherStart, DataBelow}
use Rattle.flat_file.specs.declared.fault.FormFault.TheVariants.{TooLong}

-- the first of five
abbrev pub first_of : (r s o d l : Bool) → Option FormFault
first_of r s o d l =
    first (then_some r Relocated ∷ then_some s StackSegment ∷ then_some o OtherStart ∷ then_some d DataBelow
    ∷ then_some l TooLong ∷ [])

pub relocated : (r s o d l : Bool) → r ≡ true → Some Relocated ≡ first_of r s o d l
relocated true s o d l h = refl
relocated false s o d l h = cc

pub stack_segment : (r s o d l : Bool) → r ≡ false → s ≡ true → Some StackSegment ≡ first_of r s o d l
stack_segment true s o d l h i = cc
stack_segment false true o d l h i = refl
stack_segment false false o d l h i = cc

pub other_start : (r s o d l : Bool) → r ≡ false → s ≡ false → o ≡ true → Some OtherStart ≡ first_of r s o d l
other_start true s o d l h i j = cc
other_start false true o d l h i j = cc
other_start false false true d l h i j = refl
other_start false false false d l h i j = cc

pub data_below : (r s o d l : Bool) → r ≡ false → s ≡ false → o ≡ false → d ≡ true
    → Some DataBelow ≡ first_of r s o d l
data_below true s o d l h i j k = cc
data_below false true o d l h i j k = cc
data_below false false true d l h i j k = cc
data_below false false false true l h i j k = refl
data_below false false false false l h i j k = cc

pub too_long : (r s o d l : Bool) → r ≡ false → s ≡ false → o ≡ false → d ≡ false → l ≡ true
    → Some TooLong ≡ first_of r s o d l
too_long true s o d l h i j k m = cc
too_long false true o d l h i j k m = cc
too_long false false true d l h i j k m = cc
too_long false false false true l h i j k m = cc
too_long false false false false true h i j k m = refl
too_long false false false false false h i j k m = cc

pub no_fault : (r s o d l : Bool) → r ≡ false → s ≡ false → o ≡ false → d ≡ false → l ≡ false
    → None ≡ first_of r s o d l
no_fault true s o d l h i j k m = cc
no_fault false true o d l h i j k m = cc
no_fault false false true d l h i j k m = cc
no_fault false false false true l h i j k m = cc
no_fault false false false false true h i j k m = cc
no_fault false false false false false h i j k m = refl

-- none of them
pub record NoneOf (r s o d l : Bool) : Type 0 where
  pub relocated : r ≡ false
  pub stack : s ≡ false
  pub start : o ≡ false
  pub data' : d ≡ false
  pub length : l ≡ false

pub none_of : (r s o d l : Bool) → first_of r s o d l ≡ None → NoneOf r s o d l
none_of true s o d l h = cc
none_of false true o d l h = cc
none_of false false true d l h = cc
none_of false false false true l h = cc
none_of false false false false true h = cc
none_of false false false false false h =
    record { relocated = refl; stack = refl; start = refl; data' = refl; length = refl }

-- whether a list that was looked at has a word
pub some_there : (rs qs : List ℕ) (b : Bool) → b ≡ (length qs == 0) → qs ≡ rs → b ≡ false
    → nat_lt 0 (length rs) ≡ true
some_there rs qs b is same h =
    let n = eqb-false (length qs) 0 (sym is ∙ h) in
    lt-ltb 0 (length rs) (omega (arith, n, ap length same))

pub none_there : (rs qs : List ℕ) (b : Bool) → b ≡ (length qs == 0) → qs ≡ rs → b ≡ true
    → nat_lt 0 (length rs) ≡ false
none_there rs qs b is same h =
    let n = eqb-true (length qs) 0 (sym is ∙ h) in
    le-ltb 0 (length rs) (omega (arith, n, ap length same))

-- where a program can be a .COM file no word is relocated
pub none_relocated : (layout : Layout) (modules : List Module) (p : Program) → com_fault layout modules p ≡ None
    → has_relocations p ≡ false
unfolding com_fault
none_relocated layout modules p none =
    (none_of (has_relocations p) (is_some (stack layout modules))
    (not (p.registers.cs == 0 && p.registers.ip == 256)) (nat_lt (first_covered layout modules) 256)
    (nat_lt 65536 (length p.image)) none).relocated

-- ---- of one segment

-- the first of three
abbrev pub first_of_three : (r s l : Bool) → Option FormFault
first_of_three r s l = first (then_some r Relocated ∷ then_some s StackSegment ∷ then_some l TooLong ∷ [])

pub segment_relocated : (r s l : Bool) → r ≡ true → Some Relocated ≡ first_of_three r s l
segment_relocated true s l h = refl
segment_relocated false s l h = cc

pub segment_stack : (r s l : Bool) → r ≡ false → s ≡ true → Some StackSegment ≡ first_of_three r s l
segment_stack true s l h i = cc
segment_stack false true l h i = refl
segment_stack false false l h i = cc

pub segment_too_long : (r s l : Bool) → r ≡ false → s ≡ false → l ≡ true → Some TooLong ≡ first_of_three r s l
segment_too_long true s l h i j = cc
segment_too_long false true l h i j = cc
segment_too_long false false true h i j = refl
segment_too_long false false false h i j = cc

pub segment_no_fault : (r s l : Bool) → r ≡ false → s ≡ false → l ≡ false → None ≡ first_of_three r s l
segment_no_fault true s l h i j = cc
segment_no_fault false true l h i j = cc
segment_no_fault false false true h i j = cc
segment_no_fault false false false h i j = refl

-- without a fault no word is relocated, and the program is no longer than a segment
none_of_three : (r s l : Bool) → first_of_three r s l ≡ None → (r ≡ false) × (l ≡ false)
none_of_three true s l h = cc
none_of_three false true l h = cc
none_of_three false false true h = cc
none_of_three false false false h = (refl, refl)

pub segment_fits : (layout : Layout) (modules : List Module) (p : Program) → one_segment_fault layout modules p ≡ None
    → (has_relocations p ≡ false) × (nat_lt 65536 (length p.image) ≡ false)
unfolding one_segment_fault
segment_fits layout modules p none =
    none_of_three (has_relocations p) (is_some (stack layout modules)) (nat_lt 65536 (length p.image)) none
