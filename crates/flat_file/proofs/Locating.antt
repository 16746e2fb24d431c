-- What stands in a file of each form, at the address of a program's byte.
use Rattle.std.proofs.Common.{◌≡◌, ℕ, zero, suc, ◌+◌, ◌-◌, ◌*◌, ◌%◌, ◌≤◌, ◌<◌, ◌==◌, ◌&&◌, Bool, true, false, not, min}
use Rattle.std.proofs.Common.{List, [], ◌∷◌}
use Rattle.std.proofs.Common.{take, drop, length, get_or, slice_get, Option, Some, None, Ok, refl, ap, ◌∙◌, sym, subst, arith}
use Rattle.std.specs.Bool.{then_some}
use Rattle.flat_file.specs.declared.fault.FormFault.TheVariants.{DataBelow, Relocated}
use Rattle.std.specs.Prelude.{nat_lt, is_some, IsTrue}
use Rattle.std.proofs.lemmas.Bool.{and_parts, cond-false, cond-true, eqb-true, ltb-false, true≢false}
use Rattle.std.proofs.lemmas.List.{get_or-drop, get_or-take, length-drop, length-take}
use Rattle.std.proofs.lemmas.Option.{slice_get-get_or}
use Rattle.omf_module.specs.Module.{Module}
use Rattle.omf_place.specs.declared.layout.Combined.{Combined}
use Rattle.omf_place.specs.Layout.{Layout}
use Rattle.omf_image.specs.declared.start.Registers.{Registers}
use Rattle.omf_image.specs.Building.{IsProgramOf}
use Rattle.omf_image.specs.Program.{Program, IsProgram}
use Rattle.omf_image.specs.Records.{entries, program_byte, written}
use Rattle.omf_image.specs.Registers.{registers, stack, stack_of}
use Rattle.omf_image.specs.Words.{add_words}
use Rattle.flat_file.specs.Covered.{is_covered, first_covered, memory_len}
use Rattle.flat_file.specs.Forms.{bin_bytes, com_bytes, com_fault, from_start_bytes, from_start_fault, has_relocations}
use Rattle.flat_file.specs.Forms.{one_segment_fault, raw_fault, starts_at_0, sys_bytes, sys_fault}
use Rattle.flat_file.specs.Com.{LoadedCom, loaded, loading}
use Rattle.flat_file.specs.Laws.{IsLocatedCom, IsLocatedFrom, IsLocatedSegment, IsWholeFrom}
use Rattle.flat_file.proofs.Moving.{length-add_words}
use Rattle.flat_file.proofs.Covering.{around}
use Rattle.flat_file.proofs.Choosing.{NoneOf, none_of, segment_fits}
use Rattle.flat_file.proofs.Fitting.{does_fit}

none_there : (rs : List ℕ) → nat_lt 0 (length rs) ≡ false → rs ≡ []
none_there [] h = refl
none_there (r ∷ rs) h = absurd (let l = ltb-false 0 (length (r ∷ rs)) h in omega (arith, l))

not_there : (o : Option Combined) → is_some o ≡ false → o ≡ None
not_there None h = refl
not_there (Some c) h = absurd (true≢false h)

unrelocated : (b : Bool) → then_some b Relocated ≡ None → b ≡ false
unrelocated true h = cc
unrelocated false h = refl

none_below : (b : Bool) → then_some b DataBelow ≡ None → b ≡ false
none_below true h = cc
none_below false h = refl

slice_get-take : {X : Type 0} (n : ℕ) (xs : List X) (i : ℕ) → i < n → slice_get (take n xs) i ≡ slice_get xs i
slice_get-take zero xs i h = absurd (omega (arith, h))
slice_get-take (suc n) [] i h = refl
slice_get-take (suc n) (x ∷ xs) zero h = refl
slice_get-take (suc n) (x ∷ xs) (suc i) h = slice_get-take n xs i (omega (arith, h))

from_not : (b : Bool) → not b ≡ false → b ≡ true
from_not true h = refl
from_not false h = absurd (true≢false h)

-- without relocated words the paragraph doesn't count
pub at_any : (P from : ℕ) (p : Program) → has_relocations p ≡ false
    → bin_bytes P from p ≡ drop from (take p.written p.image)
at_any P from p h =
    ap (λ (rs : List ℕ). drop from (take p.written (add_words P rs p.image))) (none_there p.relocations h)

module _ (layout : Layout) (modules : List Module) (p : Program) (of : IsProgramOf layout modules p) where
  pub lies_around : (a : ℕ) → IsTrue (is_covered layout modules a)
      → (first_covered layout modules ≤ a) × (a < p.written)
  lies_around a h =
      let both = around layout a memory_len 0 (entries modules) h in
      let w = of.written in (both.0, omega (arith, both.1, w))

  module _ (is : IsProgram p) where
    -- the byte at an address of the written part
    pub byte_at : (P from a : ℕ) → from ≤ a → a < p.written
        → slice_get (bin_bytes P from p) (a - from) ≡ Some (program_byte P layout modules a)
    byte_at P from a low high =
        let whole = add_words P p.relocations p.image in
        let file = take p.written whole in
        let within = is.written in
        let sized = of.sized in
        let long = length-add_words P p.relocations p.image in
        let n = length-take p.written whole in
        let m = length-drop from file in
        let place : from + (a - from) ≡ a = omega arith in
        slice_get-get_or (drop from file) (a - from) 0 (omega (arith, n, m, long, within, low, high))
        ∙ ap (λ (b : ℕ). Some b)
        (get_or-drop from file (a - from) 0 ∙ ap (λ (i : ℕ). get_or file i 0) place
        ∙ get_or-take p.written whole a 0 high
        ∙ of.everywhere P a (omega (arith, sized, within, high)))

    pub bin_is_located : (P from : ℕ) → IsLocatedFrom P from layout modules (bin_bytes P from p)
    bin_is_located P from =
        let whole = add_words P p.relocations p.image in
        let n = length-take p.written whole in
        let m = length-drop from (take p.written whole) in
        let long = length-add_words P p.relocations p.image in
        let within = is.written in
        let w = of.written in record {
          size = omega (arith, n, m, long, within, w);
          bytes = λ a low high. byte_at P from a low (omega (arith, w, high));
        }

    -- no data lies below the begin of a raw image, since all of it lies in memory
    pub raw_is_whole : (from : ℕ) → raw_fault from layout modules ≡ None → IsWholeFrom from layout modules
    raw_is_whole from none a covered =
        let ends = lies_around a covered in
        let least = min from memory_len in
        let first =
        ltb-false (first_covered layout modules) least (none_below (nat_lt (first_covered layout modules) least) none) in
        let within = is.written in
        let short = is.short in
        omega (arith, first, ends.0, ends.1, within, short)

    pub sys_is_located : sys_fault p ≡ None → (P : ℕ) → IsLocatedFrom P 0 layout modules (sys_bytes p)
    sys_is_located none P =
        subst (IsLocatedFrom P 0 layout modules) (at_any P 0 p (unrelocated (has_relocations p) none))
        (bin_is_located P 0)

    module _ (none : com_fault layout modules p ≡ None) (psp : ℕ) (fits : 16 * psp + 65536 ≤ memory_len) where
      pub faults : NoneOf (has_relocations p) (is_some (stack layout modules))
          (not (p.registers.cs == 0 && p.registers.ip == 256)) (nat_lt (first_covered layout modules) 256)
          (nat_lt 65536 (length p.image))
      unfolding com_fault
      faults =
          none_of (has_relocations p) (is_some (stack layout modules))
          (not (p.registers.cs == 0 && p.registers.ip == 256)) (nat_lt (first_covered layout modules) 256)
          (nat_lt 65536 (length p.image)) none

      pub com_is_loaded : loading psp (com_bytes p) ≡ Ok (loaded psp (com_bytes p))
      com_is_loaded =
          let short = ltb-false 65536 (length p.image) faults.length in
          let n = length-take p.written p.image in
          let m = length-drop 256 (take p.written p.image) in
          does_fit psp (com_bytes p) (omega (arith, n, m, short)) fits

      com_above : (a : ℕ) → IsTrue (is_covered layout modules a) → 256 ≤ a
      com_above a covered =
          let ends = lies_around a covered in
          let first = ltb-false (first_covered layout modules) 256 faults.data' in
          omega (arith, first, ends.0)

      com_byte_at : (a : ℕ) → 256 ≤ a → a < written layout modules → a < 65534
          → slice_get (take 65278 (com_bytes p)) (a - 256) ≡ Some (program_byte psp layout modules a)
      com_byte_at a low high below =
          let inner : a - 256 < 65278 = omega (arith, low, below) in
          let w = of.written in
          slice_get-take 65278 (com_bytes p) (a - 256) inner
          ∙ ap (λ (l : List ℕ). slice_get l (a - 256)) (sym (at_any psp 256 p faults.relocated))
          ∙ byte_at psp 256 a low (omega (arith, w, high))

      pub com_is_located : IsLocatedCom psp layout modules (loaded psp (com_bytes p))
      unfolding registers
      com_is_located =
          let start = and_parts (p.registers.cs == 0) (p.registers.ip == 256) (from_not _ faults.start) in
          let cs = eqb-true p.registers.cs 0 start.0 in
          let ip = eqb-true p.registers.ip 256 start.1 in
          let each = of.at_each psp in
          let small : psp ≡ psp % 65536 = omega (arith, fits) in
          let first : psp ≡ (p.registers.cs + psp) % 65536 = omega (arith, cs, fits) in
          record {
            above = com_above;
            bytes = com_byte_at;
            cs = first ∙ sym (ap (λ (r : Registers). r.cs) each);
            ip = sym ip ∙ sym (ap (λ (r : Registers). r.ip) each);
            ss =
                small
                ∙ sym
                (ap (λ (o : Option Combined). (stack_of psp o).0) (not_there (stack layout modules) faults.stack));
          }

    -- ---- the file that begins at the start

    module _ (none : from_start_fault layout modules p ≡ None) where
      module _ (at_0 : starts_at_0 p ≡ true) where
        segment_is : from_start_bytes p ≡ sys_bytes p
        segment_is = cond-true (starts_at_0 p) (sys_bytes p) (com_bytes p) at_0

        fits_in_one : (has_relocations p ≡ false) × (nat_lt 65536 (length p.image) ≡ false)
        fits_in_one =
            let chosen =
            cond-true (starts_at_0 p) (one_segment_fault layout modules p) (com_fault layout modules p) at_0 in
            segment_fits layout modules p (sym chosen ∙ none)

        segment_short : length (from_start_bytes p) ≤ 65536
        segment_short =
            let short = ltb-false 65536 (length p.image) fits_in_one.1 in
            let n = length-take p.written p.image in
            let l = ap length segment_is in
            omega (arith, n, short, l)

        pub segment_is_located : (P : ℕ) → IsLocatedSegment P layout modules (from_start_bytes p)
        segment_is_located P =
            let start = and_parts (p.registers.cs == 0) (p.registers.ip == 0) at_0 in
            let cs = eqb-true p.registers.cs 0 start.0 in
            let ip = eqb-true p.registers.ip 0 start.1 in
            let each = of.at_each P in
            let first : (p.registers.cs + P) % 65536 ≡ P % 65536 = omega (arith, cs) in
            record {
              located =
                  subst (IsLocatedFrom P 0 layout modules) (at_any P 0 p fits_in_one.0 ∙ sym segment_is)
                  (bin_is_located P 0);
              short = segment_short;
              cs = ap (λ (r : Registers). r.cs) each ∙ first;
              ip = ap (λ (r : Registers). r.ip) each ∙ ip;
            }

      module _ (at_100h : starts_at_0 p ≡ false) (psp : ℕ) (fits : 16 * psp + 65536 ≤ memory_len) where
        com_is : from_start_bytes p ≡ com_bytes p
        com_is = cond-false (starts_at_0 p) (sys_bytes p) (com_bytes p) at_100h

        of_com : com_fault layout modules p ≡ None
        of_com =
            let chosen =
            cond-false (starts_at_0 p) (one_segment_fault layout modules p) (com_fault layout modules p) at_100h in
            sym chosen ∙ none

        pub from_start_is_loaded : (memory : LoadedCom) × (loading psp (from_start_bytes p) ≡ Ok memory)
            × IsLocatedCom psp layout modules memory
        from_start_is_loaded = (
          loaded psp (com_bytes p),
          ap (loading psp) com_is ∙ com_is_loaded of_com psp fits,
          com_is_located of_com psp fits,
        )
