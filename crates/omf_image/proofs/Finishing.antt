-- From the first state to the last, and from there to the program.
use Rattle.std.proofs.Common.{◌≡◌, ℕ, zero, suc, ◌+◌, ◌<◌, ◌≤◌, Bool, false, cond, ◌||◌, ltb, eqb, List, [], ◌∷◌, map}
use Rattle.std.proofs.Common.{filter, length, get_or, replicate, All, AllPairs, Option, Some, None, refl, ap, ◌∙◌, sym}
use Rattle.std.proofs.Common.{arith, subst}
use Rattle.std.proofs.Math.Bool.{or-false}
use Rattle.std.specs.List.{list_any, range_with_len}
use Rattle.std.proofs.lemmas.List.Elements.{All-weaker}
use Rattle.std.proofs.lemmas.Bool.{cond-true, cond-false, lt-ltb, le-ltb}
use Rattle.omf_module.specs.Module.{Module}
use Rattle.omf_place.specs.Layout.{Layout}
use Rattle.omf_image.specs.declared.faults.FixFault.{FixFault}
use Rattle.omf_image.specs.declared.faults.FixFault.TheVariants.{TooManyRelocations}
use Rattle.omf_image.specs.Words.{add_words}
use Rattle.omf_image.specs.Located.{covers, in_page}
use Rattle.omf_image.specs.inside.Whole.{byte_of, data_fault}
use Rattle.omf_image.specs.inside.Leading.{last_or}
use Rattle.omf_image.specs.Records.{datum, program_byte, entries, relocations, written, bytes_of, entry_start}
use Rattle.omf_image.specs.inside.Leading.{relocated_words}
use Rattle.omf_image.specs.inside.WellPlaced.{WellPlaced, AllWellPlaced, AllInside, LiesInContent}
use Rattle.std.specs.Option.{option_or}
use Rattle.omf_image.specs.declared.start.Registers.{Registers}
use Rattle.omf_image.specs.Registers.{starts, starts_fault, program_fault, registers, moved}
use Rattle.omf_image.specs.inside.Starts.{count_fault}
use Rattle.omf_image.specs.inside.Pages.{Paged, IsBlank}
use Rattle.omf_image.specs.Program.{Program}
use Rattle.omf_image.specs.inside.Ready.{IsReady, IsEntryReady, IsFixupReady}
use Rattle.omf_image.specs.inside.States.{State}
use Rattle.omf_image.specs.inside.Leading.{IsWhole, Leads}
use Rattle.omf_image.specs.Building.{IsProgramOf}
use Rattle.omf_image.proofs.Hits.{SpacedBy}
use Rattle.omf_image.proofs.Everywhere.{everywhere, sound_relocations}
use Rattle.omf_image.proofs.Copying.{get_or-blank}
use Rattle.omf_image.proofs.MovedRegisters.{registers_move}
use Rattle.omf_image.proofs.Members.{in_index}

-- ---- the first state
pub leads_first : (layout : Layout) (modules : List Module) (s : State) (p : Paged) (n : ℕ) → s.image ≡ p.bytes
    → s.made ≡ p.made → s.words ≡ replicate n false → IsBlank n p → Leads layout modules s (entries modules)
leads_first layout modules s p n i m w blank =
    let data' = map (datum 0 layout) (entries modules) in
    let words = relocated_words layout modules in
    let flag : (a : ℕ) → get_or s.words a false ≡ false =
    λ a. ap (λ (l : List Bool). get_or l a false) w ∙ get_or-blank false n a in
    record {
      image =
          λ a.
          ap (λ (b : ℕ). last_or b (map (byte_of a) (filter (covers a) data')))
          (ap (λ (l : List ℕ). get_or l a 0) (i ∙ blank.bytes) ∙ get_or-blank 0 n a);
      pages =
          λ k.
          ap (λ (b : Bool). list_any (in_page k) data' || b) (ap (λ (l : List Bool). get_or l k false) m ∙ blank.made k)
          ∙ or-false (list_any (in_page k) data');
      words = λ a. ap (λ (b : Bool). b || list_any (λ w. eqb a w) words) (flag a);
      so_far = [];
      listed = flag;
      fault = refl;
    }

-- ---- the last
pub no_fault : (layout : Layout) (modules : List Module) (s : State) → Leads layout modules s []
    → data_fault layout modules ≡ None
no_fault layout modules s l = sym l.fault

filter_same : (p q : ℕ → Bool) (xs : List ℕ) → ((a : ℕ) → p a ≡ q a) → filter p xs ≡ filter q xs
filter_same p q [] e = refl
filter_same p q (x ∷ xs) e =
    ap (λ (b : Bool). cond b (x ∷ filter p xs) (filter p xs)) (e x)
    ∙ ap (λ (l : List ℕ). cond (q x) (x ∷ l) l) (filter_same p q xs e)

pub flags_are : (layout : Layout) (modules : List Module) (s : State) (items : List ℕ) → IsWhole layout s
    → Leads layout modules s [] → items ≡ filter (λ a. get_or s.words a false) (range_with_len 0 (length s.words))
    → items ≡ relocations layout modules
flags_are layout modules s items whole l e =
    e
    ∙ ap (λ (n : ℕ). filter (λ a. get_or s.words a false) (range_with_len 0 n)) (whole.words ∙ whole.sized)
    ∙ filter_same (λ a. get_or s.words a false) (λ a. list_any (λ w. eqb a w) (relocated_words layout modules))
    (range_with_len 0 layout.size) (λ a. sym (or-false (get_or s.words a false)) ∙ l.words a)

spaced_pairs : (rs : List ℕ) → SpacedBy 2 rs → AllPairs (λ r s. r + 2 ≤ s) rs
spaced_pairs [] h i j d l m = absurd (omega (arith, l, m))
spaced_pairs (r ∷ rs) h i zero d l m = absurd (omega (arith, l))
spaced_pairs (r ∷ rs) h zero (suc j) d l m = h.0 (get_or rs j d) (in_index rs j d (omega (arith, m)))
spaced_pairs (r ∷ rs) h (suc i) (suc j) d l m = spaced_pairs rs h.1 i j d (omega (arith, l)) (omega (arith, m))

well : (layout : Layout) (modules : List Module) → IsReady layout modules → AllWellPlaced modules
well layout modules h =
    All-weaker (IsEntryReady layout) (λ e. WellPlaced e.item)
    (λ e r.
    All-weaker (IsFixupReady layout e) (LiesInContent e.item) (λ x f. f.lies) e.item.fixups r.fixups)
    (entries modules) h.records

inside : (layout : Layout) (modules : List Module) → IsReady layout modules → AllInside layout modules
inside layout modules h =
    All-weaker (IsEntryReady layout) (λ e. entry_start layout e + length (bytes_of e.item) ≤ layout.size)
    (λ e r. r.inside) (entries modules) h.records

-- the program that the code makes of the last state
abbrev pub made_of : State → ℕ → List ℕ → Registers → Program
made_of s end items start =
    record { image = s.image; written = end; relocations = items; registers = start; made = s.made }

-- what a program keeps of its relocated words
pub record Limits (end size : ℕ) (items : List ℕ) : Type 0 where
  pub apart : AllPairs (λ r s. r + 2 ≤ s) items
  pub inside : All (λ r. r + 2 ≤ end) items
  pub written : end ≤ size
  pub few : length items ≤ 65535

pub program_limits : (layout : Layout) (modules : List Module) (s : State) (end : ℕ) (items : List ℕ)
    → IsReady layout modules → IsWhole layout s → Leads layout modules s [] → end ≡ written layout modules
    → items ≡ filter (λ a. get_or s.words a false) (range_with_len 0 (length s.words)) → length items ≤ 65535
    → Limits end (length s.image) items
program_limits layout modules s end items ready whole l ends e few =
    let is = flags_are layout modules s items whole l e in
    let sound =
    sound_relocations layout modules (well layout modules ready) (inside layout modules ready)
    (no_fault layout modules s l) in
    let size = whole.sized in
    record {
      apart = subst (AllPairs (λ r s. r + 2 ≤ s)) (sym is) (spaced_pairs (relocations layout modules) sound.spaced);
      inside =
          subst (All (λ r. r + 2 ≤ end)) (sym is)
          (λ k d h.
          let i = sound.below (get_or (relocations layout modules) k d) (in_index (relocations layout modules) k d h) in
          omega (arith, i, ends));
      written = omega (arith, ends, sound.within, size);
      few = few;
    }

pub program_is : (layout : Layout) (modules : List Module) (s : State) (end : ℕ) (items : List ℕ) (start : Registers)
    → IsReady layout modules → IsWhole layout s → Leads layout modules s [] → end ≡ written layout modules
    → starts_fault layout (starts modules) ≡ None → start ≡ registers 0 layout modules
    → items ≡ filter (λ a. get_or s.words a false) (range_with_len 0 (length s.words)) → length items ≤ 65535
    → (program_fault layout modules ≡ None) × IsProgramOf layout modules (made_of s end items start)
unfolding program_fault
program_is layout modules s end items start ready whole l ends none at e few =
    let is = flags_are layout modules s items whole l e in
    let clean = no_fault layout modules s l in
    let count : count_fault layout modules ≡ None =
    cond-false (ltb 65535 (length (relocations layout modules))) (Some TooManyRelocations) None
    (le-ltb 65535 (length (relocations layout modules)) (omega (arith, few, ap length is))) in (
      ap (λ (o : Option FixFault).
          option_or o (option_or (starts_fault layout (starts modules)) (count_fault layout modules))) clean
          ∙ ap (λ (o : Option FixFault). option_or o (count_fault layout modules)) none ∙ count,
      record {
        sized = whole.sized;
        written = ends;
        everywhere =
            subst
            (λ (rs : List ℕ).
            (P a : ℕ) → a < layout.size → get_or (add_words P rs s.image) a 0 ≡ program_byte P layout modules a)
            (sym is)
            (everywhere layout modules s.image (well layout modules ready) (inside layout modules ready) clean
            (record { sized = whole.sized; bytes = λ a h. l.image a }));
        listed = is;
        below = (program_limits layout modules s end items ready whole l ends e few).inside;
        at_zero = sym at;
        at_each = λ P. registers_move P layout modules none ∙ ap (moved P) (sym at);
        pages = λ k. l.pages k;
      },
    )

-- ---- the faults in order
pub data_first : (layout : Layout) (modules : List Module) (f : FixFault) → data_fault layout modules ≡ Some f
    → program_fault layout modules ≡ Some f
unfolding program_fault
data_first layout modules f h =
    ap (λ (o : Option FixFault).
    option_or o (option_or (starts_fault layout (starts modules)) (count_fault layout modules))) h

pub start_second : (layout : Layout) (modules : List Module) (f : FixFault) → data_fault layout modules ≡ None
    → starts_fault layout (starts modules) ≡ Some f → program_fault layout modules ≡ Some f
unfolding program_fault
start_second layout modules f h k =
    ap (λ (o : Option FixFault).
    option_or o (option_or (starts_fault layout (starts modules)) (count_fault layout modules))) h
    ∙ ap (λ (o : Option FixFault). option_or o (count_fault layout modules)) k

pub count_last : (layout : Layout) (modules : List Module) → data_fault layout modules ≡ None
    → starts_fault layout (starts modules) ≡ None → 65535 < length (relocations layout modules)
    → program_fault layout modules ≡ Some TooManyRelocations
unfolding program_fault
count_last layout modules h k l =
    ap (λ (o : Option FixFault).
    option_or o (option_or (starts_fault layout (starts modules)) (count_fault layout modules))) h
    ∙ ap (λ (o : Option FixFault). option_or o (count_fault layout modules)) k
    ∙ cond-true (ltb 65535 (length (relocations layout modules))) (Some TooManyRelocations) None
    (lt-ltb 65535 (length (relocations layout modules)) l)
