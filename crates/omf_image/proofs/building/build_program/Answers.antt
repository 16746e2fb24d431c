use Rattle.std.proofs.Common.{◌≡◌, ◌∙◌, ℕ, List, Bool, false, None, filter, get_or, length, refl, sym, ap, arith, subst}
use Rattle.std.proofs.lemmas.List.{length-replicate}
use Rattle.std.specs.List.{range_with_len}
use Rattle.omf_image.specs.inside.Whole.{data_fault}
use Rattle.omf_image.specs.Program.{Program}
use Rattle.omf_image.specs.Registers.{starts, starts_fault, program_fault}
use Rattle.omf_image.specs.inside.States.{state}
use Rattle.omf_image.specs.Building.{IsProgramOf}
use Rattle.omf_image.proofs.Finishing.{leads_first, no_fault, flags_are, program_limits, program_is, data_first}
use Rattle.omf_image.proofs.Finishing.{start_second, count_last}
use Rattle.omf_image.proofs.Leading.{refused_by}
use Rattle.omf_image.proofs.building.build_program.Goals as goal

pub add_modules-requires-clause-whole : goal.add_modules-requires-clause-whole
add_modules-requires-clause-whole g c =
    let n = c.size.result in
    let bytes = ap length c.in_ok-work.ensures.pages.bytes in
    record {
      sized = omega (arith, bytes, length-replicate {A = ℕ} n 0, c.size.ensures);
      words =
          omega (
            arith,
            bytes,
            length-replicate {A = ℕ} n 0,
            ap length c.in_ok-work.ensures.words,
            length-replicate n false,
          );
      small = c.requires.small;
    }

pub flagged-requires : goal.flagged-requires
flagged-requires g c =
    let whole = c.in_ok-add_modules.ensures.whole in
    omega (arith, whole.words, whole.sized, c.requires.small, ap length c.deref.ensures.value)

pub returns-in_err-add_modules : goal.returns-in_err-add_modules
returns-in_err-add_modules g c =
    let layout = c.args.layout.now in
    let modules = c.args.modules.now in
    let work = c.in_ok-work.work in
    let first =
    leads_first layout modules (state work) work.pages c.size.result refl refl c.in_ok-work.ensures.words
    c.in_ok-work.ensures.pages in
    refused_by _ _ (data_fault layout modules) (program_fault layout modules) _ _
    c.from_residual-in_err-add_modules.ensures.1 (data_first layout modules) (c.in_err-add_modules.ensures.gives first)

pub returns-in_err-registers : goal.returns-in_err-registers
returns-in_err-registers g c =
    let layout = c.args.layout.now in
    let modules = c.args.modules.now in
    let work = c.in_ok-work.work in
    let first =
    leads_first layout modules (state work) work.pages c.size.result refl refl c.in_ok-work.ensures.words
    c.in_ok-work.ensures.pages in
    let s = state c.add_modules.new.work in
    let last = c.in_ok-add_modules.ensures.gives first in
    refused_by _ _ (starts_fault layout (starts modules)) (program_fault layout modules) _ _
    c.from_residual-in_err-registers.ensures.1 (λ f. start_second layout modules f (no_fault layout modules s last))
    c.in_err-registers.ensures

pub returns-then-len-gt-MOST_RELOCATIONS : goal.returns-then-len-gt-MOST_RELOCATIONS
returns-then-len-gt-MOST_RELOCATIONS g c =
    let layout = c.args.layout.now in
    let modules = c.args.modules.now in
    let work = c.in_ok-work.work in
    let first =
    leads_first layout modules (state work) work.pages c.size.result refl refl c.in_ok-work.ensures.words
    c.in_ok-work.ensures.pages in
    let s = state c.add_modules.new.work in
    let last = c.in_ok-add_modules.ensures.gives first in
    let items = c.in_ok-relocations.relocations.items in
    let is : items ≡ filter (λ a. get_or s.words a false) (range_with_len 0 (length s.words)) =
    c.in_ok-relocations.ensures
    ∙ ap (λ (l : List Bool). filter (λ a. get_or l a false) (range_with_len 0 (length l))) c.deref.ensures.value in
    let e = flags_are layout modules s items c.in_ok-add_modules.ensures.whole last is in
    count_last layout modules (no_fault layout modules s last) c.in_ok-registers.ensures.0
    (omega (arith, c.len.ensures, c.if-len-gt-MOST_RELOCATIONS.true, c.in_ok-relocations.relocations.ok.0, ap length e))

pub new-requires-2-clause-apart : goal.new-requires-2-clause-apart
new-requires-2-clause-apart g c =
    let layout = c.args.layout.now in
    let modules = c.args.modules.now in
    let work = c.in_ok-work.work in
    let first =
    leads_first layout modules (state work) work.pages c.size.result refl refl c.in_ok-work.ensures.words
    c.in_ok-work.ensures.pages in
    let s = state c.add_modules.new.work in
    let last = c.in_ok-add_modules.ensures.gives first in
    let items = c.in_ok-relocations.relocations.items in
    let is : items ≡ filter (λ a. get_or s.words a false) (range_with_len 0 (length s.words)) =
    c.in_ok-relocations.ensures
    ∙ ap (λ (l : List Bool). filter (λ a. get_or l a false) (range_with_len 0 (length l))) c.deref.ensures.value in
    (program_limits layout modules s c.written-written.result items c.requires c.in_ok-add_modules.ensures.whole last
    c.written-written.ensures is
    (omega (arith, c.len.ensures, c.if-len-gt-MOST_RELOCATIONS.false, c.in_ok-relocations.relocations.ok.0))).apart

pub new-requires-2-clause-inside : goal.new-requires-2-clause-inside
new-requires-2-clause-inside g c =
    let layout = c.args.layout.now in
    let modules = c.args.modules.now in
    let work = c.in_ok-work.work in
    let first =
    leads_first layout modules (state work) work.pages c.size.result refl refl c.in_ok-work.ensures.words
    c.in_ok-work.ensures.pages in
    let s = state c.add_modules.new.work in
    let last = c.in_ok-add_modules.ensures.gives first in
    let items = c.in_ok-relocations.relocations.items in
    let is : items ≡ filter (λ a. get_or s.words a false) (range_with_len 0 (length s.words)) =
    c.in_ok-relocations.ensures
    ∙ ap (λ (l : List Bool). filter (λ a. get_or l a false) (range_with_len 0 (length l))) c.deref.ensures.value in
    (program_limits layout modules s c.written-written.result items c.requires c.in_ok-add_modules.ensures.whole last
    c.written-written.ensures is
    (omega (arith, c.len.ensures, c.if-len-gt-MOST_RELOCATIONS.false, c.in_ok-relocations.relocations.ok.0))).inside

pub new-requires-2-clause-written : goal.new-requires-2-clause-written
new-requires-2-clause-written g c =
    let layout = c.args.layout.now in
    let modules = c.args.modules.now in
    let work = c.in_ok-work.work in
    let first =
    leads_first layout modules (state work) work.pages c.size.result refl refl c.in_ok-work.ensures.words
    c.in_ok-work.ensures.pages in
    let s = state c.add_modules.new.work in
    let last = c.in_ok-add_modules.ensures.gives first in
    let items = c.in_ok-relocations.relocations.items in
    let is : items ≡ filter (λ a. get_or s.words a false) (range_with_len 0 (length s.words)) =
    c.in_ok-relocations.ensures
    ∙ ap (λ (l : List Bool). filter (λ a. get_or l a false) (range_with_len 0 (length l))) c.deref.ensures.value in
    (program_limits layout modules s c.written-written.result items c.requires c.in_ok-add_modules.ensures.whole last
    c.written-written.ensures is
    (omega (arith, c.len.ensures, c.if-len-gt-MOST_RELOCATIONS.false, c.in_ok-relocations.relocations.ok.0))).written

pub new-requires-2-clause-few : goal.new-requires-2-clause-few
new-requires-2-clause-few g c =
    let layout = c.args.layout.now in
    let modules = c.args.modules.now in
    let work = c.in_ok-work.work in
    let first =
    leads_first layout modules (state work) work.pages c.size.result refl refl c.in_ok-work.ensures.words
    c.in_ok-work.ensures.pages in
    let s = state c.add_modules.new.work in
    let last = c.in_ok-add_modules.ensures.gives first in
    let items = c.in_ok-relocations.relocations.items in
    let is : items ≡ filter (λ a. get_or s.words a false) (range_with_len 0 (length s.words)) =
    c.in_ok-relocations.ensures
    ∙ ap (λ (l : List Bool). filter (λ a. get_or l a false) (range_with_len 0 (length l))) c.deref.ensures.value in
    (program_limits layout modules s c.written-written.result items c.requires c.in_ok-add_modules.ensures.whole last
    c.written-written.ensures is
    (omega (arith, c.len.ensures, c.if-len-gt-MOST_RELOCATIONS.false, c.in_ok-relocations.relocations.ok.0))).few

pub returns : goal.returns
returns g c =
    let layout = c.args.layout.now in
    let modules = c.args.modules.now in
    let work = c.in_ok-work.work in
    let first =
    leads_first layout modules (state work) work.pages c.size.result refl refl c.in_ok-work.ensures.words
    c.in_ok-work.ensures.pages in
    let s = state c.add_modules.new.work in
    let last = c.in_ok-add_modules.ensures.gives first in
    let items = c.in_ok-relocations.relocations.items in
    let is : items ≡ filter (λ a. get_or s.words a false) (range_with_len 0 (length s.words)) =
    c.in_ok-relocations.ensures
    ∙ ap (λ (l : List Bool). filter (λ a. get_or l a false) (range_with_len 0 (length l))) c.deref.ensures.value in
    subst (λ (p : Program). (program_fault layout modules ≡ None) × IsProgramOf layout modules p) (sym c.new-2.ensures)
    (program_is layout modules s c.written-written.result items c.in_ok-registers.registers c.requires
    c.in_ok-add_modules.ensures.whole last c.written-written.ensures c.in_ok-registers.ensures.0
    c.in_ok-registers.ensures.1 is
    (omega (arith, c.len.ensures, c.if-len-gt-MOST_RELOCATIONS.false, c.in_ok-relocations.relocations.ok.0)))
