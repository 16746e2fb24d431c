use Rattle.std.proofs.Common.{◌≡◌, ◌∙◌, ◌+◌, ◌++◌, Option, Some, drop, refl, ap, sym}
use Rattle.std.proofs.lemmas.List.{drop_all, get_or_default}
use Rattle.omf_module.specs.Module.{Module}
use Rattle.omf_module.specs.declared.Start.{Start}
use Rattle.omf_image.specs.inside.Entries.{module_start, starts_from}
use Rattle.omf_image.proofs.Listing.{start_next}
use Rattle.omf_image.proofs.start.next_start.Goals as goal

pub loop-input-init : goal.loop-input-init
loop-input-init g c = refl

pub returns-in-Some : goal.returns-in-Some
returns-in-Some g c =
    let ms = c.args.modules.now in
    let i = c.loop-input.input in
    let here = c.index-modules-input.result in
    let rest = starts_from (i + 1) (drop (i + 1) ms) in (
      c.loop-input-test.true,
      λ m is.
          let same : m ≡ here =
          is ∙ get_or_default ms i m here c.loop-input-test.true ∙ sym c.index-modules-input.is in
          let some : m.start ≡ Some c.in-Some.start = ap (λ (m : Module). m.start) same ∙ sym c.in-Some.ensures in
          sym c.loop-input.invariant ∙ start_next ms i m c.loop-input-test.true is
          ∙ ap (λ (o : Option Start). module_start o i m ++ rest) some,
    )

pub loop-input-preserved : goal.loop-input-preserved
loop-input-preserved g c =
    let ms = c.args.modules.now in
    let i = c.loop-input.input in
    let m = c.index-modules-input.result in
    let rest = starts_from (i + 1) (drop (i + 1) ms) in
    sym (start_next ms i m c.loop-input-test.true c.index-modules-input.is
    ∙ ap (λ (o : Option Start). module_start o i m ++ rest) (sym c.in_default.ensures))
    ∙ c.loop-input.invariant

pub returns : goal.returns
returns g c =
    sym c.loop-input.invariant
    ∙ ap (starts_from c.loop-input.input) (drop_all c.loop-input.input c.args.modules.now c.loop-input-test.false)
