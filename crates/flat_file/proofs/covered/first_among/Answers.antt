use Rattle.std.proofs.Common.{◌∙◌, ◌+◌, ℕ, List, map, fold, min, drop, All, refl, sym, ap, subst, arith}
use Rattle.std.proofs.lemmas.List.{drop_all, map-append}
use Rattle.std.proofs.lemmas.List.Sums.{fold-append}
use Rattle.omf_module.specs.Module.{Module}
use Rattle.omf_image.specs.inside.Entries.{DataEntry, module_entries, entries_from}
use Rattle.omf_image.specs.inside.Ready.{IsEntryReady}
use Rattle.omf_image.proofs.Listing.{all_left, all_right, module_next}
use Rattle.flat_file.specs.Covered.{entry_first}
use Rattle.flat_file.proofs.Covering.{least_begun}
use Rattle.flat_file.proofs.covered.first_among.Goals as goal

pub first_with-first-requires-clause-ready : goal.first_with-first-requires-clause-ready
first_with-first-requires-clause-ready g c =
    let i = c.loop-input.input in
    let m = c.index-modules-input.result in
    all_left (IsEntryReady c.args.layout.now) (module_entries i m)
    (entries_from (i + 1) (drop (i + 1) c.args.modules.now))
    (subst (All (IsEntryReady c.args.layout.now))
    (module_next c.args.modules.now i m c.loop-input-test.true c.index-modules-input.is) c.loop-input.invariant.ready)

pub loop-input-preserved : goal.loop-input-preserved
loop-input-preserved g c =
    let i = c.loop-input.input in
    let m = c.index-modules-input.result in
    let f = entry_first c.args.layout.now in
    let now = module_entries i m in
    let rest = entries_from (i + 1) (drop (i + 1) c.args.modules.now) in
    let next = module_next c.args.modules.now i m c.loop-input-test.true c.index-modules-input.is in
    let least = least_begun c.loop-input.first (map f now) in
    record {
      ready =
          all_right (IsEntryReady c.args.layout.now) now rest
          (subst (All (IsEntryReady c.args.layout.now)) next c.loop-input.invariant.ready);
      below = omega (arith, c.first_with-first.ensures, least, c.loop-input.invariant.below);
      first =
          ap (λ (n : ℕ). fold min n (map f rest)) c.first_with-first.ensures
          ∙ sym (fold-append min c.loop-input.first (map f now) (map f rest))
          ∙ ap (fold min c.loop-input.first) (sym (map-append f now rest))
          ∙ sym (ap (λ (es : List DataEntry). fold min c.loop-input.first (map f es)) next)
          ∙ c.loop-input.invariant.first;
    }

pub loop-input-init : goal.loop-input-init
loop-input-init g c = record { ready = c.requires.ready; below = omega arith; first = refl }

pub first_with-first-requires-clause-small : goal.first_with-first-requires-clause-small
first_with-first-requires-clause-small g c = c.requires.small

pub returns : goal.returns
returns g c =
    let first = c.loop-input.first in
    let f = entry_first c.args.layout.now in
    sym (ap (λ (ms : List Module). fold min first (map f (entries_from c.loop-input.input ms)))
    (drop_all c.loop-input.input c.args.modules.now c.loop-input-test.false))
    ∙ c.loop-input.invariant.first
