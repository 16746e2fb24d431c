use Rattle.std.proofs.Common.{◌+◌, ◌∙◌, List, refl, sym, ap, subst, drop, slice_get, All}
use Rattle.std.proofs.lemmas.List.{drop_all}
use Rattle.std.specs.List.{filter_map}
use Rattle.omf_module.specs.Module.{Module}
use Rattle.omf_image.specs.Overflow.{entry_overflow}
use Rattle.omf_image.specs.inside.Entries.{module_entries, entries_from}
use Rattle.omf_image.specs.inside.Ready.{IsEntryReady}
use Rattle.omf_image.proofs.Listing.{all_left, all_right, module_next}
use Rattle.omf_image.proofs.Overflowing.{found_here, found_later}
use Rattle.omf_image.proofs.overflow.overflow_among.Goals as goal

pub overflow_in-requires : goal.overflow_in-requires
overflow_in-requires g c =
    let i = c.loop-input.input in
    let m = c.index-modules-input.result in
    all_left (IsEntryReady c.args.layout.now) (module_entries i m)
    (entries_from (i + 1) (drop (i + 1) c.args.modules.now))
    (subst (All (IsEntryReady c.args.layout.now))
    (module_next c.args.modules.now i m c.loop-input-test.true c.index-modules-input.is) c.loop-input.invariant.ready)

pub returns-in-Some : goal.returns-in-Some
returns-in-Some g c =
    let i = c.loop-input.input in
    let m = c.index-modules-input.result in
    let ms = c.args.modules.now in
    found_here (entry_overflow c.args.layout.now) (entries_from i (drop i ms)) (module_entries i m)
    (entries_from (i + 1) (drop (i + 1) ms)) c.in-Some.found _
    (module_next ms i m c.loop-input-test.true c.index-modules-input.is) (sym c.in-Some.ensures)
    c.loop-input.invariant.first

pub loop-input-preserved : goal.loop-input-preserved
loop-input-preserved g c =
    let i = c.loop-input.input in
    let m = c.index-modules-input.result in
    let ms = c.args.modules.now in
    let layout = c.args.layout.now in
    let next = module_next ms i m c.loop-input-test.true c.index-modules-input.is in
    record {
      ready =
          all_right (IsEntryReady layout) (module_entries i m) (entries_from (i + 1) (drop (i + 1) ms))
          (subst (All (IsEntryReady layout)) next c.loop-input.invariant.ready);
      first =
          found_later (entry_overflow layout) (entries_from i (drop i ms)) (module_entries i m)
          (entries_from (i + 1) (drop (i + 1) ms)) _ next
          (sym c.overflow_in.ensures ∙ c.in_default.is) c.loop-input.invariant.first;
    }

pub loop-input-init : goal.loop-input-init
loop-input-init g c = record { ready = c.requires; first = refl }

pub returns : goal.returns
returns g c =
    sym (ap
    (λ (ms : List Module).
    slice_get (filter_map (entry_overflow c.args.layout.now) (entries_from c.loop-input.input ms)) 0)
    (drop_all c.loop-input.input c.args.modules.now c.loop-input-test.false))
    ∙ c.loop-input.invariant.first
