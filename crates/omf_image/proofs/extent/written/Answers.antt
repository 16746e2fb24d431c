use Rattle.std.proofs.Common.{◌∙◌, ◌+◌, ℕ, List, map, fold, max, drop, All, refl, sym, ap, subst}
use Rattle.std.proofs.lemmas.List.{drop_all, map-append}
use Rattle.std.proofs.lemmas.List.Sums.{fold-append}
use Rattle.omf_module.specs.Module.{Module}
use Rattle.omf_image.specs.Records.{entry_end}
use Rattle.omf_image.specs.inside.Entries.{DataEntry, module_entries, entries_from}
use Rattle.omf_image.specs.inside.Ready.{IsEntryReady}
use Rattle.omf_image.proofs.Listing.{all_left, all_right, module_next}
use Rattle.omf_image.proofs.extent.written.Goals as goal

pub end_with-end-requires-clause-ready : goal.end_with-end-requires-clause-ready
end_with-end-requires-clause-ready g c =
    let i = c.loop-input.input in
    let m = c.index-modules-input.result in
    all_left (IsEntryReady c.args.layout.now) (module_entries i m)
    (entries_from (i + 1) (drop (i + 1) c.args.modules.now))
    (subst (All (IsEntryReady c.args.layout.now))
    (module_next c.args.modules.now i m c.loop-input-test.true c.index-modules-input.is) c.loop-input.invariant.ready)

pub loop-input-preserved : goal.loop-input-preserved
loop-input-preserved g c =
    let i = c.loop-input.input in
    let m = c.index-modules-input.result in
    let f = entry_end c.args.layout.now in
    let now = module_entries i m in
    let rest = entries_from (i + 1) (drop (i + 1) c.args.modules.now) in
    let next = module_next c.args.modules.now i m c.loop-input-test.true c.index-modules-input.is in
    record {
      ready =
          all_right (IsEntryReady c.args.layout.now) now rest
          (subst (All (IsEntryReady c.args.layout.now)) next c.loop-input.invariant.ready);
      end =
          ap (λ (n : ℕ). fold max n (map f rest)) c.end_with-end.ensures
          ∙ sym (fold-append max c.loop-input.end (map f now) (map f rest))
          ∙ ap (fold max c.loop-input.end) (sym (map-append f now rest))
          ∙ sym (ap (λ (es : List DataEntry). fold max c.loop-input.end (map f es)) next)
          ∙ c.loop-input.invariant.end;
    }

pub loop-input-init : goal.loop-input-init
loop-input-init g c = record { ready = c.requires.ready; end = refl }

pub end_with-end-requires-clause-small : goal.end_with-end-requires-clause-small
end_with-end-requires-clause-small g c = c.requires.small

pub returns : goal.returns
returns g c =
    let end = c.loop-input.end in
    let f = entry_end c.args.layout.now in
    sym (ap (λ (ms : List Module). fold max end (map f (entries_from c.loop-input.input ms)))
    (drop_all c.loop-input.input c.args.modules.now c.loop-input-test.false))
    ∙ c.loop-input.invariant.end
