use Rattle.std.proofs.Common.{◌+◌, List, subst, drop, All}
use Rattle.std.proofs.lemmas.List.{drop_all}
use Rattle.omf_module.specs.Module.{Module}
use Rattle.omf_image.specs.inside.Entries.{DataEntry, module_entries, entries_from}
use Rattle.omf_image.specs.inside.Ready.{IsEntryReady}
use Rattle.omf_image.specs.inside.States.{state}
use Rattle.omf_image.specs.inside.Leading.{Leads}
use Rattle.omf_image.proofs.Leading.{refused_by}
use Rattle.omf_image.proofs.Listing.{all_left, all_right, module_next}
use Rattle.omf_image.proofs.building.add_modules.Goals as goal

pub add_module-requires-clause-ready : goal.add_module-requires-clause-ready
add_module-requires-clause-ready g c =
    let i = c.loop-input.input in
    let m = c.index-modules-input.result in
    let next = module_next c.args.modules.now i m c.loop-input-test.true c.index-modules-input.is in
    all_left (IsEntryReady c.args.layout.now) (module_entries i m)
    (entries_from (i + 1) (drop (i + 1) c.args.modules.now))
    (subst (All (IsEntryReady c.args.layout.now)) next c.loop-input.invariant.ready)

pub returns-in_err-add_module-clause-gives : goal.returns-in_err-add_module-clause-gives
returns-in_err-add_module-clause-gives g c l =
    let i = c.loop-input.input in
    let m = c.index-modules-input.result in
    let next = module_next c.args.modules.now i m c.loop-input-test.true c.index-modules-input.is in
    refused_by _ _ _ _ _ _ c.from_residual.ensures.1 (λ f e. e)
    (c.in_err-add_module.ensures.gives c.args.modules.now (entries_from (i + 1) (drop (i + 1) c.args.modules.now))
    (subst (λ (es : List DataEntry). Leads c.args.layout.now c.args.modules.now (state c.loop-input.work) es) next
    (c.loop-input.invariant.gives l)))

pub loop-input-preserved : goal.loop-input-preserved
loop-input-preserved g c =
    let i = c.loop-input.input in
    let m = c.index-modules-input.result in
    let next = module_next c.args.modules.now i m c.loop-input-test.true c.index-modules-input.is in
    record {
      whole = c.in_ok-add_module.ensures.whole;
      ready =
          all_right (IsEntryReady c.args.layout.now) (module_entries i m)
          (entries_from (i + 1) (drop (i + 1) c.args.modules.now))
          (subst (All (IsEntryReady c.args.layout.now)) next c.loop-input.invariant.ready);
      gives = λ l.
          c.in_ok-add_module.ensures.gives c.args.modules.now (entries_from (i + 1) (drop (i + 1) c.args.modules.now))
          (subst (λ (es : List DataEntry). Leads c.args.layout.now c.args.modules.now (state c.loop-input.work) es) next
          (c.loop-input.invariant.gives l));
    }

pub returns-clause-gives : goal.returns-clause-gives
returns-clause-gives g c l =
    subst
    (λ (ms : List Module).
    Leads c.args.layout.now c.args.modules.now (state c.loop-input.work) (entries_from c.loop-input.input ms))
    (drop_all c.loop-input.input c.args.modules.now c.loop-input-test.false)
    (c.loop-input.invariant.gives l)
