use Rattle.std.proofs.Common.{◌+◌, ◌++◌, List, subst, arith, drop}
use Rattle.omf_module.specs.Seen.{data_seen}
use Rattle.omf_image.specs.inside.Entries.{DataEntry, module_entries}
use Rattle.omf_image.specs.inside.Ready.{IsEntryReady}
use Rattle.omf_image.specs.inside.States.{state}
use Rattle.omf_image.specs.inside.Leading.{Leads}
use Rattle.omf_image.proofs.Leading.{refused_by}
use Rattle.omf_image.proofs.Listing.{entry_of, all_at, entry_next}
use Rattle.omf_image.proofs.building.add_module.Goals as goal

pub add_record-requires-clause-ready : goal.add_record-requires-clause-ready
add_record-requires-clause-ready g c =
    all_at (IsEntryReady c.args.layout.now) (entry_of c.args.input c.args.module.now) c.args.module.now.data_records
    c.loop-index.index (data_seen c.data_record-data_record.result) c.requires.ready
    (omega (arith, c.loop-index-test.true, c.data_record_count-index-end.ensures))
    c.data_record-data_record.ensures.seen

pub returns-in_err-add_record-clause-gives : goal.returns-in_err-add_record-clause-gives
returns-in_err-add_record-clause-gives g c modules rest l =
    let m = c.args.module.now in
    let next =
    entry_next c.args.input m c.loop-index.index (data_seen c.data_record-data_record.result)
    (omega (arith, c.loop-index-test.true, c.data_record_count-index-end.ensures))
    c.data_record-data_record.ensures.seen in
    refused_by _ _ _ _ _ _ c.from_residual.ensures.1 (λ f e. e)
    (c.in_err-add_record.ensures.gives modules (drop (c.loop-index.index + 1) (module_entries c.args.input m) ++ rest)
    (subst (λ (es : List DataEntry). Leads c.args.layout.now modules (state c.loop-index.work) (es ++ rest)) next
    (c.loop-index.invariant.gives modules rest l)))

pub loop-index-preserved : goal.loop-index-preserved
loop-index-preserved g c =
    let m = c.args.module.now in
    let next =
    entry_next c.args.input m c.loop-index.index (data_seen c.data_record-data_record.result)
    (omega (arith, c.loop-index-test.true, c.data_record_count-index-end.ensures))
    c.data_record-data_record.ensures.seen in
    record {
      whole = c.in_ok-add_record.ensures.whole;
      gives = λ modules rest l.
          c.in_ok-add_record.ensures.gives modules
          (drop (c.loop-index.index + 1) (module_entries c.args.input m) ++ rest)
          (subst (λ (es : List DataEntry). Leads c.args.layout.now modules (state c.loop-index.work) (es ++ rest)) next
          (c.loop-index.invariant.gives modules rest l));
    }
