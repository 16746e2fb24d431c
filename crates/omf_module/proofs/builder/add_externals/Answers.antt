use Rattle.std.proofs.Common.{sym, ap, ◌∙◌}
use Rattle.std.proofs.lemmas.List.{append-nil, take_all}
use Rattle.omf_record.specs.View.{external_view}
use Rattle.omf_module.specs.inside.Entries.{external_of}
use Rattle.omf_module.specs.inside.Store.{Kept}
use Rattle.omf_module.proofs.Lists.{map_map_pushed}
use Rattle.omf_module.proofs.builder.add_externals.Goals as goal

pub loop-external-init : goal.loop-external-init
loop-external-init g c =
    let old : Kept = c.args.store.now in
    ap (λ ns. record old { externals = ns }) (sym (append-nil old.externals))

pub loop-external-preserved : goal.loop-external-preserved
loop-external-preserved g c =
    let old : Kept = c.args.store.now in
    let all = c.args.names.now in
    let i = c.loop-external.external-index in
    let more =
    map_map_pushed (external_of c.args.local) external_view old.externals all i _
    c.loop-external-test.true in
    let pushed = rw c.loop-external.invariant at c.in_ok-push_external.ensures in
    pushed ∙ ap (λ ns. record old { externals = ns }) more

pub returns : goal.returns
returns g c =
    let all = take_all c.loop-external.external-index c.args.names.now c.loop-external-test.false in
    rw all at c.loop-external.invariant
