use Rattle.std.proofs.Common.{◌∙◌, ◌++◌, ap, sym}
use Rattle.std.specs.List.{filter_map}
use Rattle.omf_module.specs.Module.{DataRecord}
use Rattle.omf_module.specs.Seen.{data_seen}
use Rattle.omf_communal.specs.inside.Sought.{name_at}
use Rattle.omf_communal.proofs.Reaching.{flat_map_one}
use Rattle.omf_communal.proofs.far.names_at.Goals as goal

pub loop-index-preserved : goal.loop-index-preserved
loop-index-preserved g c =
    let f = λ (d : DataRecord). filter_map (name_at c.args.sought c.args.from.now) d.fixups in
    let d = data_seen c.data_record-data.result in
    c.in_ok-push_names.ensures ∙ ap (λ ys. ys ++ f d) c.loop-index.invariant
    ∙ sym (flat_map_one f c.args.from.now.data_records c.loop-index.index d c.data_record-data.ensures.seen)
