use Rattle.std.proofs.Common.{map, take, sym, ◌∙◌, arith}
use Rattle.std.proofs.lemmas.List.{take_all}
use Rattle.omf_module.specs.Seen.{group_seen}
use Rattle.omf_module.specs.Grouped.{is_of_class, greatest_index}
use Rattle.omf_module.proofs.Joining.{unmarked_more, unmarked_join, written_whole}
use Rattle.omf_module.proofs.grouping.joining.Goals as goal

pub loop-index-preserved : goal.loop-index-preserved
loop-index-preserved g c =
    let more =
    unmarked_more c.args.store.now.groups c.loop-index.index (group_seen c.group.result) c.group.ensures
    (map (is_of_class c.args.class.now) (take greatest_index c.args.store.now.segments)) in
    rw (
      c.unmark_all.ensures,
      written_whole c.group.result.members.now c.deref_mut.result.now c.loop-index.marks.items c.loop-index.marks.len
          c.deref_mut.ensures.value (omega (arith, c.loop-index.marks.ok.0)),
      c.loop-index.invariant,
    ) (sym more)

pub returns : goal.returns
returns g c =
    let gs = c.args.store.now.groups in
    let all = take_all c.loop-index.index gs (omega arith) in
    rw all at c.loop-index.invariant
    ∙ unmarked_join c.args.class.now gs (take greatest_index c.args.store.now.segments)
