use Rattle.std.proofs.Common.{List, ◌++◌, Some, ap, append-nil, arith, map, sym, ◌∙◌}
use Rattle.std.proofs.lemmas.List.{take_all}
use Rattle.omf_library.specs.declared.files.Member.{Member}
use Rattle.doslink_stock.specs.Files.{held}
use Rattle.doslink_stock.specs.Seen.{entry_held}
use Rattle.doslink_stock.proofs.Walks.{map-more}
use Rattle.doslink_stock.proofs.stock.push_entries.Goals as goal

pub loop-member-init : goal.loop-member-init
loop-member-init g c = sym (append-nil (map entry_held c.args.entries.now.items))

pub loop-member-preserved : goal.loop-member-preserved
loop-member-preserved g c =
    map-more entry_held (λ m. held c.args.file (Some m.name.now) m.bytes.now) c.args.members.now
    c.loop-member.member-index _ c.args.entries.now.items c.loop-member.entries.items _ c.in_ok-entry.entry
    c.loop-member-test.true c.in_ok-push.ensures.items c.in_ok-entry.ensures c.loop-member.invariant

pub returns : goal.returns
returns g c =
    c.loop-member.invariant
    ∙ ap (λ (ms : List Member). map entry_held c.args.entries.now.items
    ++ map (λ m. held c.args.file (Some m.name.now) m.bytes.now) ms)
    (take_all c.loop-member.member-index c.args.members.now (omega arith))
