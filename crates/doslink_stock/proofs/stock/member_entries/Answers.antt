use Rattle.std.proofs.Common.{map, arith, drop}
use Rattle.std.proofs.lemmas.Result.{err_from_is_err_and}
use Rattle.omf_search.specs.Results.{bytes_of}
use Rattle.doslink_stock.specs.Files.{members_from}
use Rattle.doslink_stock.specs.Seen.{entry_held}
use Rattle.doslink_stock.proofs.Walks.{members_done, members_more, members_refused}
use Rattle.doslink_stock.proofs.stock.member_entries.Goals as goal

pub returns : goal.returns
returns g c = members_done c.args.files.now c.loop-file.file (map entry_held c.loop-file.entries.items)
    (members_from c.args.first (bytes_of (drop c.args.first c.args.files.now))) (omega arith) c.loop-file.invariant

pub loop-file-preserved : goal.loop-file-preserved
loop-file-preserved g c =
    let (more, found, added) = c.in_ok-push_members.ensures in
    members_more c.args.files.now c.loop-file.file _ (map entry_held c.loop-file.entries.items) more _
    (members_from c.args.first (bytes_of (drop c.args.first c.args.files.now))) c.loop-file-test.true found added
    c.loop-file.invariant
