use Rattle.std.proofs.Common.{◌≡◌, true, sym, ◌∙◌}
use Rattle.omf_library.specs.inside.Views.{plain_entry}
use Rattle.omf_library.proofs.Told.{pushed_none}
use Rattle.omf_library.proofs.archive.push_module.Goals as goal

pub returns-else-not-is_table : goal.returns-else-not-is_table
returns-else-not-is_table g c =
    let table : c.is_table.result ≡ true = cc in
    pushed_none c.args.names.now.table.now c.args.place (plain_entry c.args.entry.now) c.args.entry.now.bytes.now
    c.args.members.now.items (sym c.is_table.ensures ∙ table)
