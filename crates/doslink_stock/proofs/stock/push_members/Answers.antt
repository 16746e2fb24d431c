use Rattle.std.proofs.Common.{◌∙◌, ◌++◌, Some, map, sym, ap}
use Rattle.doslink_stock.specs.Files.{held}
use Rattle.doslink_stock.specs.Seen.{entry_held}
use Rattle.doslink_stock.proofs.Walks.{members-here}
use Rattle.doslink_stock.proofs.stock.push_members.Goals as goal

pub returns-in_ok-push_entries-in-Ok : goal.returns-in_ok-push_entries-in-Ok
returns-in_ok-push_entries-in-Ok g c = (
  map (λ m. held c.args.file (Some m.name.now) m.bytes.now) c.in-Ok.members.items,
  members-here c.args.file c.args.bytes.now c.in-Ok.members.items (sym c.is_object.ensures ∙ c.if-is_object.false)
      c.in-Ok.ensures.members,
  c.in_ok-push_entries-in-Ok.ensures
      ∙ ap
      (λ ms. map entry_held c.args.entries.now.items
      ++ map (λ m. held c.args.file (Some m.name.now) m.bytes.now) ms)
      c.deref.ensures.value,
)
