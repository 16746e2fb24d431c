use Rattle.std.proofs.Common.{Ok, Some}
use Rattle.doslink_link.proofs.Answers.{faultless, linked_as}
use Rattle.doslink_link.proofs.Bounds.{bounded_report}
use Rattle.doslink_link.proofs.linking.link_in_memory.Goals as goal

pub returns-in-Ok-clause-links : goal.returns-in-Ok-clause-links
returns-in-Ok-clause-links g c = (
  faultless c.args.options.now.names c.args.modules.items (Some c.new-page.result.bytes.items)
      (Some c.link_modules.new.sink.bytes.items) c.in-Ok.report c.in-Ok.ensures.links,
  linked_as c.args.options.now.names c.args.modules.items c.new-page.result.bytes.items
      c.link_modules.new.sink.bytes.items c.in-Ok.report c.new-page.ensures.empty c.in-Ok.ensures.links,
)

pub returns-in-Ok-clause-bounded : goal.returns-in-Ok-clause-bounded
returns-in-Ok-clause-bounded g c =
    bounded_report c.args.options.now.names c.args.modules.items (Some c.new-page.result.bytes.items)
    (Some c.link_modules.new.sink.bytes.items) (Ok c.in-Ok.report) c.in-Ok.ensures.links
