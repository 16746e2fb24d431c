use Rattle.omf_library.specs.Members.{plain_member}
use Rattle.doslib_match.proofs.Telling.{adds-fault, adds-module}
use Rattle.doslib_match.proofs.matching.Told.add_member.Goals as goal

pub returns-in-Ok : goal.returns-in-Ok
returns-in-Ok g c =
    adds-module c.add_module.result c.args.sought.now.wanted c.args.sought.now.image.now c.args.path.now (plain_member c.args.member.now) c.in-Ok.module
    c.args.self.now c.add_module.new.self c.in-Ok.ensures (rw c.shown_name.ensures at c.add_module.ensures.text)
    c.add_module.ensures.spans c.add_module.ensures.faults

pub returns-in-Err-Record : goal.returns-in-Err-Record
returns-in-Err-Record g c =
    adds-fault c.add_fault.result c.args.sought.now.wanted c.args.sought.now.image.now c.args.path.now (plain_member c.args.member.now)
    c.in-Err-Record.place c.in-Err-Record.why c.args.self.now c.add_fault.new.self
    (rw c.in-Err-Record.field-0-is at c.in-Err-Record.ensures) c.add_fault.ensures.text c.add_fault.ensures.spans
    c.add_fault.ensures.faults
