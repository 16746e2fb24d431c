use Rattle.std.proofs.Common.{Some, subst, sym}
use Rattle.flat_file.specs.Forms.{com_bytes, com_fault}
use Rattle.flat_file.specs.Laws.{ComLoadsAsWritten}
use Rattle.doslink_link.specs.Forms.{Forms, IsFormed}
use Rattle.doslink_link.specs.inside.Making.{Makes}
use Rattle.doslink_link.proofs.Forming.{as_driver, as_exe, as_from_start, as_limited, as_raw, formed_com}
use Rattle.doslink_link.proofs.Limiting.{long_file}
use Rattle.doslink_link.proofs.forms.file_in.Goals as goal

pub returns-in-Com : goal.returns-in-Com
returns-in-Com g c names modules linked =
    let r = c.args.report.now in
    let law : ComLoadsAsWritten = c.com_loads_as_written.ensures in
    let made : Makes (λ file. file.items) (com_fault r.layout r.modules.items r.program) (com_bytes r.program)
    c.com_file.result = c.com_file.ensures in
    formed_com names modules r c.args.exe.items linked c.size-size.ensures.limits (λ file. file.items) c.args.form
    c.in-Com.is law c.com_file.result made

pub returns-in-Raw : goal.returns-in-Raw
returns-in-Raw g c names modules linked =
    subst (λ f. Forms (λ file. file.items) (Some f) names modules c.args.report.now c.raw_file.result) (sym c.in-Raw.is)
    (as_raw names modules c.args.report.now c.args.exe.items linked c.size-size.ensures.limits (λ file. file.items)
    c.in-Raw.paragraph c.in-Raw.from c.bin_is_located.ensures.bytes c.bin_is_located.ensures.whole c.raw_file.result
    c.raw_file.ensures)

pub returns-in-Driver : goal.returns-in-Driver
returns-in-Driver g c names modules linked =
    subst (λ f. Forms (λ file. file.items) (Some f) names modules c.args.report.now c.driver_file.result)
    (sym c.in-Driver.is)
    (as_driver names modules c.args.report.now c.args.exe.items linked c.size-size.ensures.limits (λ file. file.items)
    c.sys_is_located.ensures c.driver_file.result c.driver_file.ensures)

pub returns-in-FromStart : goal.returns-in-FromStart
returns-in-FromStart g c names modules linked =
    subst (λ f. Forms (λ file. file.items) (Some f) names modules c.args.report.now c.from_start_file.result)
    (sym c.in-FromStart.is)
    (as_from_start names modules c.args.report.now c.args.exe.items linked c.size-size.ensures.limits
    (λ file. file.items) c.from_start_is_located.ensures.at_0 c.from_start_is_located.ensures.at_100h
    c.from_start_file.result c.from_start_file.ensures)

pub returns-in-Exe : goal.returns-in-Exe
returns-in-Exe g c names modules linked =
    let file = c.args.exe.items in
    subst (λ f. IsFormed (Some f) names modules c.args.report.now file) (sym c.in-Exe.is)
    (as_exe names modules c.args.report.now file linked)

pub returns-in-LimitedExe : goal.returns-in-LimitedExe
returns-in-LimitedExe g c names modules linked =
    let r = c.args.report.now in
    let exe = c.args.exe.items in
    let file = c.limited_file.result.items in
    subst (λ f. IsFormed (Some f) names modules r file) (sym c.in-LimitedExe.is)
    (as_limited names modules r exe linked c.in-LimitedExe.paragraphs file
    (c.limited_file.ensures (long_file r.program exe linked.format)))
