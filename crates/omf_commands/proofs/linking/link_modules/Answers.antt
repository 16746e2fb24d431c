use Rattle.std.proofs.Common.{arith}
use Rattle.std.proofs.lemmas.Result.{err_from_is_err_and}
use Rattle.mz.specs.File.{file_bytes}
use Rattle.omf_commands.proofs.LinkSteps.{holds_program, not_built, unwritten}
use Rattle.omf_commands.proofs.linking.link_modules.Goals as goal

pub write_mz-requires : goal.write_mz-requires
write_mz-requires g c = c.requires

pub returns-in_err-report-clause-sink : goal.returns-in_err-report-clause-sink
returns-in_err-report-clause-sink g c =
    let p = err_from_is_err_and c.from_residual.result c.from_residual.ensures.1 in
    rw (p.1, p.2)
    (unwritten (Unit {0}) c.args.options.now.names c.args.modules.items _ c.in_err-report.field-0.0
    c.in_err-report.ensures)

pub returns-in_err-report-clause-links : goal.returns-in_err-report-clause-links
returns-in_err-report-clause-links g c =
    let p = err_from_is_err_and c.from_residual.result c.from_residual.ensures.1 in
    rw (p.1, p.2)
    (not_built c.args.options.now.names c.args.modules.items _ c.in_err-report.field-0.0 c.in_err-report.ensures)

pub returns-in-Ok-clause-sink : goal.returns-in-Ok-clause-sink
returns-in-Ok-clause-sink g c = omega (arith, c.in-Ok.ensures.written.1)

pub returns-in-Ok-clause-links : goal.returns-in-Ok-clause-links
returns-in-Ok-clause-links g c =
    let report = c.in_ok-report.report in
    let laws = c.loads_as_written.ensures in (
      c.in_ok-report.ensures,
      (
        file_bytes report.program,
        c.in-Ok.ensures.format,
        c.in-Ok.ensures.written.0,
        holds_program c.args.options.now.names c.args.modules.items report.layout report.program
            (file_bytes report.program) laws.reads laws.memory laws.loads c.in_ok-report.ensures.linked
            c.in-Ok.ensures.format,
      ),
    )

pub returns-in-Err-clause-sink : goal.returns-in-Err-clause-sink
returns-in-Err-clause-sink g c = c.in-Err.ensures.written.1

pub returns-in-Err-clause-links : goal.returns-in-Err-clause-links
returns-in-Err-clause-links g c =
    let report = c.in_ok-report.report in (
      file_bytes report.program,
      (report.layout, report.program, c.in_ok-report.ensures.linked, c.in-Err.ensures.format),
      c.in-Err.ensures.written.0,
    )
