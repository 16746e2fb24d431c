use Rattle.std.proofs.Common.{arith}
use Rattle.std.proofs.lemmas.Result.{err_from_is_err_and}
use Rattle.flat_file.proofs.Fitting.{too_long, does_not_fit, no_memory, loads_as}
use Rattle.flat_file.proofs.loading.load_com.Goals as goal

pub returns-then-file-gt-MOST : goal.returns-then-file-gt-MOST
returns-then-file-gt-MOST g c = too_long c.args.psp c.args.file.now (omega arith)

pub returns-then-from-gt-MEMORY_LEN : goal.returns-then-from-gt-MEMORY_LEN
returns-then-from-gt-MEMORY_LEN g c = does_not_fit c.args.psp c.args.file.now (omega arith) (omega arith)

pub returns-in_err-bytes : goal.returns-in_err-bytes
returns-in_err-bytes g c =
    let p = err_from_is_err_and c.from_residual.result c.from_residual.ensures.1 in
    no_memory c.from_residual.result c.args.psp c.args.file.now p.0 (omega arith) (omega arith) p.1 p.2

pub returns : goal.returns
returns g c =
    loads_as c.args.psp c.min-kept.result c.args.file.now c.in_ok-bytes.bytes.items (omega arith) (omega arith)
    (omega arith) c.in_ok-bytes.ensures.items
