use Rattle.std.proofs.Common.{rules}
use Rattle.doslib_words.proofs.ProgramValues.{no_paragraph, paragraph_read, refused_so}
use Rattle.doslib_words.proofs.program.paragraph_of.Goals as goal

pub returns-in-Ok-clause-ok : goal.returns-in-Ok-clause-ok
returns-in-Ok-clause-ok c =
    paragraph_read c.args.digits.now c.in-Ok.bytes c.from_hex.result c.from_be_bytes.result c.from_hex.ensures
    c.in-Ok.is (search rules)

pub returns-in-Err-clause-err : goal.returns-in-Err-clause-err
returns-in-Err-clause-err c =
    refused_so c.args.digits.now c.refused.result
    (no_paragraph c.args.digits.now c.from_hex.result _ c.from_hex.ensures c.in-Err.is) c.refused.ensures
