use Rattle.std.proofs.Common.{rules, refl}
use Rattle.clap.specs.Words.{found_of, rows_of}
use Rattle.omf_words.proofs.WordsValues.{four_digits, not_four, paragraph_read, wrong_paragraph}
use Rattle.omf_words.proofs.words.load_job.Goals as goal

pub returns-in_default-clause-err : goal.returns-in_default-clause-err
returns-in_default-clause-err c =
    wrong_paragraph (rows_of (found_of c.args.values.now)) c.value-digits.result.now c.wrong_words.result
    c.wrong_words.ensures c.value-digits.ensures
    (not_four c.value-digits.result.now c.from_hex.result _ c.from_hex.ensures c.in_default.is)

pub returns-clause-ok : goal.returns-clause-ok
returns-clause-ok c =
    let digits = c.value-digits.result.now in (
      refl,
      c.value.ensures,
      c.value-digits.ensures,
      four_digits digits c.in-Ok.bytes c.from_hex.result c.from_hex.ensures c.in-Ok.is,
      paragraph_read digits c.in-Ok.bytes c.from_hex.result c.from_be_bytes.result c.from_hex.ensures c.in-Ok.is
          (search rules),
    )
