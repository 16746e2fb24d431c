use Rattle.std.proofs.Common.{rules, ◌≡◌, ◌≤◌, ◌∙◌, Some, ap, codes, refl, sym, length}
use Rattle.clap.specs.Words.{found_of, rows_of}
use Rattle.clap.proofs.WalkLemmas.{first_value-rows}
use Rattle.command_line.proofs.Values.{all_there, flag_of, one_or_more, values_given}
use Rattle.omf_words.specs.Words.{texts}
use Rattle.omf_words.proofs.WordsValues.{too_many}
use Rattle.omf_words.proofs.words.link_job.Goals as goal

pub unwrap-files-requires : goal.unwrap-files-requires
unwrap-files-requires c =
    all_there (found_of c.args.values.now) (codes "FILES") c.get_strs.result c.get_strs.ensures c.requires.files

pub returns-then-files-gt-MAX_FILES-clause-err : goal.returns-then-files-gt-MAX_FILES-clause-err
returns-then-files-gt-MAX_FILES-clause-err c =
    let all =
    values_given (found_of c.args.values.now) (codes "FILES") c.get_strs.result (Some c.unwrap-files.result)
    c.get_strs.ensures c.unwrap-files.ensures in
    too_many (rows_of (found_of c.args.values.now)) c.unwrap-files.result.now c.wrong_words.result c.wrong_words.ensures
    all (search rules)

pub returns-clause-ok : goal.returns-clause-ok
returns-clause-ok c =
    let f = found_of c.args.values.now in
    let all =
    values_given f (codes "FILES") c.get_strs.result (Some c.unwrap-files.result) c.get_strs.ensures
    c.unwrap-files.ensures in
    let items : c.in-Ok.files.items ≡ c.unwrap-files.result.now = search rules in
    let every = all ∙ ap (λ xs. Some (texts xs)) (sym items) in
    let few : length c.in-Ok.files.items ≤ 65535 = search rules in
    let map = sym (c.get_str.ensures ∙ first_value-rows f (codes "MAP")) in
    let flag =
    flag_of f (codes "ignore-case") c.get_flag.result c.get_flag.ensures.value c.get_flag.ensures.other
    c.get_flag.ensures.none in (
      refl,
      c.value.ensures,
      map,
      flag,
      every,
      one_or_more (codes "FILES") (rows_of f) c.in-Ok.files.items
          c.requires.files every,
      few,
    )
