use Rattle.std.proofs.Common.{rules, ◌≡◌, ◌∙◌, Some, ap, sym}
use Rattle.clap.specs.Words.{found_of, rows_of}
use Rattle.command_line.proofs.Values.{all_there, one_or_more, values_given}
use Rattle.command_line.specs.Values.{texts}
use Rattle.doslib_words.proofs.values.values_of.Goals as goal

pub unwrap-list-requires : goal.unwrap-list-requires
unwrap-list-requires c =
    all_there (found_of c.args.values.now) c.args.id.now c.get_strs.result c.get_strs.ensures c.requires

pub returns-in-Ok-clause-ok : goal.returns-in-Ok-clause-ok
returns-in-Ok-clause-ok c =
    let f = found_of c.args.values.now in
    let all =
    values_given f c.args.id.now c.get_strs.result (Some c.unwrap-list.result) c.get_strs.ensures
    c.unwrap-list.ensures in
    let items : c.in-Ok.list.items ≡ c.unwrap-list.result.now = search rules in
    let every = all ∙ ap (λ xs. Some (texts xs)) (sym items) in
    (every, one_or_more c.args.id.now (rows_of f) c.in-Ok.list.items c.requires every)
