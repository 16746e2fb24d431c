use Rattle.std.proofs.Common.{◌++◌, ◌∙◌, ap}
use Rattle.std.proofs.lemmas.Result.{on_ok_weaker}
use Rattle.omf_search.specs.Results.{bytes_of}
use Rattle.doslink_telling.specs.Lines.{named}
use Rattle.doslink_telling.proofs.comdats.push_comdat_clash.Goals as goal

pub returns : goal.returns
returns g c =
    on_ok_weaker c.push_named.result
    (λ e. e
    ∙ ap (λ words. c.args.lines.now.items ++ named (c.args.label.0, c.args.label.1.now) c.args.name.now words)
    (ap bytes_of c.as_slice.ensures))
    c.push_named.ensures
