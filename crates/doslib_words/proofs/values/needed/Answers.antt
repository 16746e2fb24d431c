use Rattle.std.proofs.Common.{◌∙◌, ap, option_map, sym}
use Rattle.clap.specs.Words.{found_of}
use Rattle.clap.proofs.CallerLemmas.{some_of_text}
use Rattle.clap.proofs.WalkLemmas.{first_value-rows}
use Rattle.doslib_words.proofs.values.needed.Goals as goal

pub unwrap-requires : goal.unwrap-requires
unwrap-requires c =
    let is = c.get_str.ensures ∙ first_value-rows (found_of c.args.values.now) c.args.id.now in
    some_of_text (λ s. s.now) c.get_str.result _ is c.requires

pub returns : goal.returns
returns c =
    let is = c.get_str.ensures ∙ first_value-rows (found_of c.args.values.now) c.args.id.now in
    sym is ∙ ap (option_map (λ s. s.now)) c.unwrap.ensures
