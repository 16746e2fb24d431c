use Rattle.std.proofs.Common.{◌∙◌, Err, ap, arith, sym}
use Rattle.std.proofs.lemmas.List.{length-map}
use Rattle.doslink_words.specs.inside.Tokens.{all_placed, placed_of}
use Rattle.doslink_words.proofs.PartsLemmas.{no_offset_long, no_offset_short}
use Rattle.doslink_words.proofs.directives.offset_of.Goals as goal

pub returns-in_default : goal.returns-in_default
returns-in_default c =
    let n = length-map c.args.operands.now placed_of in
    let below = c.in_default.len_below in
    no_offset_short (all_placed c.args.operands.now) (omega (arith, n, below)) ∙ ap (λ m. Err m) (sym c.own.ensures)

pub returns-in-len4-up : goal.returns-in-len4-up
returns-in-len4-up c =
    let n = length-map c.args.operands.now placed_of in
    let more = c.in-len4-up.len_at_least in
    no_offset_long (all_placed c.args.operands.now) (omega (arith, n, more))
    ∙ ap (λ m. Err m) (sym c.own-in-len4-up.ensures)
