use Rattle.std.proofs.Common.{string_bytes, subst}
use Rattle.makefile_words.specs.Tokens.{tokens}
use Rattle.doslink_asked.specs.Lines.{StandsForAll}
use Rattle.doslink_asked.proofs.LineTexts.{spoken-next}
use Rattle.doslink_asked.proofs.line_text.with_files.Goals as goal

pub returns-then-not-more : goal.returns-then-not-more
returns-then-not-more g c =
    let told = g.W.World.bytes c.args.world.now in
    let next = string_bytes c.in_ok-next.next in
    spoken-next told c.args.language c.args.text.now (string_bytes c.rounds.line) next c.rounds.invariant
    (subst (λ t. StandsForAll told (tokens c.args.language t) next) c.as_str.ensures.value c.in_ok-next.ensures)

pub rounds-preserved : goal.rounds-preserved
rounds-preserved g c =
    let told = g.W.World.bytes c.args.world.now in
    let next = string_bytes c.in_ok-next.next in
    spoken-next told c.args.language c.args.text.now (string_bytes c.rounds.line) next c.rounds.invariant
    (subst (λ t. StandsForAll told (tokens c.args.language t) next) c.as_str.ensures.value c.in_ok-next.ensures)
