use Rattle.std.proofs.Common.{subst}
use Rattle.doslink_words.specs.Tokens.{texts}
use Rattle.doslink_asked.specs.Spoken.{StandForAll, word_lines}
use Rattle.doslink_asked.specs.inside.Spoken.{said_lines}
use Rattle.doslink_asked.proofs.Speaking.{spoken-next}
use Rattle.doslink_asked.proofs.spoken.lines_in_rounds.Goals as goal

pub returns-then-not-more : goal.returns-then-not-more
returns-then-not-more g c =
    let told = g.W.World.bytes c.args.world.now in
    let next = said_lines c.in_ok-next.next.items in
    spoken-next told (word_lines (texts c.args.words.now)) (said_lines c.rounds.lines.items) next c.rounds.invariant
    (subst (λ ls. StandForAll told (said_lines ls) next) c.deref.ensures.value c.in_ok-next.ensures)

pub rounds-preserved : goal.rounds-preserved
rounds-preserved g c =
    let told = g.W.World.bytes c.args.world.now in
    let next = said_lines c.in_ok-next.next.items in
    spoken-next told (word_lines (texts c.args.words.now)) (said_lines c.rounds.lines.items) next c.rounds.invariant
    (subst (λ ls. StandForAll told (said_lines ls) next) c.deref.ensures.value c.in_ok-next.ensures)
