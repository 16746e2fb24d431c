use Rattle.std.proofs.Common.{arith, string_bytes, subst}
use Rattle.std.proofs.lemmas.List.{take_all}
use Rattle.makefile_words.specs.Tokens.{pieces}
use Rattle.doslink_asked.specs.Lines.{StandsForAll}
use Rattle.doslink_asked.proofs.LineTexts.{stands-next}
use Rattle.doslink_asked.proofs.line_text.replaced.Goals as goal

pub loop-placed-init : goal.loop-placed-init
loop-placed-init g c = c.new-text.ensures.bytes

pub loop-placed-preserved : goal.loop-placed-preserved
loop-placed-preserved g c =
    let (part, one, is) = c.in_ok-is_file.ensures in
    stands-next (g.W.World.bytes c.args.world.now) c.args.tokens.now c.loop-placed.placed-index _
    (string_bytes c.loop-placed.text) (string_bytes c.push_token.new.text) part c.loop-placed-test.true
    c.loop-placed.invariant one is

pub returns : goal.returns
returns g c =
    subst (λ ts. StandsForAll (g.W.World.bytes c.args.world.now) (pieces ts) (string_bytes c.loop-placed.text))
    (take_all c.loop-placed.placed-index c.args.tokens.now (omega arith)) c.loop-placed.invariant
