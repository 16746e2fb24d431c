use Rattle.std.proofs.Common.{string_bytes}
use Rattle.doslink_asked.proofs.Texts.{response-text}
use Rattle.doslink_asked.proofs.reading.response_text.Goals as goal

pub returns : goal.returns
returns g c =
    let (part, one, is) = c.in_ok-push_response.ensures in
    response-text (g.W.World.bytes c.args.world.now c.args.path.now) (string_bytes c.new-text.result)
    (string_bytes c.push_response.new.text) part c.new-text.ensures.bytes one is
