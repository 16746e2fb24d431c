use Rattle.std.proofs.Common.{ap, rules, take, tests}
use Rattle.std.proofs.lemmas.Iterator.{YieldsList-from_slice}
use Rattle.std.proofs.lemmas.Iterator.Search.{position_from_yields_List}
use Rattle.doslink_asked.specs.Responses.{is_end}
use Rattle.doslink_asked.proofs.Texts.{end-is}
use Rattle.doslink_asked.proofs.reading.up_to_end.Goals as goal

pub returns : goal.returns
returns c =
    let found =
    position_from_yields_List is_end _ _ c.position-end.result c.position-end.ensures.ran
    (YieldsList-from_slice _ c.iter.ensures.rest) (λ x b q k. search (rules, tests)) in
    ap (λ n. take n c.args.bytes.now) (end-is c.args.bytes.now c.position-end.result c.unwrap_or.result found c.unwrap_or.ensures)
