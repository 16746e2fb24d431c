use Rattle.std.proofs.Common.{◌≡◌, ◌≤◌, ◌-◌, length, take, drop, sym, length-drop}
use Rattle.std.specs.Cmp.Lexicographic.{same_text}
use Rattle.omf_module.proofs.Stored.{begins_in}
use Rattle.omf_module.proofs.pieces.keep_once.Goals as goal

pub returns-then-starts_with-clause-stands : goal.returns-then-starts_with-clause-stands
returns-then-starts_with-clause-stands g c =
    let ps = c.args.places.now.items in
    let len : length ps - c.args.from ≡ length (drop c.args.from ps) = sym (length-drop c.args.from ps) in
    let le : length c.split_at.result.1.now ≤ length c.lend.result.now =
    c.starts_with.ensures.bound c.if-starts_with.true in
    let same : c.split_at.result.1.now ≡ take (length c.split_at.result.1.now) c.lend.result.now =
    same_text _ _ (rw c.if-starts_with.true at c.starts_with.ensures.value) in
    rw (c.truncate.ensures.items, len)
    (begins_in (take c.args.from ps) (drop c.args.from ps) c.args.other c.requires.other
    (rw (c.lend.ensures, c.split_at.ensures.front, c.split_at.ensures.back, c.deref.ensures.value) at le)
    (rw (c.lend.ensures, c.split_at.ensures.front, c.split_at.ensures.back, c.deref.ensures.value) at same))
