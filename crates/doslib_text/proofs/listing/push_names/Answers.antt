use Rattle.std.proofs.Common.{rules, ◌<◌, length}
use Rattle.doslib_text.specs.Listing.{name_line}
use Rattle.doslib_text.proofs.Texts.{all-more, all-said}
use Rattle.doslib_text.proofs.listing.push_names.Goals as goal

pub loop-name-preserved : goal.loop-name-preserved
loop-name-preserved g c =
    let here : c.loop-name.name-index < length c.args.names.now = search rules in
    all-more (λ n. name_line c.args.word.now n.now) c.args.names.now c.loop-name.name-index _
    c.loop-name.lines.items _ _ here (rw c.as_slice.ensures at c.in_ok-push_pieces.ensures) c.loop-name.invariant

pub returns : goal.returns
returns g c =
    all-said (name_line c.args.word.now) (λ n. n.now) c.args.names.now c.loop-name.name-index
    c.loop-name.lines.items c.args.lines.now.items c.loop-name-test.false c.loop-name.invariant
