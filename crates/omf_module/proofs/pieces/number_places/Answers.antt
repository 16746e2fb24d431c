use Rattle.std.proofs.Common.{◌≡◌, arith, sym, ◌∙◌}
use Rattle.std.proofs.lemmas.List.{append-nil}
use Rattle.std.specs.List.{range_with_len}
use Rattle.omf_module.proofs.Ranges.{range_more}
use Rattle.omf_module.proofs.pieces.number_places.Goals as goal

pub loop-place-init : goal.loop-place-init
loop-place-init g c = sym (append-nil c.args.places.now.items)

pub returns-in_err-push-clause-kept : goal.returns-in_err-push-clause-kept
returns-in_err-push-clause-kept g c =
    (range_with_len 0 c.loop-place.place, c.in_err-push.ensures.items ∙ c.loop-place.invariant)

pub loop-place-preserved : goal.loop-place-preserved
loop-place-preserved g c =
    rw (c.in_ok-push.ensures.items, c.loop-place.invariant) (range_more c.args.places.now.items c.loop-place.place)

pub returns-clause-kept : goal.returns-clause-kept
returns-clause-kept g c = (range_with_len 0 c.loop-place.place, c.loop-place.invariant)

pub returns-clause-ok : goal.returns-clause-ok
returns-clause-ok g c =
    let all : c.loop-place.place ≡ c.args.len = omega arith in
    rw all at c.loop-place.invariant
