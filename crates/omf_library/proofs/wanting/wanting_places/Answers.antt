use Rattle.std.proofs.Common.{◌≡◌, ℕ, List, Some, None, ap, arith, cond, map, ◌∙◌}
use Rattle.std.specs.Borrow.{Bor}
use Rattle.std.specs.Option.{option_or}
use Rattle.omf_frame.specs.Lending.{plain_frame}
use Rattle.omf_library.specs.Names.{texts}
use Rattle.omf_library.specs.Wanting.{asks, place_of, wanting_place}
use Rattle.omf_library.proofs.Asking.{some-wanted}
use Rattle.omf_library.proofs.Wanted.{placed-all, placed-first, placed-more}
use Rattle.omf_library.proofs.wanting.wanting_places.Goals as goal

pub loop-frame-init : goal.loop-frame-init
loop-frame-init g c = λ q.
    placed-first q.now c.args.frames.now c.new-listed.result.items _ c.new-listed.ensures.items (c.new-places.ensures q)

pub loop-frame-preserved : goal.loop-frame-preserved
loop-frame-preserved g c = λ q.
    let frame = c.frame-item.result in
    placed-more q.now c.args.frames.now c.loop-frame.frame-index (texts c.loop-frame.listed.items) _ frame
    (place_of c.loop-frame.places q) (place_of c.add_record.new.self q) c.loop-frame-test.true c.frame-item.is
    (c.in_ok-add_record.ensures q
    ∙ ap
    (λ l.
    option_or (place_of c.loop-frame.places q)
    (cond (asks q.now (texts l) (plain_frame frame)) (Some frame.place) None)) c.deref.ensures.value)
    c.in_ok-push_listed.ensures (c.loop-frame.invariant q)

pub returns : goal.returns
returns g c =
    let frames = c.args.frames.now in
    let places = c.loop-frame.places in
    let all : (q : Bor (List ℕ)) → place_of places q ≡ wanting_place q.now (map plain_frame frames) = λ q.
    placed-all q.now frames c.loop-frame.frame-index (texts c.loop-frame.listed.items) (place_of places q)
    (c.loop-frame.invariant q) (omega arith) in
    record { first = all; exact = λ q. some-wanted q.now (map plain_frame frames) _ (all q) }
