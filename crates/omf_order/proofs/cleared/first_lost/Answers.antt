use Rattle.std.proofs.Common.{◌∙◌, ap, arith, refl, slice_get, sym}
use Rattle.std.proofs.lemmas.List.{take_all}
use Rattle.std.specs.List.{enumerate_from, flat_map}
use Rattle.omf_order.specs.Cleared.{lost_in}
use Rattle.omf_order.specs.inside.Held.{lost_view, parts_view}
use Rattle.omf_order.proofs.Clearing.{enumerated_at, first_of, none_more, none_of}
use Rattle.omf_order.proofs.FirstMet.{length-enumerate}
use Rattle.omf_order.proofs.cleared.first_lost.Goals as goal

pub loop-place-init : goal.loop-place-init
loop-place-init g c = λ parts e. refl

pub returns-then-is_some : goal.returns-then-is_some
returns-then-is_some g c = λ parts e.
    let ms = c.args.modules.now in
    first_of lost_view (lost_in (parts_view parts)) (enumerate_from 0 ms) c.loop-place.place _ c.lost_in-lost.result
    (enumerated_at ms c.loop-place.place c.index-modules-place.result c.loop-place-test.true c.index-modules-place.is)
    (c.loop-place.invariant parts e) (sym c.is_some.ensures ∙ c.if-is_some.true) (c.lost_in-lost.ensures parts e)

pub loop-place-preserved : goal.loop-place-preserved
loop-place-preserved g c = λ parts e.
    let ms = c.args.modules.now in
    let f = lost_in (parts_view parts) in
    none_more f (enumerate_from 0 ms) c.loop-place.place (c.loop-place.place, c.index-modules-place.result)
    (enumerated_at ms c.loop-place.place c.index-modules-place.result c.loop-place-test.true c.index-modules-place.is)
    (c.loop-place.invariant parts e)
    (none_of lost_view f (c.loop-place.place, c.index-modules-place.result) c.lost_in-lost.result
    (sym c.is_some.ensures ∙ c.if-is_some.false) (c.lost_in-lost.ensures parts e))

pub returns : goal.returns
returns g c = λ parts e.
    let all = enumerate_from 0 c.args.modules.now in
    sym
    (ap (λ ms. slice_get (flat_map (lost_in (parts_view parts)) ms) 0)
    (sym
    (take_all c.loop-place.place all (let l = length-enumerate 0 c.args.modules.now in omega (arith, l))))
    ∙ ap (λ ys. slice_get ys 0) (c.loop-place.invariant parts e))
