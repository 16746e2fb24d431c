use Rattle.std.proofs.Common.{◌+◌, ◌∙◌, refl, ap, arith}
use Rattle.std.proofs.lemmas.Result.{err_from_is_err_and}
use Rattle.omf_communal.specs.Plan.{near_end, near_places}
use Rattle.omf_communal.specs.inside.Planned.{places_said, room_said}
use Rattle.omf_library.specs.Members.{joined}
use Rattle.omf_communal.proofs.Laying.{fault-through, left, near_end-last, near_end-more, near_fault, near_first}
use Rattle.omf_communal.proofs.Laying.{near_last, near_more}
use Rattle.omf_communal.proofs.planning.near_places.Goals as goal

pub loop-index-init : goal.loop-index-init
loop-index-init g c = record {
  small = omega arith;
  all = near_first (room_said c.args.room) c.args.variables.now _ c.new-places.ensures.items;
  ends = refl;
}

pub loop-index-preserved : goal.loop-index-preserved
loop-index-preserved g c =
    let vs = c.args.variables.now in
    let before = room_said c.args.room in
    let i = c.loop-index.index in
    let inv = c.loop-index.invariant in
    let e = c.in_ok-end.ensures.next in
    record {
      small = c.in_ok-end.ensures.small;
      all =
          ap (λ n. joined (places_said c.push_near.new.places.items) (near_places before n (i + 1) (left vs (i + 1)))) e
          ∙ near_more before vs i c.index-variables-index.result c.loop-index-test.true c.index-variables-index.is
          c.loop-index.end (places_said c.loop-index.places.items) _ inv.all _ c.in_ok-end.ensures.placed;
      ends =
          ap (λ n. near_end n (left vs (i + 1))) e
          ∙ near_end-more vs i c.index-variables-index.result c.loop-index.end _ c.loop-index-test.true
          c.index-variables-index.is inv.ends;
    }

pub returns-in_err-end : goal.returns-in_err-end
returns-in_err-end g c =
    let p = err_from_is_err_and c.from_residual.result c.from_residual.ensures.1 in
    rw (p.1, p.2)
    (fault-through _ _ _ c.in_err-end.ensures.placed (λ f is.
    near_fault (room_said c.args.room) c.args.variables.now c.loop-index.index c.index-variables-index.result
    c.loop-index-test.true
    c.index-variables-index.is c.loop-index.end (places_said c.loop-index.places.items) _ c.loop-index.invariant.all f
    is))

pub returns : goal.returns
returns g c =
    let vs = c.args.variables.now in
    let before = room_said c.args.room in
    record {
      places =
          near_last before vs c.loop-index.index c.loop-index.end (places_said c.loop-index.places.items) _
          (omega arith)
          c.loop-index.invariant.all;
      ends = near_end-last vs c.loop-index.index c.loop-index.end _ (omega arith) c.loop-index.invariant.ends;
    }
