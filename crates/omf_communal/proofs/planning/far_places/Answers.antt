use Rattle.std.proofs.Common.{◌+◌, ◌∙◌, ◌++◌, map, ap, arith}
use Rattle.std.proofs.lemmas.Result.{err_from_is_err_and}
use Rattle.omf_communal.specs.Deciding.{variable_said}
use Rattle.omf_communal.specs.Plan.{far_lengths, far_places}
use Rattle.omf_communal.specs.inside.Planned.{parts_said, places_said}
use Rattle.omf_library.specs.Members.{joined}
use Rattle.omf_communal.proofs.Laying.{far_fault, far_first-of, far_last, far_lengths-last, far_lengths-more, far_more}
use Rattle.omf_communal.proofs.Laying.{fault-through, left}
use Rattle.omf_communal.proofs.planning.far_places.Goals as goal

pub loop-index-init : goal.loop-index-init
loop-index-init g c = record {
  positive = c.requires.positive;
  small = omega (arith, c.requires.small);
  all = far_first-of c.args.variables.now c.args.first _ c.new-2.ensures.items;
  parts = ap (λ ps. parts_said ps ++ far_lengths (map variable_said c.args.variables.now)) c.new.ensures.items;
}

pub loop-index-preserved : goal.loop-index-preserved
loop-index-preserved g c =
    let vs = c.args.variables.now in
    let i = c.loop-index.index in
    let inv = c.loop-index.invariant in
    record {
      positive = c.in_ok-segment.ensures.next_positive;
      small = c.in_ok-segment.ensures.next_small;
      all =
          ap (λ n. joined (places_said c.push_far.new.fars.places.items) (far_places n (i + 1) (left vs (i + 1))))
          c.in_ok-segment.ensures.next
          ∙ far_more vs i c.index-variables-index.result c.loop-index-test.true c.index-variables-index.is
          c.loop-index.segment (places_said c.loop-index.fars.places.items) _ inv.all _ c.in_ok-segment.ensures.placed;
      parts =
          far_lengths-more vs i c.index-variables-index.result (parts_said c.loop-index.fars.parts.items)
          (parts_said c.push_far.new.fars.parts.items) _ c.loop-index-test.true c.index-variables-index.is inv.parts
          c.in_ok-segment.ensures.parts;
    }

pub returns-in_err-segment : goal.returns-in_err-segment
returns-in_err-segment g c =
    let p = err_from_is_err_and c.from_residual.result c.from_residual.ensures.1 in
    rw (p.1, p.2)
    (fault-through _ _ _ c.in_err-segment.ensures.placed (λ f is.
    far_fault c.args.variables.now c.loop-index.index c.index-variables-index.result c.loop-index-test.true
    c.index-variables-index.is c.loop-index.segment (places_said c.loop-index.fars.places.items) _
    c.loop-index.invariant.all f is))

pub returns : goal.returns
returns g c =
    let vs = c.args.variables.now in
    record {
      places =
          far_last vs c.loop-index.index c.loop-index.segment (places_said c.loop-index.fars.places.items) _
          (omega arith) c.loop-index.invariant.all;
      parts =
          far_lengths-last vs c.loop-index.index (parts_said c.loop-index.fars.parts.items) _ (omega arith)
          c.loop-index.invariant.parts;
    }
