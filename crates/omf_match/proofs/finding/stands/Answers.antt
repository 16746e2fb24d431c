use Rattle.std.proofs.Common.{◌≡◌, ◌∙◌, [], ap, arith, length}
use Rattle.std.specs.List.{flat_map, range_with_len}
use Rattle.std.proofs.lemmas.List.Elements.{All-same}
use Rattle.omf_match.specs.Matching.{segment_stands, stands}
use Rattle.omf_match.specs.Places.{IsInside}
use Rattle.omf_match.proofs.Inside.{stands-inside}
use Rattle.omf_match.proofs.Texts.{counted-more}
use Rattle.omf_match.proofs.finding.stands.Goals as goal

pub loop-segment-preserved : goal.loop-segment-preserved
loop-segment-preserved g c =
    counted-more (segment_stands c.args.from.now c.args.image.now) c.loop-segment.segment []
    c.loop-segment.found.items c.push_segment.new.found.items c.in_ok-push_segment.ensures c.loop-segment.invariant

all-found : goal.returns-clause-exact
unfolding stands
all-found g c =
    let last : c.loop-segment.segment ≡ length c.args.from.now.segments =
    omega (arith, c.loop-segment-test.false, c.loop-segment.auto.segment-end, c.segment_count-segment-end.ensures) in
    c.loop-segment.invariant
    ∙ ap (λ n. flat_map (segment_stands c.args.from.now c.args.image.now) (range_with_len 0 n)) last

pub returns-clause-exact : goal.returns-clause-exact
returns-clause-exact g c = all-found g c

pub returns-clause-inside : goal.returns-clause-inside
returns-clause-inside g c =
    All-same (IsInside c.args.from.now c.args.image.now) c.loop-segment.found.items
    (stands c.args.from.now c.args.image.now) (all-found g c) (stands-inside c.args.from.now c.args.image.now)
