use Rattle.std.proofs.Common.{◌∙◌, ◌++◌, ap, append-nil, arith, map, sym}
use Rattle.std.proofs.lemmas.List.{take_all}
use Rattle.omf_write.specs.Records.{records_bytes}
use Rattle.omf_communal.specs.Records.{place_record}
use Rattle.omf_communal.specs.inside.Planned.{place_said, places_said}
use Rattle.omf_communal.proofs.Putting.{put-turn}
use Rattle.omf_communal.proofs.records.put_places.Goals as goal

pub loop-place-preserved : goal.loop-place-preserved
loop-place-preserved g c =
    put-turn place_said (place_record c.args.local) c.args.places.now c.loop-place.place-index c.place-item.result
    c.args.out.now.items
    c.loop-place.out.items _ c.loop-place-test.true c.place-item.is c.loop-place.invariant c.in_ok-put_public.ensures

pub loop-place-init : goal.loop-place-init
loop-place-init g c = sym (append-nil c.args.out.now.items)

pub returns : goal.returns
returns g c =
    c.loop-place.invariant
    ∙ ap (λ ps. c.args.out.now.items ++ records_bytes (map (place_record c.args.local) (places_said ps)))
    (take_all c.loop-place.place-index c.args.places.now (omega arith))
