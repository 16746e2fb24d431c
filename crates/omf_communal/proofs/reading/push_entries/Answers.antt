use Rattle.std.proofs.Common.{[], ◌∷◌, map, sym, ap, ◌∙◌}
use Rattle.std.proofs.lemmas.List.{map-append}
use Rattle.omf_communal.specs.Reading.{plain_communal}
use Rattle.omf_communal.specs.inside.Views.{plain_entry}
use Rattle.omf_communal.proofs.Entering.{left_fault, left_first, left_more, left_none, none_there, some_left}
use Rattle.omf_communal.proofs.reading.push_entries.Goals as goal

pub loop-rest-init : goal.loop-rest-init
loop-rest-init g c = left_first c.args.place c.args.body.now (map plain_communal c.args.told.now.items)

pub returns-in-Err : goal.returns-in-Err
returns-in-Err g c =
    left_fault c.args.place c.args.body.now c.loop-rest.rest.now _ _ c.in-Err.fault c.loop-rest.invariant
    (sym c.in-Err.ensures.said) (some_left c.loop-rest.rest.now _ c.is_empty.ensures c.loop-rest-test.true)

pub loop-rest-preserved : goal.loop-rest-preserved
loop-rest-preserved g c =
    let told = c.loop-rest.told.items in
    let e = plain_entry c.in-Ok.entry in
    rw (ap (map plain_communal) c.in_ok-push.ensures.items ∙ map-append plain_communal told (_ ∷ []))
    (left_more c.args.place c.args.body.now c.loop-rest.rest.now _ (map plain_communal told) e c.loop-rest.invariant
    (sym c.in-Ok.ensures.said) c.in-Ok.ensures.shorter)

pub returns : goal.returns
returns g c =
    left_none c.args.place c.args.body.now c.loop-rest.rest.now _ _ c.loop-rest.invariant
    (none_there c.loop-rest.rest.now _ c.is_empty.ensures c.loop-rest-test.false)
