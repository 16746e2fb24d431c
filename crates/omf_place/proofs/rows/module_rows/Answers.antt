use Rattle.std.proofs.Common.{◌≤◌, ◌∙◌, ap, arith, length, map, sym, take, ◌+◌}
use Rattle.std.proofs.lemmas.List.{map-append, take_all}
use Rattle.omf_place.specs.Layout.{module_places}
use Rattle.omf_place.specs.Parts.{sites}
use Rattle.omf_place.specs.Rows.{row_view}
use Rattle.omf_place.specs.inside.OfProgram.{of_program}
use Rattle.omf_place.specs.inside.Program.{IsPlacedInput, addresses_of, input_view}
use Rattle.omf_place.specs.inside.Rows.{placed_row}
use Rattle.omf_place.specs.inside.Sites.{sites_view}
use Rattle.omf_place.proofs.FirstMet.{map-turn}
use Rattle.omf_place.proofs.KeyPlaces.{map_two}
use Rattle.omf_place.proofs.LinkRows.{row_same}
use Rattle.omf_place.proofs.Turns.{at_turn}
use Rattle.omf_place.proofs.rows.module_rows.Goals as goal

pub loop-input-init : goal.loop-input-init
loop-input-init g c = ap (map row_view) c.new-all.ensures.items

pub segments_of-requires : goal.segments_of-requires
segments_of-requires g c =
    let p = c.args.groups.now.program.now in
    (at_turn (IsPlacedInput (sites p.modules.now) (addresses_of p.stands.now)) p.inputs.items
    c.deref-input-items.result.now c.loop-input.input-index c.input-item.result
    c.deref-input-items.ensures.value c.requires.each c.loop-input-test.true c.input-item.is).stands

pub loop-input-preserved : goal.loop-input-preserved
loop-input-preserved g c =
    let p = c.args.groups.now.program.now in
    let ms = p.modules.now in
    let A = addresses_of p.stands.now in
    let items = c.deref-input-items.result.now in
    let x = c.input-item.result in
    let i = c.loop-input.input-index in
    let same = c.deref-input-items.ensures.value in
    let placed =
    at_turn (IsPlacedInput (sites ms) A) p.inputs.items items i x same c.requires.each c.loop-input-test.true
    c.input-item.is in
    let segments =
    c.in_ok-segments.ensures ∙ ap (λ ts. placed_row (sites_view x.sites.now) ts) placed.own
    ∙ row_same (sites ms) A (sites_view x.sites.now) in
    let groups = c.in_ok-group_frames.ensures in
    ap (λ rows. map row_view rows) c.in_ok-push.ensures.items ∙ map-append row_view c.loop-input.all.items _
    ∙ map-turn (λ y. module_places ms A (input_view y)) items i x (map row_view c.loop-input.all.items) _
    c.loop-input-test.true c.input-item.is
    (c.loop-input.invariant ∙ map_two input_view (module_places ms A) (take i p.inputs.items)
    ∙ ap (λ ys. map (λ y. module_places ms A (input_view y)) (take i ys)) (sym same))
    (λ j. record { segments = segments j; groups = groups j })
    ∙ ap (λ ys. map (λ y. module_places ms A (input_view y)) (take (i + 1) ys)) same
    ∙ sym (map_two input_view (module_places ms A) (take (i + 1) p.inputs.items))

pub returns : goal.returns
returns g c =
    let p = c.args.groups.now.program.now in
    let whole : length p.inputs.items ≤ c.loop-input.input-index =
    omega (arith, ap length c.deref-input-items.ensures.value, c.loop-input-test.false) in
    c.loop-input.invariant
    ∙ ap (map (of_program module_places p))
    (ap (map input_view) (take_all c.loop-input.input-index p.inputs.items whole) ∙ c.requires.made)
