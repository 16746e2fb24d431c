use Rattle.std.proofs.Common.{◌∙◌, ◌∷◌, [], ℕ, ap, map, Option}
use Rattle.std.proofs.lemmas.List.{map-append}
use Rattle.std.specs.Option.{option_map, option_to_list}
use Rattle.omf_module.specs.Module.{PublicSymbol}
use Rattle.omf_module.specs.Seen.{public_seen}
use Rattle.omf_place.specs.declared.layout.Position.{Position}
use Rattle.omf_place.specs.inside.HeldNames.{entry_view}
use Rattle.omf_place.specs.inside.OfProgram.{of_program}
use Rattle.omf_place.specs.inside.Program.{input_view}
use Rattle.omf_place.specs.Tables.{placed_public}
use Rattle.omf_place.specs.inside.Steps.{public_entry}
use Rattle.omf_place.proofs.Numbering.{flat-more}
use Rattle.omf_place.proofs.publics.push_publics.Goals as goal

pub loop-index-preserved : goal.loop-index-preserved
loop-index-preserved g c =
    let x = c.args.input.now in
    let p = c.public_symbol-public.result in
    ap (λ xs. map entry_view xs) c.in_ok-push.ensures.items ∙ map-append entry_view c.loop-index.all.items _
    ∙ flat-more
    (λ (q : PublicSymbol).
    option_to_list
    (option_map (public_entry x.input q)
    (of_program placed_public c.args.groups.now.program.now (input_view x) q.offset q.base))) x.says.now.publics
    c.loop-index.index _
    (map entry_view c.args.all.now.items) (map entry_view c.loop-index.all.items) _ c.public_symbol-public.ensures
    (ap (λ (o : Option ℕ). record { owner = o; name = p.name.now; value = c.place_of_public.result } ∷ [])
    c.then_some.ensures
    ∙ ap (λ (o : Option Position). option_to_list (option_map (public_entry x.input (public_seen p)) o))
    c.place_of_public.ensures) c.loop-index.invariant
