use Rattle.std.proofs.Common.{◌≡◌, ◌∙◌, [], ◌∷◌, Some, cond, length, map, refl, ap, sym, arith}
use Rattle.std.proofs.lemmas.List.{length-map, map-append}
use Rattle.indexmap.specs.IndexMap.{get}
use Rattle.omf_communal.specs.Deciding.{fresh, variable_said}
use Rattle.omf_keys.specs.Keys.{key_of, same_key}
use Rattle.omf_communal.specs.inside.Met.{declared_said, place_of}
use Rattle.omf_communal.proofs.Meeting.{new_place}
use Rattle.omf_communal.proofs.deciding.add.Goals as goal

pub returns-clause-kept : goal.returns-clause-kept
returns-clause-kept g c = λ q.
    let old = c.args.met.now.variables.items in
    let names = c.args.names in
    let d = declared_said c.args.declared.now in
    let len : c.len-place.result ≡ length (map variable_said old) =
    omega (arith, c.len-place.ensures, c.args.met.now.variables.ok.0, length-map old variable_said) in
    new_place names q c.args.declared.now.name c.len-place.result c.args.met.now.places.entries
    c.insert.new.self.entries (map variable_said old) (fresh d) c.requires.is_met
    (c.in_ok-insert.ensures.updates.0 (key_of names q)
    ∙ ap
    (λ k.
    cond (same_key k (key_of names q)) (Some c.len-place.result) (get same_key c.args.met.now.places (key_of names q)))
    c.new.ensures)
    c.requires.is_new refl len
    ∙ ap (place_of names q.now)
    (sym (ap (map variable_said) c.in_ok-push.ensures.items ∙ map-append variable_said old (_ ∷ [])))
