use Rattle.std.proofs.Common.{◌≡◌, ◌++◌, ◌∷◌, [], ◌∙◌, ap, sym}
use Rattle.std.specs.Option.{option_map_or}
use Rattle.doslink_telling.specs.inside.Duplicates.{places_at}
use Rattle.doslink_telling.proofs.Doubled.{add-turn}
use Rattle.doslink_telling.proofs.duplicates.add_place.Goals as goal
use Rattle.doslink_telling.proofs.duplicates.add_place.Goals.{in-Some, in-None}

pub returns : goal.returns
returns g c = λ k.
    let m = c.args.places.now in
    let had : c.match-remove.all.items ≡ places_at m c.args.key = elim c.match-remove.branch [
      | in-Some w ↦ ap (λ v. v.items) w.all-is
          ∙ ap (λ o. option_map_or (λ v. v.items) o []) (sym w.in-Some.is ∙ c.remove.ensures.value)
      | in-None w ↦ ap (λ v. v.items) w.all-is ∙ w.new-all.ensures.items
          ∙ ap (λ o. option_map_or (λ v. v.items) o []) (sym w.in-None.is ∙ c.remove.ensures.value)
    ] in
    add-turn m c.remove.new.self c.insert.new.self c.args.key k c.push.new.self c.args.at
    (c.remove.ensures.updates.0 k) (c.in_ok-insert.ensures.updates.0 k)
    (c.in_ok-push.ensures.items ∙ ap (λ l. l ++ c.args.at ∷ []) had)
