use Rattle.std.proofs.Common.{◌≡◌, ap, string_bytes, subst, ◌∙◌}
use Rattle.std.specs.Option.{option_map}
use Rattle.doslink_files.specs.Standing.{has_file}
use Rattle.doslink_jobs.specs.Places.{map_beside, map_path}
use Rattle.doslink_jobs.specs.Wrong.{WritesOver}
use Rattle.doslink_jobs.proofs.Refused.{halt-exit}
use Rattle.doslink_jobs.proofs.places.places_of.Goals as goal

pub returns-in_err-check_places : goal.returns-in_err-check_places
returns-in_err-check_places g c =
    let job = c.args.job.now in
    let over = WritesOver (g.W.World.bytes c.args.world.now) (g.W.World.looks c.args.world.now)
    (has_file c.args.read.now) job.verbose in
    let map : option_map string_bytes c.in_ok-map.map ≡ map_path job =
    c.in_ok-map.ensures ∙ ap (λ out. map_beside out job.map) (c.as_str.ensures.value ∙ c.in_ok-out.ensures) in
    halt-exit _ c.from_residual-in_err-check_places.result _ c.from_residual-in_err-check_places.ensures.1
    (λ none. none)
    (λ is. subst (λ out. over out (map_path job)) c.in_ok-out.ensures
    (subst (over (string_bytes c.in_ok-out.out)) map is))
    c.in_err-check_places.ensures
