use Rattle.std.proofs.Common.{◌≡◌, IfSome, false, subst, true}
use Rattle.doslink_files.specs.Standing.{is_one_place}
use Rattle.doslink_jobs.specs.Places.{looked_path}
use Rattle.doslink_jobs.proofs.Placing.{same-told}
use Rattle.doslink_jobs.proofs.Refused.{OnHalt-words}
use Rattle.doslink_jobs.proofs.places.check_apart.Goals as goal

pub returns-then-is_one_place : goal.returns-then-is_one_place
returns-then-is_one_place g c =
    let looks = g.W.World.looks c.args.world.now in
    let first = c.looked_path-first.result.now in
    OnHalt-words ⊥ c.stop_at_path.result c.stop_at_path.ensures
    (subst (λ p. IfSome looks (λ look. is_one_place look p (looked_path c.args.other.now) ≡ true))
    c.looked_path-first.ensures
    (subst (λ p. IfSome looks (λ look. is_one_place look first p ≡ true)) c.looked_path-second.ensures
    (same-told looks (λ look. is_one_place look first c.looked_path-second.result.now) _ true
    c.is_one_place.ensures c.if-is_one_place.true)))

pub returns : goal.returns
returns g c =
    let looks = g.W.World.looks c.args.world.now in
    let first = c.looked_path-first.result.now in
    subst (λ p. IfSome looks (λ look. is_one_place look p (looked_path c.args.other.now) ≡ false))
    c.looked_path-first.ensures
    (subst (λ p. IfSome looks (λ look. is_one_place look first p ≡ false)) c.looked_path-second.ensures
    (same-told looks (λ look. is_one_place look first c.looked_path-second.result.now) _ false
    c.is_one_place.ensures c.if-is_one_place.false))
