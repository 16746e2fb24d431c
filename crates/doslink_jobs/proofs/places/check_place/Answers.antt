use Rattle.std.proofs.Common.{◌≡◌, IfSome, inl, inr, subst, true}
use Rattle.doslink_files.specs.Standing.{BeginsAsInput, has_file, is_one_of, stands_regular}
use Rattle.doslink_jobs.proofs.Placing.{same-told}
use Rattle.doslink_jobs.proofs.Refused.{OnHalt-words}
use Rattle.doslink_jobs.proofs.places.check_place.Goals as goal

pub returns-then-is_one_of : goal.returns-then-is_one_of
returns-then-is_one_of g c =
    let looks = g.W.World.looks c.args.world.now in
    OnHalt-words ⊥ c.stop_at_path.result c.stop_at_path.ensures
    (inl (subst (λ p. IfSome looks (λ look. is_one_of look p (has_file c.args.read.now) ≡ true))
    c.looked_path-looked.ensures (same-told looks
    (λ look. is_one_of look c.looked_path-looked.result.now (has_file c.args.read.now)) _ true c.is_one_of.ensures
    c.if-is_one_of.true)))

pub returns-then-stands_as_input : goal.returns-then-stands_as_input
returns-then-stands_as_input g c =
    let begins = c.if-stands_as_input.true in
    let same = c.looked_path-looked.ensures in
    OnHalt-words ⊥ c.stop_at_path-then-stands_as_input.result c.stop_at_path-then-stands_as_input.ensures
    (inr (
      subst (λ p. IfSome (g.W.World.looks c.args.world.now) (λ look. stands_regular look p ≡ true)) same
          (c.stands_as_input.ensures.regular begins),
      subst (λ p. IfSome (g.W.World.bytes c.args.world.now p) BeginsAsInput) same
          (c.stands_as_input.ensures.begins begins),
    ))
