use Rattle.std.proofs.Common.{map, refl, subst, sym}
use Rattle.doslink_stock.specs.Seen.{handed_held}
use Rattle.doslink_jobs.specs.inside.Gathering.{AreAsked, AreNamed}
use Rattle.doslink_jobs.proofs.Rounds.{asked-kept, handed-drop, named-drop}
use Rattle.doslink_jobs.proofs.gathering.asked_now.Goals as goal

pub returns : goal.returns
returns g c =
    λ left_out names rounds are searched.
    let (taken, takes, dropped) = c.in_ok-taken.ensures names rounds searched in
    let handed = c.in_ok-taken.taken.items in
    let modules = map (λ t. t.held) taken in
    let named = c.in_ok-named.named.items in (
      modules,
      (taken, takes, refl),
      subst (AreAsked left_out modules) (sym (c.in_ok-libraries.ensures left_out are)) (asked-kept left_out modules named
          (named-drop c.args.before (map handed_held handed) modules named
          (handed-drop c.args.before handed taken dropped)
          (subst (λ hs. AreNamed (map handed_held hs) named) c.deref-2.ensures.value c.in_ok-named.ensures))),
    )
