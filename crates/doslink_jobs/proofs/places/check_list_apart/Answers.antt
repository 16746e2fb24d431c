use Rattle.std.proofs.Common.{◌≡◌, IfSome, Some, ap, codes, inr, string_bytes, subst, sym, ◌∙◌}
use Rattle.std.specs.Option.{option_map}
use Rattle.doslink_jobs.specs.Wrong.{AreTwo}
use Rattle.doslink_jobs.proofs.Refused.{halts-weaker}
use Rattle.doslink_jobs.proofs.places.check_list_apart.Goals as goal

pub returns-in-Some : goal.returns-in-Some
returns-in-Some g c =
    let looks = g.W.World.looks c.args.world.now in
    let path = c.as_str-in-Some.result.now in
    let is : option_map string_bytes c.args.places.now.map ≡ Some path =
    ap (option_map string_bytes) c.in-Some.is ∙ ap Some (sym c.as_str-in-Some.ensures.value) in
    halts-weaker c.check_apart-in-Some.result
    (λ done apart. (
      subst (λ p. AreTwo looks p (codes "-")) c.as_str.ensures.value c.in_ok-check_apart.ensures,
      subst (λ m. IfSome m (λ p. AreTwo looks p (codes "-"))) (sym is) apart,
    ))
    (λ none. none) (λ one. inr (path, is, one)) c.check_apart-in-Some.ensures
