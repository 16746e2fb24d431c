use Rattle.std.proofs.Common.{◌≡◌, ◌∙◌, ℕ, ◌-◌, ◌≤◌, ap, arith, length, replicate}
use Rattle.std.proofs.lemmas.List.{take-replicate}
use Rattle.link_map.proofs.part.blanks.Goals as goal

pub returns : goal.returns
returns c =
    let few : c.saturating_sub.result ≤ 14 = omega (arith, c.saturating_sub.ensures, c.requires) in
    let is : c.saturating_sub.result ≡ c.args.width - length c.args.name.now =
    omega (arith, c.saturating_sub.ensures) in
    take-replicate c.saturating_sub.result 14 32 few ∙ ap (λ (n : ℕ). replicate n 32) is
