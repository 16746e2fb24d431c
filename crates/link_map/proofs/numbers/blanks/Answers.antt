use Rattle.std.proofs.Common.{◌≡◌, ◌∙◌, ℕ, ◌-◌, ◌≤◌, ap, arith, replicate}
use Rattle.std.proofs.lemmas.List.{take-replicate}
use Rattle.link_map.proofs.numbers.blanks.Goals as goal

pub returns : goal.returns
returns c =
    let few : c.saturating_sub.result ≤ 6 = omega (arith, c.saturating_sub.ensures) in
    let is : c.saturating_sub.result ≡ 6 - c.args.digits = omega (arith, c.saturating_sub.ensures) in
    take-replicate c.saturating_sub.result 6 32 few ∙ ap (λ (n : ℕ). replicate n 32) is
