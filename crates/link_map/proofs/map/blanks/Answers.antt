use Rattle.std.proofs.Common.{◌≡◌, ◌∙◌, ℕ, ◌-◌, ◌≤◌, ap, arith, length, replicate}
use Rattle.std.proofs.lemmas.List.{take-replicate}
use Rattle.link_map.specs.Map.{name_width}
use Rattle.link_map.proofs.map.blanks.Goals as goal

pub returns : goal.returns
returns c =
    let few : c.saturating_sub.result ≤ 22 = omega (arith, c.saturating_sub.ensures, c.name_width.ensures.few) in
    let is : c.saturating_sub.result ≡ name_width c.args.form - length c.args.name.now =
    omega (arith, c.saturating_sub.ensures, c.name_width.ensures.same) in
    take-replicate c.saturating_sub.result 22 32 few ∙ ap (λ (n : ℕ). replicate n 32) is
