use Rattle.std.proofs.Common.{None, Some, ap, sym, ◌∙◌}
use Rattle.std.specs.Option.{option_map_or}
use Rattle.omf_alias.proofs.Ways.{end-value}
use Rattle.omf_alias.proofs.ends.end_at.Goals as goal

pub returns-in-Some : goal.returns-in-Some
returns-in-Some c =
    ap (λ o. option_map_or (λ b. None) o (Some c.args.name.now)) c.in-Some.ensures
    ∙ sym (end-value c.args.names c.args.ways.now c.args.name.now)

pub returns-in-None : goal.returns-in-None
returns-in-None c =
    ap (λ o. option_map_or (λ b. None) o (Some c.args.name.now)) c.in-None.ensures
    ∙ sym (end-value c.args.names c.args.ways.now c.args.name.now)
