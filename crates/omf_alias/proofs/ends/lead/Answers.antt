use Rattle.std.proofs.Common.{ap, sym, ◌∙◌}
use Rattle.std.specs.Option.{option_map_or}
use Rattle.omf_alias.proofs.Ways.{leads-value}
use Rattle.omf_alias.proofs.ends.lead.Goals as goal

pub returns-in-Some : goal.returns-in-Some
returns-in-Some c =
    ap (λ o. option_map_or (λ b. b.now) o c.args.name.now) c.in-Some.ensures
    ∙ sym (leads-value c.args.names c.args.ways.now c.args.name.now)

pub returns-in-None : goal.returns-in-None
returns-in-None c =
    ap (λ o. option_map_or (λ b. b.now) o c.args.name.now) c.in-None.ensures
    ∙ sym (leads-value c.args.names c.args.ways.now c.args.name.now)
