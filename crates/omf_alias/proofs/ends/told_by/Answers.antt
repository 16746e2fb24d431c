use Rattle.std.proofs.Common.{Some, ap, sym, ◌∙◌}
use Rattle.omf_library.specs.Said.{bytes_said}
use Rattle.std.specs.Option.{option_map_or}
use Rattle.omf_alias.proofs.Ways.{told-value}
use Rattle.omf_alias.proofs.ends.told_by.Goals as goal

pub returns-in-Some : goal.returns-in-Some
returns-in-Some c =
    ap (λ o. option_map_or bytes_said o (Some c.args.name.now)) c.in-Some.ensures
    ∙ sym (told-value c.args.names c.args.ends.now c.args.name.now)

pub returns-in-None : goal.returns-in-None
returns-in-None c =
    ap (λ o. option_map_or bytes_said o (Some c.args.name.now)) c.in-None.ensures
    ∙ sym (told-value c.args.names c.args.ends.now c.args.name.now)
