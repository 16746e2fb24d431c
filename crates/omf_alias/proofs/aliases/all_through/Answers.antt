use Rattle.std.proofs.Common.{ap, map, sym, ◌∙◌, arith}
use Rattle.std.proofs.lemmas.List.{take_all}
use Rattle.std.proofs.lemmas.Simd.{map-map}
use Rattle.omf_alias.specs.Layered.{said_of}
use Rattle.omf_alias.specs.Lent.{alias_said}
use Rattle.omf_alias.specs.Layers.{through}
use Rattle.omf_alias.proofs.aliases.all_through.Goals as goal

pub returns : goal.returns
returns g c =
    let own = c.args.own.now in
    let r = said_of c.args.names c.args.aliases.now in
    c.loop-alias.invariant ∙ ap (map (λ a. through r (alias_said a))) (take_all _ own (omega arith))
    ∙ sym (map-map (through r) alias_said own)
