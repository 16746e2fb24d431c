use Rattle.std.proofs.Common.{◌∙◌, ap, arith, map}
use Rattle.std.proofs.lemmas.List.{take_all}
use Rattle.omf_search.specs.Results.{bytes_of}
use Rattle.omf_search.specs.declared.said.Wanted.{Wanted}
use Rattle.doslink_telling.proofs.missing.names_of.Goals as goal

pub loop-each-init : goal.loop-each-init
loop-each-init g c = ap bytes_of c.new-names.ensures.items

pub returns : goal.returns
returns g c =
    c.loop-each.invariant
    ∙ ap (map (λ (w : Wanted). w.name.now)) (take_all c.loop-each.each-index c.args.missing.now (omega arith))
