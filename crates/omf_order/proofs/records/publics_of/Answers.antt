use Rattle.std.proofs.Common.{◌∙◌, ap, arith, map}
use Rattle.std.proofs.lemmas.List.{take_all}
use Rattle.omf_record.specs.View.{public_view}
use Rattle.omf_order.specs.Records.{public_of}
use Rattle.omf_order.specs.inside.Held.{names_view}
use Rattle.omf_order.proofs.records.publics_of.Goals as goal

pub loop-name-init : goal.loop-name-init
loop-name-init g c = ap (map public_view) c.new-publics.ensures.items

pub returns : goal.returns
returns g c =
    c.loop-name.invariant
    ∙ ap (λ ns. map public_of (names_view ns)) (take_all c.loop-name.name-index c.args.names.now (omega arith))
