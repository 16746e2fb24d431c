use Rattle.omf_record.specs.Records.{Placed}
use Rattle.omf_record.specs.View.{view}
use Rattle.omf_module.proofs.Held.{adds_one}
use Rattle.omf_module.proofs.builder.ModuleBuilder.add.Goals as goal

pub take-requires : goal.take-requires
take-requires g c = c.requires.short

pub returns : goal.returns
returns g c = λ rs body h.
    let r : Placed = record { place = c.args.place; body = body; says = view c.args.record.now } in
    adds_one rs r c.args.self.now c.take.new.self h c.take.result c.requires.names c.take.ensures.fits
    c.take.ensures.gives
