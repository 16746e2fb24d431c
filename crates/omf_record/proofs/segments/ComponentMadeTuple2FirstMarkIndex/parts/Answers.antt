use Rattle.omf_record.specs.inside.Shapes.{component_splits}
use Rattle.omf_record.proofs.segments.ComponentMadeTuple2FirstMarkIndex.parts.Goals as goal

pub returns : goal.returns
returns c = λ n. component_splits c.args.item.now
