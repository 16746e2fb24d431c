use Rattle.omf_codec.specs.inside.Numbers.{double_splits}
use Rattle.omf_codec.proofs.numbers.DoubleMadeTuple2WordWord.parts.Goals as goal

pub returns : goal.returns
returns c = λ n. double_splits c.args.item.now
