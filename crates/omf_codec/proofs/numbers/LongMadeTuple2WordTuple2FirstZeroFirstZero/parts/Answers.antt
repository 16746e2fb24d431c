use Rattle.omf_codec.specs.inside.Numbers.{long_splits}
use Rattle.omf_codec.proofs.numbers.LongMadeTuple2WordTuple2FirstZeroFirstZero.parts.Goals as goal

pub returns : goal.returns
returns c = λ n. long_splits c.args.item.now
