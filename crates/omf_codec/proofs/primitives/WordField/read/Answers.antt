use Rattle.std.proofs.Common.{arith, rules, ◌<◌, length}
use Rattle.omf_codec.specs.inside.PrimitiveLaws.{word}
use Rattle.omf_codec.proofs.Missing.{IsBytes-from, missing, word_goes_on, word_none}
use Rattle.omf_codec.proofs.primitives.WordField.read.Goals as goal

pub returns-then-bytes-lt2 : goal.returns-then-bytes-lt2
returns-then-bytes-lt2 g c =
    let bytes = c.args.bytes.now in
    let short : length bytes < 2 = search rules in
    missing word bytes (word_none bytes short)
    (word_goes_on bytes (IsBytes-from bytes (λ i. omega (arith, c.type_inv.bytes i))) short)
