use Rattle.std.proofs.Common.{arith}
use Rattle.omf_codec.specs.inside.PrimitiveLaws.{name}
use Rattle.omf_codec.proofs.Missing.{IsBytes-from, missing, name_goes_on}
use Rattle.omf_codec.proofs.primitives.NameField.read.Goals as goal

pub returns-in-None : goal.returns-in-None
returns-in-None g c =
    let bytes = c.args.bytes.now in
    missing name bytes c.in-None.ensures
    (name_goes_on bytes (IsBytes-from bytes (λ i. omega (arith, c.type_inv.bytes i))) c.in-None.ensures)
