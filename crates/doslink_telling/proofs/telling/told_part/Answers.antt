use Rattle.std.proofs.Common.{arith, length-take, sym}
use Rattle.std.proofs.lemmas.List.{take_all}
use Rattle.doslink_telling.proofs.telling.told_part.Goals as goal

pub slice_bounds-result-end : goal.slice_bounds-result-end
slice_bounds-result-end c = omega (arith, length-take 255 c.args.name.now)

pub returns-then-name-le-MOST_BYTES : goal.returns-then-name-le-MOST_BYTES
returns-then-name-le-MOST_BYTES c = sym (take_all 255 c.args.name.now (omega arith))
