use Rattle.std.proofs.Common.{◌≡◌, arith}
use Rattle.omf_library.specs.Names.{wanted_in}
use Rattle.omf_library.proofs.names.push_wanted.Goals as goal

pub returns-in-140 : goal.returns-in-140
unfolding wanted_in
returns-in-140 g c =
    let external : c.args.frame.now.kind ≡ 0x8C = omega arith in
    rw external c.push_names.ensures
