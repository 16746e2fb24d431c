use Rattle.omf_map.specs.Map.{program_lines}
use Rattle.omf_map.proofs.map.put_program.Goals as goal

pub returns : goal.returns
unfolding program_lines
returns g c =
    rw (c.as_slice.ensures, c.registers-registers.ensures, c.size.ensures.size, c.relocations.ensures) at
    c.put_each.ensures
