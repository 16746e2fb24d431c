use Rattle.std.proofs.Common.{◌≡◌, ◌≤◌, length, arith}
use Rattle.omf_module.proofs.Rising.{rises_last}
use Rattle.omf_module.proofs.pieces.rising_piece.Goals as goal

pub returns-clause-ok : goal.returns-clause-ok
returns-clause-ok g c =
    let from : c.len.result ≡ length c.args.places.now.items = omega (arith, c.len.ensures, c.args.places.now.ok.0) in
    let long : c.args.len ≤ c.clamp.result =
    omega (arith, c.clamp.ensures, c.next_power_of_two.ensures.lower_bound, c.requires.small) in
    rw (from, c.in_ok-number_places.ensures.ok) (long, rises_last c.args.places.now.items c.clamp.result)
