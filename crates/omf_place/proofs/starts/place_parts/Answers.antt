use Rattle.std.proofs.Common.{List, ℕ, subst, sym, max, arith}
use Rattle.omf_place.proofs.Within.{address-within}
use Rattle.omf_place.specs.inside.Sites.{sites_view}
use Rattle.omf_place.specs.Placed.{IsPlaced, FollowFrom}
use Rattle.omf_place.specs.inside.Walk.{units}
use Rattle.omf_place.proofs.Bounds.{units-bounded}
use Rattle.omf_place.proofs.Only.{only_placement}
use Rattle.omf_place.proofs.Settle.{settled_placed}
use Rattle.omf_place.proofs.starts.place_parts.Goals as goal

pub start_units-requires-clause-bounds : goal.start_units-requires-clause-bounds
start_units-requires-clause-bounds g c =
    units-bounded (sites_view c.args.sites.now) c.requires.numbered c.requires.sound

pub returns-clause-placed : goal.returns-clause-placed
returns-clause-placed g c =
    let ss = sites_view c.args.sites.now in
    let size = c.in_ok-started.started.size in
    subst (λ (xs : List ℕ). IsPlaced ss xs size) (sym c.in_ok-addresses.ensures)
    (settled_placed ss c.deref.result.now size c.requires.numbered
    (subst (λ (xs : List ℕ). FollowFrom ss xs 0 (units ss) size) (sym c.deref.ensures.value)
    c.in_ok-started.ensures.follow))

pub returns-clause-only : goal.returns-clause-only
returns-clause-only g c =
    only_placement (sites_view c.args.sites.now) _ _ c.requires.numbered
    (units-bounded (sites_view c.args.sites.now) c.requires.numbered c.requires.sound) (returns-clause-placed g c)

pub returns-clause-small : goal.returns-clause-small
returns-clause-small g c = λ k.
    let h =
    address-within (sites_view c.args.sites.now) c.in_ok-addresses.addresses.items c.in_ok-started.started.size
    c.requires.numbered (returns-clause-placed g c) c.requires.sound
    (max c.in_ok-started.started.size 1114351) (omega arith) (omega arith) k in
    let s = c.in_ok-started.ensures.small in omega (arith, h, s)
