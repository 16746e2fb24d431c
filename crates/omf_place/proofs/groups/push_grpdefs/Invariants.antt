use Rattle.std.proofs.Common.{◌≡◌, ◌++◌, take, map}
use Rattle.std.specs.List.{enumerate_from}
use Rattle.omf_module.specs.Module.{Group}
use Rattle.omf_place.specs.inside.Groups.{grpdef_view, reach_in}
use Rattle.std.proofs.Common.{ℕ}
use Rattle.omf_place.proofs.groups.push_grpdefs.Given as goal

abbrev pub invariant-loop-index : goal.invariant-loop-index
invariant-loop-index g l =
    map grpdef_view l.all.items
    ≡ map grpdef_view l.initial.all.items
    ++ map (λ (e : ℕ × Group). record {
      input = l.input.input;
      group = e.0;
      name = e.1.name;
      reach = reach_in l.input.stands.now e.1.members;
    }) (take l.index (enumerate_from 0 l.input.says.now.groups))
