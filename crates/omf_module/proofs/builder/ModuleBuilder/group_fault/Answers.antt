use Rattle.std.proofs.Common.{◌≡◌, None, map, sym, arith}
use Rattle.std.proofs.lemmas.Grind.{common_steps}
use Rattle.omf_module.specs.declared.fault.CheckFault.TheVariants.{NameIndex}
use Rattle.omf_module.specs.Before.{entry}
use Rattle.omf_module.specs.Faults.{component_fault, misses}
use Rattle.omf_module.specs.inside.Checking.{when}
use Rattle.omf_module.specs.inside.Building.{state}
use Rattle.omf_module.proofs.Lists.{first_none}
use Rattle.omf_module.proofs.builder.ModuleBuilder.group_fault.Goals as goal

pub returns-in-None : goal.returns-in-None
returns-in-None g c =
    let e : when (misses (state c.args.self.now).tables.names c.args.name) NameIndex ≡ None =
    grind (arith, common_steps) in
    let rest =
    map (λ index. component_fault (entry (state c.args.self.now).tables.segments index)) c.args.components.now in
    rw c.components_fault.ensures (sym (first_none _ rest e))
