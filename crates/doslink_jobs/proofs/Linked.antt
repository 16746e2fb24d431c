-- Why modules that were read can't be linked.
use Rattle.std.proofs.Common.{◌≡◌, Err, List, arith}
use Rattle.omf_faults.specs.FaultLines as faults
use Rattle.omf_faults.specs.declared.fault.LinkFault.{LinkFault}
use Rattle.omf_faults.specs.declared.fault.LinkFault.TheVariants as link
use Rattle.omf_commands.specs.Linking.{IsModulesFault}
use Rattle.omf_module.specs.Module.{Module}
use Rattle.omf_place.specs.declared.names.Names.{Names}
use Rattle.doslink_link.specs.Linking.{LinksTo}

-- what ends a run with status 1 is the first fault of the modules
pub fault-of : {A : Type 0} (names : Names) (modules : List Module) (fault : LinkFault A) → faults.status fault ≡ 1
    → LinksTo names modules (Err fault) → IsModulesFault names modules fault
fault-of names modules link.Memory one links = absurd (omega (arith, one))
fault-of names modules link.Output one links = links
fault-of names modules (link.Device input place) one links = links
fault-of names modules (link.Record input place fault) one links = links
fault-of names modules (link.Program fault) one links = links
fault-of names modules (link.File fault) one links = links
