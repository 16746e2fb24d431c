-- Bytes that are at fault begin with no module.
use Rattle.std.proofs.Common.{ℕ, List, Err}
use Rattle.omf_module.specs.declared.fault.ModuleFault.{ModuleFault}
use Rattle.omf_module.specs.declared.fault.ModuleFault.TheVariants as fault
use Rattle.doslink_link.specs.Reading.{IsNoModule, IsReading}
use Rattle.doslink_link.proofs.Beginning.{unread-begins}
use Rattle.doslink_passes.specs.inside.Faulty.{IsOfBytes}

pub unread-is : (bytes : List ℕ) (f : ModuleFault) → IsReading bytes (Err f) → IsOfBytes f → IsNoModule bytes
unread-is bytes fault.Memory reading of one is = of
unread-is bytes (fault.Record place found) reading of one (records, begins, same) =
    unread-begins records bytes place found reading begins
