use Rattle.std.proofs.Common.{Ok}
use Rattle.std.specs.Prelude.{ℕ, List}
use Rattle.std.specs.declared.option.Option.{Option}
use Rattle.omf_module.specs.Module.{Module}
use Rattle.omf_module.specs.Reading.{Reads}
use Rattle.omf_commands.specs.Checking.{IsSound}
use Rattle.omf_commands.proofs.checking.check.Goals as goal

-- a module was read, so the input is one
read_is_sound : (old new : Option (List ℕ)) (m : Module) → Reads (λ (x : Module). x) old new (Ok m) → IsSound old new
unfolding Reads
read_is_sound old new m h = (h.0, h.1, h.2, h.3)

pub returns-in-Ok-put_all-clause-checks : goal.returns-in-Ok-put_all-clause-checks
returns-in-Ok-put_all-clause-checks g c = (read_is_sound _ _ _ c.in-Ok.ensures.reads, c.in-Ok-put_all.ensures.0)

pub returns-in-Ok-clause-checks : goal.returns-in-Ok-clause-checks
returns-in-Ok-clause-checks g c = (read_is_sound _ _ _ c.in-Ok.ensures.reads, c.in-Err-put_all.ensures.0)

pub returns-in-Ok-put_all-clause-whole : goal.returns-in-Ok-put_all-clause-whole
returns-in-Ok-put_all-clause-whole g c =
    λ rs bytes rest whole told. ((c.in-Ok.ensures.whole rs bytes rest whole told).1, c.in-Ok-put_all.ensures.0)

pub returns-in-Ok-clause-whole : goal.returns-in-Ok-clause-whole
returns-in-Ok-clause-whole g c =
    λ rs bytes rest whole told. ((c.in-Ok.ensures.whole rs bytes rest whole told).1, c.in-Err-put_all.ensures.0)

pub returns-in-Ok-put_all-clause-source : goal.returns-in-Ok-put_all-clause-source
returns-in-Ok-put_all-clause-source g c = c.in-Ok.ensures.device

pub returns-in-Ok-clause-source : goal.returns-in-Ok-clause-source
returns-in-Ok-clause-source g c = c.in-Ok.ensures.device
