-- What is linked, without where its bytes lie in memory.
use Rattle.std.specs.Prelude.{ℕ, List, map}
use Rattle.doslink_passes.specs.declared.origin.Linked as held
use Rattle.doslink_passes.specs.declared.origin.Source.{Source}
use Rattle.doslink_passes.specs.declared.origin.Source.TheVariants.{Given, Made}
use Rattle.doslink_passes.specs.Linked.{Linked}

-- the bytes that a module was given as, or made of
abbrev pub source_bytes : {A : Type 0} → Source A → List ℕ
source_bytes (Given bytes) = bytes.now
source_bytes (Made word bytes) = bytes.items

-- what is linked
abbrev pub linked_said : {A : Type 0} → held.Linked A → Linked
linked_said l = record { sources = map source_bytes l.sources.items; modules = l.modules.items }
