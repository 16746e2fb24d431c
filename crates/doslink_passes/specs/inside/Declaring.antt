-- What modules declare, as it is held.
use Rattle.std.specs.Prelude.{map}
use Rattle.omf_communal.specs.Modules.{Module, bytes_of}
use Rattle.omf_communal.specs.Reading.{plain_communal}
use Rattle.doslink_passes.specs.declared.communals.Declared.{Declared}

-- a module without where its bytes lie in memory
abbrev pub declared_said : {A : Type 0} → Declared A → Module
declared_said d = record { communals = map plain_communal d.communals.items; offered = bytes_of d.offered.now }
