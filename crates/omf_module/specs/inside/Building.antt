-- What a builder keeps, as a plain state.
use Rattle.std.specs.Prelude.{◌≡◌, Result, Ok, Err}
use Rattle.omf_module.specs.declared.fault.CheckFault.{CheckFault}
use Rattle.omf_module.specs.declared.builder.AddFault.{AddFault}
use Rattle.omf_module.specs.declared.builder.AddFault.TheVariants as adds
use Rattle.omf_module.specs.declared.builder.ModuleBuilder.{ModuleBuilder}
pub use Rattle.omf_module.specs.Building.{contents_of}
use Rattle.omf_module.specs.inside.Running.{State}

abbrev pub state : {A : Type 0} → ModuleBuilder A → State
state builder = record {
  begun = builder.begun;
  tables =
      record {
        names = builder.store.names;
        segments = builder.store.segments;
        groups = builder.store.groups;
        externals = builder.store.externals;
      };
  publics = builder.store.publics;
  frame_threads = builder.frame_threads;
  target_threads = builder.target_threads;
  data_records = builder.store.data_records;
  contents = contents_of builder.last_data;
  start = builder.start;
}

-- a fault of the code, unless memory ran out
abbrev pub Refuses : {Y : Type 0} → AddFault → Result Y CheckFault → Type 0
Refuses adds.Memory step = Unit {0}
Refuses (adds.Check check) step = step ≡ Err check

-- what a call gave is what a step gives
abbrev pub Gives : {X Y : Type 0} → (X → Y) → Result X AddFault → Result Y CheckFault → Type 0
Gives view (Ok answer) step = step ≡ Ok (view answer)
Gives view (Err fault) step = Refuses fault step
