-- What the code's modules say, without where they lie in memory.
use Rattle.std.specs.Prelude.{ℕ, List}
use Rattle.omf_librarian.specs.declared.module.Module.{Module}

abbrev pub bytes_in : {A : Type 0} → Module A → List ℕ
bytes_in m = m.bytes.now
