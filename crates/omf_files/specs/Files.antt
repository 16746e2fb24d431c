-- Files that are read, and a sink in front of a writer that is written in large pieces.
use Rattle.std.specs.Prelude.{ℕ, List, Bool, true, false, Some, None}
use Rattle.std.specs.declared.option.Option.{Option}
use Rattle.std.specs.Io.Buffered.{reader_remaining, writer_buffer, writer_contents}
use Rattle.omf_files.specs.declared.files.BufferedSink.{BufferedSink}
use Rattle.omf_files.specs.declared.files.Stage.{Stage}
use Rattle.omf_files.specs.declared.files.Stage.TheVariants.{Waiting, Open, Failed, NoMemory, Finished}

-- the bytes to come of a file that has these before it is opened, where they are told
abbrev pub stage_bytes : {F A : Type 0} → (F → Option (List ℕ)) → Option (List ℕ) → Stage F A → Option (List ℕ)
stage_bytes remaining unopened Waiting = unopened
stage_bytes remaining unopened (Open reader) = reader_remaining remaining reader
stage_bytes remaining unopened Failed = None
stage_bytes remaining unopened NoMemory = None
stage_bytes remaining unopened (Finished last) = reader_remaining remaining last.value

-- no file is open, and there is no buffer
abbrev pub HoldsNothing : {F A : Type 0} → Stage F A → Type 0
HoldsNothing (Open reader) = ⊥
HoldsNothing _ = Unit {0}

-- whether a read failed for want of memory
abbrev pub is_out_of_memory : {F A : Type 0} → Stage F A → Bool
is_out_of_memory NoMemory = true
is_out_of_memory _ = false

-- the bytes of a file that is created at its first byte, where it has these before
abbrev pub created_bytes : {F : Type 0} → (F → Option (List ℕ)) → (blank : Option (List ℕ)) → Option F
    → Option (List ℕ)
created_bytes contents blank None = blank
created_bytes contents blank (Some file) = contents file

-- such a file was put at its path with these bytes, unless it was never created
abbrev pub IsPut : {F : Type 0} → (puts : List ℕ → Type 0) → Option F → (bytes : List ℕ) → Type 0
IsPut puts None bytes = Unit {0}
IsPut puts (Some file) bytes = puts bytes

-- the bytes that the writer holds, and then those that are held back
abbrev pub sink_bytes : {W A : Type 0} → (W → Option (List ℕ)) → BufferedSink W A → Option (List ℕ)
sink_bytes contents sink = writer_contents contents sink.writer

-- the bytes that are held back
abbrev pub held_back : {W A : Type 0} → BufferedSink W A → List ℕ
held_back sink = writer_buffer sink.writer

-- how many calls of the sink failed
abbrev pub sink_failures : {W A : Type 0} → BufferedSink W A → ℕ
sink_failures sink = sink.failures
