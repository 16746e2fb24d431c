-- What private functions answer.
use Rattle.std.specs.Prelude.{◌≡◌, Bool, true, false, if◌then◌else◌, List, ◌++◌, Ok, Err}
use Rattle.std.specs.declared.result.Result.{Result}
use Rattle.omf_record.specs.Record.{Block, blocks_of, External, Record, Lnames, Grpdef, Ledata, Lidata}
use Rattle.omf_record.specs.View.{external_view}
use Rattle.omf_record.specs.declared.externals.External as code
use Rattle.omf_plain.specs.declared.fault.Obstacle.{Obstacle}
use Rattle.omf_plain.specs.declared.fault.Obstacle.TheVariants.{Above16Bits}
use Rattle.omf_plain.specs.Data.{have_word_counts}
use Rattle.omf_plain.specs.declared.fault.PlainFault.{PlainFault}
use Rattle.omf_plain.specs.declared.fault.PlainFault.TheVariants.{Of, Memory}

-- one of the fourteen that says nothing to those behind it
abbrev pub says_nothing : Record → Bool
says_nothing (Lnames names) = false
says_nothing (Grpdef name segments) = false
says_nothing (Ledata segment offset bytes) = false
says_nothing (Lidata segment offset blocks) = false
says_nothing _ = true

-- what is appended to a list, unless memory runs out
abbrev pub Appends : {X : Type 0} → (old new : List X) → Result (Unit {0}) PlainFault → Result (List X) Obstacle → Type 0
Appends old new (Ok done) stands = (added : List _) × (stands ≡ Ok added) × (new ≡ old ++ added)
Appends old new (Err (Of obstacle)) stands = stands ≡ Err obstacle
Appends old new (Err Memory) stands = Unit {0}

-- an external, or what is in the way of one
abbrev pub external_said : Result code.External Obstacle → Result External Obstacle
external_said (Ok e) = Ok (external_view e)
external_said (Err obstacle) = Err obstacle

-- blocks of 32 bits as those of 16
abbrev pub plain_blocks : List Block → Result (List Block) Obstacle
plain_blocks blocks = if have_word_counts (blocks_of blocks) then Ok blocks else Err Above16Bits
