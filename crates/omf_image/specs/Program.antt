-- What contracts see of a linked program.
use Rattle.std.specs.Prelude.{ℕ, ◌+◌, ◌<◌, ◌≤◌, Bool, List, length, All, AllPairs}
use Rattle.omf_image.specs.declared.start.Registers.{Registers}

-- an image, how much of it is written, the addresses of its relocated words, the registers at the start, and which
-- pages of the image were made
pub record Program : Type 0 where
  pub image : List ℕ
  pub written : ℕ
  pub relocations : List ℕ
  pub registers : Registers
  pub made : List Bool

-- relocated words rise, share no byte and lie inside the image's written part; the limits of the format, of bytes and
-- of words
pub record IsProgram (p : Program) : Type 0 where
  pub apart : AllPairs (λ r s. r + 2 ≤ s) p.relocations
  pub inside : All (λ r. r + 2 ≤ p.written) p.relocations
  pub written : p.written ≤ length p.image
  pub few : length p.relocations ≤ 65535
  pub short : length p.image ≤ 1048560
  pub image : All (λ b. b < 256) p.image
  pub words : (p.registers.cs < 65536) × (p.registers.ip < 65536) × (p.registers.ss < 65536) × (p.registers.sp < 65536)
