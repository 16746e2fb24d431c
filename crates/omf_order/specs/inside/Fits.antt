-- A plan whose records fit their frames.
use Rattle.std.specs.Prelude.{ℕ, ◌<◌, ◌≤◌, length, IfSome}
use Rattle.std.specs.List.{AllByRecursion}
use Rattle.omf_write.specs.inside.Fits.{IsName}
use Rattle.omf_order.specs.Parts.{Part}
use Rattle.omf_order.specs.Plan.{Mark, Plan}

-- name and class of a part have at most 255 bytes
pub record IsShortPart (p : Part) : Type 0 where
  pub name : length p.name ≤ 255
  pub class : length p.class ≤ 255

-- name and class of a part are at most 255 bytes
pub record IsNamedPart (p : Part) : Type 0 where
  pub name : IsName p.name
  pub class : IsName p.class

-- a mark of at most two names, of one of so many parts
pub record FitsMark (count : ℕ) (m : Mark) : Type 0 where
  pub part : IfSome m.part (λ place. place < count)
  pub names : AllByRecursion IsName m.names
  pub few : length m.names ≤ 2

-- a plan of at most 16,383 parts
pub record Fits (p : Plan) : Type 0 where
  pub count : length p.parts ≤ 16383
  pub parts : AllByRecursion IsShortPart p.parts
  pub data_end : FitsMark 16383 p.data_end
  pub bss_end : FitsMark 16383 p.bss_end
