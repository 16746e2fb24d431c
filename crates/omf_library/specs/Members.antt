-- Members of a file, and answers that list them.
use Rattle.std.specs.Prelude.{ℕ, List, ◌++◌, Ok, Err}
use Rattle.std.specs.declared.result.Result.{Result}
use Rattle.omf_library.specs.declared.files.Member.{Member}

-- a member without where its bytes and its name lie in memory
pub record PlainMember : Type 0 where
  pub place : ℕ
  pub bytes : List ℕ
  pub name : List ℕ

abbrev pub plain_member : Member → PlainMember
plain_member m = record { place = m.place; bytes = m.bytes.now; name = m.name.now }

-- these, and behind them those of the other answer, where it isn't a fault
abbrev pub joined : {A E : Type 0} → List A → Result (List A) E → Result (List A) E
joined xs (Ok ys) = Ok (xs ++ ys)
joined xs (Err e) = Err e
