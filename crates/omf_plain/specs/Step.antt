-- What follows a value, or what is in the way of it.
use Rattle.std.specs.Prelude.{List, [], ◌∷◌, Ok, Err}
use Rattle.std.specs.declared.result.Result.{Result}
use Rattle.omf_library.specs.Members.{joined}
use Rattle.omf_plain.specs.declared.fault.Obstacle.{Obstacle}

infixl 10 ◌>>=◌
abbrev pub ◌>>=◌ : {A B : Type 0} → Result A Obstacle → (A → Result B Obstacle) → Result B Obstacle
(Ok x) >>= next = next x
(Err obstacle) >>= next = Err obstacle

-- what each item of a list says, one behind the other, or the first obstacle
abbrev pub each_of : {A B : Type 0} → (A → Result (List B) Obstacle) → List A → Result (List B) Obstacle
each_of says [] = Ok []
each_of says (x ∷ xs) = says x >>= λ ys. joined ys (each_of says xs)

-- one item alone
abbrev pub alone : {A : Type 0} → Result A Obstacle → Result (List A) Obstacle
alone found = found >>= λ x. Ok (x ∷ [])
