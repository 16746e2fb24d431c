-- What the getters give, by the rows of the matches.
use Rattle.std.proofs.Common.{◌≡◌, ◌≤◌, ◌∙◌, Bool, List, [], ◌∷◌, length, Option, Some, None, IsSome, codes, option_map}
use Rattle.std.proofs.Common.{not, false, true, refl, sym, ap, subst, arith, true≢false}
use Rattle.std.specs.Prelude.{find, option_and_then, slice_get, unwrap_or}
use Rattle.std.specs.Str.{bytes_eq}
use Rattle.std.specs.Borrow.{Bor}
use Rattle.std.proofs.lemmas.List.{length-map}
use Rattle.clap.specs.Words.{Row, Text, all_of, first_of, matched_of, one_text, raw_values, rows_of}
use Rattle.clap.specs.declared.parser.matches.Found.{Found}
use Rattle.clap.proofs.CallerLemmas.{some_of_text}
use Rattle.clap.proofs.WalkLemmas.{one_text-rows, raw_values-rows}
use Rattle.command_line.specs.Values.{IsFlag, texts}

-- ---- flags

-- a flag is what its value says
pub flag_of : (f : Found) (id : Text) (flag : Bool) → (one_text f id ≡ Some (codes "true") → flag ≡ true)
    → (one_text f id ≡ Some (codes "false") → flag ≡ false) → (one_text f id ≡ None → flag ≡ false)
    → IsFlag id (rows_of f) flag
flag_of f id flag given other none = record {
  given = λ e. given (one_text-rows f id ∙ e);
  other = λ e. other (one_text-rows f id ∙ e);
  none = λ e. none (one_text-rows f id ∙ e);
}

not_twice : (b : Bool) → not (not b) ≡ b
not_twice true = refl
not_twice false = refl

-- the same of a flag that is kept by its contrary
pub contrary_flag : (f : Found) (id : Text) (flag : Bool) → (one_text f id ≡ Some (codes "true") → flag ≡ true)
    → (one_text f id ≡ Some (codes "false") → flag ≡ false) → (one_text f id ≡ None → flag ≡ false)
    → IsFlag id (rows_of f) (not (not flag))
contrary_flag f id flag given other none =
    subst (IsFlag id (rows_of f)) (sym (not_twice flag)) (flag_of f id flag given other none)

-- ---- several values

-- the values of an argument are those that the getter gives, where it gives any
pub values_given : (f : Found) (id : Text) (o p : Option (Bor (List (Bor Text))))
    → option_map (λ s. texts s.now) o ≡ option_map raw_values (matched_of f id) → o ≡ p
    → all_of id (rows_of f) ≡ option_map (λ s. texts s.now) p
values_given f id o p is given =
    sym (is ∙ raw_values-rows f id) ∙ ap (option_map (λ (s : Bor (List (Bor Text))). texts s.now)) given

-- an argument that has a first one has them all
values_there : (id : Text) (rows : List Row) → IsSome (first_of id rows)
    → (vs : List Text) × (all_of id rows ≡ Some vs) × (1 ≤ length vs)
values_there id rows there = go (find (λ r. bytes_eq r.id id) rows) there
  where
    go : (o : Option Row) → IsSome (option_and_then (λ r. slice_get r.values 0) o)
        → (vs : List Text) × (option_map (λ r. r.values) o ≡ Some vs) × (1 ≤ length vs)
    go None e = absurd (true≢false (sym e))
    go (Some r) e = (r.values, refl, some r.values e)
      where
        some : (vs : List Text) → IsSome (slice_get vs 0) → 1 ≤ length vs
        some [] e = absurd (true≢false (sym e))
        some (v ∷ vs) e = omega arith

pub all_there : (f : Found) (id : Text) (o : Option (Bor (List (Bor Text))))
    → option_map (λ s. texts s.now) o ≡ option_map raw_values (matched_of f id)
    → IsSome (first_of id (rows_of f)) → IsSome o
all_there f id o is there =
    let vs = values_there id (rows_of f) there in
    some_of_text (λ s. texts s.now) o (Some vs.0) (is ∙ (raw_values-rows f id ∙ vs.1)) refl

pub one_or_more : (id : Text) (rows : List Row) (list : List (Bor Text)) → IsSome (first_of id rows)
    → all_of id rows ≡ Some (texts list) → 1 ≤ length list
one_or_more id rows list there is =
    let vs = values_there id rows there in
    let same : texts list ≡ vs.0 = ap (λ o. unwrap_or o []) (sym is ∙ vs.1) in
    let long : length list ≡ length vs.0 = sym (length-map list (λ s. s.now)) ∙ ap length same in
    omega (arith, long, vs.2)
