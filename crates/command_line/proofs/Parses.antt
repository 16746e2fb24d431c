-- What a parse of a simple command gives, whether it succeeds or fails.
use Rattle.std.proofs.Common.{◌≡◌, ◌∙◌, List, [], Option, Some, None, Result, Ok, Err, IsSome, is_some, option_map}
use Rattle.std.proofs.Common.{true}
use Rattle.std.proofs.Common.{sym, ap, ap₂, subst, inl, inr}
use Rattle.std.specs.Prelude.{unwrap_or}
use Rattle.std.specs.Borrow.{Bor}
use Rattle.std.specs.Box.{box_value}
use Rattle.clap.specs.Words.{App, HasMatchesOf, Row, Text, fault_of, found_of, has_subcommand, is_simple, kind_of}
use Rattle.clap.specs.Words.{is_simple_and_free, matches_of, rows_of, subcommand_name_of, subcommand_of}
use Rattle.clap.specs.Words.{subcommand_rows, subcommand_rows_of}
use Rattle.clap.specs.Kinds.{FailsBy, HasKind}
use Rattle.clap.specs.declared.error.Error.{Error}
use Rattle.clap.specs.declared.error.ErrorKind.TheVariants.{OutOfMemory}
use Rattle.clap.specs.declared.parser.matches.ArgMatches.{ArgMatches}
use Rattle.clap.specs.declared.parser.matches.ArgMatches.TheViews.{out-ArgMatches, out-SubCommand}
use Rattle.clap.proofs.TakesLemmas.{some_rows}
use Rattle.clap.proofs.WalkLemmas.{both}

-- a simple command that is free is simple
pub simple_from_free : (a : App) → is_simple_and_free a ≡ true → is_simple a ≡ true
simple_from_free a free = (both (is_simple a) _ free).0

only_memory : (e : Error) → HasKind [] e → kind_of e ≡ OutOfMemory
only_memory e (inl memory) = memory
only_memory e (inr other) = absurd other

module _ (own a : App) (words : List Text) (is : a ≡ own) (free : is_simple_and_free own ≡ true) where
  free_here : is_simple_and_free a ≡ true
  free_here = ap is_simple_and_free is ∙ free

  fails_by : {T : Type 0} (r q : Result T Error) → (is_simple_and_free a ≡ true → FailsBy (fault_of a words) r) → r ≡ q
      → FailsBy (fault_of own words) q
  fails_by r q fails met =
      subst (λ b. FailsBy (fault_of b words) q) is
      (subst (FailsBy (fault_of a words)) met (fails free_here))

  -- it succeeds only where no fault stands in the words ..
  pub no_fault : {T : Type 0} (r : Result T Error) (m : T)
      → (is_simple_and_free a ≡ true → FailsBy (fault_of a words) r) → r ≡ Ok m → fault_of own words ≡ []
  no_fault r m fails met = fails_by r (Ok m) fails met

  -- .. and where none does, nothing fails but memory
  pub memory_fails : {T : Type 0} (r : Result T Error) (e : Error)
      → (is_simple_and_free a ≡ true → FailsBy (fault_of a words) r) → r ≡ Err e → fault_of own words ≡ []
      → kind_of e ≡ OutOfMemory
  memory_fails r e fails met none = only_memory e (subst (λ ks. HasKind ks e) none (fails_by r (Err e) fails met))

  -- the rows of its matches, and those of the subcommand that it enters
  pub rows_given : (m : ArgMatches) → HasMatchesOf a words m → rows_of (found_of m) ≡ matches_of own words
  rows_given m matched = (matched (simple_from_free a free_here)).0 ∙ ap (λ b. matches_of b words) is

  pub subcommand_given : (m : ArgMatches) → HasMatchesOf a words m → subcommand_rows_of m ≡ subcommand_of own words
  subcommand_given m matched = (matched (simple_from_free a free_here)).1 ∙ ap (λ b. subcommand_of b words) is

-- ---- the subcommand that is entered, by its name and its rows

pub subcommand_there : (m : ArgMatches) (o : Option (Bor Text × Bor ArgMatches)) (s : Option (Text × List Row))
    → is_some o ≡ has_subcommand m → subcommand_rows_of m ≡ s → IsSome s → IsSome o
subcommand_there m o s same is there = same ∙ (some_rows (out-ArgMatches m).subcommand ∙ (ap is_some is ∙ there))

-- a name and rows that stand in the two columns of an option stand in it as a pair
both_of : {X N R : Type 0} (f : X → N × R) (o : Option X) (n : N) (r : R) → Some n ≡ option_map (λ x. (f x).0) o
    → Some r ≡ option_map (λ p. p.1) (option_map f o)
    → option_map f o ≡ Some (n, r)
both_of f None n r named rowed = absurd (cc)
both_of {X} {N} {R} f (Some x) n r named rowed =
    ap (λ (p : N × R). Some p)
    (ap₂ (λ (a : N) (b : R). (a, b)) (sym (ap (λ (o : Option N). unwrap_or o n) named))
    (sym (ap (λ (o : Option R). unwrap_or o r) rowed)))

pub subcommand_is : (m : ArgMatches) (o : Option (Bor Text × Bor ArgMatches)) (p : Bor Text × Bor ArgMatches)
    (s : Option (Text × List Row)) → option_map (λ q. q.0.now) o ≡ subcommand_name_of m
    → option_map (λ q. rows_of (found_of q.1.now)) o
    ≡ option_map (λ q. q.1) (subcommand_rows (out-ArgMatches m).subcommand)
    → subcommand_rows_of m ≡ s → o ≡ Some p → s ≡ Some (p.0.now, rows_of (found_of p.1.now))
subcommand_is m o p s named rowed is given =
    sym is
    ∙ both_of
    (λ b. ((out-SubCommand (box_value b)).name.now, rows_of (found_of (out-SubCommand (box_value b)).matches)))
    (out-ArgMatches m).subcommand p.0.now
    (rows_of (found_of p.1.now)) (ap (option_map (λ q. q.0.now)) (sym given) ∙ named)
    (ap (option_map (λ q. rows_of (found_of q.1.now))) (sym given) ∙ rowed)
