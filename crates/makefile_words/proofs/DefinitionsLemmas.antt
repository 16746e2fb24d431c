-- What holds of a file of definitions.
use Rattle.std.proofs.Common.{◌≡◌, ◌∙◌, ◌-◌, ◌<◌, ◌≤◌, ℕ, zero, suc, true, List, [], ◌∷◌, length}
use Rattle.std.proofs.Common.{Result, Ok, add-one, ap, arith, refl, sym}
use Rattle.std.specs.List.{after_first, before_first}
use Rattle.std.specs.Str.{IsCharBoundary}
use Rattle.std.proofs.lemmas.Bool.Decides.{nat_tests}
use Rattle.clap.specs.Words.{Text}
use Rattle.doslink_words.specs.Directives.{and_then}
use Rattle.doslink_words.specs.Tokens.{after_space, if_empty}
use Rattle.makefile_words.specs.Definitions.{ends_word, is_line_end, line_meaning, lines_below, meaning}
use Rattle.makefile_words.specs.Definitions.{word_len}
use Rattle.makefile_words.specs.Lines.{WrongWord}
use Rattle.makefile_words.specs.declared.line.IdleAt.{IdleAt}
use Rattle.makefile_words.proofs.TokensLemmas.{place-boundary}

-- what ends a word is ASCII, so that a text may be cut behind a word
ends_word-ascii : (byte : ℕ) → ends_word byte ≡ true → byte < 128
ends_word-ascii byte h = grind (arith, nat_tests)

pub word-boundary : (text : Text) → 0 < length text → IsCharBoundary text (word_len text)
word-boundary text some = place-boundary ends_word ends_word-ascii text 1 (omega (arith, some))

-- what a text says that isn't empty
some_other : {A : Type 0} (text : Text) (empty other : A) → 0 < length text → if_empty text empty other ≡ other
some_other [] empty other h = absurd (omega arith)
some_other (byte ∷ text) empty other h = refl

-- what a file says is what was told, and what the rest says
pub record IsLeft (text : Text) (had : List IdleAt) (rest : Text) : Type 0 where
  pub bound : ℕ
  pub few : length rest ≤ bound
  pub within : length rest ≤ length text
  pub same : meaning text ≡ lines_below (suc bound) (length text) rest had

pub left-start : (text : Text) (had : List IdleAt) → had ≡ [] → IsLeft text had text
unfolding meaning
left-start text had none = record {
  bound = length text;
  few = omega arith;
  within = omega arith;
  same = rw add-one (ap (λ (hs : List IdleAt). lines_below (suc (length text)) (length text) text hs) (sym none));
}

-- what the first line of the rest says, and then the others
line_first : (text : Text) (had : List IdleAt) (rest front line behind : Text) (place : ℕ) (left : IsLeft text had rest)
    → front ≡ after_space rest → 0 < length front → place ≡ length text - length front
    → line ≡ before_first is_line_end front → behind ≡ after_first is_line_end front
    → meaning text ≡ and_then (line_meaning place line had) (lines_below left.bound (length text) behind)
line_first text had rest front line behind place left is some at first others =
    let all : Text → Result (List IdleAt) WrongWord = λ t.
    if_empty t (Ok had)
    (and_then (line_meaning (length text - length t) (before_first is_line_end t) had)
    (lines_below left.bound (length text) (after_first is_line_end t))) in
    left.same
    ∙ (ap all (sym is)
    ∙ (some_other front (Ok had)
    (and_then (line_meaning (length text - length front) (before_first is_line_end front) had)
    (lines_below left.bound (length text) (after_first is_line_end front))) some
    ∙ (ap (λ (n : ℕ).
    and_then (line_meaning n (before_first is_line_end front) had)
    (lines_below left.bound (length text) (after_first is_line_end front))) (sym at)
    ∙ (ap (λ (l : Text).
    and_then (line_meaning place l had) (lines_below left.bound (length text) (after_first is_line_end front)))
    (sym first)
    ∙ ap (λ (b : Text). and_then (line_meaning place line had) (lines_below left.bound (length text) b))
    (sym others)))))

pub left-more : (text : Text) (had next : List IdleAt) (rest front line behind : Text) (place : ℕ)
    → IsLeft text had rest → front ≡ after_space rest → 0 < length front → length front ≤ length rest
    → place ≡ length text - length front → line ≡ before_first is_line_end front
    → behind ≡ after_first is_line_end front → length behind < length front → line_meaning place line had ≡ Ok next
    → IsLeft text next behind
left-more text had next rest front line behind place left is some few at first others shorter says =
    let same : meaning text ≡ lines_below left.bound (length text) behind next =
    line_first text had rest front line behind place left is some at first others
    ∙ ap (λ (r : Result (List IdleAt) WrongWord). and_then r (lines_below left.bound (length text) behind)) says in
    go left.bound left.few left.within same
  where
    go : (bound : ℕ) → length rest ≤ bound → length rest ≤ length text
        → meaning text ≡ lines_below bound (length text) behind next → IsLeft text next behind
    go zero enough within same = absurd (omega (arith, enough, few, some))
    go (suc less) enough within same = record {
      bound = less;
      few = omega (arith, enough, few, shorter);
      within = omega (arith, within, few, shorter);
      same = same;
    }
