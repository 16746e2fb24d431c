-- What holds of the tokens of a line with their places.
use Rattle.std.proofs.Common.{◌≡◌, ℕ, zero, suc, ◌<◌, ◌≤◌, Bool, false, cond, List, [], ◌∷◌, ◌++◌, length}
use Rattle.std.proofs.Common.{Option, Some, None, refl, sym, ap, ◌∙◌, arith, add-one, append_assoc, length-drop}
use Rattle.std.specs.Option.{option_map, option_and_then}
use Rattle.std.specs.List.{prefix_len}
use Rattle.std.specs.Char.{is_ascii_whitespace}
use Rattle.clap.specs.Words.{Text}
use Rattle.doslink_words.specs.declared.tokens.Syntax.TheVariants.{Directives}
use Rattle.doslink_words.specs.Places.{PlacedPiece, placed, placed_below, says_nothing}
use Rattle.doslink_words.specs.Tokens.{Piece, after_space, token}

-- what was had, and what comes
abbrev pub with_front : List PlacedPiece → Option (List PlacedPiece) → Option (List PlacedPiece)
with_front had = option_map (λ more. had ++ more)

with_front-push : (had : List PlacedPiece) (p : PlacedPiece) (more : Option (List PlacedPiece))
    → with_front had (option_map (λ ps. p ∷ ps) more) ≡ with_front (had ++ (p ∷ [])) more
with_front-push had p None = refl
with_front-push had p (Some more) = ap (λ ps. Some ps) (sym (append_assoc had (p ∷ []) more))

-- a token at the front of what is left
abbrev pub placed_at : (line : ℕ) → Piece → PlacedPiece
placed_at line piece = record { piece = piece; line = line }

-- the tokens of what is left, which begins with no white space
abbrev tokens_at : (bound line : ℕ) → (front : Text) → Option (List PlacedPiece)
tokens_at bound line front =
    option_and_then (λ p. option_map (λ more. placed_at line p.0 ∷ more) (placed_below bound line p.1))
    (token Directives front)

abbrev tokens_of : (nothing : Bool) → (bound line : ℕ) → (front : Text) → Option (List PlacedPiece)
tokens_of nothing bound line front = cond nothing (Some []) (tokens_at bound line front)

-- the tokens of a line behind those that were had first are those that are had now, and those of the rest
pub record IsLeft (line : ℕ) (text : Text) (first had : List PlacedPiece) (rest : Text) : Type 0 where
  pub bound : ℕ
  pub few : length rest ≤ bound
  pub same : with_front first (placed line text) ≡ with_front had (placed_below (suc bound) line rest)

pub left-start : (line : ℕ) (text : Text) (had : List PlacedPiece) → IsLeft line text had had text
unfolding placed
left-start line text had = record { bound = length text; few = omega arith; same = rw add-one refl }

shorter_front : (text front : Text) → front ≡ after_space text → length front ≤ length text
shorter_front text front is = omega (arith, ap length is, length-drop (prefix_len is_ascii_whitespace text) text)

here_at : (bound line : ℕ) (had : List PlacedPiece) (rest front : Text) (r : Bool) → front ≡ after_space rest
    → r ≡ says_nothing front
    → with_front had (placed_below (suc bound) line rest) ≡ with_front had (tokens_of r bound line front)
here_at bound line had rest front r is says =
    ap (λ (front : Text). with_front had (tokens_of (says_nothing front) bound line front)) (sym is)
    ∙ ap (λ (b : Bool). with_front had (tokens_of b bound line front)) (sym says)

pub left-more : (line : ℕ) (text : Text) (first had : List PlacedPiece) (rest front : Text) (p : Piece) (next : Text)
    (r : Bool) → IsLeft line text first had rest → front ≡ after_space rest → r ≡ says_nothing front → r ≡ false
    → token Directives front ≡ Some (p, next) → length next < length front
    → IsLeft line text first (had ++ (placed_at line p ∷ [])) next
left-more line text first had rest front p next r left is says e met shorter = go left.bound left.few left.same
  where
    go : (bound : ℕ) → length rest ≤ bound
        → with_front first (placed line text) ≡ with_front had (placed_below (suc bound) line rest)
        → IsLeft line text first (had ++ (placed_at line p ∷ [])) next
    go zero few same = absurd (omega (arith, few, shorter, shorter_front rest front is))
    go (suc less) few same = record {
      bound = less;
      few = omega (arith, few, shorter, shorter_front rest front is);
      same =
          same
          ∙ (here_at (suc less) line had rest front r is says
          ∙ (ap (λ (b : Bool). with_front had (tokens_of b (suc less) line front)) e
          ∙ (ap (λ (t : Option (Piece × Text)).
          with_front had (option_and_then (λ p.
          option_map (λ more. placed_at line p.0 ∷ more) (placed_below (suc less) line p.1)) t)) met
          ∙ with_front-push had (placed_at line p) (placed_below (suc less) line next))));
    }
