-- What holds of the tokens of a text.
use Rattle.std.proofs.Common.{◌≡◌, ℕ, zero, suc, ◌+◌, ◌-◌, ◌<◌, ◌≤◌, Bool, true, false, List, [], ◌∷◌, ◌++◌, length}
use Rattle.std.proofs.Common.{drop, take, get_or}
use Rattle.std.proofs.Common.{Option, Some, None, refl, sym, ap, ◌∙◌, arith, add-one, append_assoc, length-drop, cond}
use Rattle.std.proofs.Common.{eqb, ltb, not, map, subst, ◌⊎◌, inl, inr}
use Rattle.std.specs.Option.{option_map, option_and_then}
use Rattle.std.specs.Str.{IsUtf8, IsCharBoundary}
use Rattle.std.specs.List.{position_or_len, prefix_len}
use Rattle.std.specs.Char.{is_ascii_whitespace}
use Rattle.std.proofs.lemmas.List.{append-nil, take_all}
use Rattle.std.proofs.lemmas.Grind.{get_or_after_one}
use Rattle.std.proofs.lemmas.Str.{IsUtf8-drop}
use Rattle.std.specs.Str.Pattern.{HasCharAt}
use Rattle.std.specs.Prelude.{unwrap_or}
use Rattle.std.proofs.lemmas.List.Sums.{prefix_len-le-length, prefix_len_stops}
use Rattle.std.proofs.lemmas.Bool.{not-false}
use Rattle.std.proofs.lemmas.Bool.Decides.{nat_tests}
use Rattle.clap.specs.Words.{Text}
use Rattle.doslink_words.specs.declared.tokens.Syntax.{Syntax}
use Rattle.doslink_words.specs.declared.tokens.Syntax.TheVariants.{Words, Directives}
use Rattle.doslink_words.specs.Tokens.{Piece, ends_word, is_quote, mark_of, after_space, word_len, token, tokens_below}
use Rattle.doslink_words.specs.Tokens.{tokens, if_empty, text_of, words}
use Rattle.doslink_words.specs.inside.Tokens.{piece_of, pieces, said_mark}
use Rattle.doslink_words.specs.declared.faults.SplitFault.{SplitFault}
use Rattle.doslink_words.specs.declared.faults.SplitFault.TheVariants.{Memory, UnclosedQuote}
use Rattle.doslink_words.specs.declared.tokens.Token.{Token}

-- what ends a word, a quote and a mark are ASCII
pub ends_word-ascii : (syntax : Syntax) (byte : ℕ) → ends_word syntax byte ≡ true → byte < 128
ends_word-ascii Words byte h = grind (arith, nat_tests)
ends_word-ascii Directives byte h = grind (arith, nat_tests)

pub quote-ascii : (syntax : Syntax) (byte : ℕ) → is_quote syntax byte ≡ true → byte < 128
quote-ascii Words byte h = grind (arith, nat_tests)
quote-ascii Directives byte h = grind (arith, nat_tests)

pub mark-ascii : (syntax : Syntax) (byte : ℕ) (mark : Piece) → mark_of syntax byte ≡ Some mark → byte < 128
mark-ascii Words byte mark h = cc
mark-ascii Directives byte mark h = grind (arith, nat_tests)

-- so a text may be cut behind a quote or a mark that it begins with
pub first-quote : (syntax : Syntax) (text bytes : Text) (r : Bool) → bytes ≡ text
    → r ≡ is_quote syntax (get_or bytes 0 0) → r ≡ true → get_or text 0 0 < 128
first-quote syntax text bytes r same is found =
    quote-ascii syntax (get_or text 0 0)
    (sym (ap (λ (bs : Text). is_quote syntax (get_or bs 0 0)) same) ∙ (sym is ∙ found))

pub first-mark : (syntax : Syntax) (text bytes : Text) (r : Option Token) (mark : Token) → bytes ≡ text
    → said_mark r ≡ mark_of syntax (get_or bytes 0 0) → r ≡ Some mark → get_or text 0 0 < 128
first-mark syntax text bytes r mark same is found =
    mark-ascii syntax (get_or text 0 0) (piece_of mark)
    (sym (ap (λ (bs : Text). mark_of syntax (get_or bs 0 0)) same) ∙ (sym is ∙ ap said_mark found))

-- a word is no longer than its text
pub word_len-le : (syntax : Syntax) (text : Text) → 0 < length text → word_len syntax text ≤ length text
word_len-le syntax [] h = absurd (omega arith)
word_len-le syntax (byte ∷ text) h = omega (arith, prefix_len-le-length (λ byte. not (ends_word syntax byte)) text)

-- a text may be cut behind a word that it begins with
pub word-boundary : (syntax : Syntax) (text : Text) → 0 < length text → IsCharBoundary text (word_len syntax text)
word-boundary syntax [] h = absurd (omega arith)
word-boundary syntax (byte ∷ text) h = (
  word_len-le syntax (byte ∷ text) h,
  λ inside high.
      let n = position_or_len (ends_word syntax) text in
      let ends =
      not-false (ends_word syntax (get_or text n 0))
      (prefix_len_stops (λ b. not (ends_word syntax b)) text 0 (omega arith)) in
      let small = ends_word-ascii syntax (get_or text n 0) ends in
      let P : ℕ → Type 0 = λ v. 128 ≤ v in
      let large : 128 ≤ get_or text n 0 = subst P (sym (get_or_after_one (byte ∷ text) n 0)) high in
      absurd (omega (arith, small, large)),
)

-- a place that is found, or else the end
at_or_end : (p len : ℕ) → p ≤ len → unwrap_or (cond (ltb p len) (Some p) None) len ≡ p
at_or_end p len few = grind (arith, nat_tests)

-- how long a word is, by the place of the first byte that ends it
pub word_len-is : (syntax : Syntax) (text bytes : Text) (found : Option ℕ) (end : ℕ) → bytes ≡ text
    → (let inside = take (length bytes - 1) (drop 1 bytes) in
    found
    ≡ cond (ltb (position_or_len (ends_word syntax) inside) (length inside))
    (Some (position_or_len (ends_word syntax) inside)) None)
    → end ≡ unwrap_or found (length (take (length bytes - 1) (drop 1 bytes))) → end + 1 ≡ word_len syntax text
word_len-is syntax text bytes found end same is ends =
    let inside = take (length bytes - 1) (drop 1 bytes) in
    let whole : inside ≡ drop 1 bytes =
    take_all (length bytes - 1) (drop 1 bytes) (omega (arith, length-drop 1 bytes)) in
    let few : position_or_len (ends_word syntax) inside ≤ length inside =
    prefix_len-le-length (λ b. not (ends_word syntax b)) inside in
    let at : end ≡ position_or_len (ends_word syntax) inside =
    ends
    ∙ (ap (λ (o : Option ℕ). unwrap_or o (length inside)) is
    ∙ at_or_end (position_or_len (ends_word syntax) inside) (length inside) few) in
    let moved : position_or_len (ends_word syntax) inside ≡ position_or_len (ends_word syntax) (drop 1 text) =
    ap (position_or_len (ends_word syntax)) whole
    ∙ ap (λ (bs : Text). position_or_len (ends_word syntax) (drop 1 bs)) same in
    omega (arith, at, moved)

-- what was had, and what comes
abbrev pub with_front : List Piece → Option (List Piece) → Option (List Piece)
with_front had = option_map (λ more. had ++ more)

pub with_front-none : (more : Option (List Piece)) → with_front [] more ≡ more
with_front-none None = refl
with_front-none (Some more) = refl

pub with_front-push : (had : List Piece) (p : Piece) (more : Option (List Piece))
    → with_front had (option_map (λ ps. p ∷ ps) more) ≡ with_front (had ++ (p ∷ [])) more
with_front-push had p None = refl
with_front-push had p (Some more) = ap (λ ps. Some ps) (sym (append_assoc had (p ∷ []) more))

-- the tokens of a text that begins with no white space
abbrev tokens_at : ℕ → Syntax → Text → Option (List Piece)
tokens_at bound syntax front =
    if_empty front (Some [])
    (option_and_then (λ p. option_map (λ more. p.0 ∷ more) (tokens_below bound syntax p.1)) (token syntax front))

tokens_at-more : (bound : ℕ) (syntax : Syntax) (had : List Piece) (front : Text) (p : Piece) (rest : Text)
    → 0 < length front → token syntax front ≡ Some (p, rest)
    → with_front had (tokens_at bound syntax front) ≡ with_front (had ++ (p ∷ [])) (tokens_below bound syntax rest)
tokens_at-more bound syntax had [] p rest h e = absurd (omega arith)
tokens_at-more bound syntax had (byte ∷ text) p rest h e =
    ap (λ (t : Option (Piece × Text)).
    with_front had (option_and_then (λ p. option_map (λ more. p.0 ∷ more) (tokens_below bound syntax p.1)) t)) e
    ∙ with_front-push had p (tokens_below bound syntax rest)

tokens_at-none : (bound : ℕ) (syntax : Syntax) (had : List Piece) (front : Text) → length front ≡ 0
    → with_front had (tokens_at bound syntax front) ≡ Some had
tokens_at-none bound syntax had [] h = ap (λ (ps : List Piece). Some ps) (append-nil had)
tokens_at-none bound syntax had (byte ∷ text) h = absurd (omega arith)

tokens_at-unclosed : (bound : ℕ) (syntax : Syntax) (had : List Piece) (front : Text) → 0 < length front
    → token syntax front ≡ None → with_front had (tokens_at bound syntax front) ≡ None
tokens_at-unclosed bound syntax had [] h e = absurd (omega arith)
tokens_at-unclosed bound syntax had (byte ∷ text) h e =
    ap (λ (t : Option (Piece × Text)).
    with_front had (option_and_then (λ p. option_map (λ more. p.0 ∷ more) (tokens_below bound syntax p.1)) t)) e

-- the tokens of a text are those that were had, and those of the rest
pub record IsLeft (syntax : Syntax) (text : Text) (had : List Piece) (rest : Text) : Type 0 where
  pub bound : ℕ
  pub few : length rest ≤ bound
  pub same : tokens syntax text ≡ with_front had (tokens_below (suc bound) syntax rest)

pub left-start : (syntax : Syntax) (text : Text) (had : List Token) → had ≡ [] → IsLeft syntax text (pieces had) text
unfolding tokens
left-start syntax text had none = record {
  bound = length text;
  few = omega arith;
  same =
      rw add-one
      (sym
      (ap (λ (ts : List Token). with_front (pieces ts) (tokens_below (suc (length text)) syntax text)) none
      ∙ with_front-none (tokens_below (suc (length text)) syntax text)));
}

shorter_front : (text front : Text) → front ≡ after_space text → length front ≤ length text
shorter_front text front is = omega (arith, ap length is, length-drop (prefix_len is_ascii_whitespace text) text)

pub left-more : (syntax : Syntax) (text : Text) (had : List Piece) (rest front : Text) (p : Piece) (next : Text)
    → IsLeft syntax text had rest → front ≡ after_space rest → 0 < length front
    → token syntax front ≡ Some (p, next) → length next < length front → IsLeft syntax text (had ++ (p ∷ [])) next
left-more syntax text had rest front p next left is some met shorter = go left.bound left.few left.same
  where
    go : (bound : ℕ) → length rest ≤ bound → tokens syntax text ≡ with_front had (tokens_below (suc bound) syntax rest)
        → IsLeft syntax text (had ++ (p ∷ [])) next
    go zero few same = absurd (omega (arith, shorter_front rest front is))
    go (suc less) few same = record {
      bound = less;
      few = omega (arith, shorter_front rest front is);
      same =
          same
          ∙ (ap (λ (front : Text). with_front had (tokens_at (suc less) syntax front)) (sym is)
          ∙ tokens_at-more (suc less) syntax had front p next some met);
    }

pub left-none : (syntax : Syntax) (text : Text) (had : List Piece) (rest front : Text) → IsLeft syntax text had rest
    → front ≡ after_space rest → length front ≡ 0 → tokens syntax text ≡ Some had
left-none syntax text had rest front left is none =
    left.same
    ∙ (ap (λ (front : Text). with_front had (tokens_at left.bound syntax front)) (sym is)
    ∙ tokens_at-none left.bound syntax had front none)

pub left-unclosed : (syntax : Syntax) (text : Text) (had : List Piece) (rest front : Text) → IsLeft syntax text had rest
    → front ≡ after_space rest → 0 < length front → token syntax front ≡ None
    → tokens syntax text ≡ None
left-unclosed syntax text had rest front left is some met =
    left.same
    ∙ (ap (λ (front : Text). with_front had (tokens_at left.bound syntax front)) (sym is)
    ∙ tokens_at-unclosed left.bound syntax had front some met)

-- the words of a text, by its tokens
pub words-are : (text : Text) (ts : List Token) (ws : List Text) → tokens Words text ≡ Some (pieces ts)
    → ws ≡ map text_of (pieces ts) → words text ≡ Some ws
unfolding words
words-are text ts ws is same = ap (option_map (map text_of)) is ∙ ap (λ (xs : List Text). Some xs) (sym same)

pub words-none : (text : Text) (fault : SplitFault)
    → (fault ≡ Memory) ⊎ ((fault ≡ UnclosedQuote) × (tokens Words text ≡ None))
    → (fault ≡ Memory) ⊎ ((fault ≡ UnclosedQuote) × (words text ≡ None))
unfolding words
words-none text fault (inl memory) = inl memory
words-none text fault (inr p) = inr (p.0, ap (option_map (map text_of)) p.1)

-- a list that isn't empty
pub not_empty : (n : ℕ) (r : Bool) → r ≡ eqb n 0 → r ≡ false → 0 < n
not_empty n r is e = grind (arith, nat_tests)

-- what follows a character is a text
pub behind_char-IsUtf8 : (text rest : Text) (c i j : ℕ) → IsUtf8 text → HasCharAt c text i j → rest ≡ drop j text
    → IsUtf8 rest
behind_char-IsUtf8 text rest c i j utf8 at is =
    let P : ℕ → Type 0 = λ n. IsCharBoundary text n in
    let Q : Text → Type 0 = λ t. IsUtf8 t in
    subst Q (sym is) (IsUtf8-drop text j utf8 (subst P (sym at.ends) at.after))
