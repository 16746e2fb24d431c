-- What holds of the tokens of a text.
use Rattle.std.proofs.Common.{◌≡◌, ℕ, zero, suc, ◌+◌, ◌-◌, ◌<◌, ◌≤◌, Bool, true, false, List, [], ◌∷◌, ◌++◌, length}
use Rattle.std.proofs.Common.{drop, take, get_or, eqb, ltb, not, subst, cond, ◌&&◌}
use Rattle.std.proofs.Common.{Option, Some, None, refl, sym, ap, ◌∙◌, arith, add-one, append_assoc, length-drop}
use Rattle.std.specs.Prelude.{is_some, unwrap_or}
use Rattle.std.specs.Option.{option_map_or}
use Rattle.std.specs.Str.{IsUtf8, IsCharBoundary}
use Rattle.std.specs.Str.Pattern.{HasCharAt}
use Rattle.std.specs.List.{position_or_len}
use Rattle.std.proofs.lemmas.List.{append-nil, get_or-drop}
use Rattle.std.proofs.lemmas.Str.{IsUtf8-drop}
use Rattle.std.proofs.lemmas.List.Sums.{prefix_len-le-length, prefix_len_stops}
use Rattle.std.proofs.lemmas.Bool.{and_parts, ltb-true, not-false, true≢false}
use Rattle.std.proofs.lemmas.Option.{cond_some}
use Rattle.std.proofs.lemmas.Bool.Decides.{nat_tests}
use Rattle.clap.specs.Words.{Text}
use Rattle.makefile_words.specs.declared.tokens.Language.{Language}
use Rattle.makefile_words.specs.declared.tokens.Placed.{Placed}
use Rattle.makefile_words.specs.declared.tokens.Token.{Token}
use Rattle.makefile_words.specs.Cut.{has_folders}
use Rattle.makefile_words.specs.Tokens.{Piece, PlacedPiece, end_behind, end_from, ends_word, folders_end, is_quote}
use Rattle.makefile_words.specs.Tokens.{mark_of, opens_folder, quotation_len, quoted_at, token, tokens_below}
use Rattle.makefile_words.specs.Tokens.{tokens_ending, word_len}
use Rattle.makefile_words.specs.inside.Tokens.{piece_of, pieces, said_mark}

-- what ends a word and a mark are ASCII
pub ends_word-ascii : (folders : Bool) (byte : ℕ) → ends_word folders byte ≡ true → byte < 128
ends_word-ascii folders byte h = grind (arith, nat_tests)

pub quote-ascii : (byte : ℕ) → is_quote byte ≡ true → byte < 128
quote-ascii byte h = grind (arith, nat_tests)

pub mark-ascii : (byte : ℕ) (mark : Piece) → mark_of byte ≡ Some mark → byte < 128
mark-ascii byte mark h = grind (arith, nat_tests)

-- so a text may be cut behind a quote or a mark that it begins with
pub first-quote : (text bytes : Text) (r : Bool) → bytes ≡ text → r ≡ is_quote (get_or bytes 0 0) → r ≡ true
    → get_or text 0 0 < 128
first-quote text bytes r same is found =
    quote-ascii (get_or text 0 0) (sym (ap (λ (bs : Text). is_quote (get_or bs 0 0)) same) ∙ (sym is ∙ found))

pub first-mark : (text bytes : Text) (r : Option Token) (mark : Token) → bytes ≡ text
    → said_mark r ≡ mark_of (get_or bytes 0 0) → r ≡ Some mark → get_or text 0 0 < 128
first-mark text bytes r mark same is found =
    mark-ascii (get_or text 0 0) (piece_of mark)
    (sym (ap (λ (bs : Text). mark_of (get_or bs 0 0)) same) ∙ (sym is ∙ ap said_mark found))

-- the next byte that stands behind a word is in the text, or at its end
pub end_from-le : (folders : Bool) (text : Text) (start : ℕ) → start ≤ length text
    → end_from folders text start ≤ length text
end_from-le folders text start within =
    omega (
      arith,
      within,
      prefix_len-le-length (λ b. not (ends_word folders b)) (drop start text),
      length-drop start text,
    )

-- a place that is found, or else the end
at_or_end : (p len : ℕ) → p ≤ len → unwrap_or (cond (ltb p len) (Some p) None) len ≡ p
at_or_end p len few = grind (arith, nat_tests)

pub place-is : (p : ℕ → Bool) (text : Text) (found : Option ℕ) (end : ℕ)
    → found ≡ cond (ltb (position_or_len p text) (length text)) (Some (position_or_len p text)) None
    → end ≡ unwrap_or found (length text) → end ≡ position_or_len p text
place-is p text found end is ends =
    ends
    ∙ (ap (λ (o : Option ℕ). unwrap_or o (length text)) is
    ∙ at_or_end (position_or_len p text) (length text) (prefix_len-le-length (λ b. not (p b)) text))

-- where it stands, by the place that is found in the rest
pub place-from : (p : ℕ → Bool) (text : Text) (start : ℕ) (rest : Text) (found : Option ℕ) (end : ℕ)
    → rest ≡ drop start text
    → found ≡ cond (ltb (position_or_len p rest) (length rest)) (Some (position_or_len p rest)) None
    → end ≡ unwrap_or found (length rest) → start + end ≡ start + position_or_len p (drop start text)
place-from p text start rest found end whole is ends =
    ap (λ (n : ℕ). start + n) (place-is p rest found end is ends ∙ ap (position_or_len p) whole)

-- and a text may be cut in front of it, as in front of any ASCII byte that is looked for
pub place-boundary : (p : ℕ → Bool) → ((byte : ℕ) → p byte ≡ true → byte < 128) → (text : Text) (start : ℕ)
    → start ≤ length text → IsCharBoundary text (start + position_or_len p (drop start text))
place-boundary p ascii text start within = (
  omega (arith, within, prefix_len-le-length (λ b. not (p b)) (drop start text), length-drop start text),
  λ inside high.
      let n = position_or_len p (drop start text) in
      let ends =
      not-false (p (get_or (drop start text) n 0))
      (prefix_len_stops (λ b. not (p b)) (drop start text) 0 (omega (arith, inside, length-drop start text))) in
      let small = ascii (get_or (drop start text) n 0) ends in
      let P : ℕ → Type 0 = λ v. 128 ≤ v in
      let large : 128 ≤ get_or (drop start text) n 0 = subst P (sym (get_or-drop start text n 0)) high in
      absurd (omega (arith, small, large)),
)

pub end_from-boundary : (folders : Bool) (text : Text) (start : ℕ) → start ≤ length text
    → IsCharBoundary text (end_from folders text start)
end_from-boundary folders text start within =
    place-boundary (ends_word folders) (ends_word-ascii folders) text start within

-- what stands between two quotes is in the text
quotation_len-within : (text : Text) (len : ℕ) → quotation_len text ≡ Some len → len ≤ length text
quotation_len-within [] len is = absurd (true≢false (sym (ap is_some is)))
quotation_len-within (byte ∷ text) len is =
    let n = position_or_len is_quote text in
    let found = cond_some (is_quote byte && ltb n (length text)) (n + 2) len is in
    let inside = ltb-true n (length text) (and_parts (is_quote byte) (ltb n (length text)) found.0).1 in
    omega (arith, found.1, inside)

quoted_at-within : (text : Text) (place len : ℕ) → place ≤ length text → quoted_at text place ≡ Some len
    → place + len ≤ length text
quoted_at-within text place len within is = by (opens_folder (take place text)) is
  where
    by : (b : Bool) → cond b (quotation_len (drop place text)) None ≡ Some len → place + len ≤ length text
    by true is =
        omega (arith, within, quotation_len-within (drop place text) len is, length-drop place text)
    by false is = absurd (true≢false (sym (ap is_some is)))

-- so it may be behind folders
end_behind-boundary : (bound : ℕ) (text : Text) (end : ℕ) → IsCharBoundary text end
    → IsCharBoundary text (end_behind bound text end)
end_behind-boundary zero text end cut = cut
end_behind-boundary (suc bound) text end cut =
    by (quoted_at text end) refl (λ next at. end_behind-boundary bound text next at)
  where
    by : (o : Option ℕ) → quoted_at text end ≡ o
        → ((next : ℕ) → IsCharBoundary text next → IsCharBoundary text (end_behind bound text next))
        → IsCharBoundary text (option_map_or (λ len. end_behind bound text (end_from true text (end + len))) o end)
    by None is rest = cut
    by (Some len) is rest =
        rest (end_from true text (end + len))
        (end_from-boundary true text (end + len) (quoted_at-within text end len cut.0 is))

folders_end-boundary : (text : Text) (front : ℕ) → front ≤ length text
    → IsCharBoundary text (folders_end text front)
unfolding folders_end
folders_end-boundary text front within =
    end_behind-boundary (length text) text (end_from true text front) (end_from-boundary true text front within)

either_way : (P : ℕ → Type 0) (b : Bool) (x y : ℕ) → P x → P y → P (cond b x y)
either_way P true x y left right = left
either_way P false x y left right = right

-- and behind a word that a text begins with
pub word-boundary : (language : Language) (text : Text) → 0 < length text → IsCharBoundary text (word_len language text)
unfolding word_len
word-boundary language text some =
    either_way (λ n. IsCharBoundary text n) (has_folders language (take (end_from false text 1) text)) _ _
    (folders_end-boundary text (end_from false text 1) (end_from-le false text 1 (omega (arith, some))))
    (end_from-boundary false text 1 (omega (arith, some)))

-- the folders of a word end here, but for one between quotes
pub record IsEnding (text : Text) (front end : ℕ) : Type 0 where
  pub bound : ℕ
  pub few : length text ≤ bound + end
  pub from : front ≤ end
  pub within : end ≤ length text
  pub same : folders_end text front ≡ end_behind bound text end

pub ending-start : (text : Text) (front : ℕ) → front ≤ length text → IsEnding text front (end_from true text front)
unfolding folders_end
ending-start text front within = record {
  bound = length text;
  few = omega arith;
  from = omega arith;
  within = end_from-le true text front within;
  same = refl;
}

pub ending-more : (text : Text) (front end len next : ℕ) → IsEnding text front end → Some len ≡ quoted_at text end
    → 2 ≤ len → end + len ≤ length text → next ≡ end_from true text (end + len) → end + len ≤ next
    → IsEnding text front next
ending-more text front end len next left met some inside is further = go left.bound left.few left.same
  where
    go : (bound : ℕ) → length text ≤ bound + end → folders_end text front ≡ end_behind bound text end
        → IsEnding text front next
    go zero few same = absurd (omega (arith, few, some, inside))
    go (suc less) few same = record {
      bound = less;
      few = omega (arith, few, some, further);
      from = omega (arith, left.from, further);
      within = omega (arith, is, end_from-le true text (end + len) inside);
      same =
          same
          ∙ (ap (λ (o : Option ℕ). option_map_or (λ n. end_behind less text (end_from true text (end + n))) o end)
          (sym met)
          ∙ ap (end_behind less text) (sym is));
    }

pub ending-stop : (text : Text) (front end : ℕ) → IsEnding text front end → None ≡ quoted_at text end
    → end ≡ folders_end text front
ending-stop text front end left met = go left.bound left.same
  where
    go : (bound : ℕ) → folders_end text front ≡ end_behind bound text end → end ≡ folders_end text front
    go zero same = sym same
    go (suc less) same =
        sym (same ∙ ap (λ (o : Option ℕ).
        option_map_or (λ n. end_behind less text (end_from true text (end + n))) o end) (sym met))

-- the tokens of a text that ends a line are those that were had, and those of the rest
pub record IsLeft (language : Language) (total : ℕ) (text : Text) (had : List PlacedPiece) (rest : Text) : Type 0 where
  pub bound : ℕ
  pub few : length rest ≤ bound
  pub within : length rest ≤ total
  pub same : tokens_ending language total text ≡ had ++ tokens_below (suc bound) language total rest

pub left-start : (language : Language) (total : ℕ) (text : Text) (had : List Placed) → length text ≤ total → had ≡ []
    → IsLeft language total text (pieces had) text
unfolding tokens_ending
left-start language total text had within none = record {
  bound = length text;
  few = omega arith;
  within = within;
  same =
      rw add-one
      (sym (ap (λ (ts : List Placed). pieces ts ++ tokens_below (suc (length text)) language total text) none));
}

pub left-more : (language : Language) (total : ℕ) (text : Text) (had : List PlacedPiece) (rest : Text) (place : ℕ)
    (p : Piece) (next : Text) → IsLeft language total text had rest → 0 < length rest → place ≡ total - length rest
    → (p, next) ≡ token language (get_or rest 0 0) (drop 1 rest) → length next < length rest
    → IsLeft language total text (had ++ (record { place = place; piece = p } ∷ [])) next
left-more language total text had [] place p next left some at met shorter = absurd (omega arith)
left-more language total text had (byte ∷ rest) place p next left some at met shorter =
    go left.bound left.few left.within left.same
  where
    go : (bound : ℕ) → length (byte ∷ rest) ≤ bound → length (byte ∷ rest) ≤ total
        → tokens_ending language total text ≡ had ++ tokens_below (suc bound) language total (byte ∷ rest)
        → IsLeft language total text (had ++ (record { place = place; piece = p } ∷ [])) next
    go zero few within same = absurd (omega arith)
    go (suc less) few within same = record {
      bound = less;
      few = omega arith;
      within = omega arith;
      same =
          same
          ∙ (ap (λ (n : ℕ).
          had ++ (record { place = n; piece = (token language byte rest).0 }
          ∷ tokens_below (suc less) language total (token language byte rest).1)) (sym at)
          ∙ (ap (λ (t : Piece × Text).
          had ++ (record { place = place; piece = t.0 } ∷ tokens_below (suc less) language total t.1)) (sym met)
          ∙ sym (append_assoc had (record { place = place; piece = p } ∷ []) (tokens_below (suc less) language total next))));
    }

pub left-none : (language : Language) (total : ℕ) (text : Text) (had : List PlacedPiece) (rest : Text)
    → IsLeft language total text had rest → length rest ≡ 0 → had ≡ tokens_ending language total text
left-none language total text had [] left none = sym (left.same ∙ append-nil had)
left-none language total text had (byte ∷ rest) left none = absurd (omega arith)

-- a text that isn't empty
pub not_empty : (n : ℕ) (r : Bool) → r ≡ eqb n 0 → r ≡ false → 0 < n
not_empty n r is e = grind (arith, nat_tests)

-- a text that is empty
pub is_none : (n : ℕ) (r : Bool) → r ≡ eqb n 0 → r ≡ true → n ≡ 0
is_none n r is e = grind (arith, nat_tests)

-- what follows a character is a text
pub behind_char-IsUtf8 : (text rest : Text) (c i j : ℕ) → IsUtf8 text → HasCharAt c text i j → rest ≡ drop j text
    → IsUtf8 rest
behind_char-IsUtf8 text rest c i j utf8 at is =
    let P : ℕ → Type 0 = λ n. IsCharBoundary text n in
    let Q : Text → Type 0 = λ t. IsUtf8 t in
    subst Q (sym is) (IsUtf8-drop text j utf8 (subst P (sym at.ends) at.after))
