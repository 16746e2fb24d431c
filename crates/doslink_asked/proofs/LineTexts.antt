-- The text of a line, word by word and token by token.
use Rattle.std.proofs.Common.{◌≡◌, ℕ, suc, ◌+◌, ◌<◌, ◌||◌, Bool, List, [], ◌∷◌, ◌++◌, length, map, take}
use Rattle.std.proofs.Common.{get_or}
use Rattle.std.proofs.Common.{append-nil, append_assoc, refl, sym, subst, ap, ◌∙◌}
use Rattle.std.proofs.lemmas.List.{map-append, take_more}
use Rattle.std.proofs.lemmas.Grind.{flat_map-append}
use Rattle.std.specs.List.{flat_map, list_any}
use Rattle.std.specs.declared.option.Option.{Option}
use Rattle.std.specs.Borrow.{Bor}
use Rattle.clap.specs.Words.{Text}
use Rattle.doslink_words.specs.Tokens.{texts}
use Rattle.makefile_words.specs.Tokens.{PlacedPiece, piece_of, pieces, placed_of, tokens}
use Rattle.makefile_words.specs.declared.tokens.Language.{Language}
use Rattle.makefile_words.specs.declared.tokens.Placed.{Placed}
use Rattle.doslink_asked.specs.Lines.{IsSpoken, StandsFor, StandsForAll, line_of, line_word}
use Rattle.doslink_asked.proofs.Texts.{texts-next}

-- a test of what is made of each
pub any-map : {X Y : Type 0} (test : Y → Bool) (f : X → Y) (xs : List X)
    → list_any test (map f xs) ≡ list_any (λ x. test (f x)) xs
any-map test f [] = refl
any-map test f (x ∷ xs) = ap (λ b. test (f x) || b) (any-map test f xs)

-- the line with the next word
pub line-next : (words : List (Bor Text)) (i : ℕ) (d : Bor Text) (old mid new : Text) → i < length words
    → mid ≡ old ++ line_word (get_or words i d).now → new ≡ mid ++ 32 ∷ [] → old ≡ line_of (texts (take i words))
    → new ≡ line_of (texts (take (i + 1) words))
line-next words i d old mid new h put blank before =
    let f : Text → Text = λ w. line_word w ++ 32 ∷ [] in
    let word = (get_or words i d).now in
    let ws = texts (take i words) in
    blank ∙ ap (λ t. t ++ 32 ∷ []) put ∙ append_assoc old (line_word word) (32 ∷ []) ∙ ap (λ t. t ++ f word) before
    ∙ ap (λ l. flat_map f ws ++ l) (sym (append-nil (f word))) ∙ sym (flat_map-append f ws (word ∷ []))
    ∙ ap (flat_map f) (texts-next words i d h)

-- the tokens up to the next
pieces-next : (ts : List Placed) (i : ℕ) (d : Placed) → i < length ts
    → pieces (take i ts) ++ placed_of (get_or ts i d) ∷ [] ≡ pieces (take (i + 1) ts)
pieces-next ts i d h =
    sym (ap pieces (take_more ts i d h) ∙ map-append placed_of (take i ts) (get_or ts i d ∷ []))

-- what stands for one more token
stands-push : (told : Text → Option (List ℕ)) (ts : List PlacedPiece) (t : PlacedPiece) (old part : Text)
    → StandsForAll told ts old → StandsFor told t.piece part → StandsForAll told (ts ++ t ∷ []) (old ++ part)
stands-push told [] t old part all one = (part, [], one, refl, ap (λ x. x ++ part) all ∙ sym (append-nil part))
stands-push told (s ∷ ts) t old part (first, rest, stands, others, is) one = (
  first,
  rest ++ part,
  stands,
  stands-push told ts t rest part others one,
  ap (λ x. x ++ part) is ∙ append_assoc first rest part,
)

-- what stands for the tokens up to the next
pub stands-next : (told : Text → Option (List ℕ)) (ts : List Placed) (i : ℕ) (d : Placed) (old new part : Text)
    → i < length ts → StandsForAll told (pieces (take i ts)) old → StandsFor told (piece_of (get_or ts i d).token) part
    → new ≡ old ++ part → StandsForAll told (pieces (take (i + 1) ts)) new
stands-next told ts i d old new part h all one pushed =
    subst (λ x. StandsForAll told (pieces (take (i + 1) ts)) x) (sym pushed)
    (subst (λ ps. StandsForAll told ps (old ++ part)) (pieces-next ts i d h)
    (stands-push told (pieces (take i ts)) (placed_of (get_or ts i d)) old part all one))

-- one more round
pub spoken-next : (told : Text → Option (List ℕ)) (language : Language) (text before line : Text)
    → (rounds : ℕ) × IsSpoken told language rounds text before → StandsForAll told (tokens language before) line
    → (rounds : ℕ) × IsSpoken told language rounds text line
spoken-next told language text before line (rounds, spoken) stands = (suc rounds, (before, spoken, stands))
