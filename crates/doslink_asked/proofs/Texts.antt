-- The text of words and of response files.
use Rattle.std.proofs.Common.{◌≡◌, ◌≢◌, ℕ, Bool, true, false, cond, eqb, Some, None, MatchOption, option_map, ◌+◌, ◌<◌}
use Rattle.std.proofs.Common.{List, [], ◌∷◌, ◌++◌, length, take, get_or, refl, sym, subst, ap, ap₂, ◌∙◌}
use Rattle.std.proofs.Common.{append-nil, ltb, not, ◌-◌, ◌≤◌, arith}
use Rattle.std.proofs.lemmas.List.{map-append, take_more}
use Rattle.std.proofs.lemmas.List.Sums.{prefix_len-le-length}
use Rattle.std.specs.Prelude.{unwrap_or}
use Rattle.std.proofs.lemmas.Bool.{eqb-true}
use Rattle.std.proofs.lemmas.Bool.Decides.{nat_tests}
use Rattle.std.proofs.lemmas.Grind.{flat_map-append}
use Rattle.std.specs.List.{flat_map, position_or_len}
use Rattle.std.specs.declared.option.Option.{Option}
use Rattle.std.specs.Borrow.{Bor}
use Rattle.clap.specs.Words.{Text}
use Rattle.doslink_words.specs.Tokens.{texts}
use Rattle.doslink_asked.specs.Responses.{IsTextIn, is_end}
use Rattle.doslink_asked.specs.Responses.{response_path}

-- the texts of words up to the next
pub texts-next : (words : List (Bor Text)) (i : ℕ) (d : Bor Text) → i < length words
    → texts (take i words) ++ (get_or words i d).now ∷ [] ≡ texts (take (i + 1) words)
texts-next words i d h =
    sym (ap texts (take_more words i d h) ∙ map-append (λ w. w.now) (take i words) (get_or words i d ∷ []))

-- where the text of a file ends, by the place of the first Ctrl-Z
place-or-end : (p len : ℕ) → p ≤ len → unwrap_or (cond (ltb p len) (Some p) None) len ≡ p
place-or-end p len few = grind (arith, nat_tests)

pub end-is : (bytes : List ℕ) (found : Option ℕ) (end : ℕ)
    → found ≡ cond (ltb (position_or_len is_end bytes) (length bytes)) (Some (position_or_len is_end bytes)) None
    → end ≡ unwrap_or found (length bytes) → end ≡ position_or_len is_end bytes
end-is bytes found end is ends =
    ends ∙ (ap (λ (o : Option ℕ). unwrap_or o (length bytes)) is
    ∙ place-or-end (position_or_len is_end bytes) (length bytes) (prefix_len-le-length (λ b. not (is_end b)) bytes))

-- the text of a response file that is alone
pub response-text : (told : Option (List ℕ)) (old new part : List ℕ) → old ≡ [] → IsTextIn told part → new ≡ old ++ part
    → IsTextIn told new
response-text told old new part none one is = subst (IsTextIn told) (sym (is ∙ ap (λ l. l ++ part) none)) one

-- what the parts give, with the next one's
pub flat-next : (f : Text → List Text) (parts : List (Bor Text)) (i : ℕ) (d : Bor Text) (old new more : List (Bor Text))
    → i < length parts → texts more ≡ f (get_or parts i d).now → new ≡ old ++ more
    → texts old ≡ flat_map f (texts (take i parts)) → texts new ≡ flat_map f (texts (take (i + 1) parts))
flat-next f parts i d old new more h is pushed before =
    ap texts pushed ∙ map-append (λ w. w.now) old more ∙ ap₂ (λ l r. l ++ r) before is
    ∙ ap (λ l. flat_map f (texts (take i parts)) ++ l) (sym (append-nil (f (get_or parts i d).now)))
    ∙ sym (flat_map-append f (texts (take i parts)) ((get_or parts i d).now ∷ []))
    ∙ ap (flat_map f) (texts-next parts i d h)

-- what a word is without the mark of a response file
pub response-is : (word : Text) (r : Option (Bor Text))
    → MatchOption r ((rest : Text) → word ≢ 64 ∷ rest) (λ x. word ≡ 64 ∷ x.now)
    → option_map (λ p. p.now) r ≡ response_path word
response-is word (Some x) is = sym (ap response_path is)
response-is [] None other = refl
response-is (b ∷ rest) None other = go (eqb b 64) refl
  where
    go : (e : Bool) → eqb b 64 ≡ e → None ≡ response_path (b ∷ rest)
    go true e = absurd (other rest (ap (λ x. x ∷ rest) (eqb-true b 64 e)))
    go false e = sym (ap (λ e. cond e (Some rest) None) e)
