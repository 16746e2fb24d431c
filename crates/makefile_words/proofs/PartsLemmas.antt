-- What holds of the parts of a text.
use Rattle.std.proofs.Common.{◌≡◌, ◌∙◌, ◌+◌, ◌<◌, ◌≤◌, ℕ, zero, suc, Bool, true, false, cond, eqb, not, ◌&&◌}
use Rattle.std.proofs.Common.{List, [], ◌∷◌, ◌++◌, length, get_or, Option, Some, None, refl, sym, ap, arith}
use Rattle.std.proofs.Common.{append_assoc}
use Rattle.std.specs.Option.{option_map_or}
use Rattle.std.specs.Str.{IsUtf8, IsCharBoundary}
use Rattle.std.proofs.lemmas.Bool.{and_parts, eqb-true}
use Rattle.std.proofs.lemmas.Str.{IsCharBoundary-after_ascii, IsCharBoundary-before_ascii}
use Rattle.clap.specs.Words.{Text}
use Rattle.makefile_words.specs.Parts.{first_split, part_len, parts, parts_below, quoted_behind}

-- where a part ends before the text does, the mark stands
pub part_len-at : (mark : ℕ) (quoted : Bool) (text : Text) → part_len mark quoted text < length text
    → get_or text (part_len mark quoted text) 0 ≡ mark
part_len-at mark quoted [] h = absurd (omega arith)
part_len-at mark quoted (byte ∷ text) h =
    by (eqb byte mark && not quoted) refl (part_len-at mark (quoted_behind byte quoted) text) h
  where
    by : (b : Bool) → (eqb byte mark && not quoted) ≡ b
        → (part_len mark (quoted_behind byte quoted) text < length text
        → get_or text (part_len mark (quoted_behind byte quoted) text) 0 ≡ mark)
        → cond b 0 (1 + part_len mark (quoted_behind byte quoted) text) < length (byte ∷ text)
        → get_or (byte ∷ text) (cond b 0 (1 + part_len mark (quoted_behind byte quoted) text)) 0 ≡ mark
    by true is rest inside = eqb-true byte mark (and_parts (eqb byte mark) (not quoted) is).0
    by false is rest inside =
        let n = part_len mark (quoted_behind byte quoted) text in
        let on : 1 + n ≡ suc n = omega arith in
        ap (λ (i : ℕ). get_or (byte ∷ text) i 0) on ∙ rest (omega arith)

-- so the text may be cut in front of it and behind it
pub part-front : (mark n : ℕ) (text : Text) → mark < 128 → n ≡ part_len mark false text → n < length text
    → IsCharBoundary text n
part-front mark n text low is inside =
    IsCharBoundary-before_ascii text n inside
    (omega (arith, ap (λ (i : ℕ). get_or text i 0) is ∙ part_len-at mark false text (omega (arith, is, inside)), low))

pub part-behind : (mark n : ℕ) (text : Text) → IsUtf8 text → mark < 128 → n ≡ part_len mark false text
    → n < length text → IsCharBoundary text (n + 1)
part-behind mark n text utf8 low is inside =
    IsCharBoundary-after_ascii text n utf8 inside
    (omega (arith, ap (λ (i : ℕ). get_or text i 0) is ∙ part_len-at mark false text (omega (arith, is, inside)), low))

-- the parts of a text are those that were had, and those of the rest
pub record IsRest (mark : ℕ) (text : Text) (had : List Text) (rest : Text) : Type 0 where
  pub bound : ℕ
  pub few : length rest ≤ bound
  pub same : parts mark text ≡ had ++ parts_below bound mark rest

pub rest-start : (mark : ℕ) (text : Text) (had : List Text) → had ≡ [] → IsRest mark text had text
unfolding parts
rest-start mark text had none = record {
  bound = length text;
  few = omega arith;
  same = sym (ap (λ (ts : List Text). ts ++ parts_below (length text) mark text) none);
}

pub rest-more : (mark : ℕ) (text : Text) (had : List Text) (rest part more : Text) → IsRest mark text had rest
    → Some (part, more) ≡ first_split mark rest → length more < length rest
    → IsRest mark text (had ++ (part ∷ [])) more
rest-more mark text had rest part more left met shorter = go left.bound left.few left.same
  where
    go : (bound : ℕ) → length rest ≤ bound → parts mark text ≡ had ++ parts_below bound mark rest
        → IsRest mark text (had ++ (part ∷ [])) more
    go zero few same = absurd (omega (arith, few, shorter))
    go (suc less) few same = record {
      bound = less;
      few = omega (arith, few, shorter);
      same =
          same
          ∙ (ap (λ (o : Option (Text × Text)).
          had ++ option_map_or (λ p. p.0 ∷ parts_below less mark p.1) o (rest ∷ [])) (sym met)
          ∙ sym (append_assoc had (part ∷ []) (parts_below less mark more)));
    }

pub rest-end : (mark : ℕ) (text : Text) (had : List Text) (rest : Text) → IsRest mark text had rest
    → None ≡ first_split mark rest → had ++ (rest ∷ []) ≡ parts mark text
rest-end mark text had rest left met = go left.bound left.same
  where
    go : (bound : ℕ) → parts mark text ≡ had ++ parts_below bound mark rest → had ++ (rest ∷ []) ≡ parts mark text
    go zero same = sym same
    go (suc less) same =
        sym (same ∙ ap (λ (o : Option (Text × Text)).
        had ++ option_map_or (λ p. p.0 ∷ parts_below less mark p.1) o (rest ∷ [])) (sym met))
