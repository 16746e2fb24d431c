-- What holds of the options at a word's end.
use Rattle.std.proofs.Common.{◌≡◌, ◌∙◌, ◌<◌, ◌≤◌, ℕ, zero, suc, Bool, true, false, cond, [], ◌∷◌, ◌++◌}
use Rattle.std.proofs.Common.{length, get_or, Option, Some, None, refl, sym, ap, arith, append_assoc, length-append}
use Rattle.std.specs.Option.{option_and_then, option_map_or}
use Rattle.std.specs.Path.{rsplit_once}
use Rattle.std.proofs.Math.Seq.{get_or-append_seam}
use Rattle.std.proofs.lemmas.List.{append-nil}
use Rattle.clap.specs.Words.{Text}
use Rattle.makefile_words.specs.Cut.{front, head, head_below, may_touch}
use Rattle.makefile_words.specs.declared.tokens.Language.{Language}

-- what stands before a word's last slash, where an option follows it
abbrev of_split : Language → Option (Text × Text) → Option Text
of_split language = option_and_then (λ p. cond (may_touch language p.1) (Some p.0) None)

pub front_yes : (language : Language) (word f last : Text) → rsplit_once 47 word ≡ Some (f, last)
    → may_touch language last ≡ true → Some f ≡ front language word
front_yes language word f last split is =
    sym (ap (of_split language) split ∙ ap (λ (b : Bool). cond b (Some f) None) is)

pub front_no : (language : Language) (word f last : Text) → rsplit_once 47 word ≡ Some (f, last)
    → may_touch language last ≡ false → None ≡ front language word
front_no language word f last split is =
    sym (ap (of_split language) split ∙ ap (λ (b : Bool). cond b (Some f) None) is)

pub front_none : (language : Language) (word : Text) → rsplit_once 47 word ≡ None → None ≡ front language word
front_none language word split = sym (ap (of_split language) split)

-- what is left of a word, behind which stands what was cut
pub record IsHead (language : Language) (word rest : Text) : Type 0 where
  pub bound : ℕ
  pub few : length rest ≤ bound
  pub behind : Text
  pub whole : word ≡ rest ++ behind
  pub slash : length rest < length word → get_or word (length rest) 0 ≡ 47
  pub same : head language word ≡ head_below bound language rest

pub head_start : (language : Language) (word : Text) → IsHead language word word
unfolding head
head_start language word = record {
  bound = length word;
  few = omega arith;
  behind = [];
  whole = sym (append-nil word);
  slash = λ more. absurd (omega (arith, more));
  same = refl;
}

pub head_more : (language : Language) (word rest f last : Text) → IsHead language word rest
    → rest ≡ f ++ (47 ∷ last) → Some f ≡ front language rest → IsHead language word f
head_more language word rest f last left split met = go left.bound left.few left.same
  where
    go : (bound : ℕ) → length rest ≤ bound → head language word ≡ head_below bound language rest
        → IsHead language word f
    go zero few same = absurd (omega (arith, ap length split, length-append f (47 ∷ last)))
    go (suc less) few same =
        let all : word ≡ f ++ (47 ∷ (last ++ left.behind)) =
        left.whole ∙ (ap (λ (t : Text). t ++ left.behind) split ∙ append_assoc f (47 ∷ last) left.behind) in
        record {
          bound = less;
          few = omega (arith, ap length split, length-append f (47 ∷ last));
          behind = 47 ∷ (last ++ left.behind);
          whole = all;
          slash =
              λ more.
              ap (λ (t : Text). get_or t (length f) 0) all ∙ get_or-append_seam f 47 (last ++ left.behind) 0;
          same =
              same ∙ ap (λ (o : Option Text). option_map_or (head_below less language) o rest) (sym met);
        }

pub head_stop : (language : Language) (word rest : Text) → IsHead language word rest → None ≡ front language rest
    → rest ≡ head language word
head_stop language word rest left met = go left.bound left.same
  where
    go : (bound : ℕ) → head language word ≡ head_below bound language rest → rest ≡ head language word
    go zero same = sym same
    go (suc less) same =
        sym (same ∙ ap (λ (o : Option Text). option_map_or (head_below less language) o rest) (sym met))

pub head_within : (language : Language) (word rest : Text) → IsHead language word rest → length rest ≤ length word
head_within language word rest left = omega (arith, ap length left.whole, length-append rest left.behind)
