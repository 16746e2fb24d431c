-- The tables, linked from the last place on.
use Rattle.std.proofs.Common.{◌≡◌, ℕ, ◌+◌, ◌-◌, ◌<◌, ◌≢◌, List, length, get_or, set, refl, sym, ap, ◌∙◌, arith, subst}
use Rattle.std.proofs.Common.{replicate, get_or-set_same, get_or-set_other, length-set, inl, inr}
use Rattle.std.proofs.lemmas.Bool.{cases_eq}
use Rattle.std.proofs.lemmas.List.{length-replicate, get_or-replicate}
use Rattle.byte_places.specs.Chains.{IsNext, AreLinked, word_at}

-- nothing stands behind the last place
pub none-next : (image : List ℕ) (word answer : ℕ) → answer ≡ length image - 1
    → IsNext image word (length image - 1) answer
none-next image word answer is = record {
  behind = omega (arith, is);
  within = omega (arith, is);
  between = λ place h k. absurd (omega (arith, h, k, is));
  here = λ h. absurd (omega (arith, h, is));
}

-- the word of a place is found there
here-next : (image : List ℕ) (place : ℕ) → place < length image - 1
    → IsNext image (word_at image place) place place
here-next image place h = record {
  behind = omega arith;
  within = omega (arith, h);
  between = λ q a b. absurd (omega (arith, a, b));
  here = λ _. refl;
}

-- another word is found behind it
other-next : (image : List ℕ) (word place answer : ℕ) → (word_at image place ≡ word → ⊥)
    → IsNext image word (place + 1) answer → IsNext image word place answer
other-next image word place answer fails next = record {
  behind = omega (arith, next.behind);
  within = next.within;
  between = λ q a b.
      elim (cases_eq q place) [
        | inl e ↦ subst (λ n. word_at image n ≢ word) (sym e) fails
        | inr ne ↦ next.between q (omega (arith, a, ne)) b
      ];
  here = next.here;
}

-- a place was linked
pub linked-more : (image first next : List ℕ) (place word : ℕ) → place < length image - 1 → word < 65536
    → word ≡ word_at image place → AreLinked image (place + 1) first next
    → AreLinked image place (set first word place) (set next place (get_or first word 0))
linked-more image first next place word h small is linked =
    let inside : word < length first = omega (arith, small, linked.first_len) in
    let within : place < length next = omega (arith, h, linked.next_len) in
    record {
      first_len = length-set first word place ∙ linked.first_len;
      next_len = length-set next place (get_or first word 0) ∙ linked.next_len;
      begins = λ other k. elim (cases_eq other word) [
        | inl e ↦ subst (λ w. IsNext image w place (get_or (set first word place) w 0)) (sym e)
            (subst (λ a. IsNext image word place a) (sym (get_or-set_same first word place 0 inside))
            (subst (λ w. IsNext image w place place) (sym is) (here-next image place h)))
        | inr ne ↦ subst (λ a. IsNext image other place a) (sym (get_or-set_other first word other place 0 ne))
            (other-next image other place (get_or first other 0) (λ e. ne (sym e ∙ sym is)) (linked.begins other k))
      ];
      goes = λ q a b. elim (cases_eq q place) [
        | inl e ↦ subst
            (λ n. IsNext image (word_at image n) (n + 1) (get_or (set next place (get_or first word 0)) n 0))
            (sym e) (subst (λ t. IsNext image (word_at image place) (place + 1) t)
            (sym (get_or-set_same next place (get_or first word 0) 0 within))
            (subst (λ w. IsNext image w (place + 1) (get_or first word 0)) is (linked.begins word small)))
        | inr ne ↦ subst (λ t. IsNext image (word_at image q) (q + 1) t)
            (sym (get_or-set_other next place q (get_or first word 0) 0 ne))
            (linked.goes q (omega (arith, a, ne)) b)
      ];
    }

-- nothing was linked yet
pub linked-none : (image first next : List ℕ) → first ≡ replicate 65536 (length image - 1)
    → length next ≡ length image - 1 → AreLinked image (length image - 1) first next
linked-none image first next is len = record {
  first_len = ap length is ∙ length-replicate 65536 (length image - 1);
  next_len = len;
  begins = λ word h. none-next image word (get_or first word 0)
      (ap (λ l. get_or l word 0) is ∙ get_or-replicate 65536 word (length image - 1) 0 h);
  goes = λ place h k. absurd (omega (arith, h, k));
}
