-- Classes that have a part of kind stack.
use Rattle.std.proofs.Common.{◌≡◌, ℕ, ◌+◌, ◌<◌, Bool, true, false, cond, ◌&&◌, ◌||◌, List, []}
use Rattle.std.proofs.Common.{length, map, take, get_or, refl, ap}
use Rattle.std.proofs.Common.{sym, ◌∙◌}
use Rattle.std.specs.Cmp.Lexicographic.{on_texts_equal}
use Rattle.std.specs.List.{list_any}
use Rattle.std.specs.Str.{bytes_eq}
use Rattle.omf_module.specs.declared.lookups.Segment.{Segment}
use Rattle.omf_module.specs.declared.Standing.TheVariants.{Absolute}
use Rattle.omf_module.specs.Module as says
use Rattle.omf_module.specs.Seen.{segment_seen}
use Rattle.omf_stack.specs.Stack.{is_stack}
use Rattle.omf_stack.proofs.Lists.{any_more}

pub eq-symm : (x y : List ℕ) → bytes_eq x y ≡ bytes_eq y x
eq-symm x y = (on_texts_equal (λ (t : List ℕ). t)).symm x y

abbrev pub in_class : List ℕ → says.Segment → Bool
in_class q t = is_stack t && bytes_eq q t.class

either : (hit was : Bool) → cond hit true was ≡ (was || hit)
either true true = refl
either true false = refl
either false true = refl
either false false = refl

or_false : (b : Bool) → b ≡ (b || false)
or_false true = refl
or_false false = refl

module _ (q : List ℕ) (ss : List Segment) (i : ℕ) (x : Segment) (old new : Bool) (h : i < length ss)
    (e : x ≡ get_or ss i x) (was : old ≡ list_any (in_class q) (map segment_seen (take i ss))) where
  -- one more class
  pub class-in : is_stack (segment_seen x) ≡ true → new ≡ cond (bytes_eq x.class.now q) true old
      → new ≡ list_any (in_class q) (map segment_seen (take (i + 1) ss))
  class-in t is =
      is ∙ either (bytes_eq x.class.now q) old ∙ ap (λ b. b || bytes_eq x.class.now q) was
      ∙ ap (λ b. list_any (in_class q) (map segment_seen (take i ss)) || b)
      (eq-symm x.class.now q ∙ sym (ap (λ b. b && bytes_eq q x.class.now) t))
      ∙ sym (any_more segment_seen (in_class q) ss i x h e)

  -- one that isn't
  pub class-out : is_stack (segment_seen x) ≡ false → old ≡ list_any (in_class q) (map segment_seen (take (i + 1) ss))
  class-out t =
      was ∙ or_false (list_any (in_class q) (map segment_seen (take i ss)))
      ∙ ap (λ b. list_any (in_class q) (map segment_seen (take i ss)) || b)
      (sym (ap (λ b. b && bytes_eq q x.class.now) t))
      ∙ sym (any_more segment_seen (in_class q) ss i x h e)

-- what is read of a list at a place that it hasn't
abbrev pub blank : Segment
blank = record {
  name = record { ref_ptr = (0, 0); now = [] };
  class = record { ref_ptr = (0, 0); now = [] };
  length = 0;
  standing = Absolute 0 0;
}
