use Rattle.std.proofs.Common.{◌≡◌, ◌∙◌, ◌&&◌, Bool, true, false, refl, sym}
use Rattle.std.specs.Str.{bytes_eq}
use Rattle.omf_module.specs.Seen.{segment_seen}
use Rattle.omf_stack.specs.Stack.{is_of, is_stack, same_class}
use Rattle.omf_stack.proofs.Lists.{not-one, not-other}
use Rattle.omf_module.specs.Module.{Segment}
use Rattle.omf_stack.proofs.segments.is_of.Goals as goal
use Rattle.omf_stack.proofs.segments.is_of.Goals.{then-is_stack_part, else-is_stack_part}

abbrev same_names : Segment → Segment → Bool
same_names a b = bytes_eq a.name b.name

agreed : (a b : Segment) (r : Bool) → is_stack b ≡ true → same_names a b ≡ true → r ≡ same_class a b → r ≡ is_of a b
agreed a b r k n e = e ∙ go (is_stack b) (same_names a b) k n
  where
    go : (x y : Bool) → x ≡ true → y ≡ true → same_class a b ≡ (x && (y && same_class a b))
    go true true h j = refl
    go true false h j = absurd (cc)
    go false y h j = absurd (cc)

other-kind : (a b : Segment) (r : Bool) → is_stack b ≡ false → r ≡ false → r ≡ is_of a b
other-kind a b r k e = e ∙ sym (not-one (is_stack b) (same_names a b && same_class a b) k)

other-name : (a b : Segment) (r : Bool) → same_names a b ≡ false → r ≡ false → r ≡ is_of a b
other-name a b r n e =
    e ∙ sym (not-other (is_stack b) (same_names a b && same_class a b) (not-one (same_names a b) (same_class a b) n))

pub returns-then-eq : goal.returns-then-eq
returns-then-eq c =
    let a = segment_seen c.args.first.now in
    let b = segment_seen c.args.segment.now in
    elim c.if-is_stack_part.branch [
      | then-is_stack_part w ↦ agreed a b _ (sym c.is_stack_part.ensures ∙ w.if-is_stack_part.true)
          (sym w.eq.ensures ∙ sym w.value-is ∙ c.if-eq.true) c.eq-then-eq.ensures
      | else-is_stack_part w ↦ absurd (cc)
    ]

pub returns-else-eq : goal.returns-else-eq
returns-else-eq c =
    let a = segment_seen c.args.first.now in
    let b = segment_seen c.args.segment.now in
    elim c.if-is_stack_part.branch [
      | then-is_stack_part w ↦ other-name a b _ (sym w.eq.ensures ∙ sym w.value-is ∙ c.if-eq.false) c.if-eq.false
      | else-is_stack_part w ↦ other-kind a b _ (sym c.is_stack_part.ensures ∙ w.if-is_stack_part.false) c.if-eq.false
    ]
