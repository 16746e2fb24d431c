-- What a stack's first part promises, and what it wants.
use Rattle.std.proofs.Common.{◌≡◌, ℕ, suc, ◌-◌, ◌≤◌, ◌&&◌, Bool, true, false, cond, All}
use Rattle.std.proofs.Common.{eqb, List, [], ◌∷◌, length}
use Rattle.std.proofs.Common.{Option, Some, None, refl, ap, arith, nat_lt}
use Rattle.std.proofs.lemmas.Bool.{eqb-false, eqb-true, ltb-false, ne_eqb}
use Rattle.std.specs.Prelude.{find}
use Rattle.std.specs.List.{AllByRecursion}
use Rattle.std.specs.Option.{option_and_then, option_map_or}
use Rattle.omf_module.specs.Module.{Module, Segment}
use Rattle.omf_module.specs.Sound.{IsSound, SegmentFits}
use Rattle.omf_write.proofs.Clean.{All-append}
use Rattle.omf_stack.specs.Answer.{Added, Answer, Enough, TooLong, answer, has_dgroup, length_asked, wanted_by}
use Rattle.omf_stack.specs.Records.{new_bytes, part_bytes}
use Rattle.omf_stack.specs.Stack.{is_stack, same_class, opens_stack, segments, stack_length, stack_part}
use Rattle.omf_stack.specs.inside.Wanted.{wanted_left}
use Rattle.omf_stack.proofs.Lists.{found_passes}

each : {X : Type 0} (P : X → Type 0) (xs : List X) → All P xs → AllByRecursion P xs
each P [] h = tt
each P (x ∷ xs) h = (h 0 x (omega arith), each P xs (λ i d l. h (suc i) d (omega (arith, l))))

all-fit : (ms : List Module) → All IsSound ms → AllByRecursion SegmentFits (segments ms)
all-fit [] h = tt
all-fit (m ∷ ms) h =
    All-append SegmentFits m.segments (segments ms) (each SegmentFits m.segments (h 0 m (omega arith)).segments)
    (all-fit ms (λ i d l. h (suc i) d (omega (arith, l))))

-- it is one of the segments
pub stack-passes : (P : Segment → Type 0) (ss : List Segment) (s : Segment) → AllByRecursion P ss
    → stack_part ss ≡ Some s → P s
stack-passes P ss s all e = by (find (opens_stack ss) ss) e
  where
    by : (o : Option Segment) → option_and_then
        (λ opening. find (λ (t : Segment). is_stack t && same_class opening t) ss) o ≡ Some s → P s
    by None h = absurd (cc)
    by (Some opening) h = found_passes P (λ (t : Segment). is_stack t && same_class opening t) ss s all h

pub stack-fits : (ms : List Module) (s : Segment) → All IsSound ms → stack_part (segments ms) ≡ Some s → SegmentFits s
stack-fits ms s sound e = stack-passes SegmentFits (segments ms) s (all-fit ms sound) e

-- by what is left
pub wanted-is : (stack : Segment) (length asked : ℕ)
    → wanted_left stack (cond (nat_lt asked length) None (Some (asked - length))) ≡ wanted_by stack length asked
wanted-is stack length asked = go (nat_lt asked length) refl
  where
    added : Answer
    added = Added (part_bytes stack (asked - length))

    same : length ≤ asked → eqb (asked - length) 0 ≡ eqb length asked
    same h = by (eqb length asked) refl
      where
        by : (b : Bool) → eqb length asked ≡ b → eqb (asked - length) 0 ≡ b
        by true is = let e = eqb-true length asked is in let f : asked - length ≡ 0 = omega (arith, e) in
            ap (λ n. eqb n 0) f
        by false is = let e = eqb-false length asked is in ne_eqb (asked - length) 0 (λ f. e (omega (arith, f, h)))

    go : (b : Bool) → nat_lt asked length ≡ b →
        wanted_left stack (cond b None (Some (asked - length))) ≡ cond b TooLong (cond (eqb length asked) Enough added)
    go true is = refl
    go false is =
        let h = ltb-false asked length is in
        ap (λ b. cond b Enough added) (same (omega (arith, h)))

-- the answer where there is a stack
pub answer-some : (program : List Module) (bytes : ℕ) (stack : Segment) → stack_part (segments program) ≡ Some stack
    → answer program bytes ≡ wanted_by stack (stack_length stack (segments program)) (length_asked bytes)
answer-some program bytes stack e = ap (λ o. option_map_or
    (λ s. wanted_by s (stack_length s (segments program)) (length_asked bytes)) o
    (Added (new_bytes (has_dgroup program) (length_asked bytes)))) e
