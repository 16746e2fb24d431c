-- Lists without their first element, and modules of which a stack is cut.
use Rattle.std.proofs.Common.{◌≡◌, ◌∙◌, ◌+◌, ◌-◌, ℕ, suc, List, [], ◌∷◌, length, map, drop, Ok, Err, IsErr, Option}
use Rattle.std.proofs.Common.{None, Some, arith, refl, sym, ap, subst}
use Rattle.std.specs.declared.result.Result.{Result}
use Rattle.std.specs.Option.{option_map_or}
use Rattle.omf_library.specs.Members.{joined}
use Rattle.omf_library.specs.Records.{result_and_then}
use Rattle.omf_module.specs.Lengths.{with_lengths}
use Rattle.omf_module.specs.Module.{Module, Segment}
use Rattle.omf_stack.specs.Answer.{length_asked}
use Rattle.omf_stack.specs.Cut.{cut_lengths}
use Rattle.omf_stack.specs.CutModules.{IsCutFault, cut_from, cut_program, in_module}
use Rattle.omf_stack.specs.Stack.{segments, stack_length, stack_part}
use Rattle.omf_stack.specs.declared.fault.CutFault.{CutFault}
use Rattle.omf_stack.specs.declared.fault.CutFault.TheVariants as kind
use Rattle.doslink_passes.specs.Linked.{Linked}
use Rattle.doslink_passes.proofs.Refused.{err-is}

-- what is linked, of its parts
abbrev pub linked-of : List (List ℕ) → List Module → Linked
linked-of sources modules = record { sources = sources; modules = modules }

-- what is made of each
pub map-behind : {X Y : Type 0} (f : X → Y) (xs : List X) → map f (drop 1 xs) ≡ drop 1 (map f xs)
map-behind f [] = refl
map-behind f (x ∷ xs) = refl

-- there are as many
pub length-behind : {X Y : Type 0} (xs : List X) (ys : List Y) → length xs ≡ length ys
    → length (drop 1 xs) ≡ length (drop 1 ys)
length-behind [] [] e = refl
length-behind [] (y ∷ ys) e = absurd (omega (arith, e))
length-behind (x ∷ xs) [] e = absurd (omega (arith, e))
length-behind (x ∷ xs) (y ∷ ys) e = omega (arith, e)

-- ---- a stack that is cut

-- data that lies outside of it is its fault
pub cut-fault : (fault : CutFault) (index place : ℕ) (stands : Result (List Module) CutFault)
    → fault ≡ kind.Outside index place → IsCutFault fault stands → IsErr stands
cut-fault fault index place stands same is = err-is stands _ (subst (λ f. IsCutFault f stands) same is)

-- how many there are
counted : Result (List Module) CutFault → ℕ
counted (Ok ms) = length ms
counted (Err fault) = 0

-- one module more is one more of them
one-more : (one : Result Module CutFault) (rest : Result (List Module) CutFault) (n : ℕ) (all : List Module)
    → ((l : List Module) → rest ≡ Ok l → length l ≡ n)
    → result_and_then (λ m. joined (m ∷ []) rest) one ≡ Ok all → length all ≡ suc n
unfolding counted
one-more (Ok m) (Ok l) n all counts e = sym (ap counted e) ∙ ap suc (counts l refl)
one-more (Ok m) (Err fault) n all counts e = absurd (let u : Err fault ≡ Ok all = e in cc)
one-more (Err fault) rest n all counts e = absurd (let u : Err fault ≡ Ok all = e in cc)

-- a part of them is as long
cut-count : (stack : Segment) (left index : ℕ) (ms all : List Module) → cut_from stack left index ms ≡ Ok all
    → length all ≡ length ms
unfolding counted
cut-count stack left index [] all e = sym (ap counted e)
cut-count stack left index (m ∷ ms) all e =
    one-more (in_module index (with_lengths (cut_lengths stack left m.segments) m))
    (cut_from stack (left - stack_length stack m.segments) (index + 1) ms) (length ms) all
    (λ l is. cut-count stack (left - stack_length stack m.segments) (index + 1) ms l is) e

-- so are all, whether they have a stack or not
part-count : (part : Option Segment) (n : ℕ) (ms all : List Module)
    → option_map_or (λ stack. cut_from stack n 0 ms) part (Ok ms) ≡ Ok all → length all ≡ length ms
unfolding counted
part-count None n ms all e = sym (ap counted e)
part-count (Some stack) n ms all e = cut-count stack n 0 ms all e

-- there are as many modules
pub program-count : (ms : List Module) (bytes : ℕ) (all : List Module) → cut_program ms bytes ≡ Ok all
    → length all ≡ length ms
program-count ms bytes all e = part-count (stack_part (segments ms)) (length_asked bytes) ms all e
