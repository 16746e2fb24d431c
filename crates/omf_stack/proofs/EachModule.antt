-- Modules with other lengths of their segments, one module more at a time.
use Rattle.std.proofs.Common.{◌≡◌, ℕ, suc, ◌+◌, ◌-◌, ◌<◌, ◌≤◌, List, [], ◌∷◌, ◌++◌, length, take, drop, get_or}
use Rattle.std.proofs.Common.{Option, Some, None, Ok, Err, Vec, refl, ap, ap₂, sym, ◌∙◌, arith, take-append-drop}
use Rattle.std.proofs.lemmas.List.{drop_more, map-append}
use Rattle.std.specs.declared.result.Result.{Result}
use Rattle.std.specs.Option.{option_map, option_map_or}
use Rattle.omf_library.specs.Members.{joined}
use Rattle.omf_library.specs.Records.{result_and_then}
use Rattle.omf_module.specs.Lengths.{with_lengths}
use Rattle.omf_module.specs.Module.{Module, Segment}
use Rattle.omf_stack.specs.declared.fault.CutFault.{CutFault}
use Rattle.omf_stack.specs.declared.fault.CutFault.TheVariants.{Memory, Outside}
use Rattle.omf_stack.specs.Answer.{length_asked}
use Rattle.omf_stack.specs.Cut.{cut_lengths}
use Rattle.omf_stack.specs.CutModules.{IsCutFault, cut_from, cut_program, in_module}
use Rattle.omf_stack.specs.Stack.{segments, stack_length, stack_part}
use Rattle.omf_stack.specs.inside.Cutting.{lengthened, lengths_in, lengths_of, lists}
use Rattle.omf_stack.proofs.Lengths.{length-append}

-- ---- the lengths

-- those of one module more
pub lengths-more : (stack : Segment) (left : ℕ) (ms : List Module) (m : Module)
    → lengths_of stack left (ms ++ m ∷ [])
    ≡ lengths_of stack left ms ++ cut_lengths stack (left - stack_length stack (segments ms)) m.segments ∷ []
lengths-more stack left [] m =
    let e : left ≡ left - 0 = omega arith in ap (λ n. cut_lengths stack n m.segments ∷ []) e
lengths-more stack left (x ∷ ms) m =
    let less = left - stack_length stack x.segments in
    let one = length-append stack x.segments (segments ms) in
    let e : less - stack_length stack (segments ms) ≡ left - stack_length stack (segments (x ∷ ms)) =
    omega (arith, one) in
    ap (λ ls. cut_lengths stack left x.segments ∷ ls)
    (lengths-more stack less ms m ∙ ap (λ n. lengths_of stack less ms ++ cut_lengths stack n m.segments ∷ []) e)

-- those of each module
pub lengths-count : (stack : Segment) (left : ℕ) (ms : List Module) → length (lengths_of stack left ms) ≡ length ms
lengths-count stack left [] = refl
lengths-count stack left (m ∷ ms) = ap suc (lengths-count stack (left - stack_length stack m.segments) ms)

pub lists-more : {X A : Type 0} (vs : List (Vec X A)) (v : Vec X A) → lists (vs ++ v ∷ []) ≡ lists vs ++ v.items ∷ []
lists-more vs v = map-append (λ w. w.items) vs (v ∷ [])

-- ---- the modules

-- both steps are the one of the definition
pub both-steps : (stack : Segment) (left index : ℕ) (ms : List Module)
    → lengthened index (lengths_of stack left ms) ms ≡ cut_from stack left index ms
both-steps stack left index [] = refl
both-steps stack left index (m ∷ ms) =
    ap
    (λ more. result_and_then (λ one. joined (one ∷ []) more)
    (in_module index (with_lengths (cut_lengths stack left m.segments) m)))
    (both-steps stack (left - stack_length stack m.segments) (index + 1) ms)

joined-nil : (r : Result (List Module) CutFault) → joined [] r ≡ r
joined-nil (Ok ys) = refl
joined-nil (Err e) = refl

front-step : (r : Result Module CutFault) (own all rest : Result (List Module) CutFault) (found : List Module)
    → result_and_then (λ one. joined (one ∷ []) own) r ≡ Ok found
    → ((more : List Module) → own ≡ Ok more → all ≡ joined more rest)
    → result_and_then (λ one. joined (one ∷ []) all) r ≡ joined found rest
front-step (Ok one) (Ok more) all (Ok rest) found h k =
    let e : one ∷ more ≡ found = cc in ap (joined (one ∷ [])) (k more refl) ∙ ap (λ xs. Ok (xs ++ rest)) e
front-step (Ok one) (Ok more) all (Err fault) found h k = ap (joined (one ∷ [])) (k more refl)
front-step (Ok one) (Err fault) all rest found h k = absurd (cc)
front-step (Err fault) own all rest found h k = absurd (cc)

-- modules in front of others, of which none is at fault
lengthened-append : (index : ℕ) (ls : List (List (Option ℕ))) (xs ys found : List Module)
    → lengthened index ls xs ≡ Ok found → length xs ≤ length ls
    → lengthened index ls (xs ++ ys) ≡ joined found (lengthened (index + length xs) (drop (length xs) ls) ys)
lengthened-append index ls [] ys found h fits =
    let none : found ≡ [] = cc in
    sym (ap (λ f. joined f (lengthened (index + 0) ls ys)) none ∙ joined-nil (lengthened (index + 0) ls ys)
    ∙ ap (λ n. lengthened n ls ys) (omega arith))
lengthened-append index [] (x ∷ xs) ys found h fits = absurd (omega (arith, fits))
lengthened-append index (l ∷ ls) (x ∷ xs) ys found h fits =
    front-step (in_module index (with_lengths l x)) (lengthened (index + 1) ls xs)
    (lengthened (index + 1) ls (xs ++ ys)) (lengthened (index + 1 + length xs) (drop (length xs) ls) ys) found h
    (λ more e. lengthened-append (index + 1) ls xs ys more e (omega (arith, fits)))
    ∙ ap (λ n. joined found (lengthened n (drop (length xs) ls) ys)) (omega arith)

count-step : (r : Result Module CutFault) (own : Result (List Module) CutFault) (found : List Module) (n : ℕ)
    → result_and_then (λ one. joined (one ∷ []) own) r ≡ Ok found
    → ((more : List Module) → own ≡ Ok more → length more ≡ n) → length found ≡ suc n
count-step (Ok one) (Ok more) found n h k =
    let e : one ∷ more ≡ found = cc in ap length (sym e) ∙ ap suc (k more refl)
count-step (Ok one) (Err fault) found n h k = absurd (cc)
count-step (Err fault) own found n h k = absurd (cc)

-- as many as there were
pub lengthened-count : (index : ℕ) (ls : List (List (Option ℕ))) (xs found : List Module)
    → lengthened index ls xs ≡ Ok found → length xs ≤ length ls → length found ≡ length xs
lengthened-count index ls [] found h fits = let none : found ≡ [] = cc in ap length none
lengthened-count index [] (x ∷ xs) found h fits = absurd (omega (arith, fits))
lengthened-count index (l ∷ ls) (x ∷ xs) found h fits =
    count-step (in_module index (with_lengths l x)) (lengthened (index + 1) ls xs) found (length xs) h
    (λ more e. lengthened-count (index + 1) ls xs more e (omega (arith, fits)))

module _ (ls : List (List (Option ℕ))) (xs found : List Module) (h : lengthened 0 ls xs ≡ Ok found)
    (short : length xs < length ls) where
  -- others behind them
  next-is : (m : Module) (rest : List Module)
      → lengthened 0 ls (xs ++ m ∷ rest)
      ≡ joined found (result_and_then
      (λ one. joined (one ∷ []) (lengthened (length xs + 1) (drop (length xs + 1) ls) rest))
      (in_module (length xs) (with_lengths (get_or ls (length xs) []) m)))
  next-is m rest =
      lengthened-append 0 ls xs (m ∷ rest) found h (omega (arith, short))
      ∙ ap₂ (λ n ks. joined found (lengthened n ks (m ∷ rest))) (omega arith) (drop_more ls (length xs) [] short)

  -- one more
  pub next-lengthened : (m one : Module)
      → in_module (length xs) (with_lengths (get_or ls (length xs) []) m) ≡ Ok one
      → lengthened 0 ls (xs ++ m ∷ []) ≡ Ok (found ++ one ∷ [])
  next-lengthened m one is =
      next-is m []
      ∙ ap
      (λ r. joined found (result_and_then
      (λ one. joined (one ∷ []) (lengthened (length xs + 1) (drop (length xs + 1) ls) [])) r)) is

  -- one that is at fault
  pub next-fault : (m : Module) (rest : List Module) (fault : CutFault)
      → in_module (length xs) (with_lengths (get_or ls (length xs) []) m) ≡ Err fault
      → lengthened 0 ls (xs ++ m ∷ rest) ≡ Err fault
  next-fault m rest fault is =
      next-is m rest
      ∙ ap
      (λ r. joined found (result_and_then
      (λ one. joined (one ∷ []) (lengthened (length xs + 1) (drop (length xs + 1) ls) rest)) r)) is

-- a list by what stands in front of an element, and behind it
pub parts-at : {X : Type 0} (all xs : List X) (x : X) → xs ≡ take (length xs) all → length xs < length all
    → x ≡ get_or all (length xs) x → all ≡ xs ++ x ∷ drop (length xs + 1) all
parts-at all xs x front short is =
    sym (take-append-drop (length xs) all)
    ∙ ap₂ (λ a b. a ++ b) (sym front)
    (drop_more all (length xs) x short ∙ ap (λ y. y ∷ drop (length xs + 1) all) (sym is))

-- ---- the whole

module _ (program : List Module) (bytes : ℕ) (ls : List (List (Option ℕ))) where
  -- there is a stack
  pub cut-some : lengths_in program bytes ≡ Some ls → cut_program program bytes ≡ lengthened 0 ls program
  cut-some h = go (stack_part (segments program)) h
    where
      go : (o : Option Segment) → option_map (λ stack. lengths_of stack (length_asked bytes) program) o ≡ Some ls
          → option_map_or (λ stack. cut_from stack (length_asked bytes) 0 program) o (Ok program)
          ≡ lengthened 0 ls program
      go None h = absurd (cc)
      go (Some stack) h =
          let e : lengths_of stack (length_asked bytes) program ≡ ls = cc in
          sym (both-steps stack (length_asked bytes) 0 program) ∙ ap (λ k. lengthened 0 k program) e

  pub count-some : lengths_in program bytes ≡ Some ls → length ls ≡ length program
  count-some h = go (stack_part (segments program)) h
    where
      go : (o : Option Segment) → option_map (λ stack. lengths_of stack (length_asked bytes) program) o ≡ Some ls
          → length ls ≡ length program
      go None h = absurd (cc)
      go (Some stack) h =
          let e : lengths_of stack (length_asked bytes) program ≡ ls = cc in
          ap length (sym e) ∙ lengths-count stack (length_asked bytes) program

-- a fault that stands is told
pub fault-told : (f : CutFault) (stands : Result (List Module) CutFault) → stands ≡ Err f → IsCutFault f stands
fault-told (Outside index place) stands h = h
fault-told Memory stands h = tt
