-- The first fault of records, some behind others.
use Rattle.std.proofs.Common.{◌≡◌, ℕ, List, [], ◌∷◌, ◌++◌, Option, None, Some, refl, ap, ◌∙◌}
use Rattle.std.specs.Option.{option_map}
use Rattle.omf_module.specs.Before.{along, first}
use Rattle.omf_module.specs.Faults.{fault, first_fault}
use Rattle.omf_module.specs.declared.fault.CheckFault.{CheckFault}
use Rattle.omf_module.proofs.Lists.{along_from_append}
use Rattle.omf_record.specs.Records.{Placed}

abbrev fault_at : List Placed → Placed → List (Option (ℕ × CheckFault))
fault_at before r = option_map (λ check. (r.place, check)) (fault before r.says) ∷ []

behind_none : {A : Type 0} (xs ys : List (Option A)) → first xs ≡ None → first (xs ++ ys) ≡ first ys
behind_none [] ys e = refl
behind_none (None ∷ xs) ys e = behind_none xs ys e
behind_none ((Some x) ∷ xs) ys e = cc

before_more : {A : Type 0} (xs ys : List (Option A)) (x : A) → first xs ≡ Some x → first (xs ++ ys) ≡ Some x
before_more [] ys x e = cc
before_more (None ∷ xs) ys x e = before_more xs ys x e
before_more ((Some y) ∷ xs) ys x e = e

-- it stays, whatever stands behind
pub fault_stays : (rs more : List Placed) (x : ℕ × CheckFault) → first_fault rs ≡ Some x
    → first_fault (rs ++ more) ≡ Some x
fault_stays rs more x e =
    ap first (along_from_append fault_at [] rs more) ∙ before_more (along [] fault_at rs) (along rs fault_at more) x e

at_head : (before more : List Placed) (r : Placed) (c : CheckFault) → fault before r.says ≡ Some c
    → first (along before fault_at (r ∷ more)) ≡ Some (r.place, c)
at_head before more r c e =
    ap (λ f. first (option_map (λ check. (r.place, check)) f ∷ along (before ++ r ∷ []) fault_at more)) e

-- it is that of the record behind those that have none
pub fault_behind : (before more : List Placed) (r : Placed) (c : CheckFault) → first_fault before ≡ None
    → fault before r.says ≡ Some c → first_fault (before ++ r ∷ more) ≡ Some (r.place, c)
fault_behind before more r c sound e =
    ap first (along_from_append fault_at [] before (r ∷ more))
    ∙ behind_none (along [] fault_at before) (along before fault_at (r ∷ more)) sound
    ∙ at_head before more r c e
