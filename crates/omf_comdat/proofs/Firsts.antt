-- The first of each name, with one more; and modules, one after the other.
use Rattle.std.proofs.Common.{◌≡◌, ℕ, ◌+◌, ◌<◌, List, [], ◌∷◌, ◌++◌, length, drop, get_or, cond, find, refl, ap, sym}
use Rattle.std.proofs.Common.{◌∙◌, Ok, Err, Option, Some, None, Vec, Bool, true, false}
use Rattle.std.specs.Borrow.{Bor}
use Rattle.std.specs.Map.{lookup}
use Rattle.std.specs.Option.{option_map, option_map_or}
use Rattle.std.specs.declared.result.Result.{Result}
use Rattle.omf_keys.specs.declared.key.Key.{Key}
use Rattle.omf_keys.specs.Keys.{key_of, same_key}
use Rattle.omf_keys.proofs.Agreeing.{keys_agree}
use Rattle.omf_library.specs.Records.{result_and_then}
use Rattle.omf_library.proofs.Gathering.{drop-one}
use Rattle.omf_place.specs.Names.{agrees}
use Rattle.omf_place.specs.declared.names.Names.{Names}
use Rattle.omf_comdat.specs.Comdats.{records_said}
use Rattle.omf_comdat.specs.Fates.{Clash, Met, Shared, fates_behind, judged, meet, module_fates, verdict}
use Rattle.omf_comdat.specs.Told.{IsClash, clash_said, modules_said}
use Rattle.omf_comdat.specs.declared.fate.ComdatFate.{ComdatFate}
use Rattle.omf_comdat.specs.declared.fault.ComdatFault.{ComdatFault}
use Rattle.omf_comdat.specs.declared.fault.ComdatFault.TheVariants as fault
use Rattle.omf_comdat.specs.declared.meeting.Shared as lent
use Rattle.omf_comdat.specs.declared.records.ComdatRecord as lent_record
use Rattle.omf_comdat.specs.inside.Held.{AreKeyed, firsts_said, shared_said}

-- what a map has for a name is the first that agrees with it
pub found_keyed : (names : Names) (q : Bor (List ℕ)) (es : List (Key × lent.Shared)) → AreKeyed names es →
    find (λ first. agrees names q.now first.name) (firsts_said es)
    ≡ option_map shared_said (lookup (same_key (key_of names q)) es)
found_keyed names q [] keyed = refl
found_keyed names q (e ∷ es) keyed =
    let hit : same_key (key_of names q) e.0 ≡ agrees names q.now e.1.name.now =
    ap (same_key (key_of names q)) keyed.0 ∙ keys_agree names q e.1.name in
    by (found_keyed names q es keyed.1) (agrees names q.now e.1.name.now)
    ∙ sym (ap (λ b. option_map shared_said (cond b (Some e.1) (lookup (same_key (key_of names q)) es))) hit)
  where
    by : find (λ first. agrees names q.now first.name) (firsts_said es)
        ≡ option_map shared_said (lookup (same_key (key_of names q)) es) →
        (b : Bool) → cond b (Some (shared_said e.1)) (find (λ first. agrees names q.now first.name) (firsts_said es))
        ≡ option_map shared_said (cond b (Some e.1) (lookup (same_key (key_of names q)) es))
    by h true = refl
    by h false = h

module _ (names : Names) (es : List (Key × lent.Shared)) (s : lent.Shared) (keyed : AreKeyed names es) where
  abbrev pub meets : Option Shared → Result Met Clash
  meets o = option_map_or
      (λ first. judged (firsts_said es) first (shared_said s) (verdict first (shared_said s))) o
      (Ok (record { firsts = firsts_said es ++ shared_said s ∷ []; taken = true }))

  -- none of its name stands before it
  pub meets_new : lookup (same_key (key_of names s.name)) es ≡ None → meet names (firsts_said es) (shared_said s)
      ≡ Ok (record { firsts = firsts_said es ++ shared_said s ∷ []; taken = true })
  meets_new none = ap meets (found_keyed names s.name es keyed ∙ ap (option_map shared_said) none)

  -- one does
  pub meets_old : (first : lent.Shared) → lookup (same_key (key_of names s.name)) es ≡ Some first →
      meet names (firsts_said es) (shared_said s)
      ≡ judged (firsts_said es) (shared_said first) (shared_said s) (verdict (shared_said first) (shared_said s))
  meets_old first there = ap meets (found_keyed names s.name es keyed ∙ ap (option_map shared_said) there)

-- one more, at the key of its name
pub keyed-push : (names : Names) (es : List (Key × lent.Shared)) (k : Key) (s : lent.Shared) → AreKeyed names es →
    k ≡ key_of names s.name → AreKeyed names (es ++ (k, s) ∷ [])
keyed-push names [] k s keyed is = (is, tt)
keyed-push names (e ∷ es) k s keyed is = (keyed.0, keyed-push names es k s keyed.1 is)

-- a clash of a part is one of the whole
pub clash-through : {R S : Type 0} (e : ComdatFault) (r : Result R Clash) (all : Result S Clash) → IsClash e r
    → ((c : Clash) → r ≡ Err c → all ≡ Err c) → IsClash e all
clash-through (fault.Clash c) r all h k = k (clash_said c) h
clash-through fault.Memory r all h k = tt

-- a module with a clash
pub modules-clash : {A : Type 0} (names : Names) (told : List (List ComdatFate)) (firsts : List Shared)
    (ms : List (Vec lent_record.ComdatRecord A)) (i n : ℕ) (x : Vec lent_record.ComdatRecord A)
    (all : Result (List (List ComdatFate)) Clash)
    (c : Clash) → i < length ms → x ≡ get_or ms i x → n ≡ length told →
    fates_behind names told firsts (modules_said (drop i ms)) ≡ all →
    module_fates names n firsts (records_said x.items) ≡ Err c → all ≡ Err c
modules-clash {A} names told firsts ms i n x all c h is len was e =
    sym was
    ∙ ap (λ (l : List (Vec lent_record.ComdatRecord A)). fates_behind names told firsts (modules_said l))
    (drop-one ms i x h is)
    ∙ ap (result_and_then (λ p. fates_behind names (told ++ p.0 ∷ []) p.1 (modules_said (drop (i + 1) ms))))
    (ap (λ m. module_fates names m firsts (records_said x.items)) (sym len) ∙ e)
