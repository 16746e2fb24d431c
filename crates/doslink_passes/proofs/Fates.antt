-- The COMDAT records of modules and what becomes of them, one module behind the other.
use Rattle.std.proofs.Common.{◌≡◌, ◌≢◌, ℕ, ◌+◌, ◌<◌, List, [], ◌∷◌, ◌++◌, length, map, take, get_or, arith}
use Rattle.std.proofs.Common.{Result, Ok, Err, IsErr, Vec, refl, suc, sym, subst, ap, length-append}
use Rattle.std.proofs.lemmas.List.{map-append}
use Rattle.std.proofs.lemmas.Option.{get_or_from_slice_get, slice_get-get_or}
use Rattle.omf_comdat.specs.Comdats.{AreComdats, ComdatRecord, records_said}
use Rattle.omf_comdat.specs.Fates as comdat
use Rattle.omf_comdat.specs.Fates.{Clash, Shared}
use Rattle.omf_comdat.specs.Told.{IsClash, modules_said}
use Rattle.omf_comdat.specs.declared.fate.ComdatFate.{ComdatFate}
use Rattle.omf_comdat.specs.declared.fault.ComdatFault.{ComdatFault}
use Rattle.omf_comdat.specs.declared.fault.ComdatFault.TheVariants as fault
use Rattle.omf_comdat.specs.declared.records.ComdatRecord as lent
use Rattle.omf_library.proofs.Gathering.{map-turn}
use Rattle.omf_library.specs.Records.{module_records, result_and_then}
use Rattle.omf_place.specs.declared.names.Names.{Names}
use Rattle.doslink_passes.specs.Comdats.{AreFatesFor, AreRecordsOf}
use Rattle.doslink_passes.proofs.Refused.{err-is}

-- ---- records

-- those of one module more
records-more : (given : List (List ℕ)) (records : List (List ComdatRecord)) (bytes : List ℕ) (own : List ComdatRecord)
    → AreRecordsOf given records → AreComdats [] (module_records bytes 0) own
    → AreRecordsOf (given ++ bytes ∷ []) (records ++ own ∷ [])
records-more [] [] bytes own are here = (here, tt)
records-more [] (rs ∷ records) bytes own are here = absurd are
records-more (g ∷ given) [] bytes own are here = absurd are
records-more (g ∷ given) (rs ∷ records) bytes own are here =
    (are.0, records-more given records bytes own are.1 here)

-- those of as many modules
as-many-records : (given : List (List ℕ)) (records : List (List ComdatRecord)) → AreRecordsOf given records
    → length records ≡ length given
as-many-records [] [] are = refl
as-many-records [] (rs ∷ records) are = absurd are
as-many-records (g ∷ given) [] are = absurd are
as-many-records (g ∷ given) (rs ∷ records) are = ap suc (as-many-records given records are.1)

-- what stands at a place within a list doesn't hang on what would stand behind its end
pub at-place : {X : Type 0} (xs : List X) (i : ℕ) (d : X) → i < length xs
    → get_or xs i d ≡ get_or xs i (get_or xs i d)
at-place xs i d h = sym (get_or_from_slice_get xs i (get_or xs i d) (get_or xs i d) (slice_get-get_or xs i d h))

-- those of the next module
pub records-next : {A X : Type 0} (bytes : X → List ℕ) (given : List X) (i : ℕ) (d : X)
    (all more : List (Vec lent.ComdatRecord A)) (own : Vec lent.ComdatRecord A) → i < length given
    → more ≡ all ++ own ∷ [] → AreRecordsOf (map bytes (take i given)) (modules_said all)
    → AreComdats [] (module_records (bytes (get_or given i d)) 0) (records_said own.items)
    → AreRecordsOf (map bytes (take (i + 1) given)) (modules_said more)
records-next bytes given i d all more own h pushed are here =
    let one = get_or given i d in
    let is = at-place given i d h in
    subst (λ l. AreRecordsOf l (modules_said more)) (sym (map-turn bytes given i one h is))
    (subst (λ l. AreRecordsOf (map bytes (take i given) ++ bytes one ∷ []) (modules_said l)) (sym pushed)
    (subst (AreRecordsOf (map bytes (take i given) ++ bytes one ∷ []))
    (sym (map-append (λ m. records_said m.items) all (own ∷ [])))
    (records-more (map bytes (take i given)) (modules_said all) (bytes one) (records_said own.items) are here)))

-- ---- fates

-- of as many modules
fates-many : (names : Names) (told : List (List ComdatFate)) (firsts : List Shared) (ms : List (List ComdatRecord))
    (fates : List (List ComdatFate)) → comdat.fates_behind names told firsts ms ≡ Ok fates
    → length fates ≡ length told + length ms
fates-many names told firsts [] fates is =
    let same : told ≡ fates = cc in omega (arith, ap length same)
fates-many names told firsts (rs ∷ ms) fates is =
    behind (λ p. fates-many names (told ++ p.0 ∷ []) p.1 ms fates)
    (comdat.module_fates names (length told) firsts rs) is
  where
    behind : ((p : List ComdatFate × List Shared)
        → comdat.fates_behind names (told ++ p.0 ∷ []) p.1 ms ≡ Ok fates
        → length fates ≡ length (told ++ p.0 ∷ []) + length ms)
        → (r : Result (List ComdatFate × List Shared) Clash)
        → result_and_then (λ p. comdat.fates_behind names (told ++ p.0 ∷ []) p.1 ms) r ≡ Ok fates
        → length fates ≡ length told + suc (length ms)
    behind rest (Ok p) is = omega (arith, rest p is, length-append told (p.0 ∷ []))
    behind rest (Err e) is = cc

pub as-many-fates : (names : Names) (given : List (List ℕ)) (fates : List (List ComdatFate))
    → AreFatesFor names given fates → length fates ≡ length given
as-many-fates names given fates are =
    let told = fates-many names [] [] are.records fates are.decided in
    let known = as-many-records given are.records are.are_records in
    omega (arith, told, known)

-- a clash isn't want of memory
pub comdat-fault : {T : Type 0} (found : ComdatFault) (stands : Result T Clash) → IsClash found stands
    → found ≢ fault.Memory → IsErr stands
comdat-fault (fault.Clash c) stands is other = err-is stands _ is
comdat-fault fault.Memory stands is other = absurd (other refl)
