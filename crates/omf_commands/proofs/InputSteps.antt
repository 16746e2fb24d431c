-- Reading inputs one after the other.
use Rattle.std.proofs.Common.{◌≡◌, ℕ, suc, ◌+◌, ◌<◌, ◌≤◌, List, [], ◌∷◌, ◌++◌, length, map, get_or, take, drop, set}
use Rattle.std.proofs.Common.{refl, sym, ap, ap₂, subst, ◌∙◌, arith, Ok, Err, take-append-drop, inl}
use Rattle.std.specs.declared.option.Option.{Option}
use Rattle.std.specs.Io.KnownBytes.{Consumes}
use Rattle.std.proofs.lemmas.List.{take_more, take_more_set, take_all, drop-set-lt, get_or-drop, drop-drop, set_split}
use Rattle.std.proofs.lemmas.List.{length-set, length-take-le, map-append}
use Rattle.std.proofs.Math.Seq.{drop-cons}
use Rattle.omf_module.specs.declared.fault.FaultKind.{FaultKind}
use Rattle.omf_module.specs.declared.fault.FaultKind.TheVariants as kind
use Rattle.omf_module.specs.declared.fault.ModuleFault.{ModuleFault}
use Rattle.omf_module.specs.declared.fault.ModuleFault.TheVariants as reading
use Rattle.omf_module.specs.Module.{Module}
use Rattle.omf_record.specs.Records.{Placed}
use Rattle.omf_module.specs.Tables.{module_of}
use Rattle.omf_module.specs.Reading.{Reads, failures_in}
use Rattle.omf_commands.specs.Inputs.{IsInput, AreInputs, ReadsFront, StopsReading}
use Rattle.omf_commands.specs.inside.Inputs.{IsInputFault}
use Rattle.omf_commands.specs.Faults.{fault_at, module_fault}

module _ {S : Type 0} (told : S → Option (List ℕ)) (failures : S → ℕ) where
  -- the inputs before this one are modules of these records, and the others are as they were
  pub record SoFar (lists : List (List Placed)) (i : ℕ) (olds mids : List S) : Type 0 where
    pub inputs : AreInputs told failures lists (take i olds) (take i mids)
    pub rest : drop i mids ≡ drop i olds
    pub long : length mids ≡ length olds

  pub begun : (olds : List S) → SoFar [] 0 olds olds
  begun olds = record { inputs = tt; rest = refl; long = refl }

  one_more : (lists : List (List Placed)) (olds news : List S) (rs : List Placed) (old new : S)
      → AreInputs told failures lists olds news → IsInput told failures rs old new
      → AreInputs told failures (lists ++ rs ∷ []) (olds ++ old ∷ []) (news ++ new ∷ [])
  one_more [] [] [] rs old new h one = (one, tt)
  one_more [] [] (y ∷ ys) rs old new h one = absurd h
  one_more [] (x ∷ xs) ys rs old new h one = absurd h
  one_more (l ∷ ls) [] ys rs old new h one = absurd h
  one_more (l ∷ ls) (x ∷ xs) [] rs old new h one = absurd h
  one_more (l ∷ ls) (x ∷ xs) (y ∷ ys) rs old new h one = (h.0, one_more ls xs ys rs old new h.1 one)

  -- each input has its records
  pub as_many : (lists : List (List Placed)) (olds news : List S) → AreInputs told failures lists olds news
      → length lists ≡ length olds
  as_many [] [] [] h = refl
  as_many [] [] (y ∷ ys) h = absurd h
  as_many [] (x ∷ xs) ys h = absurd h
  as_many (l ∷ ls) [] ys h = absurd h
  as_many (l ∷ ls) (x ∷ xs) [] h = absurd h
  as_many (l ∷ ls) (x ∷ xs) (y ∷ ys) h = ap suc (as_many ls xs ys h.1)

  -- an input that isn't read yet is as it was
  pub same_at : (lists : List (List Placed)) (i : ℕ) (olds mids : List S) (d : S) → SoFar lists i olds mids
      → get_or mids i d ≡ get_or olds i d
  same_at lists i olds mids d so =
      let here : i + 0 ≡ i = omega arith in
      let at : (l : List S) → get_or (drop i l) 0 d ≡ get_or l i d =
      λ l. get_or-drop i l 0 d ∙ ap (λ k. get_or l k d) here in
      sym (at mids) ∙ (ap (λ l. get_or l 0 d) so.rest ∙ at olds)

  rest_after : (i : ℕ) (olds mids : List S) → drop i mids ≡ drop i olds → drop (i + 1) mids ≡ drop (i + 1) olds
  rest_after i olds mids same = sym (drop-drop 1 i mids) ∙ (ap (drop 1) same ∙ drop-drop 1 i olds)

  pub read_one : (lists : List (List Placed)) (i : ℕ) (olds mids : List S) (d : S) (rs : List Placed) (new : S)
      → i < length olds → SoFar lists i olds mids
      → IsInput told failures rs (get_or mids i d) new → SoFar (lists ++ rs ∷ []) (i + 1) olds (set mids i new)
  read_one lists i olds mids d rs new h so one =
      let within : i < length mids = omega (arith, h, so.long) in
      let olds_are : take (i + 1) olds ≡ take i olds ++ get_or mids i d ∷ [] =
      take_more olds i d h ∙ ap (λ x. take i olds ++ x ∷ []) (sym (same_at lists i olds mids d so)) in
      let more = one_more lists (take i olds) (take i mids) rs (get_or mids i d) new so.inputs one in
      record {
        inputs = rw (olds_are, take_more_set mids i new within) more;
        rest = drop-set-lt (i + 1) mids i new (omega arith) ∙ rest_after i olds mids so.rest;
        long = length-set mids i new ∙ so.long;
      }

  pub front_read : (lists : List (List Placed)) (i : ℕ) (olds mids : List S) → SoFar lists i olds mids
      → ReadsFront told failures lists olds mids (drop i olds) (drop i olds)
  front_read lists i olds mids so = (
    take i olds,
    take i mids,
    so.inputs,
    sym (take-append-drop i olds),
    sym (take-append-drop i mids) ∙ ap (λ l. take i mids ++ l) so.rest,
  )

  pub all_read : (lists : List (List Placed)) (i : ℕ) (olds mids : List S) → length olds ≤ i → SoFar lists i olds mids
      → AreInputs told failures lists olds mids
  all_read lists i olds mids h so =
      let past : length mids ≤ i = omega (arith, h, so.long) in
      subst (λ l. AreInputs told failures lists l mids) (take_all i olds h)
      (subst (λ l. AreInputs told failures lists (take i olds) l) (take_all i mids past) so.inputs)

  pub stopped : (lists : List (List Placed)) (i : ℕ) (olds mids : List S) (d : S) (new : S) (e : ModuleFault)
      → i < length olds → SoFar lists i olds mids
      → Reads (λ (m : Module). m) (told (get_or mids i d)) (told new) (Err e)
      → failures new ≡ failures (get_or mids i d) + failures_in {A = Module} (Err e)
      → StopsReading told failures olds (set mids i new) i e
  stopped lists i olds mids d new e h so reads failed =
      let within : i < length mids = omega (arith, h, so.long) in
      let next : suc i ≡ i + 1 = omega arith in
      let same = same_at lists i olds mids d so in (
        lists,
        get_or olds i d,
        new,
        drop (i + 1) olds,
        (
          take i olds,
          take i mids,
          so.inputs,
          sym (take-append-drop i olds)
              ∙ ap (λ l. take i olds ++ l) (drop-cons olds i d h ∙ ap (λ k. get_or olds i d ∷ drop k olds) next),
          set_split mids i new within
              ∙ ap (λ l. take i mids ++ new ∷ l) (ap (λ k. drop k mids) next ∙ rest_after i olds mids so.rest),
        ),
        sym (as_many lists (take i olds) (take i mids) so.inputs ∙ length-take-le i olds (omega (arith, h))),
        subst (λ x. Reads (λ (m : Module). m) (told x) (told new) (Err e)) same reads,
        subst (λ x. failures new ≡ failures x + failures_in {A = Module} (Err e)) same failed,
      )

  -- an input isn't a module
  pub refused : (A : Type 0) (lists : List (List Placed)) (i : ℕ) (olds mids : List S) (d : S) (new : S)
      (e : ModuleFault) → i < length olds → SoFar lists i olds mids
      → Reads (λ (m : Module). m) (told (get_or mids i d)) (told new) (Err e)
      → failures new ≡ failures (get_or mids i d) + failures_in {A = Module} (Err e)
      → IsInputFault told failures {A = A} olds (set mids i new) (module_fault i e)
  refused A lists i olds mids d new reading.Memory h so reads failed =
      inl (i, stopped lists i olds mids d new reading.Memory h so reads failed)
  refused A lists i olds mids d new (reading.Record place k) h so reads failed =
      at_record k (stopped lists i olds mids d new (reading.Record place k) h so reads failed)
    where
      at_record : (q : FaultKind) → StopsReading told failures olds (set mids i new) i (reading.Record place q)
          → IsInputFault told failures {A = A} olds (set mids i new) (fault_at i place q)
      at_record kind.Device s = (i, place, kind.Device, refl, s)
      at_record (kind.Absent why) s = (i, place, kind.Absent why, refl, s)
      at_record (kind.Check f) s = (i, place, kind.Check f, refl, s)

  -- a module was read
  pub read_input : (m : Module) (old new : S) → Reads (λ (x : Module). x) (told old) (told new) (Ok m)
      → failures new ≡ failures old + 0
      → (rs : List Placed) × IsInput told failures rs old new × (m ≡ module_of rs)
  unfolding Reads
  read_input m old new reads works = (reads.0, (reads.1, reads.2, reads.3, omega (arith, works)), reads.4)

  -- an input that was read is finished
  pub finished : (rs : List Placed) (old mid new : S) → told new ≡ told mid → failures new ≡ failures mid
      → IsInput told failures rs old mid → IsInput told failures rs old new
  finished rs old mid new same works (bytes, whole, taken, worked) =
      (bytes, whole, subst (λ rest. Consumes (told old) rest bytes) (sym same) taken, works ∙ worked)

pub modules_push : (lists : List (List Placed)) (rs : List Placed) (ms : List Module) (m : Module)
    → ms ≡ map module_of lists → m ≡ module_of rs → ms ++ m ∷ [] ≡ map module_of (lists ++ rs ∷ [])
modules_push lists rs ms m are is = ap₂ (λ xs x. xs ++ x ∷ []) are is ∙ sym (map-append module_of lists (rs ∷ []))
