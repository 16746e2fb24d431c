-- What a link answers, by the bytes of its inputs.
use Rattle.std.proofs.Common.{◌≡◌, ℕ, ◌+◌, Bool, true, false, List, [], ◌∷◌, ◌++◌, ◌⊎◌, length, map, None, Some, Err}
use Rattle.std.proofs.Common.{refl, sym, ap, subst, ◌∙◌, arith, inl, inr, append_assoc, append-nil, length-append}
use Rattle.std.proofs.Common.{true≢false, Result, Ok}
use Rattle.std.specs.declared.option.Option.{Option}
use Rattle.std.specs.Prelude.{IfSome}
use Rattle.std.specs.Io.KnownBytes.{Consumes}
use Rattle.omf_record.specs.Records.{Placed}
use Rattle.omf_module.specs.declared.fault.FaultKind.{FaultKind}
use Rattle.omf_module.specs.declared.fault.FaultKind.TheVariants as kind
use Rattle.omf_module.specs.declared.fault.ModuleFault.TheVariants as reading
use Rattle.omf_module.specs.Module.{Module}
use Rattle.omf_module.specs.Tables.{module_of}
use Rattle.omf_module.specs.Bytes.{ModuleBytes, ReadingFault}
use Rattle.omf_module.specs.Reading.{Reads, IsFaultOf}
use Rattle.omf_module.proofs.Once.{one_module, no_fault, one_fault}
use Rattle.omf_place.specs.declared.names.Names.{Names}
use Rattle.omf_faults.specs.declared.fault.LinkFault.{LinkFault}
use Rattle.omf_faults.specs.declared.fault.LinkFault.TheVariants as link
use Rattle.omf_commands.specs.declared.linking.Report.{Report}
use Rattle.omf_commands.specs.Inputs.{IsInput, AreInputs, StopsAtRecord}
use Rattle.omf_commands.specs.Linking.{IsFileOf, IsModulesFault, AllRead, Links}
use Rattle.omf_commands.specs.Outcome.{SameFault, StandsBehind, IsOnlyFault, Outcome, AreTold}
use Rattle.omf_commands.specs.Faults.{fault_at}
use Rattle.omf_commands.proofs.Exclusive.{exclusive}
use Rattle.omf_commands.proofs.InputSteps.{as_many}
use Rattle.omf_commands.proofs.Same.{one_modules_fault, same_refl}

-- ---- two faults of the same inputs are the same

-- the bytes begin with a whole sound module of these records
abbrev BeginsWith : List Placed → List ℕ → Type 0
BeginsWith records bytes = (front rest : List ℕ) × (bytes ≡ front ++ rest) × ModuleBytes records front

begun_clean : (rs : List Placed) (bytes : List ℕ) (place : ℕ) (k : FaultKind) → BeginsWith rs bytes
    → ReadingFault bytes place k → ⊥
begun_clean rs bytes place k (front, rest, split, whole) h =
    no_fault rs front rest place k whole (subst (λ (l : List ℕ). ReadingFault l place k) split h)

one_beginning : (rs ss : List Placed) (bytes : List ℕ) → BeginsWith rs bytes → BeginsWith ss bytes → rs ≡ ss
one_beginning rs ss bytes (x, r, split, whole) (y, s, other, also) =
    (one_module rs ss x y r s whole also (sym split ∙ other)).0

one_standing : {A : Type 0} (names : Names) (before : List (List Placed)) (inputs : List (List ℕ))
    (fault other : LinkFault A) → StandsBehind names before inputs fault → StandsBehind names before inputs other
    → SameFault fault other
one_standing names before [] fault other h k = one_modules_fault names (map module_of before) fault other h k
one_standing {A} names before (bytes ∷ inputs) fault other (inl h) (inl k) =
    let same = one_fault bytes h.0 k.0 h.1 k.1 h.2 k.2 in
    let is : fault ≡ other =
    h.3 ∙ ap (λ p. fault_at {A = A} (length before) p h.1) same.0 ∙ ap (fault_at {A = A} (length before) k.0) same.1
    ∙ sym k.3 in
    subst (SameFault fault) is (same_refl fault)
one_standing names before (bytes ∷ inputs) fault other (inl h) (inr k) =
    absurd (begun_clean k.0 bytes h.0 h.1 (k.1, k.2, k.3, k.4) h.2)
one_standing names before (bytes ∷ inputs) fault other (inr h) (inl k) =
    absurd (begun_clean h.0 bytes k.0 k.1 (h.1, h.2, h.3, h.4) k.2)
one_standing names before (bytes ∷ inputs) fault other (inr h) (inr k) =
    let same = one_beginning h.0 k.0 bytes (h.1, h.2, h.3, h.4) (k.1, k.2, k.3, k.4) in
    one_standing names (before ++ h.0 ∷ []) inputs fault other h.5
    (subst (λ rs. StandsBehind names (before ++ rs ∷ []) inputs other) (sym same) k.5)

pub only : {A : Type 0} (names : Names) (inputs : List (List ℕ)) (fault : LinkFault A)
    → StandsBehind names [] inputs fault → IsOnlyFault names inputs fault
only names inputs fault h = (h, λ other k. one_standing names [] inputs other fault k h)

-- ---- what was read

abbrev is_device : {A : Type 0} → LinkFault A → Bool
is_device (link.Device n place) = true
is_device _ = false

no_cons : {X : Type 0} (x : X) (xs : List X) → [] ≡ x ∷ xs → ⊥
no_cons x xs same = cc

same_head : {X : Type 0} (x y : X) (xs ys : List X) → x ∷ xs ≡ y ∷ ys → x ≡ y
same_head x y xs ys same = cc

same_tail : {X : Type 0} (x y : X) (xs ys : List X) → x ∷ xs ≡ y ∷ ys → xs ≡ ys
same_tail x y xs ys same = cc

module _ {S : Type 0} (told : S → Option (List ℕ)) (failures : S → ℕ) where
  told_first : (x : S) (xs : List S) (bytes : List ℕ) (inputs : List (List ℕ)) → AreTold told (x ∷ xs) (bytes ∷ inputs)
      → told x ≡ Some bytes
  told_first x xs bytes inputs is = same_head (told x) (Some bytes) (map told xs) (map Some inputs) is

  told_rest : (x : S) (xs : List S) (bytes : List ℕ) (inputs : List (List ℕ)) → AreTold told (x ∷ xs) (bytes ∷ inputs)
      → AreTold told xs inputs
  told_rest x xs bytes inputs is = same_tail (told x) (Some bytes) (map told xs) (map Some inputs) is

  more_told : (bytes : List ℕ) (inputs : List (List ℕ)) → AreTold told [] (bytes ∷ inputs) → ⊥
  more_told bytes inputs is = no_cons (Some bytes) (map Some inputs) is

  less_told : (x : S) (xs : List S) → AreTold told (x ∷ xs) [] → ⊥
  less_told x xs is = no_cons (told x) (map told xs) (sym is)

  begins : (rs : List Placed) (old new : S) (bytes : List ℕ) → IsInput told failures rs old new → told old ≡ Some bytes
      → BeginsWith rs bytes
  begins rs old new bytes (front, whole, taken, works) is =
      split (told new) (subst (λ o. Consumes o (told new) front) is taken)
    where
      split : (o : Option (List ℕ)) → Consumes (Some bytes) o front → BeginsWith rs bytes
      split None h = absurd h
      split (Some rest) h = (front, rest, h, whole)

  behind : {A : Type 0} (names : Names) (before : List (List Placed)) (rs : List Placed) (bytes : List ℕ)
      (inputs : List (List ℕ)) (fault : LinkFault A) → BeginsWith rs bytes
      → StandsBehind names (before ++ rs ∷ []) inputs fault
      → StandsBehind names before (bytes ∷ inputs) fault
  behind names before rs bytes inputs fault (front, rest, split, whole) stands =
      inr (rs, front, rest, split, whole, stands)

  -- all inputs are modules, and the modules have this fault
  pub all_stand : {A : Type 0} (names : Names) (before lists : List (List Placed)) (olds news : List S)
      (inputs : List (List ℕ)) (fault : LinkFault A) → AreInputs told failures lists olds news
      → AreTold told olds inputs
      → IsModulesFault names (map module_of (before ++ lists)) fault → StandsBehind names before inputs fault
  all_stand names before [] [] [] [] fault h is k =
      subst (λ ls. IsModulesFault names (map module_of ls) fault) (append-nil before) k
  all_stand names before [] [] [] (bytes ∷ inputs) fault h is k = absurd (more_told bytes inputs is)
  all_stand names before [] [] (y ∷ ys) inputs fault h is k = absurd h
  all_stand names before [] (x ∷ xs) ys inputs fault h is k = absurd h
  all_stand names before (rs ∷ lists) [] ys inputs fault h is k = absurd h
  all_stand names before (rs ∷ lists) (x ∷ xs) [] inputs fault h is k = absurd h
  all_stand names before (rs ∷ lists) (x ∷ xs) (y ∷ ys) [] fault h is k = absurd (less_told x xs is)
  all_stand names before (rs ∷ lists) (x ∷ xs) (y ∷ ys) (bytes ∷ inputs) fault h is k =
      behind names before rs bytes inputs fault (begins rs x y bytes h.0 (told_first x xs bytes inputs is))
      (all_stand names (before ++ rs ∷ []) lists xs ys inputs fault h.1 (told_rest x xs bytes inputs is)
      (subst (λ ls. IsModulesFault names (map module_of ls) fault) (sym (append_assoc before (rs ∷ []) lists)) k))

  -- all inputs are modules, and they have a file
  pub none_stands : {A : Type 0} (names : Names) (before lists : List (List Placed)) (olds news : List S)
      (inputs : List (List ℕ)) (file : List ℕ) (fault : LinkFault A) → AreInputs told failures lists olds news
      → AreTold told olds inputs → IsFileOf names (map module_of (before ++ lists)) file
      → StandsBehind names before inputs fault → ⊥
  none_stands names before [] [] [] [] file fault h is made k =
      exclusive names (map module_of before) file fault
      (subst (λ ls. IsFileOf names (map module_of ls) file) (append-nil before) made) k
  none_stands names before [] [] [] (bytes ∷ inputs) file fault h is made k = absurd (more_told bytes inputs is)
  none_stands names before [] [] (y ∷ ys) inputs file fault h is made k = absurd h
  none_stands names before [] (x ∷ xs) ys inputs file fault h is made k = absurd h
  none_stands names before (rs ∷ lists) [] ys inputs file fault h is made k = absurd h
  none_stands names before (rs ∷ lists) (x ∷ xs) [] inputs file fault h is made k = absurd h
  none_stands names before (rs ∷ lists) (x ∷ xs) (y ∷ ys) [] file fault h is made k = absurd (less_told x xs is)
  none_stands names before (rs ∷ lists) (x ∷ xs) (y ∷ ys) (bytes ∷ inputs) file fault h is made (inl k) =
      absurd (begun_clean rs bytes k.0 k.1 (begins rs x y bytes h.0 (told_first x xs bytes inputs is)) k.2)
  none_stands names before (rs ∷ lists) (x ∷ xs) (y ∷ ys) (bytes ∷ inputs) file fault h is made (inr k) =
      let same =
      one_beginning k.0 rs bytes (k.1, k.2, k.3, k.4) (begins rs x y bytes h.0 (told_first x xs bytes inputs is)) in
      none_stands names (before ++ rs ∷ []) lists xs ys inputs file fault h.1 (told_rest x xs bytes inputs is)
      (subst (λ ls. IsFileOf names (map module_of ls) file) (sym (append_assoc before (rs ∷ []) lists)) made)
      (subst (λ ss. StandsBehind names (before ++ ss ∷ []) inputs fault) same k.5)

  -- reading stopped at a record
  stopped_stands : {A : Type 0} (names : Names) (before lists : List (List Placed)) (olds news rest : List S) (old : S)
      (inputs : List (List ℕ)) (fault : LinkFault A) (n place : ℕ) (k : FaultKind)
      → AreInputs told failures lists olds news
      → AreTold told (olds ++ old ∷ rest) inputs
      → ((bytes : List ℕ) → told old ≡ Some bytes → ReadingFault bytes place k) → n ≡ length before + length olds
      → fault ≡ fault_at n place k → StandsBehind names before inputs fault
  stopped_stands {A} names before [] [] [] rest old (bytes ∷ inputs) fault n place k h is reads count same =
      let here : n ≡ length before = omega (arith, count) in
      inl (
        place,
        k,
        reads bytes (told_first old rest bytes inputs is),
        same ∙ ap (λ m. fault_at {A = A} m place k) here,
      )
  stopped_stands names before [] [] [] rest old [] fault n place k h is reads count same =
      absurd (less_told old rest is)
  stopped_stands names before [] [] (y ∷ ys) rest old inputs fault n place k h is reads count same = absurd h
  stopped_stands names before [] (x ∷ xs) ys rest old inputs fault n place k h is reads count same = absurd h
  stopped_stands names before (rs ∷ lists) [] ys rest old inputs fault n place k h is reads count same = absurd h
  stopped_stands names before (rs ∷ lists) (x ∷ xs) [] rest old inputs fault n place k h is reads count same = absurd h
  stopped_stands names before (rs ∷ lists) (x ∷ xs) (y ∷ ys) rest old [] fault n place k h is reads count same =
      absurd (less_told x (xs ++ old ∷ rest) is)
  stopped_stands names before (rs ∷ lists) (x ∷ xs) (y ∷ ys) rest old (bytes ∷ inputs) fault n place k h is reads count
      same =
      let next : n ≡ length (before ++ rs ∷ []) + length xs = omega (arith, count, length-append before (rs ∷ [])) in
      behind names before rs bytes inputs fault
      (begins rs x y bytes h.0 (told_first x (xs ++ old ∷ rest) bytes inputs is))
      (stopped_stands names (before ++ rs ∷ []) lists xs ys rest old inputs fault n place k h.1
      (told_rest x (xs ++ old ∷ rest) bytes inputs is) reads next same)

  -- a fault that is none of the source's own
  fault_reads : {A : Type 0} (fault : LinkFault A) (input place : ℕ) (k : FaultKind) (bytes : List ℕ)
      → is_device fault ≡ false → fault ≡ fault_at input place k → IsFaultOf bytes place k → ReadingFault bytes place k
  fault_reads {A} fault input place kind.Device bytes other e h =
      absurd (true≢false (sym (ap (is_device {A = A}) e) ∙ other))
  fault_reads fault input place (kind.Absent why) bytes other e h = h
  fault_reads fault input place (kind.Check g) bytes other e h = h

  reading_told : (bytes : List ℕ) (old new : Option (List ℕ)) (place : ℕ) (k : FaultKind) → old ≡ Some bytes
      → Reads (λ (m : Module). m) old new (Err (reading.Record place k)) → IsFaultOf bytes place k
  unfolding Reads
  reading_told bytes old new place k is h = subst (λ o. IfSome o (λ b. IsFaultOf b place k)) is h.7

  record_stands : {A : Type 0} (names : Names) (olds news : List S) (inputs : List (List ℕ)) (fault : LinkFault A)
      → is_device fault ≡ false → AreTold told olds inputs → StopsAtRecord told failures olds news fault
      → StandsBehind names [] inputs fault
  record_stands {A} names olds news inputs fault other is (input, place, k, same, s) =
      let count : input ≡ length s.4.0 = s.5 ∙ as_many told failures s.0 s.4.0 s.4.1 s.4.2 in
      stopped_stands {A = A} names [] s.0 s.4.0 s.4.1 s.3 s.1 inputs fault input place k s.4.2
      (subst (λ l. AreTold told l inputs) s.4.3 is)
      (λ bytes e.
      fault_reads {A = A} fault input place k bytes other same (reading_told bytes (told s.1) (told s.2) place k e s.6))
      (omega (arith, count)) same

  only_stands : {A : Type 0} (names : Names) (olds news : List S) (inputs : List (List ℕ)) (fault : LinkFault A)
      → is_device fault ≡ false
      → StopsAtRecord told failures olds news fault
      ⊎ AllRead told failures olds news (λ modules. IsModulesFault names modules fault) → AreTold told olds inputs
      → IsOnlyFault names inputs fault
  only_stands {A} names olds news inputs fault other h told_is =
      only {A = A} names inputs fault (elim h [
        | inl s ↦ record_stands {A = A} names olds news inputs fault other told_is s
        | inr s ↦ all_stand {A = A} names [] s.0 olds news inputs fault s.1 told_is s.2
      ])

  pub refused : {A : Type 0} (names : Names) (olds news : List S) (wold wnew : Option (List ℕ)) (inputs : List (List ℕ))
      (e : LinkFault A) → Links told failures {A = A} names olds news wold wnew (Err e) → AreTold told olds inputs
      → Outcome {R = Report A} names inputs (Err e)
  refused names olds news wold wnew inputs link.Output h told_is =
      λ fault k. none_stands names [] h.0 olds news inputs h.2.0 fault h.1 told_is h.2.1 k
  refused names olds news wold wnew inputs link.Memory h told_is = tt
  refused names olds news wold wnew inputs (link.Device n place) h told_is = tt
  refused {A} names olds news wold wnew inputs (link.Record n place f) h told_is =
      only_stands {A = A} names olds news inputs (link.Record n place f) refl h.0 told_is
  refused {A} names olds news wold wnew inputs (link.Program f) h told_is =
      only_stands {A = A} names olds news inputs (link.Program f) refl h.0 told_is
  refused {A} names olds news wold wnew inputs (link.File f) h told_is =
      only_stands {A = A} names olds news inputs (link.File f) refl h.0 told_is

  -- the answer of a link, by what it did
  pub ended : {A : Type 0} (names : Names) (olds news : List S) (wold wnew : Option (List ℕ)) (inputs : List (List ℕ))
      (r : Result (Report A) (LinkFault A)) → Links told failures {A = A} names olds news wold wnew r
      → AreTold told olds inputs → Outcome {R = Report A} names inputs r
  ended names olds news wold wnew inputs (Ok report) (lists, are, (is, (file, format, appended))) told_is =
      λ fault k. none_stands names [] lists olds news inputs file fault are told_is
      (report.layout, report.program, is.linked, format) k
  ended names olds news wold wnew inputs (Err e) links told_is =
      refused names olds news wold wnew inputs e links told_is
