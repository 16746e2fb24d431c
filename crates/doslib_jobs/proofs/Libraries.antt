-- Files that were taken one after the other, and changes that were made one after the other.
use Rattle.std.proofs.Common.{◌≡◌, ℕ, zero, suc, ◌+◌, ◌<◌, ◌≤◌, List, [], ◌∷◌, ◌++◌, All, Ok, Err, IfOk, length, map}
use Rattle.std.proofs.Common.{take, drop, get_or, refl, sym, ap, ap₂, subst, ◌∙◌, append_assoc, arith, rules, Bor}
use Rattle.std.proofs.Common.{◌⊎◌, IfSome, None, Result, Some, false, inl, inr}
use Rattle.std.specs.declared.option.Option.{Option}
use Rattle.std.proofs.lemmas.List.{drop_more, map-append, take-append-drop, take_all, take_more}
use Rattle.std.proofs.lemmas.List.Elements.{All-push}
use Rattle.omf_frame.proofs.Told.{Appends-nil}
use Rattle.omf_library.specs.Files.{file_kind}
use Rattle.doslink_files.specs.Files.{IsTold}
use Rattle.doslink_files.specs.Standing.{BeginsAsInput}
use Rattle.doslib_words.specs.Words.{texts}
use Rattle.doslib_jobs.specs.declared.changing.Extracted.{Extracted}
use Rattle.doslib_jobs.specs.declared.fault.Stopped.{Stopped}
use Rattle.doslib_jobs.specs.declared.outcome.Outcome.{Outcome}
use Rattle.doslib_jobs.specs.Jobs.{ArePutUpTo, Does, IsBehind, IsKept, Read, StandsAsObject, Takes, object_path}
use Rattle.doslib_jobs.specs.Libraries.{Source, is_library, source_of}
use Rattle.doslib_jobs.specs.Reading.{unwritten_line}
use Rattle.doslib_jobs.specs.inside.Libraries.{DoesBy, HasTaken, TakesFile, extracted_said}
use Rattle.doslib_jobs.specs.inside.Running.{outcome_said}
use Rattle.doslib_jobs.proofs.Running.{ran-more}

-- ---- lists

-- one element more of a list that is mapped
pub mapped-more : {X Y : Type 0} (f : X → Y) (xs : List X) (i : ℕ) (d : X) (old new first : List Y) → i < length xs
    → new ≡ old ++ f (get_or xs i d) ∷ [] → old ≡ first ++ map f (take i xs) → new ≡ first ++ map f (take (i + 1) xs)
mapped-more f xs i d old new first h added before =
    added ∙ ap (λ l. l ++ f (get_or xs i d) ∷ []) before
    ∙ append_assoc first (map f (take i xs)) (f (get_or xs i d) ∷ [])
    ∙ ap (λ l. first ++ l) (sym (map-append f (take i xs) (get_or xs i d ∷ [])) ∙ ap (map f) (sym (take_more xs i d h)))

pub mapped-all : {X Y : Type 0} (f : X → Y) (xs : List X) (i : ℕ) (old first : List Y) → length xs ≤ i
    → old ≡ first ++ map f (take i xs) → old ≡ first ++ map f xs
mapped-all f xs i old first h before = before ∙ ap (λ l. first ++ map f l) (take_all i xs h)

-- ---- files

pub taken-none : (told : List ℕ → Option (List ℕ)) (lines : List ℕ) (status : ℕ) → lines ≡ [] → status ≡ 0
    → HasTaken told [] [] lines status
taken-none told lines status none done = λ old. record {
  ran = record {
    reads = [];
    these = refl;
    are = search rules;
    text = Appends-nil old;
    faults = none;
    greatest_is = done;
  };
  sources_are = refl;
}

pub taken-more : {A : Type 0} (told : List ℕ → Option (List ℕ)) (paths : List (Bor (List ℕ))) (i : ℕ)
    (d : Bor (List ℕ)) (before after : Outcome A) (sources : List Source) (source : Source)
    → i < length paths
    → HasTaken told (texts (take i paths)) sources before.lines.items before.status
    → TakesFile told (get_or paths i d).now before after source
    → HasTaken told (texts (take (i + 1) paths)) (sources ++ source ∷ []) after.lines.items after.status
taken-more told paths i d before after sources source h had t = λ old.
    let one : Read = record { path = (get_or paths i d).now; bytes = t.bytes; text = []; faults = t.faults } in
    record {
      ran = ran-more Takes told paths i d old old old before after h (had old).ran (record {
        bytes = t.bytes;
        text = [];
        faults = t.faults;
        is = (t.is_told, t.are);
        appended = Appends-nil old;
        lines = t.lines;
        greatest_is = t.greatest_is;
      });
      sources_are =
          ap₂ (λ (l : List Source) x. l ++ x ∷ []) (had old).sources_are t.source_is
          ∙ sym (map-append (λ (r : Read). source_of r.path r.bytes) (had old).ran.reads (one ∷ []));
    }

pub taken-all : (told : List ℕ → Option (List ℕ)) (paths : List (Bor (List ℕ))) (i : ℕ)
    (sources : List Source) (lines : List ℕ) (status : ℕ) → length paths ≤ i
    → HasTaken told (texts (take i paths)) sources lines status → HasTaken told (texts paths) sources lines status
taken-all told paths i sources lines status h had =
    subst (λ ps. HasTaken told (texts ps) sources lines status) (take_all i paths h) had

-- a job that does what it does where no file is at fault, and one that tells of those that are
pub does-well : (told : List ℕ → Option (List ℕ)) (paths : List (List ℕ))
    (does : List Source → (lines : List ℕ) → (status : ℕ) → Type 0) (sources : List Source) (faults : List ℕ)
    (worst : ℕ) (lines : List ℕ) (status : ℕ) → HasTaken told paths sources faults worst → worst ≡ 0
    → does sources lines status → DoesBy told paths does lines status
does-well told paths does sources faults worst lines status has none done = λ old. record {
  unprinted = refl;
  faults = faults;
  worst = worst;
  ran = (has old).ran;
  done =
      subst (λ n. IsBehind n faults (does (map (λ r. source_of r.path r.bytes) (has old).ran.reads)) lines status)
      (sym none) (subst (λ ss. does ss lines status) (has old).sources_are done);
}

behind-some : (worst : ℕ) (faults : List ℕ) (holds : (lines : List ℕ) → (status : ℕ) → Type 0) → 0 < worst
    → IsBehind worst faults holds faults worst
behind-some zero faults holds some = absurd (omega arith)
behind-some (suc n) faults holds some = (refl, refl)

pub does-badly : (told : List ℕ → Option (List ℕ)) (paths : List (List ℕ))
    (does : List Source → (lines : List ℕ) → (status : ℕ) → Type 0) (sources : List Source) (faults : List ℕ)
    (worst : ℕ) → HasTaken told paths sources faults worst → 0 < worst → DoesBy told paths does faults worst
does-badly told paths does sources faults worst has some = λ old. record {
  unprinted = refl;
  faults = faults;
  worst = worst;
  ran = (has old).ran;
  done = behind-some worst faults (does (map (λ r. source_of r.path r.bytes) (has old).ran.reads)) some;
}

-- what a job came to
pub said-weaker : {A : Type 0} (r : Result (Outcome A) Stopped) (P : Outcome A → Type 0) (Q : List ℕ × ℕ → Type 0)
    → ((o : Outcome A) → P o → Q (o.lines.items, o.status)) → IfOk r P → IfOk (outcome_said r) Q
said-weaker (Ok o) P Q f p = f o p
said-weaker (Err why) P Q f p = tt

-- whatever was printed before
pub printed-before : (told : List ℕ → Option (List ℕ)) (paths : List (List ℕ))
    (does : List Source → (lines : List ℕ) → (status : ℕ) → Type 0) (r : Result (List ℕ × ℕ) Stopped)
    (old : Option (List ℕ)) → IfOk r (λ o. DoesBy told paths does o.0 o.1)
    → IfOk r (λ o. Does told paths does old old o.0 o.1)
printed-before told paths does (Ok o) old done = done old
printed-before told paths does (Err why) old done = tt

-- the same of a library that is made, or that isn't since something else stands there
pub made-before : (told : List ℕ → Option (List ℕ)) (paths : List (List ℕ)) (path : List ℕ)
    (does : List Source → (lines : List ℕ) → (status : ℕ) → Type 0) (r : Result (List ℕ × ℕ) Stopped)
    (old : Option (List ℕ)) → IfOk r (λ o. DoesBy told paths does o.0 o.1 ⊎ IsKept told path o.0 o.1)
    → IfOk r (λ o. Does told paths does old old o.0 o.1 ⊎ ((old ≡ old) × IsKept told path o.0 o.1))
made-before told paths path does (Ok o) old (inl done) = inl (done old)
made-before told paths path does (Ok o) old (inr kept) = inr (refl, kept)
made-before told paths path does (Err why) old done = tt

pub made-so : (told : List ℕ → Option (List ℕ)) (paths : List (List ℕ)) (path : List ℕ)
    (does : List Source → (lines : List ℕ) → (status : ℕ) → Type 0) (r : Result (List ℕ × ℕ) Stopped)
    → IfOk r (λ o. DoesBy told paths does o.0 o.1)
    → IfOk r (λ o. DoesBy told paths does o.0 o.1 ⊎ IsKept told path o.0 o.1)
made-so told paths path does (Ok o) done = inl done
made-so told paths path does (Err why) done = tt

-- a file that begins as a module or an archive does
pub other-so : (told : Option (List ℕ)) (file : List ℕ) → IsTold told file → IfSome told BeginsAsInput
    → is_library (file_kind file) ≡ false
    → IfSome told (λ f. BeginsAsInput f × (is_library (file_kind f) ≡ false))
other-so None file is begins other = tt
other-so (Some known) file is begins other = (begins, subst (λ f. is_library (file_kind f) ≡ false) is other)

-- ---- members that were written

pub none-put : (stands : (path bytes : List ℕ) → Type 0) → All (StandsAsObject stands) []
none-put stands = search rules

-- one member more
pub put-more : (stands : (path bytes : List ℕ) → Type 0) (members : List Extracted) (i : ℕ) (d : Extracted)
    (path : List ℕ) → i < length members → path ≡ object_path (get_or members i d).name.now
    → stands path (get_or members i d).bytes.now → All (StandsAsObject stands) (map extracted_said (take i members))
    → All (StandsAsObject stands) (map extracted_said (take (i + 1) members))
put-more stands members i d path h is put before =
    subst (All (StandsAsObject stands))
    (sym (ap (map extracted_said) (take_more members i d h)
    ∙ map-append extracted_said (take i members) (get_or members i d ∷ [])))
    (All-push (StandsAsObject stands) (map extracted_said (take i members)) (extracted_said (get_or members i d)) before
    (subst (λ p. stands p (get_or members i d).bytes.now) is put))

pub put-all : (stands : (path bytes : List ℕ) → Type 0) (members : List Extracted) (i : ℕ) → length members ≤ i
    → All (StandsAsObject stands) (map extracted_said (take i members))
    → All (StandsAsObject stands) (map extracted_said members)
put-all stands members i h before =
    subst (λ ms. All (StandsAsObject stands) (map extracted_said ms)) (take_all i members h) before

-- up to one that isn't written
pub put-up-to : (stands : (path bytes : List ℕ) → Type 0) (members : List Extracted) (i : ℕ) (d : Extracted)
    (lines : List ℕ) (status : ℕ) → i < length members
    → lines ≡ unwritten_line (object_path (get_or members i d).name.now) → status ≡ 3
    → All (StandsAsObject stands) (map extracted_said (take i members))
    → ArePutUpTo stands (map extracted_said members) lines status
put-up-to stands members i d lines status h line three before = record {
  written = map extracted_said (take i members);
  unwritten = extracted_said (get_or members i d);
  rest = map extracted_said (drop (i + 1) members);
  these =
      ap (map extracted_said) (sym (take-append-drop i members))
      ∙ map-append extracted_said (take i members) (drop i members)
      ∙ ap (λ l. map extracted_said (take i members) ++ map extracted_said l) (drop_more members i d h);
  stand = before;
  line = line;
  failed = three;
}
