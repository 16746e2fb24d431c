-- Default libraries that are looked up, one behind the other and in rounds.
use Rattle.std.proofs.Common.{◌≡◌, ℕ, ◌+◌, ◌<◌, All, List, [], ◌∷◌, ◌++◌, length, map, take, get_or, refl, sym, subst}
use Rattle.std.proofs.Common.{ap, ◌∙◌}
use Rattle.std.proofs.Common.{append-nil, append_assoc, arith, ◌&&◌, Bool, true, false, if◌then◌else◌, not, ◌==◌}
use Rattle.std.proofs.Common.{true≢false, zero, suc, Err, Ok, OnOk, Result}
use Rattle.std.specs.Result.{is_err}
use Rattle.std.proofs.lemmas.List.{map-append, take_more}
use Rattle.std.proofs.lemmas.List.Elements.{All-map, All-nil, All-push}
use Rattle.std.proofs.lemmas.Grind.{flat_map-append}
use Rattle.std.specs.List.{flat_map}
use Rattle.std.specs.declared.option.Option.{Option}
use Rattle.clap.specs.Words.{Text}
use Rattle.omf_place.specs.declared.names.Names.{Names}
use Rattle.doslink_files.specs.Files.{IsFoundNew, contents}
use Rattle.doslink_files.specs.declared.reading.InputFile.{InputFile}
use Rattle.doslink_files.specs.declared.lookup.Found.{Found}
use Rattle.doslink_files.specs.declared.lookup.Found.TheVariants as found
use Rattle.doslink_stock.specs.Files.{Held}
use Rattle.doslink_stock.specs.Search.{Takes}
use Rattle.doslink_words.specs.declared.job.Job.{Job}
use Rattle.doslink_words.specs.Tokens.{texts}
use Rattle.doslink_jobs.specs.declared.gathering.DefaultLibrary.{DefaultLibrary}
use Rattle.doslink_jobs.specs.declared.gathering.Gathered.{Gathered}
use Rattle.doslink_passes.specs.Request.{names_of}
use Rattle.doslink_jobs.specs.Jobs.{AreGiven, IsAskedBy, library_folders}
use Rattle.doslink_telling.specs.Missing.{told_lines}
use Rattle.doslink_jobs.specs.inside.Gathering.{AreAsked, Holds}
use Rattle.doslink_jobs.specs.inside.Absent.{AreAbsentBehind, AreAbsentTold, absent_warning, absent_warnings}
use Rattle.doslink_jobs.specs.inside.Absent.{AreAllLookups, AreLookedUp, AreRoundLookups, IsOutcome, Library, Lookup}
use Rattle.doslink_jobs.specs.inside.Absent.{Outcome}
use Rattle.doslink_jobs.specs.inside.Absent.{absent_libraries, absent_one, all_absent, all_rounds, library_said}
use Rattle.doslink_jobs.specs.inside.Absent.{new_bytes, new_files, outcome_of, with_round}

-- what was found
pub found-outcome : {A : Type 0} (told : Text → Option (List ℕ)) (folders : List Text) (name : Text) (f : Found A)
    → IsFoundNew told folders name f → IsOutcome told folders name (outcome_of f)
found-outcome told folders name (found.New file) is = is
found-outcome told folders name found.Known is = tt

pub none-absent : {A : Type 0} (library : Library) (f : Found A) → absent_one library (outcome_of f) ≡ []
none-absent library (found.New file) = refl
none-absent library found.Known = refl

-- one more of what each of a list makes
more-made : {X Y : Type 0} (f : X → List Y) (xs : List X) (x : X) → flat_map f (xs ++ x ∷ []) ≡ flat_map f xs ++ f x
more-made f xs x = flat_map-append f xs (x ∷ []) ∙ ap (λ l. flat_map f xs ++ l) (append-nil (f x))

-- none was looked up
pub looked-none : (told : Text → Option (List ℕ)) (folders : List Text) (absent : List Library)
    → AreLookedUp told folders [] [] absent absent
looked-none told folders absent = record {
  lookups = [];
  libraries_are = refl;
  are_found = All-nil (λ (l : Lookup). IsOutcome told folders l.library.name l.outcome);
  files_are = refl;
  absent_are = sym (append-nil absent);
}

-- one more was looked up
pub looked-more : {A : Type 0} (told : Text → Option (List ℕ)) (folders : List Text) (all : List (DefaultLibrary A))
    (i : ℕ) (x : DefaultLibrary A) (outcome : Outcome) (files files₁ : List (List ℕ)) (old new new₁ : List Library)
    → i < length all → x ≡ get_or all i x
    → AreLookedUp told folders (map library_said (take i all)) files old new
    → IsOutcome told folders x.name.now outcome → files₁ ≡ files ++ new_bytes outcome
    → new₁ ≡ new ++ absent_one (library_said x) outcome
    → AreLookedUp told folders (map library_said (take (i + 1) all)) files₁ old new₁
looked-more told folders all i x outcome files files₁ old new new₁ h same before is found absent =
    let lookups = before.lookups in
    let library = library_said x in
    let one : Lookup = record { library = library; outcome = outcome } in
    record {
      lookups = lookups ++ one ∷ [];
      libraries_are = map-append (λ (l : Lookup). l.library) lookups (one ∷ [])
          ∙ ap (λ l. l ++ library ∷ []) before.libraries_are
          ∙ ap (λ y. map library_said (take i all) ++ library_said y ∷ []) same
          ∙ sym (map-append library_said (take i all) (get_or all i x ∷ []))
          ∙ ap (map library_said) (sym (take_more all i x h));
      are_found = All-push (λ (l : Lookup). IsOutcome told folders l.library.name l.outcome) lookups one
          before.are_found is;
      files_are = found ∙ ap (λ l. l ++ new_bytes outcome) before.files_are
          ∙ sym (more-made (λ (l : Lookup). new_bytes l.outcome) lookups one);
      absent_are = absent ∙ ap (λ l. l ++ absent_one library outcome) before.absent_are
          ∙ append_assoc old (absent_libraries lookups) (absent_one library outcome)
          ∙ ap (λ l. old ++ l) (sym (more-made (λ (l : Lookup). absent_one l.library l.outcome) lookups one));
    }

-- ---- rounds

module _ (told : Text → Option (List ℕ)) (folders left_out : List Text) (names : Names) where
  -- one round more
  pub lookups-more : (rounds : List (List (List ℕ))) (all : List (List Lookup)) (lookups : List Lookup)
      → AreAllLookups told folders left_out names rounds all → AreRoundLookups told folders left_out names
      (all_rounds rounds all) lookups
      → AreAllLookups told folders left_out names rounds (all ++ lookups ∷ [])
  lookups-more rounds [] lookups are more = (more, tt)
  lookups-more rounds (first ∷ all) lookups (one, rest) more =
      (one, lookups-more (with_round rounds (new_files first)) all lookups rest more)

  -- the libraries of a round, as they were looked up
  pub round-lookups : {A : Type 0} (rounds : List (List (List ℕ))) (modules : List Held)
      (libraries : List (DefaultLibrary A)) (files : List (List ℕ)) (old new : List Library)
      → Takes names rounds modules → AreAsked left_out modules libraries
      → (looked : AreLookedUp told folders (map library_said libraries) files old new)
      → AreRoundLookups told folders left_out names rounds looked.lookups
  round-lookups rounds modules libraries files old new takes named looked = (
    modules,
    takes,
    subst (All (λ l. IsAskedBy left_out modules l.name)) (sym looked.libraries_are)
        (All-map (λ l. IsAskedBy left_out modules l.name) library_said libraries named),
    looked.are_found,
  )

pub rounds-more : (rounds : List (List (List ℕ))) (all : List (List Lookup)) (lookups : List Lookup)
    → all_rounds rounds (all ++ lookups ∷ []) ≡ with_round (all_rounds rounds all) (new_files lookups)
rounds-more rounds [] lookups = refl
rounds-more rounds (first ∷ all) lookups = rounds-more (with_round rounds (new_files first)) all lookups

-- how many files there are
pub length-contents : {A : Type 0} (files : List (InputFile A)) → length (contents files) ≡ length files
length-contents [] = refl
length-contents (file ∷ files) = ap suc (length-contents files)

pub some-length : (n : ℕ) (b : Bool) → b ≡ (n == 0) → b ≡ false → 0 < n
some-length zero b e t = absurd (true≢false (sym e ∙ t))
some-length (suc n) b e t = omega arith

-- a round that has a file
pub with-some : (rounds : List (List (List ℕ))) (files : List (List ℕ)) → 0 < length files
    → with_round rounds files ≡ rounds ++ files ∷ []
with-some rounds [] h = absurd (omega (arith, h))
with-some rounds (bytes ∷ files) h = refl

-- one that has none
pub with-none : (rounds : List (List (List ℕ))) (files : List (List ℕ)) → length files ≡ 0 → with_round rounds files
    ≡ rounds
with-none rounds [] h = refl
with-none rounds (bytes ∷ files) h = absurd (omega (arith, h))

pub absent-more : (all : List (List Lookup)) (lookups : List Lookup) (start old new : List Library)
    → old ≡ start ++ all_absent all → new ≡ old ++ absent_libraries lookups
    → new ≡ start ++ all_absent (all ++ lookups ∷ [])
absent-more all lookups start old new before more =
    more ∙ ap (λ l. l ++ absent_libraries lookups) before
    ∙ append_assoc start (all_absent all) (absent_libraries lookups)
    ∙ ap (λ l. start ++ l) (sym (more-made absent_libraries all lookups))

-- ---- a job

-- none is warned of
none-warned : (quiet verbose : Bool) (lines : List ℕ)
    → lines ++ (if quiet && not false then [] else told_lines absent_warning [] verbose) ≡ lines
none-warned true verbose lines = append-nil lines
none-warned false true lines = append-nil lines
none-warned false false lines = append-nil lines

none-told : (job : Job) (lines : List ℕ) → lines ++ absent_warnings job false [] ≡ lines
none-told job lines = none-warned job.quiet job.verbose lines

-- no default libraries are looked up for one that asks for none
pub absent-unasked : {A : Type 0} (told : Text → Option (List ℕ)) (folders : List Text) (job : Job)
    (gathered : Gathered A) (given : List (List ℕ)) (lines : List ℕ)
    → Holds (names_of job.ignore_case) (given ∷ []) gathered
    → AreGiven told folders job given
    → AreAbsentTold told folders job gathered lines lines
absent-unasked told folders job gathered given lines holds sought = record {
  given = given;
  lookups = [];
  are_given = sought;
  are_lookups = tt;
  none = λ off. refl;
  searched = holds.0;
  warned = sym (none-told job lines);
}

-- some are for one that does
pub absent-asked : {A : Type 0} (told : Text → Option (List ℕ)) (folders all : List Text) (job : Job)
    (gathered : Gathered A) (given : List (List ℕ)) (absent : List Library) (old new : List ℕ)
    → all ≡ library_folders folders job → (job.default_libraries ≡ false → ⊥)
    → AreGiven told folders job given
    → AreAbsentBehind told all (texts job.left_out.items) (names_of job.ignore_case) (given ∷ []) gathered [] absent
    → new ≡ old ++ absent_warnings job false absent → AreAbsentTold told folders job gathered old new
absent-asked told folders all job gathered given absent old new folded on sought behind warned = record {
  given = given;
  lookups = behind.lookups;
  are_given = sought;
  are_lookups = subst (λ fs. AreAllLookups told fs (texts job.left_out.items) (names_of job.ignore_case) (given ∷ [])
      behind.lookups) folded behind.are_lookups;
  none = λ off. absurd (on off);
  searched = behind.holds.0;
  warned = warned ∙ ap (λ l. old ++ absent_warnings job false l) behind.absent_are;
}

-- where it goes on
pub absent-done : {A X E : Type 0} (told : Text → Option (List ℕ)) (folders all : List Text) (job : Job)
    (gathered : Gathered A) (given : List (List ℕ)) (absent : List Library) (r : Result X E) (failed : Bool)
    (old mid new rest : List ℕ) → all ≡ library_folders folders job → (job.default_libraries ≡ false → ⊥)
    → AreGiven told folders job given → failed ≡ is_err r
    → OnOk r (AreAbsentBehind told all (texts job.left_out.items) (names_of job.ignore_case) (given ∷ []) gathered []
    absent) → OnOk r (rest ≡ []) → mid ≡ old ++ absent_warnings job failed absent → new ≡ mid ++ rest
    → OnOk r (AreAbsentTold told folders job gathered old new)
absent-done told folders all job gathered given absent (Ok v) failed old mid new rest folded on sought is behind none
    warned more =
    absent-asked told folders all job gathered given absent old new folded on sought behind
    (more ∙ ap (λ l. mid ++ l) none ∙ append-nil mid ∙ warned ∙ ap (λ b. old ++ absent_warnings job b absent) is)
absent-done told folders all job gathered given absent (Err e) failed old mid new rest folded on sought is behind none
    warned more = tt
