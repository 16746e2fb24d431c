-- What was done, step by step.
use Rattle.std.proofs.Common.{◌≡◌, ℕ, List, [], ◌∷◌, length, arith, map, Result, Ok, Err}
use Rattle.std.proofs.Common.{◌==◌, ◌≢◌, true≢false, false, MatchResult, Bool, refl, sym, subst, ap, ◌∙◌}
use Rattle.std.proofs.Common.{Any, MatchOption, None, Some, inl, inr}
use Rattle.std.specs.declared.option.Option.{Option}
use Rattle.omf_communal.specs.Deciding.{Variable}
use Rattle.omf_module.specs.Module as omf
use Rattle.omf_place.specs.declared.names.Names.{Names}
use Rattle.clap.specs.Words.{Text}
use Rattle.doslink_words.specs.declared.job.Job.{Job}
use Rattle.doslink_jobs.specs.declared.stop.Halt.{Halt}
use Rattle.doslink_jobs.specs.declared.stop.Halt.TheVariants as halt
use Rattle.doslink_passes.specs.declared.stop.Stop.TheVariants.{Input, Device, Memory}
use Rattle.doslink_stock.specs.Files.{Held, needs}
use Rattle.doslink_passes.specs.Communals.{AreVariablesOf}
use Rattle.doslink_passes.specs.Chain.{AreModulesOf}
use Rattle.doslink_passes.specs.Plain.{AreFaulty}
use Rattle.doslink_passes.specs.Request.{bytes_in, names_of}
use Rattle.doslink_jobs.specs.Jobs.{EndsWith, IsDone, IsLinkOf}
use Rattle.doslink_jobs.specs.Places.{map_path, out_path}
use Rattle.doslink_jobs.specs.Refusals.{AreMissingOf, IsRefusedJob, IsRefusedOf}
use Rattle.doslink_jobs.specs.Runs.{EndsBy}
use Rattle.doslink_jobs.specs.Wrong.{AreApart, EndsJob, IsNamedWell, IsWrongJob}
use Rattle.omf_files.specs.declared.world.Looked.{Looked}
use Rattle.doslink_jobs.specs.inside.Links.{IsLinkedWith, IsRefusedWith}
use Rattle.doslink_jobs.specs.inside.Stops.{OnHalt, halt_status, status_of}
use Rattle.omf_search.specs.Said.{Module, Wanted}
use Rattle.doslink_telling.specs.Missing.{unmet, wants_marks}

-- a link of modules is one of what takes them
pub link-of : (A : Type 0) (job : Job) (Written Other : List (List ℕ) → List omf.Module → Type 0)
    (modules : List Held) (takes : List Held → Type 0) → takes modules
    → ((sources : List (List ℕ)) (linked : List omf.Module) → Written sources linked → Other sources linked)
    → IsLinkOf A job Written (λ ms. ms ≡ modules) → IsLinkOf A job Other takes
link-of A job Written Other modules takes taken written l = record {
  modules = l.modules;
  variables = l.variables;
  widths = l.widths;
  sources = l.sources;
  linked = l.linked;
  taken = subst takes (sym l.taken) taken;
  are_variables = l.are_variables;
  met = l.met;
  are_linked = l.are_linked;
  faultless = l.faultless;
  written = written l.sources l.linked l.written;
}

-- modules that can't be linked are such of what takes them
pub link-refused : (A : Type 0) (job : Job) (modules : List Held) (takes : List Held → Type 0) → takes modules
    → IsRefusedOf A job (λ ms. ms ≡ modules) → IsRefusedOf A job takes
link-refused A job modules takes taken (ms, same, refused) = (ms, subst takes (sym same) taken, refused)

-- modules that say so of names are linked with their communal variables
pub linked-with : (A : Type 0) (job : Job) (Written : List (List ℕ) → List omf.Module → Type 0)
    (marks : Bool) (modules : List Held) (vs : List Variable) (says : List Module)
    → says ≡ map needs modules → AreVariablesOf (names_of job.ignore_case) modules vs
    → (unmet (names_of job.ignore_case) says ≡ []) × (marks ≡ wants_marks (names_of job.ignore_case) says)
    → IsLinkedWith A job Written says marks modules vs → IsLinkOf A job Written (λ ms. ms ≡ modules)
linked-with A job Written marks modules vs says all are (met, wants)
    (widths, sources, linked, are_linked, faultless, written) =
    let those = names_of job.ignore_case in
    let mine = map needs modules in
    record {
      modules = modules;
      variables = vs;
      widths = widths;
      sources = sources;
      linked = linked;
      taken = refl;
      are_variables = are;
      met = ap (unmet those) (sym all) ∙ met;
      are_linked = subst (λ m. AreModulesOf job mine m modules vs widths sources linked)
          (wants ∙ ap (wants_marks those) all)
          (subst (λ s. AreModulesOf job s marks modules vs widths sources linked) all are_linked);
      faultless = faultless;
      written = written;
    }

-- nothing is linked where a name is missing
pub missing-with : (A : Type 0) (job : Job) (modules : List Held) (vs : List Variable)
    (says : List Module) (own : List (List ℕ)) → says ≡ map needs modules
    → own ≡ bytes_in modules → AreVariablesOf (names_of job.ignore_case) modules vs → AreMissingOf job says own
    → IsRefusedOf A job (λ ms. ms ≡ modules)
missing-with A job modules vs says own all mine are missing = (
  modules,
  refl,
  inr (inr (
    vs,
    are,
    inl (subst (λ o. AreMissingOf job (map needs modules) o) mine (subst (λ s. AreMissingOf job s own) all missing)),
  )),
)

-- nor where they can't be read together
pub faulty-with : (A : Type 0) (job : Job) (modules : List Held) (says : List Module) (own : List (List ℕ))
    → says ≡ map needs modules → own ≡ bytes_in modules → AreFaulty job says own own
    → IsRefusedOf A job (λ ms. ms ≡ modules)
faulty-with A job modules says own all mine faulty = (
  modules,
  refl,
  inl (subst (λ o. AreFaulty job (map needs modules) o o) mine (subst (λ s. AreFaulty job s own own) all faulty)),
)

-- nor where they can't be linked with these variables
pub refused-with : (A : Type 0) (job : Job) (marks : Bool) (modules : List Held) (vs : List Variable)
    (says : List Module) → says ≡ map needs modules
    → AreVariablesOf (names_of job.ignore_case) modules vs → marks ≡ wants_marks (names_of job.ignore_case) says
    → IsRefusedWith A job says marks modules vs → IsRefusedOf A job (λ ms. ms ≡ modules)
refused-with A job marks modules vs says all are wants refused = (
  modules,
  refl,
  inr (inr (
    vs,
    are,
    inr (subst (λ m. IsRefusedWith A job (map needs modules) m modules vs)
        (wants ∙ ap (wants_marks (names_of job.ignore_case)) all)
        (subst (λ s. IsRefusedWith A job s marks modules vs) all refused)),
  )),
)

-- a run ends well only where what it does holds, refuses only where that holds by which it does, and says that words
-- are wrong only where they are
pub EndsWith-weaker : (P Q R S V W : Type 0) (tells : List ℕ → Type 0) (status : ℕ) → (P → Q) → (R → S) → (V → W)
    → EndsWith P R V tells status → EndsWith Q S W tells status
EndsWith-weaker P Q R S V W tells status does refuses wrongs (told, inl (well, done)) = (told, inl (well, does done))
EndsWith-weaker P Q R S V W tells status does refuses wrongs (told, inr (inl (one, refused))) =
    (told, inr (inl (one, refuses refused)))
EndsWith-weaker P Q R S V W tells status does refuses wrongs (told, inr (inr (inl (two, wrong)))) =
    (told, inr (inr (inl (two, wrongs wrong))))
EndsWith-weaker P Q R S V W tells status does refuses wrongs (told, inr (inr (inr three))) =
    (told, inr (inr (inr three)))

-- a run that does the job that is asked for
pub EndsBy-done : (A : Type 0) (told : Text → Option (List ℕ)) (looks : Option (Text → Option Looked))
    (Writes : (path bytes : List ℕ) → Type 0) (folders : List Text) (Asks : Option Job → Type 0) (job : Job)
    (tells : List ℕ → Type 0) (status : ℕ) → Asks (Some job) → EndsJob A told looks Writes folders job tells status
    → EndsBy A told Writes folders Asks tells status
EndsBy-done A told looks Writes folders Asks job tells status asks =
    let done = IsDone A told Writes folders in
    let refused = IsRefusedJob A told folders in
    EndsWith-weaker (IsNamedWell folders job × AreApart looks job.verbose (out_path job) (map_path job) × done job)
    ((j : Option Job) × Asks j × MatchOption j (Unit {0}) done) (IsNamedWell folders job × refused job)
    ((j : Job) × Asks (Some j) × refused j) (IsWrongJob told looks folders job) (Unit {0}) tells status
    (λ ends. (Some job, asks, ends.2)) (λ ends. (job, asks, ends.1)) (λ wrong. tt)

-- a run that prints a text that is asked for
pub EndsBy-none : (A : Type 0) (told : Text → Option (List ℕ)) (Writes : (path bytes : List ℕ) → Type 0)
    (folders : List Text) (Asks : Option Job → Type 0) (tells : List ℕ → Type 0) (status : ℕ) → Asks None
    → EndsWith (Unit {0}) ⊥ ⊥ tells status → EndsBy A told Writes folders Asks tells status
EndsBy-none A told Writes folders Asks tells status asks =
    let done = IsDone A told Writes folders in
    let refused = IsRefusedJob A told folders in
    EndsWith-weaker (Unit {0}) ((j : Option Job) × Asks j × MatchOption j (Unit {0}) done) ⊥
    ((j : Job) × Asks (Some j) × refused j) ⊥ (Unit {0}) tells status
    (λ done. (None, asks, tt)) (λ none. absurd none) (λ none. absurd none)

-- a run ends by why it stopped
pub ends : (Done Refused Wrong : Type 0) (tells : List ℕ → Type 0) (done : Result (Unit {0}) Halt) (status : ℕ)
    (text : List ℕ) → status ≡ status_of done
    → MatchResult done (λ well. Done) (λ why. OnHalt why Refused Wrong) → tells text
    → EndsWith Done Refused Wrong tells status
ends Done Refused Wrong tells (Ok well) status text is did told = ((text, told), inl (is, did))
ends Done Refused Wrong tells (Err halt.Words) status text is did told = ((text, told), inr (inr (inl (is, did))))
ends Done Refused Wrong tells (Err (halt.Stop Input)) status text is did told = ((text, told), inr (inl (is, did)))
ends Done Refused Wrong tells (Err (halt.Stop Device)) status text is did told = ((text, told), inr (inr (inr is)))
ends Done Refused Wrong tells (Err (halt.Stop Memory)) status text is did told = ((text, told), inr (inr (inr is)))

-- a run that stops before it does a job, for no input
pub EndsBy-stopped : (A : Type 0) (told : Text → Option (List ℕ)) (Writes : (path bytes : List ℕ) → Type 0)
    (folders : List Text) (Asks : Option Job → Type 0) (tells : List ℕ → Type 0) (why : Halt) (status : ℕ)
    (text : List ℕ) → status ≡ halt_status why → OnHalt why ⊥ (Unit {0}) → tells text
    → EndsBy A told Writes folders Asks tells status
EndsBy-stopped A told Writes folders Asks tells halt.Words status text is none tell =
    ((text, tell), inr (inr (inl (is, tt))))
EndsBy-stopped A told Writes folders Asks tells (halt.Stop Input) status text is none tell = absurd none
EndsBy-stopped A told Writes folders Asks tells (halt.Stop Device) status text is none tell =
    ((text, tell), inr (inr (inr is)))
EndsBy-stopped A told Writes folders Asks tells (halt.Stop Memory) status text is none tell =
    ((text, tell), inr (inr (inr is)))

-- nothing is missing where no name is told
pub none-unmet : {X : Type 0} (names : Names) (said : X → Wanted) (items slice : List X) (says : List Module)
    → map said items ≡ unmet names says → slice ≡ items → length slice ≡ 0 → unmet names says ≡ []
none-unmet names said items [] says are is none = sym are ∙ ap (map said) (sym is)
none-unmet names said items (x ∷ xs) says are is none = absurd (omega (arith, none))

-- some name is missing where one is told
pub some-unmet : {X : Type 0} (names : Names) (said : X → Wanted) (items slice : List X) (says : List Module)
    → map said items ≡ unmet names says → slice ≡ items → (length slice == 0) ≡ false → unmet names says ≢ []
some-unmet names said items [] says are is some none = absurd (true≢false some)
some-unmet names said [] (x ∷ xs) says are is some none = absurd (omega (arith, ap length is))
some-unmet names said (y ∷ ys) (x ∷ xs) says are is some none =
    let long : length (map said (y ∷ ys)) ≡ 0 = ap length (are ∙ none) in absurd (omega (arith, long))

-- a name is missing by what names agree by
pub missing-of : (names other : Names) (says : List Module) → names ≡ other → unmet names says ≢ [] → unmet other
    says ≢ []
missing-of names other says same missing none = missing (ap (λ n. unmet n says) same ∙ none)
