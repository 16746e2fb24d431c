-- Modules as they are taken, one behind the other.
use Rattle.std.proofs.Common.{◌≡◌, ℕ, ◌+◌, ◌<◌, ◌≤◌, Bool, List, [], ◌∷◌, ◌++◌, length, map, take, get_or, All, Any, inl, inr, arith}
use Rattle.std.proofs.Common.{Err, None, Some, refl, suc, zero, sym, subst, ap, ◌∙◌}
use Rattle.std.proofs.lemmas.List.{get_or-map, length-map, take_all, take_more}
use Rattle.std.specs.Prelude.{slice_get, unwrap_or}
use Rattle.std.specs.Borrow.{Bor}
use Rattle.std.specs.declared.option.Option.{Option}
use Rattle.std.specs.Option.{option_map}
use Rattle.omf_alias.specs.Reading.{Alias}
use Rattle.omf_alias.specs.Said.{aliases_said}
use Rattle.omf_comdat.specs.declared.fate.ComdatFate.{ComdatFate}
use Rattle.omf_library.proofs.Gathering.{map-turn}
use Rattle.omf_search.specs.Results.{module_said}
use Rattle.omf_module.specs.Module.{Module}
use Rattle.omf_plain.specs.ModuleAnswer.{ModuleAnswers}
use Rattle.omf_plain.specs.Modules.{IsPlainFault, IsPlainModule}
use Rattle.omf_plain.specs.Plain.{Taking}
use Rattle.omf_plain.specs.declared.fault.PlainModuleFault.{PlainModuleFault}
use Rattle.omf_plain.specs.declared.fault.PlainModuleFault.TheVariants as found
use Rattle.omf_plain.specs.declared.fault.RecordObstacle.{RecordObstacle}
use Rattle.omf_plain.specs.declared.widths.Widths.{Widths}
use Rattle.omf_place.specs.declared.names.Names.{Names}
use Rattle.omf_search.specs.Said as search
use Rattle.doslink_words.specs.declared.job.Job.{Job}
use Rattle.doslink_passes.specs.Aliases.{EndsIn, link_aliases, module_renaming}
use Rattle.doslink_passes.specs.Comdats.{AreFatesFor}
use Rattle.doslink_passes.specs.declared.meanings.Meanings.{Meanings}
use Rattle.doslink_passes.specs.Meanings.{AreMeaningsFor, taking_by}
use Rattle.doslink_passes.specs.Names.{start_module, started_by}
use Rattle.doslink_passes.specs.Plain.{AllArePlain, AreNotTaken, AreTaken, AreTakenFor, IsNoPlain, IsPlain, IsTaken, SomeIsNoPlain}
use Rattle.doslink_passes.specs.Plain.{Takes, taking_of}
use Rattle.doslink_passes.specs.Request.{names_of}

-- one module more
taken-more : (take_as : Takes) (made : Option (List ℕ)) (given : List (List ℕ)) (fates : List (List ComdatFate))
    (ms : List Module) (ws : List Widths) (bytes : List ℕ) (comdats : List ComdatFate) (m : Module) (w : Widths)
    → AreTaken take_as made given fates ms ws → IsTaken take_as made bytes comdats m w
    → AreTaken take_as made (given ++ bytes ∷ []) (fates ++ comdats ∷ []) (ms ++ m ∷ []) (ws ++ w ∷ [])
taken-more take_as made [] [] [] [] bytes comdats m w are is = (is, tt)
taken-more take_as made [] [] [] (y ∷ ws) bytes comdats m w are is = absurd are
taken-more take_as made [] [] (x ∷ ms) ws bytes comdats m w are is = absurd are
taken-more take_as made [] (f ∷ fates) ms ws bytes comdats m w are is = absurd are
taken-more take_as made (g ∷ given) [] ms ws bytes comdats m w are is = absurd are
taken-more take_as made (g ∷ given) (f ∷ fates) [] ws bytes comdats m w are is = absurd are
taken-more take_as made (g ∷ given) (f ∷ fates) (x ∷ ms) [] bytes comdats m w are is = absurd are
taken-more take_as made (g ∷ given) (f ∷ fates) (x ∷ ms) (y ∷ ws) bytes comdats m w are is =
    (are.0, taken-more take_as made given fates ms ws bytes comdats m w are.1 is)

-- there are as many
pub as-many : (take_as : Takes) (made : Option (List ℕ)) (given : List (List ℕ)) (fates : List (List ComdatFate))
    (ms : List Module) (ws : List Widths) → AreTaken take_as made given fates ms ws → length ms ≡ length given
as-many take_as made [] [] [] [] are = refl
as-many take_as made [] [] [] (y ∷ ws) are = absurd are
as-many take_as made [] [] (x ∷ ms) ws are = absurd are
as-many take_as made [] (f ∷ fates) ms ws are = absurd are
as-many take_as made (g ∷ given) [] ms ws are = absurd are
as-many take_as made (g ∷ given) (f ∷ fates) [] ws are = absurd are
as-many take_as made (g ∷ given) (f ∷ fates) (x ∷ ms) [] are = absurd are
as-many take_as made (g ∷ given) (f ∷ fates) (x ∷ ms) (y ∷ ws) are =
    ap suc (as-many take_as made given fates ms ws are.1)

-- what stands at an index
pub got : {X : Type 0} (xs : List (List X)) (n : ℕ) (d : List X) → n < length xs
    → unwrap_or (slice_get xs n) [] ≡ get_or xs n d
got [] n d h = absurd (omega (arith, h))
got (x ∷ xs) zero d h = refl
got (x ∷ xs) (suc n) d h = got xs n d (omega (arith, h))

-- the next of those that are given
pub taken-next : {X : Type 0} (take_as : Takes) (made : Option (List ℕ)) (bytes : X → List ℕ) (handed : List X)
    (fates : List (List ComdatFate)) (i : ℕ) (h : X) (comdats : List ComdatFate) (ms more : List Module)
    (ws wider : List Widths) (m : Module) (w : Widths) → i < length handed → length fates ≡ length handed
    → h ≡ get_or handed i h → comdats ≡ unwrap_or (slice_get fates i) []
    → AreTaken take_as made (map bytes (take i handed)) (take i fates) ms ws
    → IsTaken take_as made (bytes h) comdats m w → more ≡ ms ++ m ∷ [] → wider ≡ ws ++ w ∷ []
    → AreTaken take_as made (map bytes (take (i + 1) handed)) (take (i + 1) fates) more wider
taken-next take_as made bytes handed fates i h comdats ms more ws wider m w lt even is own are one pushed widened =
    let within : i < length fates = omega (arith, lt, even) in
    let fate : comdats ≡ get_or fates i [] = own ∙ got fates i [] within in
    let front : take (i + 1) fates ≡ take i fates ++ comdats ∷ [] =
    take_more fates i [] within ∙ ap (λ f. take i fates ++ f ∷ []) (sym fate) in
    let known = map bytes (take i handed) ++ bytes h ∷ [] in
    subst (λ l. AreTaken take_as made l (take (i + 1) fates) more wider) (sym (map-turn bytes handed i h lt is))
    (subst (λ l. AreTaken take_as made known l more wider) (sym front)
    (subst (λ l. AreTaken take_as made known (take i fates ++ comdats ∷ []) l wider) (sym pushed)
    (subst (λ l. AreTaken take_as made known (take i fates ++ comdats ∷ []) (ms ++ m ∷ []) l) (sym widened)
    (taken-more take_as made (map bytes (take i handed)) (take i fates) ms ws (bytes h) comdats m w are one))))

-- one that isn't plain
some-at : (take_as : Takes) (given : List (List ℕ)) (fates : List (List ComdatFate)) (i : ℕ) (bytes : List ℕ)
    (comdats : List ComdatFate) → i < length given → i < length fates → bytes ≡ get_or given i bytes
    → comdats ≡ get_or fates i comdats → IsNoPlain (take_as bytes comdats) bytes → SomeIsNoPlain take_as given fates
some-at take_as [] fates i bytes comdats h k is own none = absurd (omega (arith, h))
some-at take_as (g ∷ given) [] i bytes comdats h k is own none = absurd (omega (arith, k))
some-at take_as (g ∷ given) (f ∷ fates) zero bytes comdats h k is own none =
    inl (subst (λ c. IsNoPlain (take_as g c) g) own (subst (λ b. IsNoPlain (take_as b comdats) b) is none))
some-at take_as (g ∷ given) (f ∷ fates) (suc i) bytes comdats h k is own none =
    inr (some-at take_as given fates i bytes comdats (omega (arith, h)) (omega (arith, k)) is own none)

pub none-next : {X : Type 0} (take_as : Takes) (bytes : X → List ℕ) (handed : List X)
    (fates : List (List ComdatFate)) (i : ℕ) (h : X) (comdats : List ComdatFate) → i < length handed
    → length fates ≡ length handed → h ≡ get_or handed i h → comdats ≡ unwrap_or (slice_get fates i) []
    → IsNoPlain (take_as (bytes h) comdats) (bytes h) → SomeIsNoPlain take_as (map bytes handed) fates
none-next take_as bytes handed fates i h comdats lt even is own none =
    let within : i < length fates = omega (arith, lt, even) in
    some-at take_as (map bytes handed) fates i (bytes h) comdats (omega (arith, lt, length-map handed bytes)) within
    (sym (get_or-map bytes handed i h (bytes h) lt ∙ ap bytes (sym is))) (own ∙ got fates i comdats within) none

-- one more that can be read
plain-more : (take_as : Takes) (given : List (List ℕ)) (fates : List (List ComdatFate)) (bytes : List ℕ)
    (comdats : List ComdatFate) → AllArePlain take_as given fates → IsPlain (take_as bytes comdats) bytes
    → AllArePlain take_as (given ++ bytes ∷ []) (fates ++ comdats ∷ [])
plain-more take_as [] [] bytes comdats are is = (is, tt)
plain-more take_as [] (f ∷ fates) bytes comdats are is = absurd are
plain-more take_as (g ∷ given) [] bytes comdats are is = absurd are
plain-more take_as (g ∷ given) (f ∷ fates) bytes comdats are is =
    (are.0, plain-more take_as given fates bytes comdats are.1 is)

pub plain-next : {X : Type 0} (take_as : Takes) (bytes : X → List ℕ) (handed : List X)
    (fates : List (List ComdatFate)) (i : ℕ) (h : X) (comdats : List ComdatFate) → i < length handed
    → length fates ≡ length handed → h ≡ get_or handed i h → comdats ≡ unwrap_or (slice_get fates i) []
    → AllArePlain take_as (map bytes (take i handed)) (take i fates) → IsPlain (take_as (bytes h) comdats) (bytes h)
    → AllArePlain take_as (map bytes (take (i + 1) handed)) (take (i + 1) fates)
plain-next take_as bytes handed fates i h comdats lt even is own are one =
    let within : i < length fates = omega (arith, lt, even) in
    let fate : comdats ≡ get_or fates i [] = own ∙ got fates i [] within in
    let front : take (i + 1) fates ≡ take i fates ++ comdats ∷ [] =
    take_more fates i [] within ∙ ap (λ f. take i fates ++ f ∷ []) (sym fate) in
    subst (λ l. AllArePlain take_as l (take (i + 1) fates)) (sym (map-turn bytes handed i h lt is))
    (subst (AllArePlain take_as (map bytes (take i handed) ++ bytes h ∷ [])) (sym front)
    (plain-more take_as (map bytes (take i handed)) (take i fates) (bytes h) comdats are one))

-- all of them can
pub plain-all : {X : Type 0} (take_as : Takes) (bytes : X → List ℕ) (handed : List X) (fates : List (List ComdatFate))
    (i : ℕ) → length handed ≤ i → length fates ≡ length handed
    → AllArePlain take_as (map bytes (take i handed)) (take i fates) → AllArePlain take_as (map bytes handed) fates
plain-all take_as bytes handed fates i all even are =
    subst (λ hs. AllArePlain take_as (map bytes hs) fates) (take_all i handed all)
    (subst (AllArePlain take_as (map bytes (take i handed))) (take_all i fates (omega (arith, all, even))) are)

-- one that is alone
pub alone-plain : (take_as : Takes) (bytes : List ℕ) (fates : List (List ComdatFate)) (comdats : List ComdatFate)
    → length fates ≡ 1 → comdats ≡ unwrap_or (slice_get fates 0) [] → IsPlain (take_as bytes comdats) bytes
    → AllArePlain take_as (bytes ∷ []) fates
alone-plain take_as bytes [] comdats one own is = absurd (omega (arith, one))
alone-plain take_as bytes (f ∷ []) comdats one own is = (subst (λ c. IsPlain (take_as bytes c) bytes) own is, tt)
alone-plain take_as bytes (f ∷ g ∷ fates) comdats one own is = absurd (omega (arith, one))

pub alone-none : (take_as : Takes) (bytes : List ℕ) (fates : List (List ComdatFate)) (comdats : List ComdatFate)
    → length fates ≡ 1 → comdats ≡ unwrap_or (slice_get fates 0) [] → IsNoPlain (take_as bytes comdats) bytes
    → SomeIsNoPlain take_as (bytes ∷ []) fates
alone-none take_as bytes [] comdats one own is = absurd (omega (arith, one))
alone-none take_as bytes (f ∷ fates) comdats one own is = inl (subst (λ c. IsNoPlain (take_as bytes c) bytes) own is)

-- how modules are taken, by names and aliases
abbrev pub taking_with : (keep_debug : Bool) → Names → List search.Module → List Alias → Takes
taking_with keep_debug names says aliases bytes comdats =
    record { keep_debug = keep_debug; renaming = module_renaming names says aliases bytes; comdats = comdats }

-- the modules of a job
pub taken-for : (job : Job) (says : List search.Module) (given : List (List ℕ)) (names : Names) (aliases : List Alias)
    (made : Option (List ℕ)) (fates : List (List ComdatFate)) (ms : List Module) (ws : List Widths)
    → names ≡ names_of job.ignore_case → aliases ≡ link_aliases given → made ≡ start_module job
    → All (EndsIn names says aliases) given → AreFatesFor (names_of job.ignore_case) given fates
    → AreTaken (taking_with job.keep_debug names says aliases) made given fates ms ws → AreTakenFor job says given ms ws
taken-for job says given names aliases made fates ms ws same gathered starts ends fare are = record {
  end = subst (λ n. All (EndsIn n says (link_aliases given)) given) same
      (subst (λ l. All (EndsIn names says l) given) gathered ends);
  fates = fates;
  are_fates = fare;
  taken = subst (λ m. AreTaken (taking_of job says given) m given fates ms ws) starts
      (subst (λ n. AreTaken (taking_with job.keep_debug n says (link_aliases given)) made given fates ms ws) same
      (subst (λ l. AreTaken (taking_with job.keep_debug names says l) made given fates ms ws) gathered are));
}

any-weaker : {X : Type 0} (P Q : X → Type 0) (xs : List X) → ((x : X) → P x → Q x) → Any P xs → Any Q xs
any-weaker P Q xs weaker (k, x, h, is, p) = (k, x, h, is, weaker x p)

-- why they aren't taken, since a name of one goes round for ever
pub not-ending : (job : Job) (says : List search.Module) (given : List (List ℕ)) (names : Names) (aliases : List Alias)
    → names ≡ names_of job.ignore_case → aliases ≡ link_aliases given
    → Any (λ bytes. EndsIn names says aliases bytes → ⊥) given → AreNotTaken job says given
not-ending job says given names aliases same gathered some =
    inl (any-weaker (λ bytes. EndsIn names says aliases bytes → ⊥)
    (λ bytes. EndsIn (names_of job.ignore_case) says (link_aliases given) bytes → ⊥) given
    (λ bytes none. subst (λ n. EndsIn n says (link_aliases given) bytes → ⊥) same
    (subst (λ l. EndsIn names says l bytes → ⊥) gathered none)) some)

-- or since one isn't plain
pub not-plain : (job : Job) (says : List search.Module) (given : List (List ℕ)) (names : Names) (aliases : List Alias)
    (fates : List (List ComdatFate)) → names ≡ names_of job.ignore_case → aliases ≡ link_aliases given
    → AreFatesFor (names_of job.ignore_case) given fates
    → SomeIsNoPlain (taking_with job.keep_debug names says aliases) given fates → AreNotTaken job says given
not-plain job says given names aliases fates same gathered fare some =
    inr (inr (
      fates,
      fare,
      subst (λ n. SomeIsNoPlain (taking_with job.keep_debug n says (link_aliases given)) given fates) same
          (subst (λ l. SomeIsNoPlain (taking_with job.keep_debug names says l) given fates) gathered some),
    ))

-- how a module is taken, by what names mean in the modules of a job
pub taking-for : {A : Type 0} (job : Job) (says : List search.Module) (given : List (List ℕ)) (m : Meanings A)
    → AreMeaningsFor job says given m → (bytes : List ℕ) (comdats : List ComdatFate)
    → taking_by job.keep_debug m bytes comdats ≡ taking_of job says given bytes comdats
taking-for job says given m are bytes comdats =
    ap (λ n. taking_with job.keep_debug n (map module_said m.says.now) (aliases_said m.aliases.aliases.items) bytes
    comdats) are.names
    ∙ ap (λ s. taking_with job.keep_debug (names_of job.ignore_case) s (aliases_said m.aliases.aliases.items) bytes
    comdats) are.says_so
    ∙ ap (λ l. taking_with job.keep_debug (names_of job.ignore_case) says l bytes comdats) are.aliases

-- what holds of how a module is taken by what names mean, as it is held, holds of how the job takes it
pub by-job : {A : Type 0} (job : Job) (says : List search.Module) (given : List (List ℕ)) (m : Meanings A) (bytes : List ℕ)
    (comdats : List ComdatFate) (P : Taking → Type 0) → AreMeaningsFor job says given m
    → P (taking_by job.keep_debug m bytes comdats) → P (taking_of job says given bytes comdats)
by-job job says given m bytes comdats P are p = subst P (taking-for job says given m are bytes comdats) p

-- a module as it is taken, where another one says where the program starts
pub taken-by : (take_as : Takes) (held : Option (Bor (List ℕ))) (made : Bor (List ℕ)) (bytes : List ℕ)
    (comdats : List ComdatFate) (plain m : Module) (w v : Widths)
    → IsPlainModule (take_as bytes comdats) bytes plain w → held ≡ Some made
    → m ≡ started_by (Some made.now) bytes plain → v ≡ w
    → IsTaken take_as (option_map (λ b. b.now) held) bytes comdats m v
taken-by take_as held made bytes comdats plain m w v is some starts same = (
  plain,
  subst (IsPlainModule (take_as bytes comdats) bytes plain) (sym same) is,
  starts ∙ sym (ap (λ o. started_by (option_map (λ b. b.now) o) bytes plain) some),
)

-- and where none does
pub taken-so : (take_as : Takes) (held : Option (Bor (List ℕ))) (bytes : List ℕ) (comdats : List ComdatFate)
    (plain : Module) (w : Widths) → IsPlainModule (take_as bytes comdats) bytes plain w → held ≡ None
    → IsTaken take_as (option_map (λ b. b.now) held) bytes comdats plain w
taken-so take_as held bytes comdats plain w is none =
    (plain, is, sym (ap (λ o. started_by (option_map (λ b. b.now) o) bytes plain) none))

-- bytes that are at fault are no module as it is taken
pub no-plain : (A : Type 0) (t : Taking) (bytes : List ℕ) (fault : PlainModuleFault) (place : ℕ) (why : RecordObstacle)
    → fault ≡ found.Record place why → ModuleAnswers {A = A} t bytes (Err fault) → IsNoPlain t bytes
no-plain A t bytes fault place why same answers =
    let told : IsPlainFault t bytes place why × IsNoPlain t bytes =
    subst (λ f. ModuleAnswers {A = A} t bytes (Err f)) same answers in
    told.1
