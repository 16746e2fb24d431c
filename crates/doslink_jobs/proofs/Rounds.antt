-- Rounds of default libraries that are searched behind others.
use Rattle.std.proofs.Common.{◌≡◌, ◌≢◌, ℕ, List, [], ◌∷◌, ◌++◌, map, append_assoc, append-nil, refl, sym, subst}
use Rattle.std.proofs.Common.{ap, ◌∙◌, IsErr, zero, suc, ◌<◌, length, get_or, drop, Bool, true, false, cond, filter}
use Rattle.std.proofs.Common.{not}
use Rattle.std.proofs.lemmas.List.{get_or-map, length-map}
use Rattle.std.proofs.lemmas.List.Elements.{All-cons, All-head, All-nil, All-tail, All-weaker, Contains-append_right}
use Rattle.std.specs.Borrow.{Bor}
use Rattle.std.specs.List.{Contains}
use Rattle.std.specs.declared.option.Option.{Option}
use Rattle.clap.specs.Words.{Text}
use Rattle.omf_place.specs.declared.names.Names.{Names}
use Rattle.doslink_stock.specs.declared.fault.StockFault.{StockFault}
use Rattle.doslink_stock.specs.declared.fault.StockFault.TheVariants as stock
use Rattle.doslink_stock.specs.Files.{Held, IsFault, members}
use Rattle.doslink_stock.specs.declared.searching.Handed.{Handed}
use Rattle.doslink_stock.specs.Search.{TakenFor, all_files}
use Rattle.doslink_stock.specs.Seen.{handed_held, handed_taken}
use Rattle.doslink_jobs.specs.declared.gathering.DefaultLibrary.{DefaultLibrary}
use Rattle.doslink_words.specs.declared.job.Job.{Job}
use Rattle.doslink_words.specs.Tokens.{texts}
use Rattle.doslink_passes.specs.Request.{names_of}
use Rattle.doslink_jobs.specs.Jobs.{AreDefaults, AreFilesOf, AreRounds, IsAskedBy, IsNamedBy, is_left_out}
use Rattle.doslink_jobs.specs.Jobs.{AreGiven, library_folders}
use Rattle.doslink_jobs.specs.Refusals.{HasFaultyLibrary}
use Rattle.doslink_jobs.specs.inside.Gathering.{AreAsked, AreNamed}
use Rattle.doslink_passes.proofs.Lists.{map-map}

module _ (told : Text → Option (List ℕ)) (folders left_out : List Text) (names : Names) where
  -- a round more
  pub AreRounds-more : (before rounds : List (List (List ℕ))) (files : List (List ℕ))
      → AreRounds told folders left_out names before rounds → AreDefaults told folders left_out names
      (before ++ rounds) files
      → AreRounds told folders left_out names before (rounds ++ files ∷ [])
  AreRounds-more before [] files are more =
      (subst (λ b. AreDefaults told folders left_out names b files) (append-nil before) more, tt)
  AreRounds-more before (r ∷ rounds) files (first, rest) more = (
    first,
    AreRounds-more (before ++ r ∷ []) rounds files rest
        (subst (λ b. AreDefaults told folders left_out names b files) (sym (append_assoc before (r ∷ []) rounds)) more),
  )

-- the files of one round more
pub files-with : (rounds : List (List (List ℕ))) (files : List (List ℕ))
    → all_files (rounds ++ files ∷ []) ≡ all_files rounds ++ files
files-with [] files = append-nil files
files-with (r ∷ rounds) files =
    ap (λ l. r ++ l) (files-with rounds files) ∙ sym (append_assoc r (all_files rounds) files)

-- a library of them is at fault
pub faulty-with : (rounds : List (List (List ℕ))) (files all : List (List ℕ)) (fault : StockFault)
    → all ≡ all_files rounds ++ files → IsFault fault (members all) → fault ≢ stock.Memory
    → HasFaultyLibrary (rounds ++ files ∷ [])
faulty-with rounds files all stock.Memory are is other = absurd (other refl)
faulty-with rounds files all (stock.Library file place why) are is other =
    subst (λ l. IsErr (members l)) (are ∙ sym (files-with rounds files)) (subst IsErr (sym is) refl)

-- an element that is seen of a list
pub Contains-seen : {X Y : Type 0} (f : X → Y) (xs : List X) (i : ℕ) (d : X) (y : Y) → i < length xs
    → y ≡ f (get_or xs i d) → Contains (map f xs) y
Contains-seen f xs i d y h is =
    let there : i < length (map f xs) = subst (λ n. i < n) (sym (length-map xs f)) h in
    (i, there, get_or-map f xs i d y h ∙ sym is)

-- one of the last is one of all
pub Contains-drop : {X : Type 0} (n : ℕ) (xs : List X) (x : X) → Contains (drop n xs) x → Contains xs x
Contains-drop zero xs x is = is
Contains-drop (suc n) [] x is = is
Contains-drop (suc n) (y ∷ ys) x is = Contains-append_right (y ∷ []) ys x (Contains-drop n ys x is)

-- what modules name others among which they are name too
pub named-drop : {A : Type 0} (n : ℕ) (some all : List Held) (libraries : List (DefaultLibrary A)) → some ≡ drop n all
    → AreNamed some libraries → AreNamed all libraries
named-drop n some all libraries is named =
    All-weaker (λ l. IsNamedBy some l.name.now) (λ l. IsNamedBy all l.name.now)
    (λ l by. (by.0, Contains-drop n all by.0 (subst (λ ms. Contains ms by.0) is by.1), by.2)) libraries named

-- those of what modules name that aren't left out
pub asked-kept : {A : Type 0} (left_out : List Text) (modules : List Held) (libraries : List (DefaultLibrary A))
    → AreNamed modules libraries
    → AreAsked left_out modules (filter (λ l. not (is_left_out left_out l.name.now)) libraries)
asked-kept left_out modules [] named = All-nil (λ l. IsAskedBy left_out modules l.name.now)
asked-kept left_out modules (l ∷ libraries) named =
    let more = asked-kept left_out modules libraries (All-tail (λ l. IsNamedBy modules l.name.now) l libraries named) in
    go (is_left_out left_out l.name.now) refl more
  where
    go : (out : Bool) → is_left_out left_out l.name.now ≡ out
        → AreAsked left_out modules (filter (λ l. not (is_left_out left_out l.name.now)) libraries)
        → AreAsked left_out modules (cond (not out) (l ∷ filter (λ l. not (is_left_out left_out l.name.now)) libraries)
        (filter (λ l. not (is_left_out left_out l.name.now)) libraries))
    go true is more = more
    go false is more = All-cons (λ l. IsAskedBy left_out modules l.name.now) l _
        (All-head (λ l. IsNamedBy modules l.name.now) l libraries named, is) more

-- the modules of what was taken
drop-map : {X Y : Type 0} (f : X → Y) (n : ℕ) (xs : List X) → map f (drop n xs) ≡ drop n (map f xs)
drop-map f zero xs = refl
drop-map f (suc n) [] = refl
drop-map f (suc n) (x ∷ xs) = drop-map f n xs

pub handed-drop : {A : Type 0} (n : ℕ) (handed : List (Handed A)) (taken : List TakenFor)
    → map handed_taken handed ≡ drop n taken → map handed_held handed ≡ drop n (map (λ t. t.held) taken)
handed-drop n handed taken is =
    map-map handed_taken (λ t. t.held) handed ∙ ap (map (λ t. t.held)) is ∙ drop-map (λ t. t.held) n taken

-- the same of all
pub handed-all : {A : Type 0} (handed : List (Handed A)) → map handed_held handed ≡ map (λ t. t.held)
    (map handed_taken handed)
handed-all handed = map-map handed_taken (λ t. t.held) handed

-- the files of a job that asks for no default libraries
pub files-none : (told : Text → Option (List ℕ)) (folders : List Text) (job : Job) (given : List (List ℕ))
    → AreGiven told folders job given
    → AreFilesOf told folders job (given ∷ [])
files-none told folders job given sought = record {
  given = given;
  defaults = [];
  are_given = sought;
  are_defaults = tt;
  none = λ off. refl;
  together = refl;
}

-- those of one that does
pub files-found : (told : Text → Option (List ℕ)) (folders all : List Text) (job : Job) (names : Names)
    (given : List (List ℕ)) (more : List (List (List ℕ))) → all ≡ library_folders folders job
    → names ≡ names_of job.ignore_case → (job.default_libraries ≡ false → ⊥)
    → AreGiven told folders job given
    → AreRounds told all (texts job.left_out.items) names (given ∷ []) more → AreFilesOf told folders job (given ∷ more)
files-found told folders all job names given more folded same on sought are = record {
  given = given;
  defaults = more;
  are_given = sought;
  are_defaults = subst (λ n. AreRounds told (library_folders folders job) (texts job.left_out.items) n
      (given ∷ []) more) same
      (subst (λ fs. AreRounds told fs (texts job.left_out.items) names (given ∷ []) more) folded are);
  none = λ off. absurd (on off);
  together = refl;
}

-- what is named by one of some names
pub named-seen : {A : Type 0} (names : List (Bor (List ℕ))) (i : ℕ) (d : Bor (List ℕ)) (modules : List Held) (m : Held)
    (old new : List (DefaultLibrary A)) → i < length names
    → (IsNamedBy modules (get_or names i d).now → AreNamed modules old → AreNamed modules new) → Contains modules m
    → map (λ n. n.now) names ≡ m.libraries → AreNamed modules old → AreNamed modules new
named-seen names i d modules m old new h step there are before =
    step (
      m,
      there,
      subst (λ ls. Contains ls (get_or names i d).now) are
          (Contains-seen (λ (n : Bor (List ℕ)). n.now) names i d (get_or names i d).now h refl),
    ) before
