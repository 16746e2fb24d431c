-- Paths that are looked up, and files that were read, one behind the other.
use Rattle.std.proofs.Common.{◌≡◌, ◌≢◌, ℕ, ◌+◌, ◌<◌, List, String, [], ◌∷◌, ◌++◌, length, map, take, get_or}
use Rattle.std.proofs.Common.{append_assoc, arith}
use Rattle.std.proofs.Common.{Result, Ok, Err, Some, None, IfOk, IfSome, IsTrue, ap, sym, subst, ◌∙◌, string_bytes}
use Rattle.std.proofs.lemmas.List.{flat_map_more, get_or-map, length-map, map-append, map_more}
use Rattle.std.proofs.Math.Seq.{take-append_seam}
use Rattle.std.specs.declared.option.Option.{Option}
use Rattle.std.specs.Borrow.{Bor}
use Rattle.std.specs.BTreeSet.{BTreeSet}
use Rattle.std.specs.Io.KnownBytes.{Consumes}
use Rattle.std.specs.List.{Contains, flat_map}
use Rattle.std.specs.Option.{option_or}
use Rattle.omf_files.specs.declared.world.FileId.{FileId}
use Rattle.doslink_files.specs.declared.reading.Sought.{Sought}
use Rattle.doslink_files.specs.declared.lookup.Found.{Found}
use Rattle.doslink_files.specs.declared.lookup.Found.TheVariants.{New, Known}
use Rattle.doslink_files.specs.declared.taking.Taken.{Taken}
use Rattle.doslink_files.specs.declared.taking.Taken.TheVariants as taken
use Rattle.doslink_files.specs.Files.{IsFoundNew, IsPathOf}
use Rattle.doslink_files.specs.inside.Looking.{IsReadNew}
use Rattle.doslink_files.specs.inside.Taking.{IsTaken}
use Rattle.doslink_files.specs.Files.{IsModulesPart, sought_name}
use Rattle.doslink_files.specs.Paths as spec
use Rattle.doslink_files.specs.Standing as spec-front
use Rattle.doslink_files.specs.Standing.{BeginsAsInput}

-- one more path of a folder, with the next of the extensions
pub path-more : {A : Type 0} (before old new : List (String A)) (path : String A) (extensions : List (Bor (List ℕ)))
    (i : ℕ) (d : Bor (List ℕ)) (name folder : List ℕ) → i < length extensions → new ≡ old ++ path ∷ []
    → string_bytes path ≡ spec.in_folder folder (name ++ (get_or extensions i d).now)
    → map string_bytes old
    ≡ map string_bytes before ++ spec.paths_in (map (λ e. e.now) (take i extensions)) name folder
    → map string_bytes new
    ≡ map string_bytes before ++ spec.paths_in (map (λ e. e.now) (take (i + 1) extensions)) name folder
path-more before old new path extensions i d name folder h pushed is so-far =
    let made = λ (e : List ℕ). spec.in_folder folder (name ++ e) in
    let front = map (λ (e : Bor (List ℕ)). e.now) (take i extensions) in
    let extension = (get_or extensions i d).now in
    let all : map made (map (λ (e : Bor (List ℕ)). e.now) (take (i + 1) extensions))
    ≡ map made front ++ made extension ∷ [] =
    ap (map made) (map_more (λ e. e.now) extensions i d h) ∙ map-append made front (extension ∷ []) in
    ap (map string_bytes) pushed ∙ map-append string_bytes old (path ∷ [])
    ∙ ap (λ p. map string_bytes old ++ p ∷ []) is ∙ ap (λ ps. ps ++ made extension ∷ []) so-far
    ∙ append_assoc (map string_bytes before) (map made front) (made extension ∷ [])
    ∙ ap (λ ps. map string_bytes before ++ ps) (sym all)

-- the paths of one more folder
pub paths-more : (extensions : List (List ℕ)) (name : List ℕ) (folders : List (Bor (List ℕ))) (i : ℕ)
    (d : Bor (List ℕ)) (old new : List (List ℕ)) → i < length folders
    → old ≡ spec.paths_of extensions (map (λ f. f.now) (take i folders)) name
    → new ≡ old ++ spec.paths_in extensions name (get_or folders i d).now
    → new ≡ spec.paths_of extensions (map (λ f. f.now) (take (i + 1) folders)) name
paths-more extensions name folders i d old new h so-far pushed =
    let made = spec.paths_in extensions name in
    let folder = (get_or folders i d).now in
    pushed ∙ ap (λ ps. ps ++ made folder) so-far
    ∙ flat_map_more made [] ([] ∷ map (λ (f : Bor (List ℕ)). f.now) (take i folders)) folder
    ∙ ap (λ fs. flat_map made ([] ∷ fs)) (sym (map_more (λ f. f.now) folders i d h))

-- one of some paths
pub path-at : {A : Type 0} (paths : List (String A)) (i : ℕ) (d : String A) (all : List (List ℕ)) → i < length paths
    → map string_bytes paths ≡ all → Contains all (string_bytes (get_or paths i d))
path-at paths i d all h are =
    let there : i < length (map string_bytes paths) = omega (arith, h, length-map paths string_bytes) in
    subst (λ ps. Contains ps (string_bytes (get_or paths i d))) are
    (i, there, get_or-map string_bytes paths i d (string_bytes (get_or paths i d)) h)

-- what holds of a file that is taken does where less is said
pub taken-weaker : {A : Type 0} (Is Other : (path bytes : List ℕ) → Type 0) (holds : FileId → Option (List ℕ))
    (known : BTreeSet FileId) (taken : Taken A) → ((path bytes : List ℕ) → Is path bytes → Other path bytes)
    → IsTaken Is holds known taken → IsTaken Other holds known taken
taken-weaker Is Other holds known (taken.New file regular) weaker is =
    (weaker (string_bytes file.path) file.bytes.items is.0, is.1)
taken-weaker Is Other holds known (taken.Known id) weaker is =
    (is.0, is.1, λ bytes part. weaker is.1 bytes (is.2 bytes part))

-- and of a look-up, where there is one
pub found-weaker : {A E : Type 0} (Is Other : (path bytes : List ℕ) → Type 0) (holds : FileId → Option (List ℕ))
    (known : BTreeSet FileId) (found : Result (Taken A) E) → ((path bytes : List ℕ) → Is path bytes → Other path bytes)
    → IfOk found (IsTaken Is holds known) → IfOk found (IsTaken Other holds known)
found-weaker Is Other holds known (Ok taken) weaker is = taken-weaker Is Other holds known taken weaker is
found-weaker Is Other holds known (Err fault) weaker is = tt

-- what is taken at one of some paths is taken among them
pub taken-among : {A : Type 0} (told : List ℕ → Option (List ℕ)) (holds : FileId → Option (List ℕ))
    (known : BTreeSet FileId) (paths : List (List ℕ)) (path : List ℕ) (taken : Taken A) → Contains paths path
    → IsTaken (λ at bytes. (at ≡ path) × IsModulesPart (told at) bytes) holds known taken
    → IsTaken (λ at bytes. Contains paths at × IsModulesPart (told at) bytes) holds known taken
taken-among told holds known paths path taken stands is =
    taken-weaker (λ at bytes. (at ≡ path) × IsModulesPart (told at) bytes)
    (λ at bytes. Contains paths at × IsModulesPart (told at) bytes) holds known taken
    (λ at bytes one. (subst (Contains paths) (sym one.0) stands, one.1)) is

-- what holds of one where there is one, and of another, holds of the first of the two
pub first-holds : {X : Type 0} (P : X → Type 0) (one : Option X) (other : X) → IfSome one P → P other
    → IfSome (option_or one (Some other)) P
first-holds P None other is holds = holds
first-holds P (Some one) other is holds = is

-- what a look-up took among some paths is taken of them
pub first-of : {A E : Type 0} (told : List ℕ → Option (List ℕ)) (holds : FileId → Option (List ℕ))
    (known : BTreeSet FileId) (paths all : List (List ℕ)) (found : Result (Taken A) E) → paths ≡ all
    → IfOk found (IsTaken (λ path bytes. Contains paths path × IsModulesPart (told path) bytes) holds known)
    → IfOk found (IsTaken (λ path bytes. Contains all path × IsModulesPart (told path) bytes) holds known)
first-of told holds known paths all found are is =
    subst (λ (ps : List (List ℕ)).
    IfOk found (IsTaken (λ path bytes. Contains ps path × IsModulesPart (told path) bytes) holds known)) are is

-- a file at one of the paths of a library is that library
pub found-new : {A : Type 0} (told : List ℕ → Option (List ℕ)) (folders : List (List ℕ)) (name path : List ℕ)
    (found : Found A) → IsPathOf folders name path → IsReadNew told path found → IsFoundNew told folders name found
found-new told folders name path (New file) stands is =
    rw is.0 (stands, is.1)
found-new told folders name path Known stands is = tt

-- the name of one that is sought
pub sought-at : (sought : List Sought) (i : ℕ) (d : Sought) → i < length sought
    → Contains (map sought_name sought) (sought_name (get_or sought i d))
sought-at sought i d h =
    let there : i < length (map sought_name sought) = omega (arith, h, length-map sought sought_name) in
    (i, there, get_or-map sought_name sought i d (sought_name (get_or sought i d)) h)

-- behind one more nothing is empty
pub never-empty : {X : Type 0} (xs : List X) (x : X) → xs ++ x ∷ [] ≢ []
never-empty [] x is = cc
never-empty (y ∷ ys) x is = cc

-- what a read gave of a file begins as an input does, and so does the file
pub begins-by : (told before after : Option (List ℕ)) (n : ℕ) (buf : List ℕ) → before ≡ told
    → Consumes before after (take n buf) → IsTrue (spec-front.begins_as_input (take n buf)) → IfSome told BeginsAsInput
begins-by told None after n buf same read begins = subst (λ o. IfSome o BeginsAsInput) same tt
begins-by told (Some xs) None n buf same read begins = absurd read
begins-by told (Some xs) (Some rest) n buf same read begins =
    let front = take n buf in
    subst (λ o. IfSome o BeginsAsInput) same (
      length front,
      subst (λ ys. IsTrue (spec-front.begins_as_input (take (length front) ys))) (sym read)
          (subst (λ ys. IsTrue (spec-front.begins_as_input ys)) (sym (take-append_seam front rest)) begins),
    )
