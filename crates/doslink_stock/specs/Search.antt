-- The modules that a link takes of files, which come in rounds: those that a job names, then the default libraries that
-- modules name, as far as they weren't there, and so on. With each round the search goes on: what was taken stays taken.
use Rattle.std.specs.Prelude.{◌≡◌, ℕ, ◌+◌, List, [], ◌∷◌, ◌++◌, length, map, slice_get, None, Some, Ok}
use Rattle.std.specs.declared.option.Option.{Option}
use Rattle.std.specs.List.{enumerate_from, filter_map, flat_map}
use Rattle.std.specs.Option.{option_map}
use Rattle.omf_place.specs.declared.names.Names.{Names}
use Rattle.omf_search.specs.Said.{Module}
use Rattle.omf_search.specs.Search.{Member, Choice, Chooses}
use Rattle.doslink_stock.specs.Files.{Held, members_from, objects_from}

-- a member that may be taken: its file, its index among all, and its names
abbrev pub candidate : ℕ × Held → Member
candidate p = record { library = p.1.file; member = p.0; says = p.1.says }

-- the members that may be taken
abbrev pub candidates : List Held → List Member
candidates held = map candidate (enumerate_from 0 held)

-- a module that a link takes, and the wanted name for which it does: none for an object file
pub record TakenFor : Type 0 where
  pub held : Held
  pub wanted : Option (List ℕ)

-- an object file
abbrev pub object_taken : Held → TakenFor
object_taken object = record { held = object; wanted = None }

-- the member that was chosen
abbrev pub member_taken : List Held → Choice → Option TakenFor
member_taken members c =
    option_map (λ m. record { held = m; wanted = Some c.wanted.name }) (slice_get members c.taken.member)

-- what modules say of names
abbrev pub says_of : List TakenFor → List Module
says_of taken = map (λ t. t.held.says) taken

-- what stands after some rounds: how many files there were, their members, and the modules that are taken, in order
pub record Standing : Type 0 where
  pub files : ℕ
  pub members : List Held
  pub taken : List TakenFor

-- before the first
abbrev pub nothing : Standing
nothing = record { files = 0; members = []; taken = [] }

-- the modules, and behind them the object files of a round
abbrev pub with_objects : (files : List (List ℕ)) → Standing → List TakenFor
with_objects files s = s.taken ++ map object_taken (objects_from s.files files)

-- A round of files: its object files are taken, and behind them the members, of this round and those before it, that all
-- modules so far choose.
pub record Goes (names : Names) (files : List (List ℕ)) (old new : Standing) : Type 0 where
  pub more : List Held
  pub choices : List Choice
  pub are_members : members_from old.files files ≡ Ok more
  pub chooses : Chooses names (candidates (old.members ++ more)) (says_of (with_objects files old)) choices
  pub counted : new.files ≡ old.files + length files
  pub members : new.members ≡ old.members ++ more
  pub taken : new.taken ≡ with_objects files old ++ filter_map (member_taken (old.members ++ more)) choices

-- one round after the other
abbrev pub GoesOn : Names → Standing → (rounds : List (List (List ℕ))) → Standing → Type 0
GoesOn names old [] new = new ≡ old
GoesOn names old (files ∷ rounds) new = (next : Standing) × Goes names files old next × GoesOn names next rounds new

-- the files of all rounds, in their order
abbrev pub all_files : (rounds : List (List (List ℕ))) → List (List ℕ)
all_files rounds = flat_map (λ files. files) rounds

-- of these rounds of files a link takes these modules
abbrev pub TakesFor : Names → (rounds : List (List (List ℕ))) → (taken : List TakenFor) → Type 0
TakesFor names rounds taken = (s : Standing) × GoesOn names nothing rounds s × (taken ≡ s.taken)

-- the same without the names for which they are taken
abbrev pub Takes : Names → (rounds : List (List (List ℕ))) → (modules : List Held) → Type 0
Takes names rounds modules =
    (taken : List TakenFor) × TakesFor names rounds taken × (modules ≡ map (λ t. t.held) taken)
