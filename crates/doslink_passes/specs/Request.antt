-- What is to be linked: the modules that a link takes, and what their job says.
use Rattle.std.specs.Prelude.{ℕ, Bool, if◌then◌else◌, List, map}
use Rattle.omf_place.specs.declared.names.Names.{Names}
use Rattle.omf_place.specs.declared.names.Names.TheVariants.{AsciiFolded, Exact}
use Rattle.omf_search.specs.Results.{module_said}
use Rattle.omf_search.specs.Said.{Module}
use Rattle.doslink_stock.specs.Files.{Held}
use Rattle.doslink_stock.specs.Seen.{handed_held}
use Rattle.doslink_passes.specs.declared.request.LinkRequest.{LinkRequest}

-- which names agree, by `--ignore-case`
abbrev pub names_of : Bool → Names
names_of ignore_case = if ignore_case then AsciiFolded else Exact

-- the modules
abbrev pub held_of : {A : Type 0} → LinkRequest A → List Held
held_of r = map handed_held r.handed.now

-- the bytes that they are given as
abbrev pub given_of : {A : Type 0} → LinkRequest A → List (List ℕ)
given_of r = map (λ h. (handed_held h).bytes) r.handed.now

-- what they say of names
abbrev pub says_of : {A : Type 0} → LinkRequest A → List Module
says_of r = map module_said r.says.now

-- the bytes of modules
abbrev pub bytes_in : List Held → List (List ℕ)
bytes_in modules = map (λ m. m.bytes) modules
