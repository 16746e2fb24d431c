-- How a state while data records are laid leads to the whole program, by the records that are left.
use Rattle.std.specs.Prelude.{◌≡◌, ℕ, ◌≤◌, ◌==◌, ◌||◌, Bool, false, List, map, filter, flat_map, fold, length, get_or}
use Rattle.std.specs.List.{list_any}
use Rattle.omf_module.specs.Module.{Module}
use Rattle.omf_place.specs.Layout.{Layout}
use Rattle.omf_image.specs.Located.{covers, in_page}
use Rattle.omf_image.specs.inside.Whole.{byte_of, page_covered, data_fault}
use Rattle.omf_image.specs.Records.{entries, datum, program_byte, record_relocations}
use Rattle.omf_image.specs.inside.Entries.{DataEntry}
use Rattle.omf_image.specs.Faults.{records_fault}
use Rattle.omf_image.specs.inside.States.{State}

-- a flag stands at each of the addresses, and no other
abbrev pub IsListed : List Bool → List ℕ → Type 0
IsListed flags words = (a : ℕ) → get_or flags a false ≡ list_any (λ w. a == w) words

-- an image of the program's size, with a flag for each address
pub record IsWhole (layout : Layout) (s : State) : Type 0 where
  pub sized : length s.image ≡ layout.size
  pub words : length s.words ≡ length s.image
  pub small : layout.size ≤ 1048560

-- the last of the numbers, or another one where there is none
abbrev pub last_or : (other : ℕ) → List ℕ → ℕ
last_or other numbers = fold (λ earlier number. number) other numbers

-- the relocated words of all data records
abbrev pub relocated_words : Layout → List Module → List ℕ
relocated_words layout modules = flat_map (record_relocations layout) (entries modules)

-- what the state holds and what the rest of the data records brings is the program
pub record Leads (layout : Layout) (modules : List Module) (now : State) (rest : List DataEntry) : Type 0 where
  pub image : (a : ℕ)
      → last_or (get_or now.image a 0) (map (byte_of a) (filter (covers a) (map (datum 0 layout) rest)))
      ≡ program_byte 0 layout modules a
  pub pages : (k : ℕ)
      → (list_any (in_page k) (map (datum 0 layout) rest) || get_or now.made k false) ≡ page_covered layout modules k
  pub words : (a : ℕ)
      → (get_or now.words a false || list_any (λ w. a == w) (flat_map (record_relocations layout) rest))
      ≡ list_any (λ w. a == w) (relocated_words layout modules)
  pub so_far : List ℕ
  pub listed : IsListed now.words so_far
  pub fault : records_fault layout so_far rest ≡ data_fault layout modules
