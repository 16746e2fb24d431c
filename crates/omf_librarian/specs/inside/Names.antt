-- What of names is noted, without where it lies in memory.
use Rattle.std.specs.Prelude.{◌≡◌, ℕ, List, [], map, All}
use Rattle.std.specs.Option.{option_map}
use Rattle.std.specs.Str.{bytes_eq}
use Rattle.std.specs.Borrow.{Bor}
use Rattle.std.specs.Map.{lookup}
use Rattle.omf_librarian.specs.declared.naming.Named as lent
use Rattle.omf_librarian.specs.declared.naming.Names.{Names}
use Rattle.omf_librarian.specs.Naming.{Named, doubled_behind, entries_behind, first_of}
use Rattle.omf_librarian.specs.Said.{doubled_said}
use Rattle.omf_librarian.specs.inside.Views.{IsShort, entry_view}

abbrev pub named_view : lent.Named → Named
named_view n = record { name = n.name.now; member = n.member; page = n.page }

abbrev pub named_as : (member page : ℕ) → List ℕ → Named
named_as member page name = record { name = name; member = member; page = page }

-- these names are noted
pub record Noted {A : Type 0} (before : List Named) (names : Names A) : Type 0 where
  pub first : (q : List ℕ) → lookup (λ (k : Bor (List ℕ)). bytes_eq q k.now) names.first.entries
      ≡ option_map (λ (n : Named). n.member) (first_of before q)
  pub entries : map entry_view names.entries.items ≡ entries_behind [] before
  pub short : All IsShort names.entries.items
  pub doubled : map doubled_said names.doubled.items ≡ doubled_behind [] before
