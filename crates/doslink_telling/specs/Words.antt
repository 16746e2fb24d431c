-- The words for modules in lines, and the modules that are linked.
use Rattle.std.specs.Prelude.{ℕ, if◌then◌else◌, length, nat_le, take, List, [], ◌∷◌, ◌++◌, codes, slice_get, Some, None}
use Rattle.std.specs.Prelude.{Vec}
use Rattle.std.specs.declared.option.Option.{Option}
use Rattle.std.specs.Borrow.{Bor}
use Rattle.std.specs.List.{concat, enumerate_from, flat_map}
use Rattle.std.specs.Option.{option_copied, option_map_or}
use Rattle.omf_text.specs.Printing.{name_byte, printed_name}
use Rattle.doslink_stock.specs.declared.searching.Handed.{Handed}
use Rattle.doslink_stock.specs.Files.{Held}

-- the path of the file with this index
abbrev pub path_of : (paths : List (Bor (List ℕ))) → ℕ → List ℕ
path_of paths file = option_map_or (λ p. p.now) (slice_get paths file) []

-- how many bytes of a name are told
abbrev pub most_bytes : ℕ
most_bytes = 255

-- what stands behind a name that is cut
abbrev pub cut_end : (name : List ℕ) → List ℕ
cut_end name = if nat_le (length name) most_bytes then [] else codes ".."

-- what stands behind the path of a member's library: the member's name in parentheses, as it is printed but for quotes
abbrev pub member_end : Option (List ℕ) → List ℕ
member_end None = []
member_end (Some name) =
    concat (codes "(" ∷ flat_map name_byte (take most_bytes name) ∷ cut_end name ∷ codes ")" ∷ [])

-- the word for a module: its file's path, and of a member its name behind it
abbrev pub module_word : (paths : List (Bor (List ℕ))) → Held → List ℕ
module_word paths m = path_of paths m.file ++ member_end m.name

-- the word with this index
abbrev pub word_at : {A : Type 0} → List (Vec ℕ A) → ℕ → List ℕ
word_at words index = option_map_or (λ w. w.items) (slice_get words index) []

-- the end of a module's line: the name for which it was taken, where it is a member
abbrev pub taken_end : Option (List ℕ) → List ℕ
taken_end None = codes "\n"
taken_end (Some name) = concat (codes " for " ∷ printed_name name ∷ codes "\n" ∷ [])

-- the modules that are linked, a line for each with its word
abbrev pub handed_text : {A B : Type 0} → List (Handed A) → List (Vec ℕ B) → List ℕ
handed_text handed words =
    flat_map (λ p. word_at words p.0 ++ taken_end (option_copied p.1.wanted)) (enumerate_from 0 handed)
