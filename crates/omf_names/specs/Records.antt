-- A module that says of names what no other does (TIS OMF 1.1, the section of each record): it has no segments.
use Rattle.std.specs.Prelude.{ℕ, List, [], ◌∷◌, ◌++◌, codes, length, take, None, Some}
use Rattle.std.specs.declared.option.Option.{Option}
use Rattle.std.specs.List.{flat_map}
use Rattle.std.specs.Option.{option_to_list}
use Rattle.omf_frame.specs.Frame.{frame}

-- a name with its length; of a longer one than a module can have its first 255 bytes
abbrev pub name : List ℕ → List ℕ
name text = length (take 255 text) ∷ take 255 text

-- 80H THEADR: the name of the module
abbrev pub header_record : List ℕ
header_record = frame 0x80 (name (codes "directives"))

-- 8CH EXTDEF: an external of this name, and of no type
abbrev pub external_record : List ℕ → List ℕ
external_record text = frame 0x8C (name text ++ 0 ∷ [])

-- C6H ALIAS: a name, and the one that it stands for
abbrev pub alias_record : List ℕ × List ℕ → List ℕ
alias_record (text, means) = frame 0xC6 (name text ++ name means)

-- the body of a MODEND: of no main module, and without a start; or of a main module whose start is the external with
-- the index 1, in that one's own frame
abbrev pub end_body : (has_start : Option (List ℕ)) → List ℕ
end_body None = 0 ∷ []
end_body (Some start) = 0xC1 ∷ 0x52 ∷ 1 ∷ 0 ∷ 0 ∷ []

-- 8AH MODEND
abbrev pub end_record : (has_start : Option (List ℕ)) → List ℕ
end_record has_start = frame 0x8A (end_body has_start)

-- the module in which the program starts at a public, where one is told, and that wants these names and has these
-- aliases
unfoldable pub names_module : (start : Option (List ℕ)) → (wanted : List (List ℕ)) → (aliases : List (List ℕ × List ℕ))
    → List ℕ
names_module start wanted aliases =
    header_record ++ (flat_map external_record (option_to_list start ++ wanted)
    ++ (flat_map alias_record aliases ++ end_record start))
