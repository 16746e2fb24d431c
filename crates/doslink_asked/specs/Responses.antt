-- Words that stand for files of words, and what these say.
use Rattle.std.specs.Prelude.{◌≡◌, ◌⊎◌, ◌==◌, ℕ, Bool, false, List, [], ◌∷◌, ◌++◌, codes, None, Some, if◌then◌else◌}
use Rattle.std.specs.declared.option.Option.{Option}
use Rattle.std.specs.List.{before_first}
use Rattle.clap.specs.Words.{Text}
use Rattle.doslink_files.specs.Files.{IsTold}
use Rattle.doslink_files.specs.Paths.{has_extension}

-- the path of a response file: what stands behind `@` at the front of a word
abbrev pub response_path : Text → Option Text
response_path [] = None
response_path (byte ∷ path) = if byte == 64 then Some path else None

-- whether a byte is Ctrl-Z, at which a text ends
abbrev pub is_end : ℕ → Bool
is_end byte = byte == 26

-- this is the text of a file: its bytes up to a Ctrl-Z, whatever stands behind that
abbrev pub IsTextIn : (told : Option (List ℕ)) → (text : Text) → Type 0
IsTextIn told text = (bytes : List ℕ) × IsTold told bytes × (text ≡ before_first is_end bytes)

-- a file of directives is at the path that is said or, where that has no extension, at it with `.lnk`
abbrev pub IsDirectivePath : (path found : Text) → Type 0
IsDirectivePath path found = (found ≡ path) ⊎ ((has_extension path ≡ false) × (found ≡ path ++ codes ".lnk"))

-- these are the directives of the file of a path: its text
abbrev pub AreDirectives : (told : Text → Option (List ℕ)) → (path part : Text) → Type 0
AreDirectives told path part =
    (found : Text) × IsDirectivePath path found × IsTextIn (told found) part
