-- The directives that words give, line by line, with what files say in the places of the lines that name them. `told`
-- are the bytes of files by their paths, where the world tells them.
use Rattle.std.specs.Prelude.{◌≡◌, ◌+◌, ℕ, zero, suc, List, [], ◌∷◌, ◌++◌, None, Some, MatchOption}
use Rattle.std.specs.declared.option.Option.{Option}
use Rattle.std.specs.List.{flat_map}
use Rattle.std.specs.Str.{IsTrimAscii}
use Rattle.std.specs.Str.Lines.{lines}
use Rattle.clap.specs.Words.{Text}
use Rattle.doslink_asked.specs.Responses.{AreDirectives, response_path}

-- a line: the file that it is one of, where it isn't one of a word; its number there, from 1 on; and its text
pub record SourceLine : Type 0 where
  pub path : Option Text
  pub number : ℕ
  pub text : Text

-- a line names this file, or none: what stands behind `@`, without the white space around both
abbrev pub IsNamedBy : (text : Text) → (path : Option Text) → Type 0
IsNamedBy text path = (trimmed : Text) × IsTrimAscii text trimmed × (path ≡ response_path trimmed)

-- lines that are numbered from one on, of the file at a path or of a word
abbrev pub numbered : (path : Option Text) → (number : ℕ) → List Text → List SourceLine
numbered path number [] = []
numbered path number (text ∷ more) =
    record { path = path; number = number; text = text } ∷ numbered path (number + 1) more

-- the lines of a text, of the file at a path or of a word
abbrev pub lines_in : (path : Option Text) → (text : Text) → List SourceLine
lines_in path text = numbered path 1 (lines text)

-- these are the lines of the file of directives at a path
abbrev pub AreLinesOf : (told : Text → Option (List ℕ)) → (path : Text) → List SourceLine → Type 0
AreLinesOf told path part = (text : Text) × AreDirectives told path text × (part ≡ lines_in (Some path) text)

-- these stand for a line: the lines of the file that it names, and else itself
abbrev pub StandsFor : (told : Text → Option (List ℕ)) → SourceLine → (part : List SourceLine) → Type 0
StandsFor told line part = (path : Option Text) × IsNamedBy line.text path
    × MatchOption path (part ≡ line ∷ []) (λ p. AreLinesOf told p part)

-- these stand for all lines
abbrev pub StandForAll : (told : Text → Option (List ℕ)) → (all spoken : List SourceLine) → Type 0
StandForAll told [] spoken = spoken ≡ []
StandForAll told (line ∷ all) spoken =
    (part rest : List SourceLine) × StandsFor told line part × StandForAll told all rest × (spoken ≡ part ++ rest)

-- these are lines in so many rounds, in each of which the files are put in the places of the lines that name them
abbrev pub AreSpoken : (told : Text → Option (List ℕ)) → (rounds : ℕ) → (all spoken : List SourceLine) → Type 0
AreSpoken told zero all spoken = spoken ≡ all
AreSpoken told (suc rounds) all spoken =
    (before : List SourceLine) × AreSpoken told rounds all before × StandForAll told before spoken

-- none of the lines names a file
abbrev pub NameNone : List SourceLine → Type 0
NameNone [] = Unit {0}
NameNone (line ∷ more) = IsNamedBy line.text None × NameNone more

-- the lines of words
abbrev pub word_lines : List Text → List SourceLine
word_lines words = flat_map (lines_in None) words

-- the text of lines, each with a line end behind it
abbrev pub text_of : List SourceLine → Text
text_of all = flat_map (λ line. line.text ++ 10 ∷ []) all

-- these are the lines that words give, with those of all files that are named, so that none names one any more
abbrev pub AreAll : (told : Text → Option (List ℕ)) → (words : List Text) → (spoken : List SourceLine) → Type 0
AreAll told words spoken = ((rounds : ℕ) × AreSpoken told rounds (word_lines words) spoken) × NameNone spoken

-- the text of directives that words give, and its lines
abbrev pub IsTextOf : (told : Text → Option (List ℕ)) → (words : List Text) → (spoken : List SourceLine) → (text : Text)
    → Type 0
IsTextOf told words spoken text = AreAll told words spoken × (text ≡ text_of spoken)
