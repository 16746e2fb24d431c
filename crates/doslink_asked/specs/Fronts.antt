-- What stands in front of the words of a line: under LINK the environment's LINK, under TLINK what TLINK.CFG says.
-- `told` are the bytes of files by their paths, and `looks` is what stands at each path, none where nothing does, where
-- the world tells them.
use Rattle.std.specs.Prelude.{◌≡◌, ◌⊎◌, ◌||◌, ℕ, Bool, List, [], codes, IfSome, None, if◌then◌else◌}
use Rattle.std.specs.declared.option.Option.{Option}
use Rattle.std.specs.List.{list_any}
use Rattle.std.specs.Str.{bytes_eq}
use Rattle.clap.specs.Words.{Text}
use Rattle.omf_files.specs.declared.world.Looked.{Looked}
use Rattle.doslink_files.specs.Paths.{last_part}
use Rattle.makefile_words.specs.Tokens.{Piece, text_of, tokens}
use Rattle.makefile_words.specs.declared.tokens.Language.{Language}
use Rattle.makefile_words.specs.declared.tokens.Language.TheVariants.{Link, Tlink}
use Rattle.doslink_asked.specs.Lines.{IsSpoken}
use Rattle.doslink_asked.specs.Responses.{IsTextIn}
use Rattle.doslink_asked.specs.Languages.{is_called}

-- ---- the environment's LINK

-- whether a token is of a call of a linker: `--as`, or a path of the program `link`
abbrev pub is_of_call : Piece → Bool
is_of_call piece =
    bytes_eq (text_of piece) (codes "--as") || is_called (last_part (text_of piece)) (codes "link") (codes "link.exe")

-- whether a text is a call of a linker, as `doslink --as link`. Make hands its variable LINK on to what it runs where
-- that is said on its command line, and the linker is called by that
abbrev pub calls_linker : Text → Bool
calls_linker text = list_any (λ placed. is_of_call placed.piece) (tokens Link text)

-- what the environment's LINK says: nothing where it is such a call
abbrev pub link_text : Text → Text
link_text text = if calls_linker text then [] else text

-- ---- TLINK.CFG

-- nothing stands at a path
abbrev pub IsNothingAt : (looks : Option (Text → Option Looked)) → (path : Text) → Type 0
IsNothingAt looks path = IfSome looks (λ look. look path ≡ None)

-- this is what TLINK.CFG says: nothing where it isn't there, and else its text
abbrev pub IsConfigured : (told : Text → Option (List ℕ)) → (looks : Option (Text → Option Looked)) → (said : Text)
    → Type 0
IsConfigured told looks said =
    (IsNothingAt looks (codes "TLINK.CFG") × (said ≡ []))
    ⊎ IsTextIn (told (codes "TLINK.CFG")) said

-- ---- the front

-- this stands in front of a line, where this is the environment's LINK: with what its response files say
abbrev pub IsFront : (told : Text → Option (List ℕ)) → (looks : Option (Text → Option Looked)) → (link : Text)
    → Language → (front : Text) → Type 0
IsFront told looks link Link front = (rounds : ℕ) × IsSpoken told Link rounds (link_text link) front
IsFront told looks link Tlink front = IsConfigured told looks front
