-- What the directives of a text mean: its tokens in their order, where a line's end is a blank.
use Rattle.std.specs.Prelude.{◌≡◌, ℕ, zero, suc, ◌==◌, ◌&&◌, ⊤, Bool, true, false, List, [], ◌∷◌, ◌++◌, codes, map}
use Rattle.std.specs.Prelude.{take, Option, Some, None, Result, Ok, Err, if◌then◌else◌, length, nat_le}
use Rattle.std.specs.Option.{option_and_then, option_map_or, option_or, unwrap_or}
use Rattle.std.specs.List.{flat_map, list_all, slice_split}
use Rattle.std.specs.Str.Lines.{lines}
use Rattle.clap.specs.Words.{Text}
use Rattle.doslink_words.specs.declared.faults.DirectiveFault.{DirectiveFault}
use Rattle.doslink_words.specs.declared.faults.DirectiveFault.TheVariants as directive_fault
use Rattle.doslink_words.specs.declared.faults.DirectiveFaultKind.{DirectiveFaultKind}
use Rattle.doslink_words.specs.declared.faults.DirectiveFaultKind.TheVariants as kind
use Rattle.doslink_words.specs.declared.job.Directives.{Directives}
use Rattle.doslink_words.specs.declared.job.Form.{Form}
use Rattle.doslink_words.specs.declared.job.Form.TheVariants as form
use Rattle.doslink_words.specs.declared.job.WarningKind.{WarningKind}
use Rattle.doslink_words.specs.declared.job.WarningKind.TheVariants as warning
use Rattle.doslink_words.specs.declared.keywords.Directive.{Directive}
use Rattle.doslink_words.specs.declared.keywords.Directive.TheVariants as directive
use Rattle.doslink_words.specs.declared.keywords.Plain.{Plain}
use Rattle.doslink_words.specs.declared.keywords.Plain.TheVariants as plain
use Rattle.doslink_words.specs.declared.keywords.Switch.{Switch}
use Rattle.doslink_words.specs.declared.keywords.Switch.TheVariants as switch
use Rattle.doslink_words.specs.Keywords.{is_keyword, directive_named, switch_named}
use Rattle.doslink_words.specs.Operands.{is_open, is_close, operand_count}
use Rattle.doslink_words.specs.Places.{PlacedPiece, FaultyLine, with_lines}
use Rattle.doslink_words.specs.Said.{Said, SaidItem, nothing, said_of}
use Rattle.doslink_words.specs.Said.{File, Library, Class, Segment, Beside, At, Dosseg, Listed}
use Rattle.doslink_words.specs.Sizes.{size, stack_bytes}
use Rattle.doslink_words.specs.Tokens.{Piece, Word, Quoted, Comma, Equals, Open, Close, text_of}

-- the first of tokens
abbrev pub first_of : List PlacedPiece → Option PlacedPiece
first_of [] = None
first_of (token ∷ more) = Some token

-- what is done with a value, where there is one, and else the fault that there is
abbrev pub and_then : {A B E : Type 0} → Result A E → (A → Result B E) → Result B E
and_then (Ok value) next = next value
and_then (Err fault) next = Err fault

-- what is wrong with a directive, and the first of its operands that is wrong, none where that is its own word or where
-- one lacks
pub record Mistake : Type 0 where
  pub kind : DirectiveFaultKind
  pub word : Option PlacedPiece

-- a directive is at fault with this
abbrev pub Line : Type 0 → Type 0
Line A = Result A Mistake

-- no operand is wrong, but this is
abbrev pub own : DirectiveFaultKind → Mistake
own what = record { kind = what; word = None }

-- an operand is wrong
abbrev pub wrong : PlacedPiece → Mistake
wrong token = record { kind = kind.WrongOperands; word = Some token }

-- an operand asks for another system
abbrev pub not_dos : PlacedPiece → Mistake
not_dos token = record { kind = kind.NotDos; word = Some token }

-- the name that a token is, where it is one
abbrev pub name_in : Piece → Option Text
name_in (Word text) = Some text
name_in (Quoted text) = Some text
name_in Comma = None
name_in Equals = None
name_in Open = None
name_in Close = None

-- the word without quotes that it is
abbrev pub word_in : Piece → Option Text
word_in (Word text) = Some text
word_in (Quoted text) = None
word_in Comma = None
word_in Equals = None
word_in Open = None
word_in Close = None

-- the name, and the word without quotes, that an operand has to be
abbrev pub name_of : PlacedPiece → Line Text
name_of token = option_map_or Ok (name_in token.piece) (Err (wrong token))

abbrev pub word_of : PlacedPiece → Line Text
word_of token = option_map_or Ok (word_in token.piece) (Err (wrong token))

-- whether a token is this keyword
abbrev pub is_word : Piece → Text → Bool
is_word (Word text) keyword = is_keyword text keyword
is_word (Quoted text) keyword = false
is_word Comma keyword = false
is_word Equals keyword = false
is_word Open keyword = false
is_word Close keyword = false

-- whether a token is a comma
abbrev pub is_comma : Piece → Bool
is_comma (Word text) = false
is_comma (Quoted text) = false
is_comma Comma = true
is_comma Equals = false
is_comma Open = false
is_comma Close = false

-- whether a token is an equals sign
abbrev pub is_equals : Piece → Bool
is_equals (Word text) = false
is_equals (Quoted text) = false
is_equals Comma = false
is_equals Equals = true
is_equals Open = false
is_equals Close = false

-- what commas separate
abbrev pub is_comma_at : PlacedPiece → Bool
is_comma_at token = is_comma token.piece

abbrev pub parts : List PlacedPiece → List (List PlacedPiece)
parts = slice_split is_comma_at

-- the name that is alone
abbrev pub one_name : List PlacedPiece → Line Text
one_name [] = Err (own kind.WrongOperands)
one_name (token ∷ []) = name_of token
one_name (token ∷ other ∷ more) = Err (wrong other)

-- `A[,B..]`: these names and those that are named, one in each part
abbrev pub with_names : (had : List Text) → List (List PlacedPiece) → Line (List Text)
with_names had [] = Ok had
with_names had (part ∷ more) = and_then (one_name part) (λ name. with_names (had ++ (name ∷ [])) more)

-- these names, and the one that a token is, where it is no comma
abbrev pub with_between : (had : List Text) → PlacedPiece → Line (List Text)
with_between had token =
    if is_comma token.piece then Ok had else and_then (name_of token) (λ name. Ok (had ++ (name ∷ [])))

-- a value where no token is left
abbrev pub if_none : {A : Type 0} → List PlacedPiece → A → Line A
if_none [] value = Ok value
if_none (token ∷ more) value = Err (wrong token)

-- `A B ..}`: these names and those up to the brace, which is the last token
abbrev pub with_braced : (had : List Text) → List PlacedPiece → Line (List Text)
with_braced had [] = Err (own kind.WrongOperands)
with_braced had (token ∷ more) =
    if is_close token.piece then if_none more had
    else and_then (with_between had token) (λ names. with_braced names more)

-- `A[,B..]` or `{A B ..}`: these names and those of the list
abbrev pub with_list : (had : List Text) → List PlacedPiece → Line (List Text)
with_list had [] = with_names had (parts [])
with_list had (first ∷ more) =
    if is_open first.piece then with_braced had more else with_names had (parts (first ∷ more))

-- a warning of a line
abbrev pub warned : (line : ℕ) → WarningKind → Said → Line Said
warned line what said = Ok (record said { warnings = said.warnings ++ (record { line = line; kind = what } ∷ []) })

-- `NAME[=VALUE]`
abbrev pub option_of : List PlacedPiece → Line (Text × Option Text)
option_of (name ∷ []) = and_then (word_of name) (λ word. Ok (word, None))
option_of (name ∷ mark ∷ value ∷ []) =
    if is_equals mark.piece
    then and_then (name_of value) (λ text. and_then (word_of name) (λ word. Ok (word, Some text)))
    else Err (wrong mark)
option_of _ = Err (own kind.WrongOperands)

-- what an option means that takes no value
abbrev pub plain_meaning : Plain → Said → Said
plain_meaning plain.Quiet said = record said { quiet = true }
plain_meaning plain.Dosseg said = record said { order = Dosseg }
plain_meaning plain.Exact said = record said { ignore_case = false }
plain_meaning plain.Ignoring said = record said { ignore_case = true }
plain_meaning plain.NoDefaultLibraries said = record said { default_libraries = false }

-- `stack=N`: a longer stack is cut to it
abbrev pub stack_meaning : Option Text → Said → Line Said
stack_meaning value said =
    option_map_or (λ n. Ok (record said { stack = Some (record { bytes = n; cuts = true }) }))
    (option_and_then stack_bytes value) (Err (own kind.WrongOperands))

-- whether a module can have a name: one of at most 255 bytes
abbrev pub is_name : Text → Bool
is_name text = nat_le (length text) 255

-- `start=NAME`: the program starts there
abbrev pub start_meaning : Option Text → Said → Line Said
start_meaning None said = Err (own kind.WrongOperands)
start_meaning (Some name) said =
    if is_name name then Ok (record said { start = Some name }) else Err (own kind.WrongOperands)

-- what an option means with a value or without: those that have no effect take any
abbrev pub switch_meaning : (line : ℕ) → Switch → Option Text → Said → Line Said
switch_meaning line switch.Map value said = Ok (record said { map = Some (option_map_or At value Beside) })
switch_meaning line switch.Stack value said = stack_meaning value said
switch_meaning line switch.Start value said = start_meaning value said
switch_meaning line (switch.Idle what) value said = warned line what said
switch_meaning line (switch.Plain what) None said = Ok (plain_meaning what said)
switch_meaning line (switch.Plain what) (Some value) said = Err (own kind.WrongOperands)

-- what an option means
abbrev pub option_meaning : (line : ℕ) → Text → Option Text → Said → Line Said
option_meaning line name value said =
    option_map_or (λ s. switch_meaning line s value said) (switch_named name) (Err (own kind.UnknownOption))

-- what is wrong with an option is so with its first word, where no other is
abbrev pub of_part : {A : Type 0} → List PlacedPiece → Line A → Line A
of_part part (Ok value) = Ok value
of_part part (Err what) = Err (record what { word = option_or what.word (first_of part) })

-- what an option `X[=VALUE]` means
abbrev pub part_meaning : (line : ℕ) → Said → List PlacedPiece → Line Said
part_meaning line said part = of_part part (and_then (option_of part) (λ o. option_meaning line o.0 o.1 said))

-- `X[=VALUE][,Y[=VALUE]..]`: one option in each part
abbrev pub with_options : (line : ℕ) → List (List PlacedPiece) → Said → Line Said
with_options line [] said = Ok said
with_options line (part ∷ more) said = and_then (part_meaning line said part) (with_options line more)

-- the form `exe` or `com`, and no other
abbrev pub kind_meaning : PlacedPiece → Line (Option Form)
kind_meaning what =
    if is_word what.piece (codes "exe") then Ok (Some form.Exe)
    else (if is_word what.piece (codes "com") then Ok (Some form.Com) else Err (not_dos what))

-- what stands behind `dos`: nothing, which says no form, or that form alone
abbrev pub behind_dos : List PlacedPiece → Line (Option Form)
behind_dos [] = Ok None
behind_dos (what ∷ more) = and_then (kind_meaning what) (if_none more)

-- `dos [exe|com]`, and no other
abbrev pub format_meaning : List PlacedPiece → Line (Option Form)
format_meaning [] = Err (own kind.NotDos)
format_meaning (system ∷ more) =
    if is_word system.piece (codes "dos") then behind_dos more else Err (not_dos system)

-- `dos` or `com`, and no other: `dos` says no form
abbrev pub system_named : PlacedPiece → Line (Option Form)
system_named system =
    if is_word system.piece (codes "dos") then Ok None
    else (if is_word system.piece (codes "com") then Ok (Some form.Com) else Err (not_dos system))

abbrev pub system_meaning : List PlacedPiece → Line (Option Form)
system_meaning [] = Err (own kind.NotDos)
system_meaning (system ∷ more) = and_then (system_named system) (if_none more)

-- a raw image at paragraph 0, from this address on
abbrev pub raw_from : ℕ → Option Form
raw_from address = Some (form.Raw 0 address)

-- `offset=N`: a raw image that begins at this address
abbrev pub offset_meaning : List PlacedPiece → Line (Option Form)
offset_meaning (name ∷ mark ∷ value ∷ []) =
    if is_word name.piece (codes "offset") && is_equals mark.piece
    then and_then (name_of value) (λ text. option_map_or (λ n. Ok (raw_from n)) (size text) (Err (wrong value)))
    else Err (wrong name)
offset_meaning _ = Err (own kind.WrongOperands)

-- `raw [offset=N]`, and no other
abbrev pub output_meaning : List PlacedPiece → Line (Option Form)
output_meaning [] = Err (own kind.WrongOperands)
output_meaning (what ∷ []) = if is_word what.piece (codes "raw") then Ok (raw_from 0) else Err (wrong what)
output_meaning (what ∷ more) = if is_word what.piece (codes "raw") then offset_meaning more else Err (wrong what)

-- a line that says a form, or none
abbrev pub form_meaning : Line (Option Form) → Said → Line Said
form_meaning said_form said = and_then said_form (λ f. Ok (record said { form = f }))

-- `clname CLASS` or `segment SEGMENT`
abbrev pub order_item : (keyword name : PlacedPiece) → Line SaidItem
order_item keyword name = and_then (name_of name) (λ text.
    if is_word keyword.piece (codes "clname") then Ok (Class text)
    else (if is_word keyword.piece (codes "segment") then Ok (Segment text) else Err (wrong keyword)))

-- these items and those that are listed
abbrev pub with_items : (had : List SaidItem) → List PlacedPiece → Line (List SaidItem)
with_items had [] = Ok had
with_items had (keyword ∷ []) = Err (wrong keyword)
with_items had (keyword ∷ name ∷ more) =
    and_then (order_item keyword name) (λ item. with_items (had ++ (item ∷ [])) more)

-- an order, which begins with a class
abbrev pub order_meaning : List PlacedPiece → Said → Line Said
order_meaning [] said = Err (own kind.WrongOperands)
order_meaning (first ∷ more) said =
    if is_word first.piece (codes "clname")
    then and_then (with_items [] (first ∷ more)) (λ items. Ok (record said { order = Listed items }))
    else Err (wrong first)

-- `reference A[,B..]`: these names are wanted
abbrev pub reference_meaning : List PlacedPiece → Said → Line Said
reference_meaning operands said =
    and_then (with_list [] operands) (λ names.
    if list_all is_name names then Ok (record said { references = said.references ++ names })
    else Err (own kind.WrongOperands))

-- the name that a token is, which a module can have
abbrev pub short_name : PlacedPiece → Line Text
short_name token = and_then (name_of token) (λ name. if is_name name then Ok name else Err (wrong token))

-- `A=B`: the name A means B
abbrev pub alias_named : (name value : PlacedPiece) → Line (Text × Text)
alias_named name value = and_then (short_name name) (λ a. and_then (short_name value) (λ b. Ok (a, b)))

abbrev pub alias_of : List PlacedPiece → Line (Text × Text)
alias_of (name ∷ mark ∷ value ∷ []) = if is_equals mark.piece then alias_named name value else Err (wrong mark)
alias_of _ = Err (own kind.WrongOperands)

-- `A=B[,C=D..]`: these aliases and those that are said, one in each part
abbrev pub with_aliases : (had : List (Text × Text)) → List (List PlacedPiece) → Line (List (Text × Text))
with_aliases had [] = Ok had
with_aliases had (part ∷ more) = and_then (alias_of part) (λ alias. with_aliases (had ++ (alias ∷ [])) more)

-- the folders that `;` parts
abbrev pub folders_in : Text → List Text
folders_in text = slice_split (λ byte. byte == 59) text

-- `path A[;B..]`: modules are looked up in these folders too
abbrev pub path_meaning : List PlacedPiece → Said → Line Said
path_meaning operands said = and_then (one_name operands) (λ name.
    Ok (record said { object_folders = said.object_folders ++ folders_in name }))

-- what a directive means
abbrev pub directive_meaning : (line : ℕ) → Directive → List PlacedPiece → Said → Line Said
directive_meaning line directive.File operands said =
    and_then (with_list [] operands) (λ names. Ok (record said { inputs = said.inputs ++ map File names }))
directive_meaning line directive.Library operands said =
    and_then (with_list [] operands) (λ names. Ok (record said { inputs = said.inputs ++ map Library names }))
directive_meaning line directive.Folder operands said =
    and_then (with_list [] operands) (λ names.
    Ok (record said { folders = said.folders ++ flat_map folders_in names }))
directive_meaning line directive.Name operands said =
    and_then (one_name operands) (λ name. Ok (record said { out = Some name }))
directive_meaning line directive.Format operands said = form_meaning (format_meaning operands) said
directive_meaning line directive.System operands said = form_meaning (system_meaning operands) said
directive_meaning line directive.Output operands said = form_meaning (output_meaning operands) said
directive_meaning line directive.Option operands said = with_options line (parts operands) said
directive_meaning line directive.Order operands said = order_meaning operands said
directive_meaning line directive.Debug operands said = Ok said
directive_meaning line directive.Sort operands said = warned line warning.Sort said
directive_meaning line directive.Disable operands said = warned line warning.Disable said
directive_meaning line directive.Reference operands said = reference_meaning operands said
directive_meaning line directive.Alias operands said =
    and_then (with_aliases said.aliases (parts operands)) (λ aliases. Ok (record said { aliases = aliases }))
directive_meaning line directive.Path operands said = path_meaning operands said

-- the directive that a token names
abbrev pub directive_of : Piece → Line Directive
directive_of (Word text) = option_map_or Ok (directive_named text) (Err (own kind.UnknownDirective))
directive_of _ = Err (own kind.UnknownDirective)

-- how many of the tokens behind a directive's word are its operands
abbrev pub count_of : Directive → List PlacedPiece → ℕ
count_of d behind = operand_count d (map (λ t. t.piece) behind)

-- how many operands a directive's word has behind it, and what it means with them
abbrev pub first_meaning : PlacedPiece → List PlacedPiece → Said → Line (ℕ × Said)
first_meaning first behind said =
    and_then (directive_of first.piece) (λ d.
    and_then (directive_meaning first.line d (take (count_of d behind) behind) said)
    (λ after. Ok (count_of d behind, after)))

-- a word that is wrong, at its place
abbrev pub faulty_word : PlacedPiece → DirectiveFaultKind → FaultyLine
faulty_word token what = record { line = token.line; text = text_of token.piece; kind = what }

-- what is wrong with a directive is so with its own word, where no other is
abbrev pub at_place : {A : Type 0} → PlacedPiece → Line A → Result A FaultyLine
at_place token (Ok value) = Ok value
at_place token (Err what) = Err (faulty_word (unwrap_or what.word token) what.kind)

-- what tokens mean behind what is said, of which so many are operands of the directive before them
abbrev pub tokens_meaning : (operands : ℕ) → List PlacedPiece → Said → Result Said FaultyLine
tokens_meaning operands [] said = Ok said
tokens_meaning (suc operands) (token ∷ more) said = tokens_meaning operands more said
tokens_meaning zero (token ∷ more) said =
    and_then (at_place token (first_meaning token more said))
    (λ next. tokens_meaning next.0 more next.1)

-- what a text of directives means
unfoldable pub meaning : Text → Result Said FaultyLine
meaning text = and_then (with_lines 0 (lines text) []) (λ tokens. tokens_meaning 0 tokens nothing)

-- an answer is what a text means, or want of memory
abbrev pub Means : Result Directives DirectiveFault → Result Said FaultyLine → Type 0
Means (Ok directives) said = said ≡ Ok (said_of directives)
Means (Err directive_fault.Memory) said = ⊤
Means (Err (directive_fault.Line line text what)) said =
    said ≡ Err (record { line = line; text = text.now; kind = what })
