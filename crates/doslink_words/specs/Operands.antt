-- Which of the tokens behind a directive's word are its operands.
use Rattle.std.specs.Prelude.{ℕ, ◌+◌, ◌-◌, ◌==◌, ◌||◌, Bool, true, false, List, [], ◌∷◌, codes, Some, None}
use Rattle.std.specs.Prelude.{Option, if◌then◌else◌}
use Rattle.std.specs.List.{position_or_len}
use Rattle.std.specs.Option.{option_map_or}
use Rattle.clap.specs.Words.{Text}
use Rattle.doslink_words.specs.declared.keywords.Directive.{Directive}
use Rattle.doslink_words.specs.declared.keywords.Directive.TheVariants as directive
use Rattle.doslink_words.specs.Keywords.{is_keyword, is_debug_word, is_sort_word}
use Rattle.doslink_words.specs.Tokens.{Piece, Word, Comma, Equals, Open, Close}

-- whether a token is a brace that begins a list, and one that ends it
abbrev pub is_open : Piece → Bool
is_open Open = true
is_open _ = false

abbrev pub is_close : Piece → Bool
is_close Close = true
is_close _ = false

-- how many tokens a list begins with: one, or all between braces with these
abbrev pub list_count : List Piece → ℕ
list_count [] = 0
list_count (first ∷ more) = if is_open first then 2 + position_or_len is_close more else 1

-- how many tokens the operands of a directive begin with, as far as there are so many
abbrev pub first_count : Directive → List Piece → ℕ
first_count directive.File tokens = list_count tokens
first_count directive.Library tokens = list_count tokens
first_count directive.Folder tokens = list_count tokens
first_count directive.Reference tokens = list_count tokens
first_count directive.Order tokens = 0
first_count directive.Debug tokens = 0
first_count directive.Sort tokens = 0
first_count _ tokens = 1

-- a number for a word that is one, and none for another
abbrev pub for_word : (is_one : Bool) → ℕ → Option ℕ
for_word is_one count = if is_one then Some count else None

-- how many operands stand behind a word that goes on with the operands of a directive
abbrev pub own_word : Directive → Text → Option ℕ
own_word directive.Format word = for_word (is_keyword word (codes "exe") || is_keyword word (codes "com")) 0
own_word directive.System word = for_word (is_keyword word (codes "exe") || is_keyword word (codes "com")) 0
own_word directive.Output word = for_word (is_keyword word (codes "offset")) 0
own_word directive.Order word = for_word (is_keyword word (codes "clname") || is_keyword word (codes "segment")) 1
own_word directive.Debug word = for_word (is_debug_word word) 0
own_word directive.Sort word = for_word (is_sort_word word) 0
own_word _ word = None

-- how many operands stand behind a token that goes on with them: one behind a comma and behind an equals sign
abbrev pub goes_on : Directive → Piece → Option ℕ
goes_on d (Word text) = own_word d text
goes_on d Comma = Some 1
goes_on d Equals = Some 1
goes_on d _ = None

-- how many operands are sure behind a token where so many were sure from it on; none where it is no operand
abbrev pub sure_behind : Directive → (sure : ℕ) → Piece → Option ℕ
sure_behind d sure token = if sure == 0 then goes_on d token else Some (sure - 1)

-- how many of these tokens are operands of a directive, where so many are for sure
abbrev pub operands_from : Directive → (sure : ℕ) → List Piece → ℕ
operands_from d sure [] = 0
operands_from d sure (token ∷ more) =
    option_map_or (λ behind. 1 + operands_from d behind more) (sure_behind d sure token) 0

-- how many of the tokens behind a directive's word are its operands
abbrev pub operand_count : Directive → List Piece → ℕ
operand_count d tokens = operands_from d (first_count d tokens) tokens
