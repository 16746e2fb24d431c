-- What holds of the loops over options and tokens.
use Rattle.std.proofs.Common.{◌≡◌, ◌∙◌, ◌+◌, ◌<◌, ◌≤◌, ℕ, Bool, true, false, cond, List, [], ◌∷◌, ◌++◌}
use Rattle.std.proofs.Common.{length, drop, get_or, Option, Some, None, Result, Ok, Err, ap, subst, sym}
use Rattle.std.specs.Borrow.{Bor}
use Rattle.std.specs.Option.{option_map_or}
use Rattle.std.proofs.lemmas.List.{at_drop_all, at_drop_more, get_or-map}
use Rattle.clap.specs.Words.{Text}
use Rattle.doslink_words.specs.Directives.{and_then}
use Rattle.doslink_words.specs.Tokens.{texts}
use Rattle.makefile_words.specs.Lines.{SaidLine, WrongWord, front_meaning, has_object, if_said, nothing_said, on_token}
use Rattle.makefile_words.specs.Lines.{option_meaning, part_meaning, rest_meaning, tokens_meaning, with_object}
use Rattle.makefile_words.specs.Lines.{folder_name, with_folders, with_options}
use Rattle.makefile_words.specs.Jobs.{IsJobOf, Means}
use Rattle.makefile_words.specs.Tokens.{PlacedPiece, text_of, tokens, tokens_ending}
use Rattle.makefile_words.specs.inside.Follows.{Follows}
use Rattle.makefile_words.specs.inside.Lines.{IsFaultAt, Says}
use Rattle.makefile_words.specs.inside.Tokens.{pieces, placed_of}
use Rattle.makefile_words.specs.declared.faults.FaultKind.{FaultKind}
use Rattle.makefile_words.specs.declared.faults.FaultKind.TheVariants.{NoObject, PartlyQuoted}
use Rattle.makefile_words.specs.declared.faults.LineFault.{LineFault}
use Rattle.makefile_words.specs.declared.faults.LineFault.TheVariants as line_fault
use Rattle.makefile_words.specs.declared.job.MakefileJob.{MakefileJob}
use Rattle.makefile_words.specs.declared.line.Line.{Line}
use Rattle.makefile_words.specs.declared.line.Part.{Part}
use Rattle.makefile_words.specs.declared.line.Part.TheVariants.{Front, Behind}
use Rattle.makefile_words.specs.declared.faults.WordFault.{WordFault}
use Rattle.makefile_words.specs.declared.faults.WordFault.TheVariants.{Memory, Wrong}
use Rattle.makefile_words.specs.declared.tokens.Language.{Language}
use Rattle.makefile_words.specs.declared.tokens.Placed.{Placed}

-- what is at fault is so with all that would have followed
pub then_fault : {A B : Type 0} (meant : Result A FaultKind) (next : A → Result B FaultKind) (after : A)
    (last : B) (r : Result Unit WordFault) (f : WordFault) (whole : Result B FaultKind)
    → Follows (Err f) meant after → r ≡ Err f → whole ≡ and_then meant next → Follows r whole last
then_fault meant next after last r Memory whole follows e same = rw e tt
then_fault meant next after last r (Wrong kind) whole follows e same = rw e (same ∙ ap (λ m. and_then m next) follows)

-- ---- options

options_step : (place : ℕ) (language : Language) (said : SaidLine) (all : List Text) (i : ℕ) (text : Text)
    → i < length all → get_or all i text ≡ text
    → with_options place language (drop i all) said
    ≡ and_then (option_meaning place language text said) (with_options place language (drop (i + 1) all))
options_step place language said all i text inside here =
    at_drop_more (λ (ls : List Text). with_options place language ls said) all i text inside
    ∙ ap (λ (t : Text). with_options place language (t ∷ drop (i + 1) all) said) here

pub options_more : (place : ℕ) (language : Language) (said next : SaidLine) (all : List Text) (i : ℕ) (text : Text)
    → i < length all → get_or all i text ≡ text → option_meaning place language text said ≡ Ok next
    → with_options place language (drop i all) said ≡ with_options place language (drop (i + 1) all) next
options_more place language said next all i text inside here means =
    options_step place language said all i text inside here
    ∙ ap (λ (r : Result SaidLine FaultKind). and_then r (with_options place language (drop (i + 1) all))) means

pub options_fault : (place : ℕ) (language : Language) (said after last : SaidLine) (all : List Text) (i : ℕ)
    (text : Text) (r : Result Unit WordFault) (f : WordFault) (whole : Result SaidLine FaultKind)
    → i < length all → get_or all i text ≡ text
    → Follows (Err f) (option_meaning place language text said) after → r ≡ Err f
    → whole ≡ with_options place language (drop i all) said → Follows r whole last
options_fault place language said after last all i text r f whole inside here follows e same =
    then_fault (option_meaning place language text said) (with_options place language (drop (i + 1) all)) after last r
    f whole follows e (same ∙ options_step place language said all i text inside here)

pub options_end : (place : ℕ) (language : Language) (said : SaidLine) (all : List Text) (i : ℕ) → length all ≤ i
    → with_options place language (drop i all) said ≡ Ok said
options_end place language said all i done =
    at_drop_all (λ (ls : List Text). with_options place language ls said) all i done

-- ---- folders

folders_step : (had all : List Text) (i : ℕ) (text : Text) → i < length all → get_or all i text ≡ text
    → with_folders had (drop i all)
    ≡ option_map_or (λ name. with_folders (had ++ (name ∷ [])) (drop (i + 1) all)) (folder_name text) (Err PartlyQuoted)
folders_step had all i text inside here =
    at_drop_more (λ (ls : List Text). with_folders had ls) all i text inside
    ∙ ap (λ (t : Text). with_folders had (t ∷ drop (i + 1) all)) here

pub folders_more : (had all : List Text) (i : ℕ) (text name : Text) (next : List Text) → i < length all
    → get_or all i text ≡ text → Some name ≡ folder_name text → next ≡ had ++ (name ∷ [])
    → with_folders had (drop i all) ≡ with_folders next (drop (i + 1) all)
folders_more had all i text name next inside here named put =
    folders_step had all i text inside here
    ∙ (ap (λ (o : Option Text).
    option_map_or (λ n. with_folders (had ++ (n ∷ [])) (drop (i + 1) all)) o (Err PartlyQuoted)) (sym named)
    ∙ ap (λ (h : List Text). with_folders h (drop (i + 1) all)) (sym put))

pub folders_wrong : (had all : List Text) (i : ℕ) (text : Text) → i < length all → get_or all i text ≡ text
    → None ≡ folder_name text → with_folders had (drop i all) ≡ Err PartlyQuoted
folders_wrong had all i text inside here named =
    folders_step had all i text inside here
    ∙ ap (λ (o : Option Text).
    option_map_or (λ n. with_folders (had ++ (n ∷ [])) (drop (i + 1) all)) o (Err PartlyQuoted)) (sym named)

-- ---- tokens

tokens_step : (part : Part) (language : Language) (said : SaidLine) (all : List PlacedPiece) (i : ℕ)
    (token : PlacedPiece) → i < length all → get_or all i token ≡ token
    → tokens_meaning part language (drop i all) said
    ≡ on_token token (part_meaning part language token said) (tokens_meaning part language (drop (i + 1) all))
tokens_step part language said all i token inside here =
    at_drop_more (λ (ts : List PlacedPiece). tokens_meaning part language ts said) all i token inside
    ∙ ap (λ (t : PlacedPiece). tokens_meaning part language (t ∷ drop (i + 1) all) said) here

pub tokens_more : (part : Part) (language : Language) (said next : SaidLine) (all : List PlacedPiece) (i : ℕ)
    (token : PlacedPiece) → i < length all → get_or all i token ≡ token
    → part_meaning part language token said ≡ Ok next
    → tokens_meaning part language (drop i all) said ≡ tokens_meaning part language (drop (i + 1) all) next
tokens_more part language said next all i token inside here means =
    tokens_step part language said all i token inside here
    ∙ ap (λ (r : Result SaidLine FaultKind). on_token token r (tokens_meaning part language (drop (i + 1) all))) means

tokens_wrong : (part : Part) (language : Language) (said : SaidLine) (all : List PlacedPiece) (i : ℕ)
    (token : PlacedPiece) (kind : FaultKind) → i < length all → get_or all i token ≡ token
    → part_meaning part language token said ≡ Err kind
    → tokens_meaning part language (drop i all) said
    ≡ Err (record { place = token.place; word = text_of token.piece; kind = kind })
tokens_wrong part language said all i token kind inside here means =
    tokens_step part language said all i token inside here
    ∙ ap (λ (r : Result SaidLine FaultKind). on_token token r (tokens_meaning part language (drop (i + 1) all))) means

pub tokens_stop : (part : Part) (language : Language) (said after : SaidLine) (all : List PlacedPiece) (i : ℕ)
    (token : PlacedPiece) (f : WordFault) (fault : LineFault) (whole : Result SaidLine WrongWord) → i < length all
    → get_or all i token ≡ token → Follows (Err f) (part_meaning part language token said) after
    → IsFaultAt token f fault → whole ≡ tokens_meaning part language (drop i all) said → Says (Err fault) whole
tokens_stop part language said after all i token Memory fault whole inside here follows fits is = rw fits tt
tokens_stop part language said after all i token (Wrong kind) fault whole inside here follows fits is =
    let P : Result SaidLine WrongWord → Type 0 = λ w. Says (Err fault) w in
    subst P (sym (is ∙ tokens_wrong part language said all i token kind inside here follows)) fits

pub tokens_end : (part : Part) (language : Language) (said : SaidLine) (all : List PlacedPiece) (i : ℕ)
    → length all ≤ i → tokens_meaning part language (drop i all) said ≡ Ok said
tokens_end part language said all i done =
    at_drop_all (λ (ts : List PlacedPiece). tokens_meaning part language ts said) all i done

-- a token and an option that are read at their places
pub token_here : (ts : List Placed) (i : ℕ) (d : Placed) → i < length ts
    → get_or (pieces ts) i (placed_of (get_or ts i d)) ≡ placed_of (get_or ts i d)
token_here ts i d inside = get_or-map placed_of ts i d (placed_of (get_or ts i d)) inside

pub text_here : (ls : List (Bor Text)) (i : ℕ) (d : Bor Text) → i < length ls
    → get_or (texts ls) i (get_or ls i d).now ≡ (get_or ls i d).now
text_here ls i d inside = get_or-map (λ s. s.now) ls i d ((get_or ls i d).now) inside

-- ---- the line

-- a fault of what is said first is one of the whole
pub said_fault : (meant : Result SaidLine WrongWord) (next : SaidLine → Result SaidLine WrongWord) (f : LineFault)
    (r : Result Line LineFault) → r ≡ Err f → Says (Err f) meant → Says r (if_said meant next)
said_fault meant next line_fault.Memory r is says = rw is tt
said_fault meant next (line_fault.Word place word kind) r is says = rw is (ap (λ m. if_said m next) says)

-- what is said behind what is said first is the whole
pub said_next : (meant : Result SaidLine WrongWord) (next : SaidLine → Result SaidLine WrongWord) (said : SaidLine)
    (r : Result Line LineFault) → meant ≡ Ok said → Says r (next said) → Says r (if_said meant next)
said_next meant next said r is says = subst (λ m. Says r (if_said m next)) (sym is) says

-- what the tokens of a front say
pub front_is : (language : Language) (front : Text) (ts : List PlacedPiece) (said : SaidLine)
    (r : Result Line LineFault) → ts ≡ tokens language front → said ≡ nothing_said language
    → Says r (tokens_meaning Front language ts said) → Says r (front_meaning language front)
unfolding front_meaning
front_is language front ts said r same none says =
    subst (λ s. Says r (tokens_meaning Front language (tokens language front) s)) none
    (subst (λ t. Says r (tokens_meaning Front language t said)) same says)

pub rest_fault : (language : Language) (total : ℕ) (text : Text) (said : SaidLine) (ts : List PlacedPiece)
    (f : LineFault) (r : Result Line LineFault) → r ≡ Err f → ts ≡ tokens_ending language total text
    → Says (Err f) (tokens_meaning Behind language ts said) → Says r (rest_meaning language total text said)
unfolding rest_meaning
rest_fault language total text said ts f r is same says =
    said_fault (tokens_meaning Behind language (tokens_ending language total text) said) (with_object total) f r is
    (subst (λ t. Says (Err f) (tokens_meaning Behind language t said)) same says)

rest_with : (language : Language) (total : ℕ) (text : Text) (said next : SaidLine) (ts : List PlacedPiece)
    → ts ≡ tokens_ending language total text → tokens_meaning Behind language ts said ≡ Ok next
    → rest_meaning language total text said ≡ with_object total next
unfolding rest_meaning
rest_with language total text said next ts same means =
    ap (λ (t : List PlacedPiece). if_said (tokens_meaning Behind language t said) (with_object total)) (sym same)
    ∙ ap (λ (m : Result SaidLine WrongWord). if_said m (with_object total)) means

pub rest_ok : (language : Language) (total : ℕ) (text : Text) (said next : SaidLine) (ts : List PlacedPiece)
    → ts ≡ tokens_ending language total text → tokens_meaning Behind language ts said ≡ Ok next
    → has_object next.inputs ≡ true → rest_meaning language total text said ≡ Ok next
rest_ok language total text said next ts same means some =
    rest_with language total text said next ts same means
    ∙ ap (λ (b : Bool). cond b (Ok next) (Err (record { place = total; word = []; kind = NoObject }))) some

pub rest_none : (language : Language) (total : ℕ) (text : Text) (said next : SaidLine) (ts : List PlacedPiece)
    → ts ≡ tokens_ending language total text → tokens_meaning Behind language ts said ≡ Ok next
    → has_object next.inputs ≡ false
    → rest_meaning language total text said ≡ Err (record { place = total; word = []; kind = NoObject })
rest_none language total text said next ts same means none =
    rest_with language total text said next ts same means
    ∙ ap (λ (b : Bool). cond b (Ok next) (Err (record { place = total; word = []; kind = NoObject }))) none

pub means_fault : (language : Language) (meant : Result SaidLine WrongWord) (f : LineFault)
    (r : Result MakefileJob LineFault) → r ≡ Err f → Says (Err f) meant → Means language r meant
means_fault language meant line_fault.Memory r is says = rw is tt
means_fault language meant (line_fault.Word place word kind) r is says = rw is says

pub means_ok : (language : Language) (meant : Result SaidLine WrongWord) (said : SaidLine) (made : MakefileJob)
    → meant ≡ Ok said → IsJobOf language said made → Means language (Ok made) meant
means_ok language meant said made is job = rw is job
