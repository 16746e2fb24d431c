-- The lines of a record are those that its body says.
use Rattle.std.proofs.Common.{◌≡◌, ℕ, zero, suc, ◌+◌, ◌*◌, ◌/◌, ◌%◌, ◌≤◌, cond, List, [], ◌∷◌, ◌++◌, length, take}
use Rattle.std.proofs.Common.{drop, map, refl, sym, ap, ap₂, ◌∙◌, subst, arith, length-append, eq-eqb, eqb}
use Rattle.std.proofs.Common.{Some}
use Rattle.std.specs.Option.{option_map_or}
use Rattle.omf_frame.specs.Frame.{Frame}
use Rattle.omf_frame.specs.Primitives.{Index, word}
use Rattle.omf_library.specs.Entries.{entries, entries_up_to}
use Rattle.omf_library.specs.Fields.{index_front}
use Rattle.omf_library.proofs.Fronts.{index_front-some}
use Rattle.omf_record.specs.Body.{Body}
use Rattle.omf_record.specs.Language.{Word, each, ◌⋆◌}
use Rattle.omf_record.specs.Record.{Linnum}
use Rattle.omf_record.specs.declared.externals.Line as says
use Rattle.omf_lines.specs.Lines.{line_of, lines_behind, lines_in, lines_of_body, pair_front, wide_pairs}

take-front : (a rest : List ℕ) → take (length a) (a ++ rest) ≡ a
take-front [] rest = refl
take-front (x ∷ a) rest = ap (λ l. x ∷ l) (take-front a rest)

drop-front : (a rest : List ℕ) → drop (length a) (a ++ rest) ≡ rest
drop-front [] rest = refl
drop-front (x ∷ a) rest = drop-front a rest

-- an index that bytes begin with
pub index-front : (bytes a rest : List ℕ) (value : ℕ) → bytes ≡ a ++ rest → Index value a
    → index_front bytes ≡ Some (value, rest)
index-front bytes a rest value parts is =
    ap index_front parts
    ∙ index_front-some (a ++ rest) value (length a) (omega (arith, length-append a rest))
    (subst (Index value) (sym (take-front a rest)) is)
    ∙ ap (λ l. Some (value, l)) (drop-front a rest)

-- what each line is in a body
abbrev LineText : says.Line → List ℕ → Type 0
LineText line = Word line.number ⋆ Word line.offset

abbrev pair_of : says.Line → ℕ × ℕ
pair_of line = (line.number, line.offset)

pub word-is : (n : ℕ) → n % 256 + 256 * (n / 256) ≡ n
word-is n = omega arith

-- the four bytes of a line
line-bytes : (bytes front rest : List ℕ) (line : says.Line) → bytes ≡ front ++ rest → LineText line front
    → bytes ≡ (word line.number ++ word line.offset) ++ rest
line-bytes bytes front rest line parts is =
    parts ∙ ap (λ l. l ++ rest) (is.parts ∙ ap₂ (λ a b. a ++ b) (is.first.1) (is.second.1))

pair-front : (bytes front rest : List ℕ) (line : says.Line) → bytes ≡ front ++ rest → LineText line front
    → pair_front bytes ≡ Some (pair_of line, rest)
pair-front bytes front rest line parts is =
    ap pair_front (line-bytes bytes front rest line parts is)
    ∙ ap₂ (λ a b. Some ((a, b), rest)) (word-is line.number) (word-is line.offset)

pairs-said : (most : ℕ) (lines : List says.Line) (bytes : List ℕ) → each LineText lines bytes → length lines ≤ most
    → entries_up_to most pair_front bytes ≡ map pair_of lines
pairs-said zero [] bytes is enough = refl
pairs-said (suc most) [] bytes is enough = ap (entries_up_to (suc most) pair_front) is
pairs-said zero (line ∷ lines) bytes is enough = absurd (omega arith)
pairs-said (suc most) (line ∷ lines) bytes is enough =
    ap (λ o. option_map_or (λ (x, rest). x ∷ entries_up_to most pair_front rest) o [])
    (pair-front bytes is.front is.rest line is.parts is.first)
    ∙ ap (λ l. pair_of line ∷ l) (pairs-said most lines is.rest is.second (omega arith))

-- each line has a byte at least
lines-long : (lines : List says.Line) (bytes : List ℕ) → each LineText lines bytes → length lines ≤ length bytes
lines-long [] bytes is = omega arith
lines-long (line ∷ lines) bytes is =
    let whole = ap length (line-bytes bytes is.front is.rest line is.parts is.first) in
    let more = lines-long lines is.rest is.second in
    omega (arith, whole, more)

all-said : (lines : List says.Line) (bytes : List ℕ) → each LineText lines bytes
    → entries pair_front bytes ≡ map pair_of lines
unfolding entries
all-said lines bytes is = pairs-said (length bytes) lines bytes is (lines-long lines bytes is)

pub map-map : {X Y Z : Type 0} (f : Y → Z) (g : X → Y) (xs : List X) → map f (map g xs) ≡ map (λ x. f (g x)) xs
map-map f g [] = refl
map-map f g (x ∷ xs) = ap (λ l. f (g x) ∷ l) (map-map f g xs)

pub lines_said : (f : Frame) (group segment : ℕ) (lines : List says.Line) → f.kind ≡ 0x94
    → Body (Linnum group segment lines) f.body
    → lines_in f ≡ map (λ line. line_of group segment (line.number, line.offset)) lines
unfolding Body lines_in
lines_said f group segment lines kind is =
    let rest = is.second in
    ap (λ t. cond t (lines_of_body (entries pair_front) f.body) (cond (eqb f.kind 0x95)
    (lines_of_body wide_pairs f.body) [])) (eq-eqb f.kind 0x94 kind)
    ∙ ap (λ o. option_map_or (lines_behind (entries pair_front)) o [])
    (index-front f.body is.front is.rest group is.parts is.first)
    ∙ ap (λ o. option_map_or (λ (p : ℕ × List ℕ). map (line_of group p.0) (entries pair_front p.1)) o [])
    (index-front is.rest rest.front rest.rest segment rest.parts rest.first)
    ∙ ap (map (line_of group segment)) (all-said lines rest.rest rest.second)
    ∙ map-map (line_of group segment) pair_of lines
