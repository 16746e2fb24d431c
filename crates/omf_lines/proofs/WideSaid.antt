-- The lines of a record with offsets of four bytes are those of 16 bits that its body says.
use Rattle.std.proofs.Common.{◌≡◌, ℕ, zero, suc, ◌+◌, ◌*◌, ◌/◌, ◌%◌, ◌≤◌, Bool, true, false, cond, List, [], ◌∷◌, ◌++◌}
use Rattle.std.proofs.Common.{length, filter, map, refl, ap, ap₂, ◌∙◌, arith, eqb, Some}
use Rattle.std.specs.Prelude.{nat_lt}
use Rattle.std.specs.Option.{option_map_or}
use Rattle.omf_frame.specs.Frame.{Frame}
use Rattle.omf_frame.specs.Primitives.{word}
use Rattle.omf_library.specs.Entries.{entries, entries_up_to}
use Rattle.omf_codec.specs.Language.{Little, Word, each, little, ◌⋆◌}
use Rattle.omf_record.specs.Record.{Linnum}
use Rattle.omf_record.specs.declared.externals.Line as says
use Rattle.omf_wide.specs.Body.{RecordAt}
use Rattle.omf_lines.specs.Lines.{is_in_16_bits, line_of, lines_behind, lines_in, lines_of_body, pair_front, wide_pairs}
use Rattle.omf_lines.specs.Lines.{wide_pair_front}
use Rattle.omf_lines.proofs.Said.{index-front, map-map, word-is}

-- what each line is in a body
abbrev WideText : says.Line → List ℕ → Type 0
WideText line = Word line.number ⋆ Little 4 line.offset

abbrev pair_of : says.Line → ℕ × ℕ
pair_of line = (line.number, line.offset)

little-is : (n : ℕ) → n % 256 + 256 * (n / 256 % 256) + 65536 * (n / 256 / 256 % 256 + 256 * (n / 256 / 256 / 256)) ≡ n
little-is n = omega arith

-- the six bytes of a line
wide-bytes : (bytes front rest : List ℕ) (line : says.Line) → bytes ≡ front ++ rest → WideText line front
    → bytes ≡ (word line.number ++ little 4 line.offset) ++ rest
wide-bytes bytes front rest line parts is =
    parts ∙ ap (λ l. l ++ rest) (is.parts ∙ ap₂ (λ a b. a ++ b) (is.first.1) (is.second.1))

wide-front : (bytes front rest : List ℕ) (line : says.Line) → bytes ≡ front ++ rest → WideText line front
    → wide_pair_front bytes ≡ Some (pair_of line, rest)
wide-front bytes front rest line parts is =
    ap wide_pair_front (wide-bytes bytes front rest line parts is)
    ∙ ap₂ (λ a b. Some ((a, b), rest)) (word-is line.number) (little-is line.offset)

wide-said : (most : ℕ) (lines : List says.Line) (bytes : List ℕ) → each WideText lines bytes → length lines ≤ most
    → entries_up_to most wide_pair_front bytes ≡ map pair_of lines
wide-said zero [] bytes is enough = refl
wide-said (suc most) [] bytes is enough = ap (entries_up_to (suc most) wide_pair_front) is
wide-said zero (line ∷ lines) bytes is enough = absurd (omega arith)
wide-said (suc most) (line ∷ lines) bytes is enough =
    ap (λ o. option_map_or (λ (x, rest). x ∷ entries_up_to most wide_pair_front rest) o [])
    (wide-front bytes is.front is.rest line is.parts is.first)
    ∙ ap (λ l. pair_of line ∷ l) (wide-said most lines is.rest is.second (omega arith))

-- each line has a byte at least
wide-long : (lines : List says.Line) (bytes : List ℕ) → each WideText lines bytes → length lines ≤ length bytes
wide-long [] bytes is = omega arith
wide-long (line ∷ lines) bytes is =
    let whole = ap length (wide-bytes bytes is.front is.rest line is.parts is.first) in
    let more = wide-long lines is.rest is.second in
    omega (arith, whole, more)

all-wide : (lines : List says.Line) (bytes : List ℕ) → each WideText lines bytes
    → entries wide_pair_front bytes ≡ map pair_of lines
unfolding entries
all-wide lines bytes is = wide-said (length bytes) lines bytes is (wide-long lines bytes is)

-- those of 16 bits, before and behind
kept-by : (line : says.Line) (lines : List says.Line) (kept : Bool)
    → cond kept (pair_of line ∷ map pair_of lines) (map pair_of lines) ≡ map pair_of (cond kept (line ∷ lines) lines)
kept-by line lines true = refl
kept-by line lines false = refl

kept : (lines : List says.Line)
    → filter is_in_16_bits (map pair_of lines) ≡ map pair_of (filter (λ line. nat_lt line.offset 65536) lines)
kept [] = refl
kept (line ∷ lines) =
    ap (λ l. cond (nat_lt line.offset 65536) (pair_of line ∷ l) l) (kept lines)
    ∙ kept-by line (filter (λ line. nat_lt line.offset 65536) lines) (nat_lt line.offset 65536)

pub wide_lines_said : (f : Frame) (group segment : ℕ) (lines : List says.Line) → f.kind ≡ 0x95
    → RecordAt 4 (Linnum group segment lines) f.body
    → lines_in f ≡ map (λ line. line_of group segment (line.number, line.offset))
    (filter (λ line. nat_lt line.offset 65536) lines)
unfolding lines_in
wide_lines_said f group segment lines kind is =
    let rest = is.second in
    ap (λ k. cond (eqb k 0x94) (lines_of_body (entries pair_front) f.body)
    (cond (eqb k 0x95) (lines_of_body wide_pairs f.body) [])) kind
    ∙ ap (λ o. option_map_or (lines_behind wide_pairs) o [])
    (index-front f.body is.front is.rest group is.parts is.first)
    ∙ ap (λ o. option_map_or (λ (p : ℕ × List ℕ). map (line_of group p.0) (wide_pairs p.1)) o [])
    (index-front is.rest rest.front rest.rest segment rest.parts rest.first)
    ∙ ap (λ l. map (line_of group segment) (filter is_in_16_bits l)) (all-wide lines rest.rest rest.second)
    ∙ ap (map (line_of group segment)) (kept lines)
    ∙ map-map (line_of group segment) pair_of (filter (λ line. nat_lt line.offset 65536) lines)
