-- What holds of loops over the parts of a directive.
use Rattle.std.proofs.Common.{◌≡◌, ℕ, zero, suc, ◌+◌, ◌<◌, ◌≤◌, Bool, true, false, List, [], ◌∷◌, ◌++◌, length, drop, get_or}
use Rattle.std.proofs.Common.{Option, None, Result, Ok, Err, refl, sym, ap, ◌∙◌, ◌-◌, arith, inl, inr, length-drop}
use Rattle.std.proofs.Common.{not, map, Some, take}
use Rattle.std.specs.List.{drop-map, position_or_len, take-map}
use Rattle.std.specs.Borrow.{Bor}
use Rattle.std.proofs.lemmas.Bool.{cases_lt, not-true}
use Rattle.std.proofs.lemmas.List.{at_drop_more, drop-drop, get_or-map, length-map, take_all}
use Rattle.std.proofs.lemmas.List.Splits.{slice_split_first, slice_split_none}
use Rattle.std.proofs.lemmas.List.Sums.{prefix_len-drop_no, prefix_len-drop_yes}
use Rattle.std.proofs.lemmas.List.Sums.{prefix_len-le-length, prefix_len_passes}
use Rattle.std.specs.Str.Lines.{lines}
use Rattle.clap.specs.Words.{Text}
use Rattle.doslink_words.specs.declared.faults.DirectiveFault.{DirectiveFault}
use Rattle.doslink_words.specs.declared.faults.DirectiveFaultKind.TheVariants.{UnclosedQuote, WrongOperands}
use Rattle.doslink_words.specs.declared.faults.LineFault.{LineFault}
use Rattle.doslink_words.specs.declared.keywords.Directive.{Directive}
use Rattle.doslink_words.specs.declared.faults.LineFault.TheVariants.{Memory, Wrong}
use Rattle.doslink_words.specs.declared.faults.DirectiveFault.TheVariants as directive_fault
use Rattle.doslink_words.specs.declared.tokens.Placed.{Placed}
use Rattle.doslink_words.specs.Directives.{Mistake, and_then, count_of, is_comma_at, one_name, own, part_meaning, parts}
use Rattle.doslink_words.specs.Directives.{alias_of, at_place, first_meaning, offset_meaning, order_item}
use Rattle.doslink_words.specs.Directives.{with_aliases, with_names, with_options}
use Rattle.doslink_words.specs.Directives.{directive_meaning, directive_of, meaning, tokens_meaning, with_items}
use Rattle.doslink_words.specs.Directives.{Means}
use Rattle.doslink_words.specs.Places.{FaultyLine, PlacedPiece, placed, with_lines}
use Rattle.doslink_words.specs.Said.{Said, SaidItem, nothing}
use Rattle.doslink_words.specs.Tokens.{Comma, texts}
use Rattle.doslink_words.specs.inside.Faults.{IsFault, IsFaultAt, IsFaultOf, Says}
use Rattle.doslink_words.specs.inside.Follows.{Counts, Follows, mistake_of}
use Rattle.doslink_words.specs.inside.Parts.{aliased, line_tokens, lines_meaning, listed, named}
use Rattle.doslink_words.specs.inside.Tokens.{all_placed, operand_of, operands, placed_of}
use Rattle.std.specs.Option.{option_map_or}

-- how many tokens stand before the first comma
abbrev pub part_len : List PlacedPiece → ℕ
part_len = position_or_len is_comma_at

-- one behind the other
and_then_again : {A B C : Type 0} (r : Result A Mistake) (f : A → Result B Mistake)
    (next : B → Result C Mistake) → and_then r (λ a. and_then (f a) next) ≡ and_then (and_then r f) next
and_then_again (Ok a) f next = refl
and_then_again (Err kind) f next = refl

-- what is at fault is so with all that would have followed
then_fault : {A B : Type 0} (meant : Result A Mistake) (next : A → Result B Mistake) (after : A)
    (last : B) (r : Result Unit LineFault) (f : LineFault) (whole : Result B Mistake)
    → Follows (Err f) meant after → r ≡ Err f → whole ≡ and_then meant next → Follows r whole last
then_fault meant next after last r Memory whole follows e same = rw e tt
then_fault meant next after last r (Wrong what) whole follows e same = rw e (same ∙ ap (λ m. and_then m next) follows)

-- a part of operands: where it begins, and where it ends
pub record IsPart (ops : List Placed) (start end : ℕ) : Type 0 where
  pub within : start ≤ length ops
  pub ends : end ≡ start + part_len (drop start (all_placed ops))

-- the tokens of a part, and those from its first one on
abbrev pub part_of : List Placed → (start end : ℕ) → List PlacedPiece
part_of ops start end = all_placed (take (end - start) (drop start ops))

abbrev pub from : List Placed → (start : ℕ) → List PlacedPiece
from ops start = drop start (all_placed ops)

module _ (ops : List Placed) (start end : ℕ) (here : IsPart ops start end) where
  from_len : length (from ops start) ≡ length ops - start
  from_len = length-drop start (all_placed ops) ∙ ap (λ (n : ℕ). n - start) (length-map ops placed_of)

  part_is : part_of ops start end ≡ take (part_len (from ops start)) (from ops start)
  part_is =
      let long : end - start ≡ part_len (from ops start) = omega (arith, here.ends) in
      sym (ap (take (end - start)) (drop-map placed_of start ops) ∙ take-map placed_of (end - start) (drop start ops))
      ∙ ap (λ (n : ℕ). take n (from ops start)) long

  -- what commas separate from a part on, where it is the last, where a comma stands behind it, and in both cases
  parts_none : end ≡ length ops → parts (from ops start) ≡ part_of ops start end ∷ []
  parts_none last =
      let rest = from ops start in
      let whole : part_len rest ≡ length rest = omega (arith, here.ends, here.within, last, from_len) in
      slice_split_none is_comma_at rest
      (λ k d lt. not-true _ (prefix_len_passes (λ p. not (is_comma_at p)) rest k d (omega (arith, whole, lt))))
      ∙ ap (λ (p : List PlacedPiece). p ∷ []) (sym (part_is ∙ take_all (part_len rest) rest (omega (arith, whole))))

  parts_more : end < length ops → parts (from ops start) ≡ part_of ops start end ∷ parts (from ops (end + 1))
  parts_more more =
      let rest = from ops start in
      let inside : part_len rest < length rest = omega (arith, here.ends, here.within, more, from_len) in
      let behind : start + (part_len rest + 1) ≡ end + 1 = omega (arith, here.ends) in
      slice_split_first is_comma_at rest (record { piece = Comma; line = 0 }) inside
      ∙ (ap (λ (p : List PlacedPiece). p ∷ parts (drop (part_len rest + 1) rest)) (sym part_is)
      ∙ ap (λ (ps : List PlacedPiece). part_of ops start end ∷ parts ps)
      (drop-drop (part_len rest + 1) start (all_placed ops) ∙ ap (from ops) behind))

  parts_any : (more : List (List PlacedPiece)) × (parts (from ops start) ≡ part_of ops start end ∷ more)
  parts_any =
      let few = prefix_len-le-length (λ p. not (is_comma_at p)) (from ops start) in
      elim (cases_lt end (length ops)) [
        | inl inside ↦ (parts (from ops (end + 1)), parts_more inside)
        | inr past ↦ ([], parts_none (omega (arith, here.ends, here.within, past, few, from_len)))
      ]

  -- ---- names

  names_step : (had : List Text) (more : List (List PlacedPiece))
      → parts (from ops start) ≡ part_of ops start end ∷ more
      → with_names had (parts (from ops start)) ≡ and_then (named had (part_of ops start end)) (λ h. with_names h more)
  names_step had more are =
      ap (with_names had) are
      ∙ and_then_again (one_name (part_of ops start end)) (λ name. Ok (had ++ (name ∷ []))) (λ h. with_names h more)

  pub names_fault : (had after last : List Text) (r : Result Unit LineFault) (f : LineFault)
      (whole : Result (List Text) Mistake) → Follows (Err f) (named had (part_of ops start end)) after
      → r ≡ Err f → whole ≡ with_names had (parts (from ops start)) → Follows r whole last
  names_fault had after last r f whole follows e same =
      then_fault (named had (part_of ops start end)) (λ h. with_names h parts_any.0) after last r f whole follows e
      (same ∙ names_step had parts_any.0 parts_any.1)

  pub names_more : (had next : List Text) → end < length ops → named had (part_of ops start end) ≡ Ok next
      → with_names had (parts (from ops start)) ≡ with_names next (parts (from ops (end + 1)))
  names_more had next more is =
      names_step had _ (parts_more more)
      ∙ ap (λ (m : Result (List Text) Mistake). and_then m (λ h. with_names h (parts (from ops (end + 1)))))
      is

  pub names_end : (had next : List Text) → end ≡ length ops → named had (part_of ops start end) ≡ Ok next
      → with_names had (parts (from ops start)) ≡ Ok next
  names_end had next last is =
      names_step had [] (parts_none last)
      ∙ ap (λ (m : Result (List Text) Mistake). and_then m (λ h. with_names h [])) is

  -- ---- aliases

  aliases_step : (had : List (Text × Text)) (more : List (List PlacedPiece))
      → parts (from ops start) ≡ part_of ops start end ∷ more
      → with_aliases had (parts (from ops start))
      ≡ and_then (aliased had (part_of ops start end)) (λ h. with_aliases h more)
  aliases_step had more are =
      ap (with_aliases had) are
      ∙ and_then_again (alias_of (part_of ops start end)) (λ alias. Ok (had ++ (alias ∷ [])))
      (λ h. with_aliases h more)

  pub aliases_fault : (had after last : List (Text × Text)) (r : Result Unit LineFault) (f : LineFault)
      (whole : Result (List (Text × Text)) Mistake)
      → Follows (Err f) (aliased had (part_of ops start end)) after
      → r ≡ Err f → whole ≡ with_aliases had (parts (from ops start)) → Follows r whole last
  aliases_fault had after last r f whole follows e same =
      then_fault (aliased had (part_of ops start end)) (λ h. with_aliases h parts_any.0) after last r f whole follows e
      (same ∙ aliases_step had parts_any.0 parts_any.1)

  pub aliases_more : (had next : List (Text × Text)) → end < length ops
      → aliased had (part_of ops start end) ≡ Ok next
      → with_aliases had (parts (from ops start)) ≡ with_aliases next (parts (from ops (end + 1)))
  aliases_more had next more is =
      aliases_step had _ (parts_more more)
      ∙ ap (λ (m : Result (List (Text × Text)) Mistake).
      and_then m (λ h. with_aliases h (parts (from ops (end + 1))))) is

  pub aliases_end : (had next : List (Text × Text)) → end ≡ length ops
      → aliased had (part_of ops start end) ≡ Ok next → with_aliases had (parts (from ops start)) ≡ Ok next
  aliases_end had next last is =
      aliases_step had [] (parts_none last)
      ∙ ap (λ (m : Result (List (Text × Text)) Mistake). and_then m (λ h. with_aliases h [])) is

  -- ---- options

  options_step : (line : ℕ) (said : Said) (more : List (List PlacedPiece))
      → parts (from ops start) ≡ part_of ops start end ∷ more
      → with_options line (parts (from ops start)) said
      ≡ and_then (part_meaning line said (part_of ops start end)) (with_options line more)
  options_step line said more are =
      ap (λ (ps : List (List PlacedPiece)). with_options line ps said) are

  pub options_fault : (line : ℕ) (said after last : Said) (r : Result Unit LineFault) (f : LineFault)
      (whole : Result Said Mistake) → Follows (Err f) (part_meaning line said (part_of ops start end)) after
      → r ≡ Err f → whole ≡ with_options line (parts (from ops start)) said → Follows r whole last
  options_fault line said after last r f whole follows e same =
      then_fault (part_meaning line said (part_of ops start end)) (with_options line parts_any.0) after last r f whole
      follows
      e (same ∙ options_step line said parts_any.0 parts_any.1)

  pub options_more : (line : ℕ) (said next : Said) → end < length ops
      → part_meaning line said (part_of ops start end) ≡ Ok next
      → with_options line (parts (from ops start)) said ≡ with_options line (parts (from ops (end + 1))) next
  options_more line said next more is =
      options_step line said _ (parts_more more)
      ∙ ap (λ (m : Result Said Mistake). and_then m (with_options line (parts (from ops (end + 1))))) is

  pub options_end : (line : ℕ) (said next : Said) → end ≡ length ops
      → part_meaning line said (part_of ops start end) ≡ Ok next
      → with_options line (parts (from ops start)) said ≡ Ok next
  options_end line said next last is =
      options_step line said [] (parts_none last)
      ∙ ap (λ (m : Result Said Mistake). and_then m (with_options line [])) is

-- where a part ends: at a comma, behind a token that is none, and behind the last
module _ (ops : List Placed) (end : ℕ) where
  comma_at : (d : Placed) → end < length ops
      → is_comma_at (get_or (all_placed ops) end (placed_of d)) ≡ is_comma_at (placed_of (get_or ops end d))
  comma_at d inside = ap is_comma_at (get_or-map placed_of ops end d (placed_of d) inside)

  inside_all : end < length ops → end < length (all_placed ops)
  inside_all inside = omega (arith, length-map ops placed_of)

  pub ends_here : (d : Placed) (r : Bool) → end < length ops → r ≡ is_comma_at (placed_of (get_or ops end d)) → r ≡ true
      → part_len (drop end (all_placed ops)) ≡ 0
  ends_here d r inside is e =
      prefix_len-drop_no (λ p. not (is_comma_at p)) (all_placed ops) end (placed_of d) (inside_all inside)
      (ap not (comma_at d inside ∙ (sym is ∙ e)))

  pub goes_on : (d : Placed) (r : Bool) → end < length ops → r ≡ is_comma_at (placed_of (get_or ops end d)) → r ≡ false
      → part_len (drop end (all_placed ops)) ≡ 1 + part_len (drop (end + 1) (all_placed ops))
  goes_on d r inside is e =
      prefix_len-drop_yes (λ p. not (is_comma_at p)) (all_placed ops) end (placed_of d) (inside_all inside)
      (ap not (comma_at d inside ∙ (sym is ∙ e)))

-- ---- the items of an order

items_step : (had : List SaidItem) (before middle after : List Placed) (k n : Placed) → before ≡ k ∷ middle
    → middle ≡ n ∷ after
    → with_items had (all_placed before)
    ≡ and_then (listed had (placed_of k) (placed_of n)) (λ h. with_items h (all_placed after))
items_step had before middle after k n one two =
    ap (λ (ts : List Placed). with_items had (all_placed ts)) (one ∙ ap (λ (ts : List Placed). k ∷ ts) two)
    ∙ and_then_again (order_item (placed_of k) (placed_of n)) (λ item. Ok (had ++ (item ∷ [])))
    (λ h. with_items h (all_placed after))

pub items_more : (had next : List SaidItem) (before middle after : List Placed) (k n : Placed) → before ≡ k ∷ middle
    → middle ≡ n ∷ after → listed had (placed_of k) (placed_of n) ≡ Ok next
    → with_items had (all_placed before) ≡ with_items next (all_placed after)
items_more had next before middle after k n one two is =
    items_step had before middle after k n one two
    ∙ ap (λ (m : Result (List SaidItem) Mistake). and_then m (λ h. with_items h (all_placed after))) is

pub items_fault : (had new last : List SaidItem) (before middle after : List Placed) (k n : Placed)
    (r : Result Unit LineFault) (f : LineFault) (whole : Result (List SaidItem) Mistake)
    → before ≡ k ∷ middle
    → middle ≡ n ∷ after → Follows (Err f) (listed had (placed_of k) (placed_of n)) new → r ≡ Err f
    → whole ≡ with_items had (all_placed before) → Follows r whole last
items_fault had new last before middle after k n r f whole one two follows e same =
    then_fault (listed had (placed_of k) (placed_of n)) (λ h. with_items h (all_placed after)) new last r f whole
    follows e
    (same ∙ items_step had before middle after k n one two)

-- ---- lines

-- what a line adds
pub lines_step : (had next : List PlacedPiece) (line : ℕ) (text : Text) (more : List Text)
    → line_tokens had (line + 1) text ≡ Ok next
    → with_lines line (text ∷ more) had ≡ with_lines (line + 1) more next
lines_step had next line text more is = go (placed (line + 1) text) is
  where
    go : (o : Option (List PlacedPiece)) → option_map_or (λ ts. Ok (had ++ ts)) o (Err (own UnclosedQuote)) ≡ Ok next
        → option_map_or (λ ts. with_lines (line + 1) more (had ++ ts)) o
        (Err (record { line = line + 1; text = text; kind = UnclosedQuote })) ≡ with_lines (line + 1) more next
    go None e = cc
    go (Some ts) e =
        let same : had ++ ts ≡ next = search e in
        ap (with_lines (line + 1) more) same

lines_unclosed : (had : List PlacedPiece) (line : ℕ) (text : Text) (more : List Text) (what : Mistake)
    → line_tokens had (line + 1) text ≡ Err what
    → with_lines line (text ∷ more) had ≡ Err (record { line = line + 1; text = text; kind = what.kind })
lines_unclosed had line text more what is = go (placed (line + 1) text) is
  where
    go : (o : Option (List PlacedPiece)) → option_map_or (λ ts. Ok (had ++ ts)) o (Err (own UnclosedQuote)) ≡ Err what
        → option_map_or (λ ts. with_lines (line + 1) more (had ++ ts)) o
        (Err (record { line = line + 1; text = text; kind = UnclosedQuote }))
        ≡ Err (record { line = line + 1; text = text; kind = what.kind })
    go None e =
        let same : own UnclosedQuote ≡ what = search e in
        ap (λ (m : Mistake). Err (record { line = line + 1; text = text; kind = m.kind })) same
    go (Some ts) e = cc

pub lines_more : (had next : List PlacedPiece) (all : List Text) (i : ℕ) (text : Text) → i < length all
    → get_or all i text ≡ text → line_tokens had (i + 1) text ≡ Ok next
    → with_lines i (drop i all) had ≡ with_lines (i + 1) (drop (i + 1) all) next
lines_more had next all i text inside here means =
    at_drop_more (λ (ls : List Text). with_lines i ls had) all i text inside
    ∙ (ap (λ (t : Text). with_lines i (t ∷ drop (i + 1) all) had) here
    ∙ lines_step had next i text (drop (i + 1) all) means)

pub lines_fault : (had : List PlacedPiece) (all : List Text) (i : ℕ) (text : Text) (what : Mistake)
    → i < length all → get_or all i text ≡ text → line_tokens had (i + 1) text ≡ Err what
    → with_lines i (drop i all) had ≡ Err (record { line = i + 1; text = text; kind = what.kind })
lines_fault had all i text what inside here means =
    at_drop_more (λ (ls : List Text). with_lines i ls had) all i text inside
    ∙ (ap (λ (t : Text). with_lines i (t ∷ drop (i + 1) all) had) here
    ∙ lines_unclosed had i text (drop (i + 1) all) what means)

-- ---- faults

-- a fault that says what is at fault
pub says_fault : {A : Type 0} (fault : DirectiveFault) (faulty : FaultyLine) (meant : Result A FaultyLine)
    → Says fault faulty → meant ≡ Err faulty → IsFault fault meant
says_fault directive_fault.Memory faulty meant says is = tt
says_fault (directive_fault.Line line text what) faulty meant says is = is ∙ ap (λ f. Err f) says

pub lines_stop : (had after : List PlacedPiece) (all : List Text) (i : ℕ) (text : Text) (f : LineFault)
    (fault : DirectiveFault) (whole : Result (List PlacedPiece) FaultyLine) → i < length all → get_or all i text ≡ text
    → Follows (Err f) (line_tokens had (i + 1) text) after → IsFaultAt (i + 1) text f fault
    → whole ≡ with_lines i (drop i all) had → IsFault fault whole
lines_stop had after all i text Memory fault whole inside here follows fits is = rw fits tt
lines_stop had after all i text (Wrong what) fault whole inside here follows fits is =
    says_fault fault _ whole fits (is ∙ lines_fault had all i text (mistake_of what) inside here follows)

-- a line that is read at its place
pub line_here : (ls : List (Bor Text)) (i : ℕ) (d : Bor Text) → i < length ls
    → get_or (texts ls) i (get_or ls i d).now ≡ (get_or ls i d).now
line_here ls i d inside = get_or-map (λ s. s.now) ls i d ((get_or ls i d).now) inside

-- ---- tokens

-- operands that were told say no more
skipped : (count : ℕ) (more : List PlacedPiece) (said : Said) → count ≤ length more
    → tokens_meaning count more said ≡ tokens_meaning 0 (drop count more) said
skipped zero more said h = refl
skipped (suc count) [] said h = absurd (omega (arith, h))
skipped (suc count) (token ∷ more) said h = skipped count more said (omega (arith, h))

pub pieces_same : (ts : List Placed) → map (λ t. t.piece) (all_placed ts) ≡ operands ts
pieces_same [] = refl
pieces_same (t ∷ ts) = ap (λ ps. operand_of t ∷ ps) (pieces_same ts)

tokens_step : (said : Said) (rest behind : List Placed) (first : Placed) → rest ≡ first ∷ behind
    → tokens_meaning 0 (all_placed rest) said
    ≡ and_then (at_place (placed_of first) (first_meaning (placed_of first) (all_placed behind) said))
    (λ next. tokens_meaning next.0 (all_placed behind) next.1)
tokens_step said rest behind first is =
    ap (λ (ts : List Placed). tokens_meaning 0 (all_placed ts) said) is

pub tokens_more : (said next : Said) (rest behind after : List Placed) (first : Placed) (count : ℕ) → rest ≡ first ∷ behind
    → count ≤ length behind → after ≡ drop count behind
    → first_meaning (placed_of first) (all_placed behind) said ≡ Ok (count, next)
    → tokens_meaning 0 (all_placed rest) said ≡ tokens_meaning 0 (all_placed after) next
tokens_more said next rest behind after first count is within left means =
    tokens_step said rest behind first is
    ∙ (ap (λ (m : Result (ℕ × Said) Mistake).
    and_then (at_place (placed_of first) m) (λ next. tokens_meaning next.0 (all_placed behind) next.1)) means
    ∙ (skipped count (all_placed behind) next (omega (arith, within, length-map behind placed_of))
    ∙ (ap (λ (ts : List PlacedPiece). tokens_meaning 0 ts next) (drop-map placed_of count behind)
    ∙ ap (λ (ts : List Placed). tokens_meaning 0 (all_placed ts) next) (sym left))))

-- a list by its first element and those behind, as a slice pattern takes them
pub taken_apart : (rest : List Placed) (d : Placed) → 1 ≤ length rest
    → rest ≡ get_or rest 0 d ∷ take (length rest - 1) (drop 1 rest)
taken_apart [] d h = absurd (omega (arith, h))
taken_apart (t ∷ ts) d h =
    let long : length (t ∷ ts) - 1 ≡ length ts = omega arith in
    ap (λ (more : List Placed). t ∷ more)
    (sym (ap (λ (n : ℕ). take n ts) long ∙ take_all (length ts) ts (omega arith)))

pub tokens_stop : (said after : Said) (rest behind : List Placed) (first : Placed) (f : LineFault)
    (fault : DirectiveFault) (whole : Result Said FaultyLine) → rest ≡ first ∷ behind
    → Counts (Err f) (first_meaning (placed_of first) (all_placed behind) said) after
    → IsFaultOf (placed_of first) f fault → whole ≡ tokens_meaning 0 (all_placed rest) said
    → IsFault fault whole
tokens_stop said after rest behind first Memory fault whole is counts fits same = rw fits tt
tokens_stop said after rest behind first (Wrong what) fault whole is counts fits same =
    says_fault fault _ whole fits
    (same ∙ (tokens_step said rest behind first is
    ∙ ap (λ (m : Result (ℕ × Said) Mistake).
    and_then (at_place (placed_of first) m) (λ next. tokens_meaning next.0 (all_placed behind) next.1)) counts))

-- what a directive means with its operands, or what is wrong with them
module _ (first : PlacedPiece) (behind ops : List PlacedPiece) (said after : Said) (d : Directive) (count : ℕ)
    (named : directive_of first.piece ≡ Ok d) (counted : count ≡ count_of d behind) (are : ops ≡ take count behind)
  where
    first_step : first_meaning first behind said
        ≡ and_then (directive_meaning first.line d ops said) (λ after. Ok (count, after))
    first_step =
        ap (λ (m : Result Directive Mistake). and_then m (λ d.
        and_then (directive_meaning first.line d (take (count_of d behind) behind) said)
        (λ after. Ok (count_of d behind, after)))) named
        ∙ (ap (λ (n : ℕ). and_then (directive_meaning first.line d (take n behind) said) (λ after. Ok (n, after)))
        (sym counted)
        ∙ ap (λ (ops : List PlacedPiece).
        and_then (directive_meaning first.line d ops said) (λ after. Ok (count, after)))
        (sym are))

    pub first_fault : (r : Result ℕ LineFault) (f : LineFault)
        → Follows (Err f) (directive_meaning first.line d ops said) after → r ≡ Err f
        → Counts r (first_meaning first behind said) after
    first_fault r Memory follows e = rw e tt
    first_fault r (Wrong what) follows e =
        rw e
        (first_step
        ∙ ap (λ (m : Result Said Mistake). and_then m (λ after. Ok (count, after))) follows)

    pub first_done : directive_meaning first.line d ops said ≡ Ok after
        → first_meaning first behind said ≡ Ok (count, after)
    first_done means =
        first_step ∙ ap (λ (m : Result Said Mistake). and_then m (λ after. Ok (count, after))) means

-- ---- a text

module _ (text : Text) (ls : List Text) (said : Said) (are : ls ≡ lines text) (first : said ≡ nothing) where
  text_is : meaning text ≡ lines_meaning ls said
  unfolding meaning
  text_is =
      sym
      (ap (λ (ls : List Text). lines_meaning ls said) are ∙ ap (λ (said : Said). lines_meaning (lines text) said) first)

  pub text_done : (after : Said) → lines_meaning ls said ≡ Ok after → meaning text ≡ Ok after
  text_done after means = text_is ∙ means

  pub text_fault : (fault : DirectiveFault) → IsFault fault (lines_meaning ls said) → Means (Err fault) (meaning text)
  text_fault directive_fault.Memory is = tt
  text_fault (directive_fault.Line line text what) is = text_is ∙ is

-- ---- where no offset is

pub no_offset_short : (tokens : List PlacedPiece) → length tokens < 3 → offset_meaning tokens ≡ Err (own WrongOperands)
no_offset_short [] h = refl
no_offset_short (a ∷ []) h = refl
no_offset_short (a ∷ b ∷ []) h = refl
no_offset_short (a ∷ b ∷ c ∷ more) h = absurd (omega (arith, h))

pub no_offset_long : (tokens : List PlacedPiece) → 4 ≤ length tokens → offset_meaning tokens ≡ Err (own WrongOperands)
no_offset_long [] h = refl
no_offset_long (a ∷ []) h = refl
no_offset_long (a ∷ b ∷ []) h = refl
no_offset_long (a ∷ b ∷ c ∷ []) h = absurd (omega (arith, h))
no_offset_long (a ∷ b ∷ c ∷ d ∷ more) h = refl
