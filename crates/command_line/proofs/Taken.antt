-- A command takes the words in which no fault stands.
use Rattle.std.proofs.Common.{◌≡◌, ◌≤◌, ◌+◌, ◌&&◌, ◌||◌, ℕ, Bool, cond, codes, true, false, not, zero, suc, refl}
use Rattle.std.proofs.Common.{arith, List, [], ◌∷◌, length, drop, min, Option, Some, None, is_some, true≢false}
use Rattle.std.specs.Prelude.{encode_utf8, slice_get, find}
use Rattle.std.specs.List.{list_all, list_any}
use Rattle.std.specs.Option.{option_map_or}
use Rattle.std.specs.Str.{bytes_eq, chars}
use Rattle.std.proofs.lemmas.Bool.{and_from, le-leb}
use Rattle.clap.specs.Lexer.{long_of, short_of}
use Rattle.clap.specs.Matches.{count_text}
use Rattle.clap.specs.Facts.{explicit_source, parser_of_value, unwrap_or_range}
use Rattle.clap.specs.Kinds.{Kinds, or_else, range_kinds, value_kinds, values_kinds}
use Rattle.clap.specs.ValueTests.{accepts}
use Rattle.clap.specs.Walk.{Held, Names, Row, Rule, Step, Text, Waiting, Walk, next, trailing, subcommand, value}
use Rattle.clap.specs.Walk.{action_of, answers_to, arg_by_id, arg_by_index, arg_by_long, arg_by_short, attached_value}
use Rattle.clap.specs.Walk.{count_of, finished, has_row, is_pending, most_values, nothing_held, reacted, settled}
use Rattle.clap.specs.Walk.{subcommand_met, takes_several, takes_values, values_or_missing, walk, walk_from, walked}
use Rattle.clap.specs.Walk.{word_met}
use Rattle.clap.specs.Simple.{App, Shape, argument_words, built, entered, is_simple, label_of, names_of}
use Rattle.clap.specs.Takes.{action_passes, bundle_passes, bundle_step_passes, count_passes, default_passes}
use Rattle.clap.specs.Takes.{entered_passes, flag_word_passes, flags_pass, is_given, is_valid, level_passes}
use Rattle.clap.specs.Takes.{long_passes, option_passes, other_passes, positional_passes, react_passes, settle_passes}
use Rattle.clap.specs.Takes.{short_passes, step_passes, takes, turn_passes, use_passes, values_pass, walk_passes}
use Rattle.clap.specs.Takes.{word_passes}
use Rattle.clap.specs.Faults.{action_fault, bundle_step_fault, count_fault, defaults_fault, entered_fault, fault_of}
use Rattle.clap.specs.Faults.{flag_word_fault, flags_fault, level_fault, long_fault, option_fault, other_fault}
use Rattle.clap.specs.Faults.{positional_fault, react_fault, repeat_fault, settle_fault, short_fault, step_fault}
use Rattle.clap.specs.Faults.{stray_fault, turn_fault, use_fault, walk_fault, word_fault}
use Rattle.clap.specs.declared.builder.action.ArgAction.{ArgAction}
use Rattle.clap.specs.declared.builder.action.ArgAction.TheVariants as action
use Rattle.clap.specs.declared.builder.value_parser.ValueParser.{ValueParser}
use Rattle.clap.specs.declared.error.kind.ErrorKind.TheVariants as kind
use Rattle.clap.proofs.WalkLemmas.{both}
use Rattle.command_line.proofs.Steps.{no_kind, none_wanted, steps}
use Rattle.command_line.proofs.Lists.{all_from_none, found_passes, there_from_given}

-- ---- values

value_passed : (i : Bool) (p : ValueParser) (t : Text) → value_kinds i p t ≡ [] → accepts i p t ≡ true
value_passed i p t e = go (accepts i p t) e
  where
    go : (b : Bool) → cond b [] (Rattle.clap.specs.Values.refused_kind p ∷ []) ≡ [] → b ≡ true
    go true e = refl
    go false e = absurd (no_kind _ _ e)

values_passed : (a : Rule) (vs : List Text) → values_kinds a.ignore_case (parser_of_value a.parser) vs ≡ []
    → values_pass a vs ≡ true
values_passed a [] e = refl
values_passed a (v ∷ vs) e =
    let two = steps (value_kinds a.ignore_case (parser_of_value a.parser) v) _ e in
    and_from _ _ (value_passed a.ignore_case (parser_of_value a.parser) v two.0) (values_passed a vs two.1)

in_range : (least most n : ℕ) → range_kinds least most n ≡ [] → (least ≤ n) × (n ≤ most)
in_range least most n e = grind (arith, e)

-- ---- one use of an argument

not_repeated : (again has : Bool) → cond (has && not again) (kind.ArgumentConflict ∷ []) [] ≡ []
    → (not has || again) ≡ true
not_repeated again false e = refl
not_repeated true true e = refl
not_repeated false true e = absurd (no_kind _ _ e)

set_passed : (again : Bool) (a : Rule) (vs : List Text) (rows : List Row)
    → or_else (repeat_fault again a.id rows) (values_kinds a.ignore_case (parser_of_value a.parser) vs) ≡ []
    → ((not (has_row a.id rows) || again) && values_pass a vs) ≡ true
set_passed again a vs rows e =
    let two = steps (repeat_fault again a.id rows) _ e in
    and_from _ _ (not_repeated again (has_row a.id rows) two.0) (values_passed a vs two.1)

count_passed : (a : Rule) (vs : List Text) (rows : List Row) → count_fault a vs rows ≡ []
    → count_passes a vs rows ≡ true
count_passed a [] rows e =
    value_passed a.ignore_case (parser_of_value a.parser) (count_text (min (count_of a.id rows + 1) 255)) e
count_passed a (v ∷ vs) rows e = values_passed a (v ∷ vs) e

action_passed : (x : ArgAction) (again : Bool) (a : Rule) (vs : List Text) (rows : List Row)
    → action_fault x again a vs rows ≡ [] → action_passes x again a vs rows ≡ true
action_passed action.Set again a vs rows e = set_passed again a vs rows e
action_passed action.SetTrue again a vs rows e = set_passed again a vs rows e
action_passed action.SetFalse again a vs rows e = set_passed again a vs rows e
action_passed action.Append again a vs rows e = values_passed a vs e
action_passed action.Count again a vs rows e = count_passed a vs rows e
action_passed action.Help again a vs rows e = absurd (no_kind _ _ e)
action_passed action.HelpShort again a vs rows e = absurd (no_kind _ _ e)
action_passed action.HelpLong again a vs rows e = absurd (no_kind _ _ e)
action_passed action.Version again a vs rows e = absurd (no_kind _ _ e)

use_passed : (again : Bool) (a : Rule) (vs : List Text) (rows : List Row) → use_fault again a vs rows ≡ []
    → use_passes again a vs rows ≡ true
use_passed again a vs rows e =
    let two = steps (range_kinds (unwrap_or_range a.range).start_inclusive (most_values a) (length vs)) _ e in
    let range = in_range (unwrap_or_range a.range).start_inclusive (most_values a) (length vs) two.0 in
    and_from _ _ (le-leb _ _ range.0)
    (and_from _ _ (le-leb _ _ range.1) (action_passed (action_of a) again a (values_or_missing a vs) rows two.1))

module _ (c : List Rule) (again : Bool) where
  settle_passed : (h : Held) → settle_fault c again h ≡ [] → settle_passes c again h ≡ true
  settle_passed h e = go h.pending e
    where
      by_id : (o : Option Rule) (vs : List Text) → option_map_or (λ a. use_fault again a vs h.rows) o [] ≡ []
          → option_map_or (λ a. use_passes again a vs h.rows) o true ≡ true
      by_id None vs e = refl
      by_id (Some a) vs e = use_passed again a vs h.rows e

      go : (o : Option (Text × List Text))
          → option_map_or (λ p. option_map_or (λ a. use_fault again a p.1 h.rows) (arg_by_id c p.0) []) o [] ≡ []
          → option_map_or (λ p. option_map_or (λ a. use_passes again a p.1 h.rows) (arg_by_id c p.0) true) o true ≡ true
      go None e = refl
      go (Some p) e = by_id (arg_by_id c p.0) p.1 e

  react_passed : (a : Rule) (vs : List Text) (h : Held) → react_fault c again a vs h ≡ []
      → react_passes c again a vs h ≡ true
  react_passed a vs h e =
      let two = steps (settle_fault c again h) _ e in
      and_from _ _ (settle_passed h two.0) (use_passed again a vs (settled c h).rows two.1)

  option_passed : (a : Rule) (v : Option Text) (h : Held) → option_fault c again a v h ≡ []
      → option_passes c again a v h ≡ true
  option_passed a (Some v) h e = react_passed a (v ∷ []) h e
  option_passed a None h e = settle_passed h e

  long_passed : (o : Option Rule) (v : Option Text) (h : Held) → long_fault c again o v h ≡ []
      → long_passes c again o v h ≡ true
  long_passed None v h e = absurd (no_kind _ _ e)
  long_passed (Some a) v h e = go (takes_values a) v e
    where
      go : (b : Bool) (v : Option Text)
          → cond b (option_fault c again a v h)
          (cond (is_some v) (kind.TooManyValues ∷ []) (react_fault c again a [] h)) ≡ []
          → cond b (option_passes c again a v h) (not (is_some v) && react_passes c again a [] h) ≡ true
      go true v e = option_passed a v h e
      go false (Some v) e = absurd (no_kind _ _ e)
      go false None e = react_passed a [] h e

  short_passed : (o : Option Rule) (rest : Text) (h : Held) (fault : Held → Kinds) (pass : Held → Bool)
      → ((k : Held) → fault k ≡ [] → pass k ≡ true)
      → short_fault c again o rest h fault ≡ [] → short_passes c again o rest h pass ≡ true
  short_passed None rest h fault pass step e = absurd (no_kind _ _ e)
  short_passed (Some a) rest h fault pass step e = go (takes_values a) e
    where
      go : (b : Bool)
          → cond b (option_fault c again a (attached_value rest) h)
          (or_else (react_fault c again a [] h) (fault (reacted c a [] h))) ≡ []
          → cond b (option_passes c again a (attached_value rest) h)
          (react_passes c again a [] h && pass (reacted c a [] h)) ≡ true
      go true e = option_passed a (attached_value rest) h e
      go false e =
          let two = steps (react_fault c again a [] h) _ e in
          and_from _ _ (react_passed a [] h two.0) (step (reacted c a [] h) two.1)

  step_passed_by : (o : Option ℕ) (flags : Text) (skip : ℕ) (h : Held) (fault : Text → ℕ → Held → Kinds)
      (pass : Text → ℕ → Held → Bool)
      → ((t : Text) (n : ℕ) (k : Held) → fault t n k ≡ [] → pass t n k ≡ true)
      → bundle_step_fault c again o flags skip h fault ≡ []
      → bundle_step_passes c again o flags skip h pass ≡ true
  step_passed_by None flags skip h fault pass step e = refl
  step_passed_by (Some x) flags zero h fault pass step e =
      let rest = drop (length (encode_utf8 x)) flags in
      short_passed (arg_by_short c x) rest h (fault rest 0) (pass rest 0) (step rest 0) e
  step_passed_by (Some x) flags (suc skip) h fault pass step e = step (drop (length (encode_utf8 x)) flags) skip h e

  flags_passed : (k : ℕ) (flags : Text) (skip : ℕ) (h : Held) → flags_fault c again k flags skip h ≡ []
      → flags_pass c again k flags skip h ≡ true
  unfolding flags_fault flags_pass
  flags_passed zero flags skip h e = refl
  flags_passed (suc k) flags skip h e =
      step_passed_by (slice_get (chars flags) 0) flags skip h (flags_fault c again k) (flags_pass c again k)
      (flags_passed k) e

  flag_word_passed : (o : Option (Text × Option Text)) (word : Text) (h : Held) → flag_word_fault c again o word h ≡ []
      → flag_word_passes c again o word h ≡ true
  flag_word_passed (Some p) word h e = long_passed (arg_by_long c p.0) p.1 h e
  flag_word_passed None word h e = go (short_of word) e
    where
      go : (o : Option Text)
          → option_map_or (λ flags. flags_fault c again (length flags) flags h.skip (record h { skip = 0 })) o [] ≡ []
          → option_map_or (λ flags. bundle_passes c again flags h) o true ≡ true
      go None e = refl
      go (Some flags) e = flags_passed (length flags) flags h.skip (record h { skip = 0 }) e

-- ---- the walk

module _ (s : Shape) (names : Names) where
  other_passed : (o : Option Text) (word : Text) (h : Held) → other_fault s o word h ≡ []
      → other_passes s o word h ≡ true
  other_passed (Some name) word h e = go (bytes_eq name (codes "help")) s.disable_help_subcommand e
    where
      go : (b d : Bool) → cond (b && not d) (kind.DisplayHelp ∷ kind.InvalidSubcommand ∷ []) [] ≡ []
          → (not b || d) ≡ true
      go false d e = refl
      go true true e = refl
      go true false e = absurd (no_kind _ _ e)
  other_passed None word h e = go (bytes_eq word (45 ∷ 45 ∷ [])) e
    where
      go : (b : Bool) → cond b [] (flag_word_fault s.rules s.args_override_self (long_of word) word h) ≡ []
          → (b || flag_word_passes s.rules s.args_override_self (long_of word) word h) ≡ true
      go true e = refl
      go false e = flag_word_passed s.rules s.args_override_self (long_of word) word h e

  word_passed : (is_trailing : Bool) (waiting : Waiting) (word : Text) (h : Held)
      → word_fault s names is_trailing waiting word h ≡ [] → word_passes s names is_trailing waiting word h ≡ true
  word_passed true waiting word h e = refl
  word_passed false waiting word h e = other_passed (subcommand_met names waiting word) word h e

  positional_passed : (a : Rule) (h : Held) → positional_fault s.rules s.args_override_self a h ≡ []
      → positional_passes s.rules s.args_override_self a h ≡ true
  positional_passed a h e = go (is_pending a h.pending && takes_several a) e
    where
      go : (b : Bool) → cond b [] (settle_fault s.rules s.args_override_self h) ≡ []
          → (b || settle_passes s.rules s.args_override_self h) ≡ true
      go true e = refl
      go false e = settle_passed s.rules s.args_override_self h e

  stray : {P : Type 0} → stray_fault s ≡ [] → P
  stray {P = P} e = go s.is_leaf e
    where
      go : (b : Bool) → cond b (kind.UnknownArgument ∷ []) (kind.UnknownArgument ∷ kind.InvalidSubcommand ∷ []) ≡ [] → P
      go true e = absurd (no_kind _ _ e)
      go false e = absurd (no_kind _ _ e)

  step_passed : (position : ℕ) (h : Held) (step : Step) → step_fault s position h step ≡ []
      → step_passes s position h step ≡ true
  step_passed position h (next waiting) e = refl
  step_passed position h (trailing p) e = refl
  step_passed position h (subcommand name) e = refl
  step_passed position h value e = go (arg_by_index s.rules position) e
    where
      go : (o : Option Rule)
          → option_map_or (λ a. positional_fault s.rules s.args_override_self a h) o (stray_fault s) ≡ []
          → option_map_or (λ a. positional_passes s.rules s.args_override_self a h) o false ≡ true
      go None e = stray e
      go (Some a) e = positional_passed a h e

  turn_passed : (w : Walk) (word : Text) → turn_fault s names w word ≡ [] → turn_passes s names w word ≡ true
  turn_passed w word e = go (is_some w.stopped) e
    where
      met : Held × Step
      met = word_met s.rules names w.is_trailing w.waiting w.position word w.held

      go : (b : Bool)
          → cond b []
          (or_else (word_fault s names w.is_trailing w.waiting word w.held) (step_fault s w.position met.0 met.1)) ≡ []
          → (b || (word_passes s names w.is_trailing w.waiting word w.held && step_passes s w.position met.0 met.1))
          ≡ true
      go true e = refl
      go false e =
          let two = steps (word_fault s names w.is_trailing w.waiting word w.held) _ e in
          and_from _ _ (word_passed w.is_trailing w.waiting word w.held two.0)
          (step_passed w.position met.0 met.1 two.1)

  walk_passed : (w : Walk) (words : List Text) → walk_fault s names w words ≡ [] → walk_passes s names w words ≡ true
  unfolding walk_fault walk_passes
  walk_passed w [] e = refl
  walk_passed w (word ∷ words) e =
      let two = steps (turn_fault s names w word) _ e in
      and_from _ _ (turn_passed w word two.0) (walk_passed (walked s.rules names w word) words two.1)

-- ---- after the walk

help_passed : (has wants any : Bool) → (not has && (wants && not any)) ≡ false → (not wants || (has || any)) ≡ true
help_passed has false any e = refl
help_passed true true any e = refl
help_passed false true true e = refl
help_passed false true false e = absurd (true≢false e)

subcommand_passed : (has wants : Bool) → (not has && wants) ≡ false → (not wants || has) ≡ true
subcommand_passed has false e = refl
subcommand_passed true true e = refl
subcommand_passed false true e = absurd (true≢false e)

required_passed : (lifted : Bool) (c : List Rule) (rows : List Row)
    → (not lifted && list_any (λ a. a.required && not (is_given a.id rows)) c) ≡ false
    → (lifted || list_all (λ a. not a.required || is_given a.id rows) c) ≡ true
required_passed true c rows e = refl
required_passed false c rows e =
    all_from_none _ _ c (λ a. there_from_given a.required (is_given a.id rows) (is_given a.id rows) (λ given. given)) e

-- the defaults pass, and no argument has a rule on another
abbrev pub is_settled : Shape → Bool
is_settled s = list_all default_passes s.rules && list_all (λ a. a.is_free) s.rules

level_passed : (s : Shape) (names : Names) (words : List Text) (has : Bool) (below : Kinds) → is_settled s ≡ true
    → level_fault s names nothing_held words has below ≡ []
    → (level_passes s names nothing_held words has ≡ true) × (below ≡ [])
level_passed s names words has below fine e =
    let end = (walk s.rules names nothing_held words).held in
    let rows = finished s.rules end in
    let first = steps (walk_fault s names (walk_from nothing_held) words) _ e in
    let second = steps below _ first.1 in
    let third = steps (settle_fault s.rules s.args_override_self end) _ second.1 in
    let fourth = steps (defaults_fault (settled s.rules end).rows s.rules) _ third.1 in
    let checks = none_wanted _ _ _ fourth.1 in
    let two = both (list_all default_passes s.rules) _ fine in
    let valid : is_valid s rows has ≡ true =
    and_from _ _
    (help_passed has s.arg_required_else_help (list_any (λ (r : Row). explicit_source r.source) rows) checks.0)
    (and_from _ _ (subcommand_passed has s.subcommand_required checks.1)
    (and_from _ _ two.1 (required_passed (s.subcommand_negates_reqs && has) s.rules rows checks.2))) in (
      and_from _ _ (walk_passed s names (walk_from nothing_held) words first.0)
          (and_from _ _ (settle_passed s.rules s.args_override_self end third.0) (and_from _ _ two.0 valid)),
      second.0,
    )

abbrev pub is_settled_app : App → Bool
is_settled_app a = is_settled a.top && list_all is_settled a.subs

entered_passed : (a : App) (stop : Option (Text × List Text)) → list_all is_settled a.subs ≡ true
    → entered_fault a stop ≡ [] → entered_passes a stop ≡ true
entered_passed a None fine e = refl
entered_passed a (Some p) fine e =
    go (find (λ s. answers_to p.0 (label_of s)) a.subs) (found_passes is_settled _ a.subs fine) e
  where
    go : (o : Option Shape) → option_map_or is_settled o true ≡ true
        → option_map_or (λ s. level_fault s [] nothing_held p.1 false []) o [] ≡ []
        → option_map_or (λ s. level_passes s [] nothing_held p.1 false) o true ≡ true
    go None fine e = refl
    go (Some s) fine e = (level_passed s [] p.1 false [] fine e).0

-- a simple command takes the words in which no fault stands
pub takes_where_no_fault : (a : App) (words : List Text) → is_simple a ≡ true → is_settled_app (built a) ≡ true
    → fault_of a words ≡ [] → takes a words ≡ true
takes_where_no_fault a words simple fine e =
    let b = built a in
    let ws = argument_words a words in
    let stop = (walk b.top.rules (names_of b) nothing_held ws).stopped in
    let two = both (is_settled b.top) _ fine in
    let level = level_passed b.top (names_of b) ws (is_some (entered b stop)) (entered_fault b stop) two.0 e in
    and_from _ _ simple (and_from _ _ (entered_passed b stop two.1 level.1) level.0)
