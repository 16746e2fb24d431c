-- Names that are asked for, one after the other.
use Rattle.std.proofs.Common.{◌≡◌, ℕ, suc, ◌+◌, ◌<◌, Bool, true, false, cond, not, ◌||◌, List, [], ◌∷◌, ◌++◌, length}
use Rattle.std.proofs.Common.{map, take, get_or, find, Option, Some, None, is_some, refl, ap, sym, ◌∙◌}
use Rattle.std.proofs.Common.{length-append}
use Rattle.std.proofs.lemmas.List.Folds.{find-append, list_any-append}
use Rattle.std.proofs.lemmas.List.Sums.{fold-append}
use Rattle.std.specs.Borrow.{Bor}
use Rattle.std.specs.List.{fold}
use Rattle.std.specs.Option.{option_map, option_map_or, option_or}
use Rattle.omf_library.specs.Aliases.{Alias}
use Rattle.omf_place.specs.Names.{agrees}
use Rattle.omf_place.specs.declared.names.Names.{Names}
use Rattle.omf_search.specs.declared.meeting.Meeting.{Meeting}
use Rattle.omf_search.specs.declared.said.Wanted as held
use Rattle.omf_search.specs.Keys.{size, value_of}
use Rattle.omf_search.specs.Taken.{IsMet}
use Rattle.omf_search.specs.inside.Asking.{once, then_ask}
use Rattle.omf_search.specs.Results.{wanted_said}
use Rattle.omf_search.specs.Said.{Wanted}
use Rattle.omf_search.specs.Wanted.{Met, add_alias, ask, ask_up_to, is_asked, stands_for, with_alias, with_asked}
use Rattle.omf_search.specs.Wanted.{with_wanted}
use Rattle.omf_search.proofs.TakenSteps.{is_some-added, map_more}

-- ---- a name that is asked for

pub unroll : (names : Names) (most : ℕ) (s : Met) (name : List ℕ)
    → ask_up_to names (suc most) s name ≡ then_ask names most (once names s name)
unroll names most s name =
    elim (is_asked names s name) as (λ b.
    cond b s
    (option_map_or (λ (w : Wanted). ask_up_to names most (with_wanted (w ∷ []) (with_asked name s)) w.name)
    (stands_for names s name) (with_asked name s))
    ≡ then_ask names most
    (cond b (s, None)
    (option_map_or (λ (w : Wanted). (with_wanted (w ∷ []) (with_asked name s), Some w.name)) (stands_for names s name)
    (with_asked name s, None)))) [
      | true ↦ refl
      | false ↦
          (elim (stands_for names s name) as (λ (o : Option Wanted).
          option_map_or (λ (w : Wanted). ask_up_to names most (with_wanted (w ∷ []) (with_asked name s)) w.name) o
          (with_asked name s)
          ≡ then_ask names most
          (option_map_or (λ (w : Wanted). (with_wanted (w ∷ []) (with_asked name s), Some w.name)) o
          (with_asked name s, None))) [ None ↦ refl | Some w ↦ refl ])
    ]

pub asked-whole : (names : Names) (s : Met) (name : List ℕ)
    → then_ask names (length s.aliases) (once names s name) ≡ ask names s name
unfolding ask
asked-whole names s name = sym (unroll names (length s.aliases) s name)

-- it was asked for before
pub once-again : (names : Names) (s : Met) (name : List ℕ) → is_asked names s name ≡ true → once names s name ≡ (s, None)
once-again names s name e =
    ap
    (λ b.
    cond b (s, None)
    (option_map_or (λ (w : Wanted). (with_wanted (w ∷ []) (with_asked name s), Some w.name)) (stands_for names s name)
    (with_asked name s, None))) e

-- it wasn't, and stands for another one, or for none
pub once-new : (names : Names) (s : Met) (name : List ℕ) (o : Option Wanted) → is_asked names s name ≡ false
    → stands_for names s name ≡ o
    → once names s name
    ≡ option_map_or (λ (w : Wanted). (with_wanted (w ∷ []) (with_asked name s), Some w.name)) o (with_asked name s, None)
once-new names s name o e f =
    ap
    (λ b.
    cond b (s, None)
    (option_map_or (λ (w : Wanted). (with_wanted (w ∷ []) (with_asked name s), Some w.name)) (stands_for names s name)
    (with_asked name s, None))) e
    ∙ ap
    (λ (p : Option Wanted).
    option_map_or (λ (w : Wanted). (with_wanted (w ∷ []) (with_asked name s), Some w.name)) p (with_asked name s, None))
    f

pub not-true : (b : Bool) → not b ≡ true → b ≡ false
not-true true u = absurd (let v : false ≡ true = u in cc)
not-true false u = refl

pub not-false : (b : Bool) → not b ≡ false → b ≡ true
not-false true u = refl
not-false false u = absurd (let v : true ≡ false = u in cc)

or-false : (b : Bool) → (b || false) ≡ b
or-false true = refl
or-false false = refl

map-added : (o : Option held.Wanted) (hit : Bool) (w : held.Wanted)
    → option_map wanted_said (option_or o (cond hit (Some w) None))
    ≡ option_or (option_map wanted_said o) (cond hit (Some (wanted_said w)) None)
map-added (Some x) hit w = refl
map-added None true w = refl
map-added None false w = refl

map-found : (found : Option (List ℕ × Wanted)) (hit : Bool) (name : List ℕ) (w : Wanted)
    → option_map (λ (a : List ℕ × Wanted). a.1) (option_or found (cond hit (Some (name, w)) None))
    ≡ option_or (option_map (λ (a : List ℕ × Wanted). a.1) found) (cond hit (Some w) None)
map-found (Some x) hit name w = refl
map-found None true name w = refl
map-found None false name w = refl

stands-more : (names : Names) (s : Met) (q name : List ℕ) (w : Wanted)
    → stands_for names (with_alias name w s) q
    ≡ option_or (stands_for names s q) (cond (agrees names q name) (Some w) None)
stands-more names s q name w =
    ap (option_map (λ (a : List ℕ × Wanted). a.1))
    (find-append (λ (a : List ℕ × Wanted). agrees names q a.0) s.aliases ((name, w) ∷ []))
    ∙ map-found (find (λ (a : List ℕ × Wanted). agrees names q a.0) s.aliases) (agrees names q name) name w

is_some-said : (o : Option held.Wanted) → is_some (option_map wanted_said o) ≡ is_some o
is_some-said None = refl
is_some-said (Some x) = refl

module _ {A : Type 0} (names : Names) where
  -- nothing more
  pub met-same : (s : Met) (old new : Meeting A) → IsMet names s old → new.wanted ≡ old.wanted → new.asked ≡ old.asked
      → new.aliases ≡ old.aliases → IsMet names s new
  met-same s old new was w k a = record {
    wanted = ap (λ v. map wanted_said v.items) w ∙ was.wanted;
    asked = λ q. ap (λ m. is_some (value_of names m q)) k ∙ was.asked q;
    aliases = λ q. ap (λ m. option_map wanted_said (value_of names m q)) a ∙ was.aliases q;
    count = ap size a ∙ was.count;
  }

  -- an asked name more
  pub met-asked : (s : Met) (old new : Meeting A) (name : Bor (List ℕ)) → IsMet names s old → new.wanted ≡ old.wanted
      → new.aliases ≡ old.aliases
      → ((q : Bor (List ℕ)) → value_of names new.asked q
      ≡ option_or (value_of names old.asked q) (cond (agrees names q.now name.now) (Some tt) None))
      → IsMet names (with_asked name.now s) new
  met-asked s old new name was w a values = record {
    wanted = ap (λ v. map wanted_said v.items) w ∙ was.wanted;
    asked =
        λ q.
        ap is_some (values q) ∙ is_some-added tt (agrees names q.now name.now) (value_of names old.asked q)
        ∙ ap (λ b. b || agrees names q.now name.now) (was.asked q)
        ∙ ap (λ b. is_asked names s q.now || b) (sym (or-false (agrees names q.now name.now)))
        ∙ sym (list_any-append (agrees names q.now) s.asked (name.now ∷ []));
    aliases = λ q. ap (λ m. option_map wanted_said (value_of names m q)) a ∙ was.aliases q;
    count = ap size a ∙ was.count;
  }

  -- a wanted name more
  pub met-wanted : (s : Met) (old new : Meeting A) (ws : List Wanted) → IsMet names s old → new.asked ≡ old.asked
      → new.aliases ≡ old.aliases → map wanted_said new.wanted.items ≡ map wanted_said old.wanted.items ++ ws
      → IsMet names (with_wanted ws s) new
  met-wanted s old new ws was k a pushed = record {
    wanted = pushed ∙ ap (λ l. l ++ ws) was.wanted;
    asked = λ q. ap (λ m. is_some (value_of names m q)) k ∙ was.asked q;
    aliases = λ q. ap (λ m. option_map wanted_said (value_of names m q)) a ∙ was.aliases q;
    count = ap size a ∙ was.count;
  }

  -- an alias more
  pub met-alias : (s : Met) (old new : Meeting A) (name : Bor (List ℕ)) (w : held.Wanted) → IsMet names s old
      → new.wanted ≡ old.wanted → new.asked ≡ old.asked
      → ((q : Bor (List ℕ)) → value_of names new.aliases q
      ≡ option_or (value_of names old.aliases q) (cond (agrees names q.now name.now) (Some w) None))
      → size new.aliases ≡ size old.aliases + 1
      → IsMet names (with_alias name.now (wanted_said w) s) new
  met-alias s old new name w was v k values count = record {
    wanted = ap (λ l. map wanted_said l.items) v ∙ was.wanted;
    asked = λ q. ap (λ m. is_some (value_of names m q)) k ∙ was.asked q;
    aliases =
        λ q.
        ap (option_map wanted_said) (values q)
        ∙ map-added (value_of names old.aliases q) (agrees names q.now name.now) w
        ∙ ap (λ o. option_or o (cond (agrees names q.now name.now) (Some (wanted_said w)) None)) (was.aliases q)
        ∙ sym (stands-more names s q.now name.now (wanted_said w));
    count = count ∙ ap (λ n. n + 1) was.count ∙ sym (length-append s.aliases ((name.now, wanted_said w) ∷ []));
  }

  pub alias-known : (s : Met) (m : Meeting A) (name : Bor (List ℕ)) → IsMet names s m
      → is_some (value_of names m.aliases name) ≡ is_some (stands_for names s name.now)
  alias-known s m name is = sym (is_some-said (value_of names m.aliases name)) ∙ ap is_some (is.aliases name)

-- ---- an alias, in the three cases

abbrev meant : ℕ → Alias → Wanted
meant index a = record { name = a.meaning; wanted_by = index }

module _ (names : Names) (index : ℕ) (s : Met) (a : Alias) where
  alias-cases : Bool → Bool → Met
  alias-cases known asked =
      cond known s
      (cond asked (ask names (with_wanted (meant index a ∷ []) (with_alias a.name (meant index a) s)) a.meaning)
      (with_alias a.name (meant index a) s))

  alias-is : add_alias names index s a ≡ alias-cases (is_some (stands_for names s a.name)) (is_asked names s a.name)
  unfolding add_alias alias-cases
  alias-is = refl

  pub alias-again : is_some (stands_for names s a.name) ≡ true → add_alias names index s a ≡ s
  unfolding alias-cases
  alias-again e = alias-is ∙ ap (λ b. alias-cases b (is_asked names s a.name)) e

  pub alias-unused : is_some (stands_for names s a.name) ≡ false → is_asked names s a.name ≡ false
      → add_alias names index s a ≡ with_alias a.name (meant index a) s
  unfolding alias-cases
  alias-unused e f =
      alias-is ∙ ap (λ b. alias-cases b (is_asked names s a.name)) e ∙ ap (λ b. alias-cases false b) f

  pub alias-used : is_some (stands_for names s a.name) ≡ false → is_asked names s a.name ≡ true
      → add_alias names index s a
      ≡ ask names (with_wanted (meant index a ∷ []) (with_alias a.name (meant index a) s)) a.meaning
  unfolding alias-cases
  alias-used e f =
      alias-is ∙ ap (λ b. alias-cases b (is_asked names s a.name)) e ∙ ap (λ b. alias-cases false b) f

-- ---- one more of a list

pub fold-turn : {X Y S : Type 0} (step : S → Y → S) (f : X → Y) (xs : List X) (i : ℕ) (d : X) (s : S) → i < length xs
    → step (fold step s (map f (take i xs))) (f (get_or xs i d)) ≡ fold step s (map f (take (i + 1) xs))
fold-turn step f xs i d s h =
    sym (ap (fold step s) (map_more f xs i d h) ∙ fold-append step s (map f (take i xs)) (f (get_or xs i d) ∷ []))
