-- What is wanted as modules join: more of it, behind what was wanted before.
use Rattle.std.proofs.Common.{◌≡◌, ℕ, zero, suc, ◌+◌, ◌≤◌, true, false, cond, List, [], ◌∷◌, ◌++◌, length, take}
use Rattle.std.proofs.Common.{Option, Some, None, is_some, refl, ap, sym, ◌∙◌, append_assoc, arith, length-append}
use Rattle.std.proofs.lemmas.List.{append-nil, take-append-le}
use Rattle.std.proofs.lemmas.List.Sums.{fold-append}
use Rattle.std.specs.List.{enumerate_from, fold}
use Rattle.std.specs.Option.{option_map_or}
use Rattle.omf_library.specs.Aliases.{Alias}
use Rattle.omf_place.specs.declared.names.Names.{Names}
use Rattle.omf_search.specs.Said.{Module, Wanted}
use Rattle.omf_search.specs.Wanted.{Met, add_alias, add_module, ask, ask_up_to, is_asked, met, nothing_met, stands_for}
use Rattle.omf_search.specs.Wanted.{wanted_names, wanted_of, with_alias, with_asked, with_wanted}
use Rattle.omf_search.proofs.TakenSteps.{enumerate-push}

-- the one wants what the other does, and more behind it
abbrev pub Grows : Met → Met → Type 0
Grows s t = (more : List Wanted) × (t.wanted ≡ s.wanted ++ more)

same : (s t : Met) → t.wanted ≡ s.wanted → Grows s t
same s t e = ([], e ∙ sym (append-nil s.wanted))

further : (s t u : Met) → Grows s t → Grows t u → Grows s u
further s t u (xs, e) (ys, f) = (xs ++ ys, f ∙ ap (λ l. l ++ ys) e ∙ append_assoc s.wanted xs ys)

module _ (names : Names) where
  ask_up_to-grows : (most : ℕ) (s : Met) (name : List ℕ) → Grows s (ask_up_to names most s name)
  ask_up_to-grows zero s name = same s s refl
  ask_up_to-grows (suc most) s name =
      elim (is_asked names s name) as (λ b.
      Grows s
      (cond b s
      (option_map_or (λ (w : Wanted). ask_up_to names most (with_wanted (w ∷ []) (with_asked name s)) w.name)
      (stands_for names s name) (with_asked name s)))) [
        | true ↦ same s s refl
        | false ↦
            (elim (stands_for names s name) as (λ (o : Option Wanted).
            Grows s
            (option_map_or (λ (w : Wanted). ask_up_to names most (with_wanted (w ∷ []) (with_asked name s)) w.name) o
            (with_asked name s))) [
              | None ↦ same s (with_asked name s) refl
              | Some w ↦
                  further s (with_wanted (w ∷ []) (with_asked name s))
                  (ask_up_to names most (with_wanted (w ∷ []) (with_asked name s)) w.name) (w ∷ [], refl)
                  (ask_up_to-grows most (with_wanted (w ∷ []) (with_asked name s)) w.name)
            ])
      ]

  ask-grows : (s : Met) (name : List ℕ) → Grows s (ask names s name)
  unfolding ask
  ask-grows s name = ask_up_to-grows (suc (length s.aliases)) s name

  alias-grows : (index : ℕ) (s : Met) (a : Alias) → Grows s (add_alias names index s a)
  unfolding add_alias
  alias-grows index s a =
      let w : Wanted = record { name = a.meaning; wanted_by = index } in
      let t = with_alias a.name w s in
      elim (is_some (stands_for names s a.name)) as (λ b.
      Grows s (cond b s (cond (is_asked names s a.name) (ask names (with_wanted (w ∷ []) t) a.meaning) t))) [
        | true ↦ same s s refl
        | false ↦
            (elim (is_asked names s a.name) as (λ b.
            Grows s (cond b (ask names (with_wanted (w ∷ []) t) a.meaning) t)) [
              | true ↦
                  further s (with_wanted (w ∷ []) t) (ask names (with_wanted (w ∷ []) t) a.meaning) (w ∷ [], refl)
                  (ask-grows (with_wanted (w ∷ []) t) a.meaning)
              | false ↦ same s t refl
            ])
      ]

  fold-grows : {X : Type 0} (step : Met → X → Met) → ((s : Met) (x : X) → Grows s (step s x)) → (s : Met) (xs : List X)
      → Grows s (fold step s xs)
  fold-grows step grows s [] = same s s refl
  fold-grows step grows s (x ∷ xs) = further s (step s x) (fold step (step s x) xs) (grows s x) (fold-grows step grows (step s x) xs)

  module-grows : (s : Met) (p : ℕ × Module) → Grows s (add_module names s p)
  unfolding add_module
  module-grows s p =
      let one = with_wanted (wanted_of p) s in
      let two = fold (ask names) one p.1.externals in
      let three = fold (ask names) two p.1.communals in
      let four = fold (add_alias names p.0) three p.1.aliases in
      further s one four (wanted_of p, refl)
      (further one two four (fold-grows (ask names) ask-grows one p.1.externals)
      (further two three four (fold-grows (ask names) ask-grows two p.1.communals)
      (fold-grows (add_alias names p.0) (alias-grows p.0) three p.1.aliases)))

  -- what was met of modules, with one more
  pub met-push : (ms : List Module) (m : Module)
      → met names (ms ++ m ∷ []) ≡ add_module names (met names ms) (length ms, m)
  unfolding met
  met-push ms m =
      let e : 0 + length ms ≡ length ms = omega arith in
      ap (fold (add_module names) nothing_met) (enumerate-push 0 ms m)
      ∙ fold-append (add_module names) nothing_met (enumerate_from 0 ms) ((0 + length ms, m) ∷ [])
      ∙ ap (λ n. add_module names (fold (add_module names) nothing_met (enumerate_from 0 ms)) (n, m)) e

  -- what they want, with one more
  pub wanted-more : (ms : List Module) (m : Module)
      → (more : List Wanted) × (wanted_names names (ms ++ m ∷ []) ≡ wanted_names names ms ++ more)
  wanted-more ms m =
      let grown = module-grows (met names ms) (length ms, m) in
      (grown.0, ap (λ (s : Met). s.wanted) (met-push ms m) ∙ grown.1)

  -- a front of it stays
  pub wanted-front : (ms : List Module) (m : Module) (i : ℕ) → i ≤ length (wanted_names names ms)
      → take i (wanted_names names (ms ++ m ∷ [])) ≡ take i (wanted_names names ms)
  wanted-front ms m i h =
      let more = wanted-more ms m in
      ap (take i) more.1 ∙ take-append-le i (wanted_names names ms) more.0 h

  pub wanted-longer : (ms : List Module) (m : Module)
      → length (wanted_names names ms) ≤ length (wanted_names names (ms ++ m ∷ []))
  wanted-longer ms m =
      let more = wanted-more ms m in
      let len = ap length more.1 ∙ length-append (wanted_names names ms) more.0 in omega (arith, len)
