-- The names that stay missing, and the marks that are wanted, one by one.
use Rattle.std.proofs.Common.{◌≡◌, ℕ, ◌+◌, ◌<◌, Bool, true, false, not, ◌||◌, List, [], ◌∷◌, ◌++◌, cond, filter, length}
use Rattle.std.proofs.Common.{map, take, get_or, refl, sym, ap, ◌∙◌, append-nil}
use Rattle.std.specs.List.{list_any}
use Rattle.std.proofs.lemmas.List.{map-append, take_more}
use Rattle.std.proofs.lemmas.List.Elements.{filter-append}
use Rattle.std.proofs.lemmas.List.Folds.{list_any-append}
use Rattle.omf_place.specs.declared.names.Names.{Names}
use Rattle.omf_search.specs.declared.said.Wanted as code
use Rattle.omf_search.specs.Results.{wanted_said}
use Rattle.omf_search.specs.Said.{Wanted}
use Rattle.doslink_telling.specs.Missing.{is_mark}

module _ (names : Names) where
  -- the order module defines it
  abbrev pub is_marked : Wanted → Bool
  is_marked w = is_mark names w.name

  -- of these names those that stay missing, and whether a mark is among them
  pub record AreParted (ws others : List code.Wanted) (marks : Bool) : Type 0 where
    pub stay : map wanted_said others ≡ filter (λ w. not (is_marked w)) (map wanted_said ws)
    pub wants : marks ≡ list_any is_marked (map wanted_said ws)

  pub none-parted : (others : List code.Wanted) → others ≡ [] → AreParted [] others false
  none-parted others none = record { stay = ap (map wanted_said) none; wants = refl }

  or-false : (b : Bool) → b ≡ (b || (false || false))
  or-false true = refl
  or-false false = refl

  or-true : (b : Bool) → true ≡ (b || (true || false))
  or-true true = refl
  or-true false = refl

  next : {Y : Type 0} (f : List Wanted → Y) (ws : List code.Wanted) (i : ℕ) (d : code.Wanted) → i < length ws
      → f (map wanted_said (take (i + 1) ws)) ≡ f (map wanted_said (take i ws) ++ wanted_said (get_or ws i d) ∷ [])
  next f ws i d h =
      ap (λ l. f (map wanted_said l)) (take_more ws i d h)
      ∙ ap f (map-append wanted_said (take i ws) (get_or ws i d ∷ []))

  next-stay : (ws : List code.Wanted) (i : ℕ) (d : code.Wanted) (is : Bool) → i < length ws
      → is_mark names (get_or ws i d).name.now ≡ is
      → filter (λ w. not (is_marked w)) (map wanted_said (take (i + 1) ws))
      ≡ filter (λ w. not (is_marked w)) (map wanted_said (take i ws))
      ++ cond (not is) (wanted_said (get_or ws i d) ∷ []) []
  next-stay ws i d is h e =
      next (filter (λ w. not (is_marked w))) ws i d h
      ∙ filter-append (λ w. not (is_marked w)) (map wanted_said (take i ws)) (wanted_said (get_or ws i d) ∷ [])
      ∙ ap
      (λ (b : Bool).
      filter (λ w. not (is_marked w)) (map wanted_said (take i ws))
      ++ cond (not b) (wanted_said (get_or ws i d) ∷ []) []) e

  next-wants : (ws : List code.Wanted) (i : ℕ) (d : code.Wanted) (is : Bool) → i < length ws
      → is_mark names (get_or ws i d).name.now ≡ is
      → list_any is_marked (map wanted_said (take (i + 1) ws))
      ≡ (list_any is_marked (map wanted_said (take i ws)) || (is || false))
  next-wants ws i d is h e =
      next (list_any is_marked) ws i d h
      ∙ list_any-append is_marked (map wanted_said (take i ws)) (wanted_said (get_or ws i d) ∷ [])
      ∙ ap (λ (b : Bool). list_any is_marked (map wanted_said (take i ws)) || (b || false)) e

  pub mark-parted : (ws : List code.Wanted) (i : ℕ) (d : code.Wanted) (others : List code.Wanted) (marks : Bool)
      → i < length ws → is_mark names (get_or ws i d).name.now ≡ true → AreParted (take i ws) others marks
      → AreParted (take (i + 1) ws) others true
  mark-parted ws i d others marks h is before = record {
    stay =
        before.stay ∙ sym (append-nil (filter (λ w. not (is_marked w)) (map wanted_said (take i ws))))
        ∙ sym (next-stay ws i d true h is);
    wants = or-true (list_any is_marked (map wanted_said (take i ws))) ∙ sym (next-wants ws i d true h is);
  }

  pub name-parted : (ws : List code.Wanted) (i : ℕ) (d : code.Wanted) (old new : List code.Wanted) (marks : Bool)
      → i < length ws → is_mark names (get_or ws i d).name.now ≡ false → new ≡ old ++ get_or ws i d ∷ []
      → AreParted (take i ws) old marks → AreParted (take (i + 1) ws) new marks
  name-parted ws i d old new marks h is pushed before = record {
    stay =
        ap (map wanted_said) pushed ∙ map-append wanted_said old (get_or ws i d ∷ [])
        ∙ ap (λ l. l ++ wanted_said (get_or ws i d) ∷ []) before.stay ∙ sym (next-stay ws i d false h is);
    wants =
        before.wants ∙ or-false (list_any is_marked (map wanted_said (take i ws)))
        ∙ sym (next-wants ws i d false h is);
  }
