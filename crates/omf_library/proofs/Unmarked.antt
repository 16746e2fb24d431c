-- Records that mark no external.
use Rattle.std.proofs.Common.{◌≡◌, ◌||◌, ℕ, Bool, true, false, true≢false, List, [], ◌∷◌, ◌++◌, Some, None, filter}
use Rattle.std.proofs.Common.{map, not}
use Rattle.std.proofs.Common.{arith, is_some, length, refl, sym, ap, ◌∙◌, append-nil}
use Rattle.std.specs.declared.option.Option.{Option}
use Rattle.std.specs.List.{filter_map, flat_map, list_any}
use Rattle.std.specs.Option.{option_map_or}
use Rattle.omf_frame.specs.Frame.{Frame}
use Rattle.omf_frame.specs.declared.frame.Frame as lent
use Rattle.omf_frame.specs.Lending.{plain_frame}
use Rattle.omf_library.specs.Defaults.{Defaulted, defaulted_in, defaulted_of, is_theirs_alone, pair_front}
use Rattle.omf_library.specs.Entries.{entries}
use Rattle.omf_library.specs.Records.{comment_text}

-- one tells none
none-in : (class : ℕ) (externals : List (Option (List ℕ))) (f : Frame) → is_some (comment_text class f) ≡ false
    → defaulted_in class externals f ≡ []
unfolding defaulted_in
none-in class externals f is = of (comment_text class f) is
  where
    of : (text : Option (List ℕ)) → is_some text ≡ false
        → filter_map (defaulted_of externals f.place) (option_map_or (entries pair_front) text []) ≡ []
    of None is = refl
    of (Some text) is = absurd (true≢false is)

either : (a b : Bool) → (a || b) ≡ false → (a ≡ false) × (b ≡ false)
either false b is = (refl, is)
either true b is = absurd (true≢false is)

-- all tell none
pub untold : (class : ℕ) (externals : List (Option (List ℕ))) (frames : List lent.Frame) (told : List Defaulted)
    → list_any (λ f. is_some (comment_text class (plain_frame f))) frames ≡ false
    → told ≡ told ++ flat_map (defaulted_in class externals) (map plain_frame frames)
untold class externals [] told none = sym (append-nil told)
untold class externals (f ∷ fs) told none =
    let (here, more) = either _ _ none in
    untold class externals fs told more
    ∙ ap (λ l. told ++ (l ++ flat_map (defaulted_in class externals) (map plain_frame fs)))
    (sym (none-in class externals (plain_frame f) here))

-- where none is marked, a name is no marked one's
pub unmarked : (records : List Frame) (names : List (List ℕ))
    → names ≡ filter (λ name. not (is_theirs_alone [] records name)) names
unfolding is_theirs_alone
unmarked records [] = refl
unmarked records (name ∷ names) = ap (λ l. name ∷ l) (unmarked records names)

pub none-of : {X Y : Type 0} (f : X → Y) (xs : List X) → length xs ≡ 0 → map f xs ≡ []
none-of f [] none = refl
none-of f (x ∷ xs) none = absurd (omega (arith, none))
