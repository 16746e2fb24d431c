-- The first record that asks for a name, record by record.
use Rattle.std.proofs.Common.{◌≡◌, ℕ, ◌+◌, ◌<◌, ◌≤◌, Bool, true, false, ◌||◌, List, [], ◌∷◌, ◌++◌, length, map, drop}
use Rattle.std.proofs.Common.{get_or, cond, is_some, Some, None, refl, sym, ap, ap₂, ◌∙◌}
use Rattle.std.specs.declared.option.Option.{Option}
use Rattle.std.specs.Borrow.{Bor}
use Rattle.std.specs.List.{flat_map, list_any}
use Rattle.std.specs.Option.{option_map}
use Rattle.std.specs.Str.{bytes_eq}
use Rattle.std.proofs.lemmas.List.{at_drop_more, at_drop_all}
use Rattle.std.proofs.lemmas.List.Folds.{list_any-append}
use Rattle.omf_frame.specs.Frame.{Frame}
use Rattle.omf_frame.specs.Lending.{plain_frame}
use Rattle.omf_frame.specs.declared.frame.Frame.{Frame as LentFrame}
use Rattle.omf_library.specs.Listed.{listed_in, said_by}
use Rattle.omf_library.specs.declared.aliases.Alias as lent
use Rattle.omf_library.specs.Aliases.{Alias, aliases_in, aliases_of}
use Rattle.omf_library.specs.Names.{external_names, texts, wanted_in}
use Rattle.omf_library.specs.Said.{aliases_said}
use Rattle.omf_library.specs.Defaults.{is_among}
use Rattle.omf_library.specs.Wanting.{asks, first_wanting, is_asked, is_meant, wanting_place}

-- ---- some record asks for a name exactly where the module does

some-first : (wants : Bool) (f : Frame) (later : Option Frame) (among : Bool) → is_some later ≡ among
    → is_some (cond wants (Some f) later) ≡ (wants || among)
some-first true f later among e = refl
some-first false f later among e = e

or-apart : (a b c d : Bool) → ((a || b) || (c || d)) ≡ ((a || c) || (b || d))
or-apart true b c d = refl
or-apart false true true d = refl
or-apart false true false d = refl
or-apart false false true d = refl
or-apart false false false d = refl

some-wanting : (name : List ℕ) (listed : List (List ℕ)) (fs : List Frame)
    → is_some (first_wanting name listed fs)
    ≡ (is_among name (said_by wanted_in listed fs) || is_meant name (flat_map aliases_in fs))
some-wanting name listed [] = refl
some-wanting name listed (f ∷ fs) =
    let later = listed ++ listed_in f in
    some-first (asks name listed f) f (first_wanting name later fs) _ (some-wanting name later fs)
    ∙ or-apart (is_among name (wanted_in listed f)) (is_meant name (aliases_in f))
    (is_among name (said_by wanted_in later fs)) (is_meant name (flat_map aliases_in fs))
    ∙ ap₂ (λ a b. a || b)
    (sym (list_any-append (bytes_eq name) (wanted_in listed f) (said_by wanted_in later fs)))
    (sym (list_any-append (λ (a : Alias). bytes_eq name a.meaning) (aliases_in f) (flat_map aliases_in fs)))

some-place : (o : Option Frame) → is_some (option_map (λ (f : Frame). f.place) o) ≡ is_some o
some-place None = refl
some-place (Some f) = refl

pub some-wanted : (name : List ℕ) (records : List Frame) (place : Option ℕ) → place ≡ wanting_place name records
    → is_some place ≡ is_asked name records
unfolding wanting_place external_names aliases_of
some-wanted name records place is =
    ap is_some is ∙ some-place (first_wanting name [] records) ∙ some-wanting name [] records

-- ---- the records that are left

-- the records from one on ask first, by the names listed before, for what that one or those behind it do
pub left-next : (name : List ℕ) (frames : List LentFrame) (i : ℕ) (listed : List (List ℕ)) (f : LentFrame) (wants : Bool)
    → i < length frames → f ≡ get_or frames i f → asks name listed (plain_frame f) ≡ wants
    → first_wanting name listed (map plain_frame (drop i frames))
    ≡ cond wants (Some (plain_frame f))
    (first_wanting name (listed ++ listed_in (plain_frame f)) (map plain_frame (drop (i + 1) frames)))
left-next name frames i listed f wants within is e =
    at_drop_more (λ (fs : List LentFrame). first_wanting name listed (map plain_frame fs)) frames i f within
    ∙ ap
    (λ (g : LentFrame). first_wanting name listed (plain_frame g ∷ map plain_frame (drop (i + 1) frames))) (sym is)
    ∙ ap
    (λ (b : Bool).
    cond b (Some (plain_frame f))
    (first_wanting name (listed ++ listed_in (plain_frame f)) (map plain_frame (drop (i + 1) frames)))) e
