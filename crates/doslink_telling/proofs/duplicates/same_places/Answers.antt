use Rattle.std.proofs.Common.{◌≡◌, ℕ, [], ◌∙◌, ◌&&◌, ap, ap₂, filter, map, nat_eq}
use Rattle.std.specs.List.{enumerate_from}
use Rattle.std.specs.Option.{option_eq, option_map_or}
use Rattle.std.specs.Str.{bytes_eq}
use Rattle.doslink_telling.specs.Duplicates.{Public}
use Rattle.doslink_telling.specs.inside.Duplicates.{occurrence_of, places_at}
use Rattle.doslink_telling.proofs.duplicates.same_places.Goals as goal

pub returns-in-Some : goal.returns-in-Some
returns-in-Some g c = λ all is.
    let found : c.as_slice.result.now ≡ places_at c.args.places.now c.key_of.result =
    c.as_slice.ensures.value ∙ ap (λ o. option_map_or (λ v. v.items) o []) c.in-Some.ensures.value in
    found ∙ is c.key_of.result
    ∙ ap₂ (λ o s. map occurrence_of (filter (λ (e : ℕ × Public). option_eq nat_eq o e.1.owner && bytes_eq s e.1.spelled)
    (enumerate_from 0 all))) c.key_of.ensures.owner c.key_of.ensures.spelled

pub returns-in-None : goal.returns-in-None
returns-in-None g c = λ all is.
    let found : [] ≡ places_at c.args.places.now c.key_of.result =
    ap (λ o. option_map_or (λ v. v.items) o []) c.in-None.ensures.value in
    found ∙ is c.key_of.result
    ∙ ap₂ (λ o s. map occurrence_of (filter (λ (e : ℕ × Public). option_eq nat_eq o e.1.owner && bytes_eq s e.1.spelled)
    (enumerate_from 0 all))) c.key_of.ensures.owner c.key_of.ensures.spelled
