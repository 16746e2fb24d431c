use Rattle.std.proofs.Common.{◌≡◌, ℕ, List, Bor, ◌++◌, ◌||◌, ap, ap₂, sym, ◌∙◌, Some, None, cond}
use Rattle.std.proofs.lemmas.Result.{on_ok_weaker}
use Rattle.std.specs.Option.{option_or}
use Rattle.omf_frame.specs.Lending.{plain_frame}
use Rattle.omf_library.specs.declared.aliases.Alias as lent
use Rattle.omf_library.specs.Aliases.{aliases_in}
use Rattle.omf_library.specs.Defaults.{is_among}
use Rattle.omf_library.specs.Names.{texts, wanted_in}
use Rattle.omf_library.specs.Said.{aliases_said}
use Rattle.omf_library.specs.Wanting.{is_meant, place_of}
use Rattle.omf_library.proofs.Wanted.{two_hits}
use Rattle.omf_library.proofs.wanting.WantingPlaces.add_record.Goals as goal

pub returns : goal.returns
returns g c =
    let place = c.args.frame.now.place in
    let wanted : texts c.deref.result.now ≡ wanted_in (texts c.args.listed.now) (plain_frame c.args.frame.now) =
    ap texts c.deref.ensures.value ∙ c.in_ok-push_wanted.ensures
    ∙ ap (λ (l : List (Bor (List ℕ))). texts l ++ wanted_in (texts c.args.listed.now) (plain_frame c.args.frame.now))
    c.new-wanted.ensures.items in
    let aliases : aliases_said c.deref-2.result.now ≡ aliases_in (plain_frame c.args.frame.now) =
    ap aliases_said c.deref-2.ensures.value ∙ c.in_ok-push_aliases.ensures
    ∙ ap (λ (l : List lent.Alias). aliases_said l ++ aliases_in (plain_frame c.args.frame.now))
    c.new-aliases.ensures.items in
    on_ok_weaker c.add_meanings.result
    (λ added q.
    added q
    ∙ ap
    (λ o. option_or o (cond (is_meant q.now (aliases_said c.deref-2.result.now)) (Some place) None))
    (c.in_ok-add_each.ensures q)
    ∙ two_hits place (place_of c.args.self.now q) (is_among q.now (texts c.deref.result.now))
    (is_meant q.now (aliases_said c.deref-2.result.now))
    ∙ ap₂ (λ a b. option_or (place_of c.args.self.now q) (cond (a || b) (Some place) None))
    (ap (is_among q.now) wanted) (ap (is_meant q.now) aliases))
    c.add_meanings.ensures
