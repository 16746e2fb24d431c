use Rattle.std.proofs.Common.{◌∙◌, ◌<◌, ◌≡◌, ◌+◌, ◌++◌, Some, None, ap, cond, drop, length, map, refl, rules, sym, take}
use Rattle.std.proofs.lemmas.List.{map_push}
use Rattle.omf_place.specs.Names.{agrees}
use Rattle.doslib_names.specs.Names.{doubled_behind, first_offer}
use Rattle.doslib_names.specs.inside.First.{doubled_said, first_by, offer_said}
use Rattle.doslib_names.proofs.Offers.{afresh, again, by_of, first-new, first-old, front-more}
use Rattle.doslib_names.proofs.doubled.all_doubled.Goals as goal
use Rattle.doslib_names.proofs.doubled.all_doubled.Goals.{in-Some+in_ok-push-in-Some, in-None+in_ok-add-in-None}

pub loop-offer-preserved : goal.loop-offer-preserved
loop-offer-preserved g c =
    let names = c.args.names in
    let offers = c.args.offers.now in
    let i = c.loop-offer.offer-index in
    let here : i < length offers = search rules in
    let more = front-more offers i _ here in
    elim c.match-get.branch [
      | in-Some+in_ok-push-in-Some w ↦
          let there : by_of (first_offer names (map offer_said (take i offers)) _) ≡ Some w.in-Some.first =
          sym (c.loop-offer.invariant.met _) ∙ sym c.get.ensures ∙ w.in-Some.is in
          record {
            met = λ q.
                ap (λ m. first_by names m q) w.met-is ∙ c.loop-offer.invariant.met q
                ∙ first-old names (map offer_said (take i offers)) _ w.in-Some.first q.now there
                ∙ ap (λ l. by_of (first_offer names l q.now)) (sym more);
            doubled =
                again names offers i _ (map doubled_said c.loop-offer.doubled.items) _ _ w.in-Some.first _ here there
                refl
                (ap (λ v. map doubled_said v.items) w.doubled-is
                ∙ ap (map doubled_said) w.in_ok-push-in-Some.ensures.items
                ∙ map_push doubled_said c.loop-offer.doubled.items _)
                c.loop-offer.invariant.doubled;
          }
      | in-None+in_ok-add-in-None w ↦
          let none : by_of (first_offer names (map offer_said (take i offers)) _) ≡ None =
          sym (c.loop-offer.invariant.met _) ∙ sym c.get.ensures ∙ w.in-None.is in
          record {
            met = λ q.
                ap (λ m. first_by names m q) w.met-is ∙ w.in_ok-add-in-None.ensures q
                ∙ ap (cond (agrees names q.now _) (Some _)) (c.loop-offer.invariant.met q)
                ∙ first-new names (map offer_said (take i offers)) _ q.now none
                ∙ ap (λ l. by_of (first_offer names l q.now)) (sym more);
            doubled =
                ap (λ v. map doubled_said v.items
                ++ doubled_behind names (map offer_said (take (i + 1) offers)) (map offer_said (drop (i + 1) offers)))
                w.doubled-is
                ∙ afresh names offers i _ (map doubled_said c.loop-offer.doubled.items) _ here none
                c.loop-offer.invariant.doubled;
          }
    ]
