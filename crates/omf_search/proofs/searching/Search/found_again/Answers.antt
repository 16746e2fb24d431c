use Rattle.std.proofs.Common.{◌≡◌, ◌+◌, ◌∷◌, arith}
use Rattle.omf_search.specs.Wanted.{wanted_names}
use Rattle.omf_search.specs.inside.Back.{IsSettled}
use Rattle.omf_search.proofs.GoingBack.{before-first, behind-gone, first-gone, first-done, first-settled, no-first}
use Rattle.omf_search.proofs.GoingBack.{none-back}
use Rattle.omf_search.proofs.searching.Search.found_again.Goals as goal

pub returns-in-Some-found_at-clause-found : goal.returns-in-Some-found_at-clause-found
returns-in-Some-found_at-clause-found g c = λ names ms bs was.
    let s = c.loop-place.self in
    let is = c.loop-place.invariant names ms bs was in
    let settled : IsSettled names ms bs c.in-Some.field-0.now =
    before-first names bs ms (wanted_names names ms) s.next c.in-Some.field-0.now s.back is.again is.behind
    c.in-Some.ensures.member c.in-Some.ensures.least in
    c.in-Some-found_at.ensures names ms bs is settled

pub loop-place-preserved : goal.loop-place-preserved
loop-place-preserved g c = λ names ms bs was.
    let s = c.loop-place.self in
    let is = c.loop-place.invariant names ms bs was in
    let place = c.in-Some.field-0.now in
    let new = c.pop_first.new.self in
    let settled : IsSettled names ms bs place =
    before-first names bs ms (wanted_names names ms) s.next place s.back is.again is.behind c.in-Some.ensures.member
    c.in-Some.ensures.least in
    let none : IsSettled names ms bs (place + 1) = c.in_default-found_at.ensures names ms bs is settled in
    let gone : s.back.keys ≡ place ∷ new.keys =
    first-gone s.back.keys new.keys place c.pop_first.result c.in-Some.ensures.first c.pop_first.ensures.variant
    c.pop_first.ensures.removal in
    record {
      by = is.by;
      taken = is.taken;
      places = is.places;
      offered = is.offered;
      within = is.within;
      again = first-done names bs ms (wanted_names names ms) s.next place s.back new gone none is.again;
      behind = λ p e. is.behind p (behind-gone s.back new place gone p e);
    }

pub returns-clause-found : goal.returns-clause-found
returns-clause-found g c = λ names ms bs was.
    let s = c.loop-place.self in
    let is = c.loop-place.invariant names ms bs was in
    first-settled names bs ms (wanted_names names ms) s.next s.next s.back is.again (omega arith)
    (λ q e. none-back s.back q (no-first c.first.result s.back.keys c.in_default.is c.first.ensures.variant) e)
