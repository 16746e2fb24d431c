use Rattle.std.proofs.Common.{◌+◌, ◌<◌, arith, length, sym}
use Rattle.omf_search.specs.Wanted.{wanted_names}
use Rattle.omf_search.specs.inside.Back.{IsSettled}
use Rattle.omf_search.proofs.ChoiceSteps.{ended, wanted_past, wanted_within}
use Rattle.omf_search.proofs.GoingBack.{settled-first}
use Rattle.omf_search.proofs.searching.Search.next_found.Goals as goal

pub loop-self-init : goal.loop-self-init
loop-self-init g c = λ names ms bs was.
    (c.found_again.ensures.same names ms bs was, c.in_default.ensures.found names ms bs was)

pub returns-in-Some-found_at-clause-same : goal.returns-in-Some-found_at-clause-same
returns-in-Some-found_at-clause-same g c = λ names ms bs was. (c.loop-self.invariant names ms bs was).0

pub returns-in-Some-found_at-clause-found : goal.returns-in-Some-found_at-clause-found
returns-in-Some-found_at-clause-found g c = λ names ms bs was.
    let inv = c.loop-self.invariant names ms bs was in
    c.in-Some-found_at.ensures names ms bs inv.0 inv.1

pub loop-self-preserved : goal.loop-self-preserved
loop-self-preserved g c = λ names ms bs was.
    let s = c.loop-self.self in
    let ws = wanted_names names ms in
    let inv = c.loop-self.invariant names ms bs was in
    let is = inv.0 in
    let items = s.taken.meeting.wanted.items in
    let h : s.next < length items = omega (arith, c.loop-self-test.true, c.len.ensures) in
    let within = wanted_within items ws s.next is.taken.met.wanted h in
    let none : IsSettled names ms bs (s.next + 1) = c.in_default-found_at.ensures names ms bs is inv.1 in (
      record {
        by = is.by;
        taken = is.taken;
        places = is.places;
        offered = is.offered;
        within = omega (arith, within);
        again = settled-first names bs ms ws (s.next + 1) s.back none;
        behind = λ p e. let below = is.behind p e in omega (arith, below);
      },
      none,
    )

pub returns-clause-same : goal.returns-clause-same
returns-clause-same g c = λ names ms bs was. (c.loop-self.invariant names ms bs was).0

pub returns-clause-found : goal.returns-clause-found
returns-clause-found g c = λ names ms bs was.
    let s = c.loop-self.self in
    let inv = c.loop-self.invariant names ms bs was in
    sym (ended names bs ms s.next
    (wanted_past s.taken.meeting.wanted.items (wanted_names names ms) s.next inv.0.taken.met.wanted
    (omega (arith, c.loop-self-test.false, c.len.ensures))) inv.1)
