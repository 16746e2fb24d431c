use Rattle.std.proofs.Common.{◌+◌, ◌∙◌, ◌<◌, ◌≤◌, None, ap, arith, cond, length, refl, sym}
use Rattle.std.proofs.lemmas.List.{take_all}
use Rattle.std.specs.List.{find}
use Rattle.omf_search.specs.Results.{wanted_said}
use Rattle.omf_search.specs.Said.{is_defined}
use Rattle.omf_search.specs.Search.{takes}
use Rattle.omf_search.specs.Wanted.{wanted_names}
use Rattle.omf_search.proofs.ChoiceSteps.{found_next, unfound_next, wanted_at, wanted_past, wanted_within}
use Rattle.omf_search.proofs.GoingBack.{open-said}
use Rattle.omf_search.proofs.searching.Search.found_at.Goals as goal

pub returns-then-place-len : goal.returns-then-place-len
returns-then-place-len g c = λ names ms bs is none.
    let ws = wanted_names names ms in
    let past : length ws ≤ c.args.place =
    wanted_past c.args.self.now.taken.meeting.wanted.items ws c.args.place is.taken.met.wanted
    (omega (arith, c.if-place-len.true, c.len.ensures)) in
    ap (find (takes names bs ms))
    (take_all (c.args.place + 1) ws (omega (arith, past)) ∙ sym (take_all c.args.place ws past)) ∙ none

pub returns-in_default : goal.returns-in_default
returns-in_default g c = λ names ms bs is none.
    let s = c.args.self.now in
    let ws = wanted_names names ms in
    let items = s.taken.meeting.wanted.items in
    let w = c.index-wanted.result.now in
    let h : c.args.place < length items = omega (arith, c.if-place-len.false, c.len.ensures) in
    unfound_next names bs ms c.args.place (wanted_said w) (wanted_said w)
    (wanted_within items ws c.args.place is.taken.met.wanted h)
    (ap wanted_said c.index-wanted.ensures ∙ wanted_at items ws c.args.place is.taken.met.wanted h w) none
    (sym c.in_default.is
    ∙ open-said names s.names ms s.taken s.offers w.name c.of_open.result is.by is.taken c.of_open.ensures
    ∙ ap (λ o. cond (is_defined names ms w.name.now) None o) (is.offered w.name))

pub returns : goal.returns
returns g c = λ names ms bs is none.
    let s = c.args.self.now in
    let ws = wanted_names names ms in
    let items = s.taken.meeting.wanted.items in
    let w = c.index-wanted.result.now in
    let h : c.args.place < length items = omega (arith, c.if-place-len.false, c.len.ensures) in
    found_next names bs ms c.args.place (wanted_said w) (wanted_said w)
    (record { member = c.in-Some.member; name = w.name; wanted_by = w.wanted_by })
    (wanted_within items ws c.args.place is.taken.met.wanted h)
    (ap wanted_said c.index-wanted.ensures ∙ wanted_at items ws c.args.place is.taken.met.wanted h w) none refl
    (sym c.in-Some.is
    ∙ open-said names s.names ms s.taken s.offers w.name c.of_open.result is.by is.taken c.of_open.ensures
    ∙ ap (λ o. cond (is_defined names ms w.name.now) None o) (is.offered w.name))
