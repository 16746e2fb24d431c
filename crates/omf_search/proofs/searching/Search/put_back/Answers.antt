use Rattle.std.proofs.Common.{◌≡◌, ◌∙◌, Some, None, arith, sym}
use Rattle.omf_search.specs.Said.{is_defined}
use Rattle.omf_search.specs.Wanted.{wanted_names}
use Rattle.omf_search.proofs.GoingBack.{behind-put, first-name, kept-put, open-place, open-said, put-there}
use Rattle.omf_search.proofs.searching.Search.put_back.Goals as goal

pub returns-in_default : goal.returns-in_default
returns-in_default g c = λ names ms bs ns was.
    let s = c.args.self.now in
    let name = c.args.name in
    record {
      is = was.is;
      too =
          first-name names bs ms (wanted_names names ms) s.next ns name.now s.back s.back (λ q e. e)
          (λ p d first h.
          let none =
          open-place (is_defined names ms name.now) c.of_open.result _ _ p
          (open-said names s.names ms s.taken s.places name c.of_open.result was.is.by was.is.taken c.of_open.ensures)
          (was.is.places name) d first in
          absurd (let u : None ≡ Some p = sym c.in_default.is ∙ none in cc)) was.too;
    }

pub returns-then-place-self : goal.returns-then-place-self
returns-then-place-self g c = λ names ms bs ns was.
    let s = c.args.self.now in
    let name = c.args.name in
    record {
      is = was.is;
      too =
          first-name names bs ms (wanted_names names ms) s.next ns name.now s.back s.back (λ q e. e)
          (λ p d first h.
          let some =
          open-place (is_defined names ms name.now) c.of_open.result _ _ p
          (open-said names s.names ms s.taken s.places name c.of_open.result was.is.by was.is.taken c.of_open.ensures)
          (was.is.places name) d first in
          let both : Some c.in-Some.place ≡ Some p = sym c.in-Some.is ∙ some in
          let same : c.in-Some.place ≡ p = cc in
          absurd (omega (arith, same, h, c.if-place-self.true))) was.too;
    }

pub returns : goal.returns
returns g c = λ names ms bs ns was.
    let s = c.args.self.now in
    let name = c.args.name in
    let new = c.insert.new.self in
    let place = c.in-Some.place in
    let kept = kept-put s.back new place c.in_ok-insert.ensures.updates.0 in
    record {
      is = record {
        by = was.is.by;
        taken = was.is.taken;
        places = was.is.places;
        offered = was.is.offered;
        within = was.is.within;
        again = λ w p t first h. kept p (was.is.again w p t first h);
        behind =
            behind-put s.back new place s.next c.in_ok-insert.ensures.updates.0
            (omega (arith, c.if-place-self.false)) was.is.behind;
      };
      too =
          first-name names bs ms (wanted_names names ms) s.next ns name.now s.back new kept
          (λ p d first h.
          let some =
          open-place (is_defined names ms name.now) c.of_open.result _ _ p
          (open-said names s.names ms s.taken s.places name c.of_open.result was.is.by was.is.taken c.of_open.ensures)
          (was.is.places name) d first in
          let both : Some place ≡ Some p = sym c.in-Some.is ∙ some in
          let same : place ≡ p = cc in
          put-there s.back new place p same c.in_ok-insert.ensures.updates.0) was.too;
    }
