use Rattle.std.proofs.Common.{◌∙◌, ap, arith, refl, sym}
use Rattle.omf_place.specs.Names.{agrees}
use Rattle.omf_search.specs.Places.{place_from}
use Rattle.omf_search.specs.Said.{Wanted}
use Rattle.omf_search.proofs.GoingBack.{none-back, nothing-wanted}
use Rattle.omf_search.proofs.searching.Search.new.Goals as goal

pub returns : goal.returns
returns g c = record {
  by = refl;
  taken = c.new.ensures c.args.names;
  places = λ q.
      c.new-2.ensures.none c.args.names q
      ∙ ap (place_from 0 (λ (w : Wanted). agrees c.args.names q.now w.name)) (sym (nothing-wanted c.args.names));
  offered = λ q. c.new-3.ensures.none c.args.names q;
  within = omega arith;
  again = λ w p t first h. absurd (omega (arith, h));
  behind = λ p e. none-back c.new-4.result p c.new-4.ensures.empty e;
}
