use Rattle.std.proofs.Common.{List, [], ap, map, refl, subst, sym}
use Rattle.doslink_stock.specs.declared.searching.Place.{Place}
use Rattle.doslink_stock.specs.Placed.{ArePlaced}
use Rattle.doslink_stock.specs.Search.{nothing}
use Rattle.doslink_stock.specs.Seen.{entry_held}
use Rattle.doslink_stock.proofs.searching.Stock.new.Goals as goal

pub returns : goal.returns
returns g c = (
  nothing,
  refl,
  record {
    files = refl;
    members = ap (map entry_held) c.new-2.ensures.items;
    placed =
        subst (λ (l : List Place). ArePlaced (map entry_held c.new.result.items) [] l []) (sym c.new-3.ensures.items) tt;
    search = c.new-4.ensures;
  },
)
