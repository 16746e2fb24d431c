use Rattle.std.proofs.Common.{◌-◌, ap}
use Rattle.omf_library.proofs.Listing.{listed-is}
use Rattle.omf_library.proofs.entries.listed_name.Goals as goal

pub returns : goal.returns
returns c =
    rw c.copied.ensures
    (listed-is c.args.listed.now c.args.index _ c.get.result c.if-index-eq0.false (ap (λ n. n - 1) c.from.ensures)
    c.get.ensures.lookup)
