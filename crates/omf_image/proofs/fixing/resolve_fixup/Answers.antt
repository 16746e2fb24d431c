use Rattle.omf_image.specs.inside.PlacedData.{entry_seen}
use Rattle.omf_image.proofs.Meaning.{fixup_lacks}
use Rattle.omf_image.proofs.fixing.resolve_fixup.Goals as goal

pub returns-in_err-resolved : goal.returns-in_err-resolved
returns-in_err-resolved g c =
    let s = c.args.placed.now in
    fixup_lacks s.layout.now (entry_seen s) c.args.fixup.now _ _ c.from_residual.ensures.1 c.in_err-resolved.ensures
