use Rattle.std.proofs.Common.{List, ℕ, Bor, sym}
use Rattle.std.proofs.lemmas.List.Folds.{flat_map-map}
use Rattle.omf_frame.proofs.Told.{Wrote-same}
use Rattle.omf_text.specs.Details.{details, name_line}
use Rattle.omf_text.proofs.details.put_names.Goals as goal

pub returns : goal.returns
unfolding details
returns g c =
    Wrote-same _ _ _ _ _ _ _ (sym (flat_map-map name_line (λ (n : Bor (List ℕ)). n.now) c.args.names.now))
    c.put_each.ensures
