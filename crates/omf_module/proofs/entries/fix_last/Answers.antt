use Rattle.std.proofs.Common.{◌∷◌, [], arith}
use Rattle.omf_module.specs.inside.Store as pieces
use Rattle.omf_module.proofs.LastData.{at_last}
use Rattle.omf_module.proofs.entries.fix_last.Goals as goal

pub returns-in_ok-push-clause-says : goal.returns-in_ok-push-clause-says
returns-in_ok-push-clause-says g c =
    λ bytes places.
    at_last (pieces.data_record bytes places) (c.args.fixup ∷ []) c.args.list.now.items _ c.index_mut-last.result.now _
    (omega (arith, c.args.list.now.ok.0)) c.index_mut-last.ensures.value (rw c.in_ok-push.ensures.items)
