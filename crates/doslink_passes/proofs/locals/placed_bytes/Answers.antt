use Rattle.std.proofs.Common.{◌≡◌, IsErr, Ok, map, subst}
use Rattle.std.specs.Option.{option_map}
use Rattle.omf_communal.specs.Answers.{local_module_bytes}
use Rattle.omf_communal.specs.Deciding.{variable_said}
use Rattle.doslink_passes.proofs.Refused.{OnInput-weaker, plan-fault}
use Rattle.doslink_passes.proofs.locals.placed_bytes.Goals as goal

pub returns-in-Ok : goal.returns-in-Ok
returns-in-Ok g c =
    subst (λ n. local_module_bytes c.args.room.now.in_bss n (map variable_said c.args.variables.now)
    ≡ Ok (option_map (λ v. v.items) c.in-Ok.bytes)) c.segment_count-segments.ensures c.in-Ok.ensures

pub returns-in-Err : goal.returns-in-Err
returns-in-Err g c =
    OnInput-weaker c.stop_unplaced.result
    (λ other. subst (λ n. IsErr (local_module_bytes c.args.room.now.in_bss n (map variable_said c.args.variables.now)))
    c.segment_count-segments.ensures (plan-fault c.in-Err.fault _ c.in-Err.ensures other))
    c.stop_unplaced.ensures
