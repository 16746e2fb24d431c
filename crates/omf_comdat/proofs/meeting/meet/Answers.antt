use Rattle.std.proofs.Common.{◌∙◌, List, true, Ok, sym, ap}
use Rattle.std.specs.declared.result.Result.{Result}
use Rattle.omf_comdat.specs.Fates.{Clash, Met, Shared, judged}
use Rattle.omf_comdat.specs.inside.Held.{firsts_said, shared_said}
use Rattle.omf_comdat.proofs.Firsts.{meets_new, meets_old}
use Rattle.omf_comdat.proofs.meeting.meet.Goals as goal

abbrev taken_with : List Shared → Result Met Clash
taken_with firsts = Ok (record { firsts = firsts; taken = true })

pub returns-in_ok-add-in-None-clause-met : goal.returns-in_ok-add-in-None-clause-met
returns-in_ok-add-in-None-clause-met g c =
    meets_new c.args.names c.args.firsts.now.entries c.args.other c.requires (sym c.in-None.ensures)
    ∙ ap taken_with (sym c.in_ok-add-in-None.ensures.added)

pub returns-in-Ok-clause-met : goal.returns-in-Ok-clause-met
returns-in-Ok-clause-met g c =
    meets_old c.args.names c.args.firsts.now.entries c.args.other c.requires c.in-Some.first (sym c.in-Some.ensures)
    ∙ ap (judged (firsts_said c.args.firsts.now.entries) (shared_said c.in-Some.first) (shared_said c.args.other))
    (sym c.in-Ok.ensures)

pub returns-in-Err-clause-met : goal.returns-in-Err-clause-met
returns-in-Err-clause-met g c =
    meets_old c.args.names c.args.firsts.now.entries c.args.other c.requires c.in-Some.first (sym c.in-Some.ensures)
    ∙ ap (judged (firsts_said c.args.firsts.now.entries) (shared_said c.in-Some.first) (shared_said c.args.other))
    (sym c.in-Err.ensures)
