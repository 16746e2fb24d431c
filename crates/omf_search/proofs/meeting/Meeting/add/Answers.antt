use Rattle.std.proofs.Common.{refl}
use Rattle.omf_search.specs.Results.{module_said}
use Rattle.omf_search.specs.Wanted.{add_module, wanted_of}
use Rattle.omf_search.proofs.MetSteps.{met-wanted}
use Rattle.omf_search.proofs.Results.{OnOk-map}
use Rattle.omf_search.proofs.meeting.Meeting.add.Goals as goal

pub returns : goal.returns
unfolding add_module
returns g c =
    OnOk-map c.add_aliases.result _ _
    (λ adds. λ s is.
    adds _ (c.in_ok-ask_each-2.ensures _ (c.in_ok-ask_each.ensures _
    (met-wanted c.args.names s c.args.self.now _ (wanted_of (c.args.index, module_said c.args.says)) is refl refl
    c.in_ok-push_wanted.ensures)))) c.add_aliases.ensures
