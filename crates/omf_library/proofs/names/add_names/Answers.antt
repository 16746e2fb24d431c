use Rattle.std.proofs.lemmas.Result.{on_ok_weaker}
use Rattle.omf_library.proofs.names.add_names.Goals as goal

pub returns-clause-externals : goal.returns-clause-externals
returns-clause-externals g c =
    on_ok_weaker c.push_listed.result (λ _. rw c.deref.ensures.value at c.in_ok-push_wanted.ensures)
    c.push_listed.ensures

pub returns-clause-offered : goal.returns-clause-offered
returns-clause-offered g c =
    on_ok_weaker c.push_listed.result (λ _. rw c.deref-2.ensures.value at c.in_ok-push_offered.ensures)
    c.push_listed.ensures
