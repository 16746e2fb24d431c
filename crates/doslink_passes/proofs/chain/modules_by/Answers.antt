use Rattle.std.proofs.Common.{map, subst, sym}
use Rattle.omf_communal.specs.Deciding.{variable_said}
use Rattle.doslink_passes.specs.Meant.{AreMeant, taking_for}
use Rattle.doslink_passes.specs.Linked.{Linked}
use Rattle.doslink_passes.specs.Request.{given_of, held_of, names_of, says_of}
use Rattle.doslink_passes.specs.Sources.{linked_said, source_bytes}
use Rattle.doslink_passes.specs.Sums.{AllFit, SomeOverflows}
use Rattle.doslink_passes.proofs.Chaining.{modules-of, meant-for, none-fits}
use Rattle.doslink_passes.proofs.Refused.{refused-exit}
use Rattle.doslink_passes.proofs.chain.modules_by.Goals as goal

pub chain_modules-requires : goal.chain_modules-requires
chain_modules-requires g c = c.requires

pub returns-in_err-linked : goal.returns-in_err-linked
returns-in_err-linked g c =
    refused-exit _ c.from_residual.result _ c.from_residual.ensures.1 (λ none. none) c.in_err-linked.ensures

pub returns-in_err-check_sums : goal.returns-in_err-check_sums
returns-in_err-check_sums g c =
    let r = c.args.request.now in
    let linked = linked_said c.in_ok-linked.field-0.linked in
    refused-exit _ c.from_residual-in_err-check_sums.result _ c.from_residual-in_err-check_sums.ensures.1
    (λ over. none-fits r.job.now (says_of r) r.marks (held_of r) (map variable_said c.args.variables.now) _ linked _
    c.in_ok-linked.ensures
    (meant-for r.job.now (says_of r) (given_of r) c.args.meanings.now linked _ c.requires c.in_ok-linked-2.ensures.meant)
    (subst (λ ws. SomeOverflows ws (names_of r.job.now.ignore_case) c.in_ok-linked-2.linked.modules.items)
    c.deref-2.ensures.value over))
    c.in_err-check_sums.ensures

pub returns : goal.returns
returns g c =
    let r = c.args.request.now in
    let linked = c.in_ok-linked.field-0.linked in
    modules-of r.job.now (says_of r) r.marks (held_of r) (map variable_said c.args.variables.now) (given_of r)
    c.args.meanings.now _ linked c.in_ok-linked-2.linked.sources _ c.requires c.in_ok-linked.ensures
    c.in_ok-linked-2.ensures.sources c.in_ok-linked-2.ensures.meant
    (subst (λ ws. AllFit ws (names_of r.job.now.ignore_case) c.in_ok-linked-2.linked.modules.items)
    c.deref-2.ensures.value c.in_ok-check_sums.ensures)
