use Rattle.std.proofs.Common.{map, ap, subst, sym, ◌∙◌, length}
use Rattle.std.proofs.lemmas.List.{length-map}
use Rattle.omf_communal.specs.Deciding.{variable_said}
use Rattle.doslink_stock.specs.Seen.{handed_held}
use Rattle.doslink_passes.specs.Joined.{AreJoined, AreNotJoined}
use Rattle.doslink_passes.specs.Linked.{Linked}
use Rattle.doslink_passes.specs.Names.{start_module}
use Rattle.doslink_passes.specs.Orders.{asking_of}
use Rattle.doslink_passes.specs.Plain.{taking_of}
use Rattle.doslink_passes.specs.Request.{given_of, held_of, names_of, says_of}
use Rattle.doslink_passes.specs.Sources.{linked_said, source_bytes}
use Rattle.doslink_passes.proofs.Chaining.{chained, from, none-joined, none-local, none-taken}
use Rattle.doslink_passes.proofs.Lists.{map-map}
use Rattle.doslink_passes.proofs.LocalModules as local
use Rattle.doslink_passes.proofs.Refused.{refused-exit}
use Rattle.doslink_passes.proofs.Taking as taking
use Rattle.doslink_passes.proofs.chain.chain_modules.Goals as goal

pub take_modules-requires : goal.take_modules-requires
take_modules-requires g c = c.requires

pub with_locals-requires : goal.with_locals-requires
with_locals-requires g c =
    let r = c.args.request.now in
    taking.as-many (taking_of r.job.now (says_of r) (given_of r)) (start_module r.job.now) (given_of r) _ _ _
    c.in_ok-modules.ensures.taken
    ∙ length-map r.handed.now (λ h. (handed_held h).bytes)

pub returns-in_err-modules : goal.returns-in_err-modules
returns-in_err-modules g c =
    let r = c.args.request.now in
    refused-exit _ c.from_residual.result _ c.from_residual.ensures.1
    (none-taken r.job.now (says_of r) r.marks (held_of r) (map variable_said c.args.variables.now) (given_of r)
    (map-map handed_held (λ m. m.bytes) r.handed.now)) c.in_err-modules.ensures

pub returns-in_err-modules-2 : goal.returns-in_err-modules-2
returns-in_err-modules-2 g c =
    let r = c.args.request.now in
    refused-exit _ c.from_residual-in_err-modules-2.result _ c.from_residual-in_err-modules-2.ensures.1
    (none-local r.job.now (says_of r) r.marks (held_of r) (map variable_said c.args.variables.now) (given_of r)
    (map-map handed_held (λ m. m.bytes) r.handed.now) _ _ c.in_ok-modules.ensures)
    c.in_err-modules-2.ensures

pub invariant_of-linked : goal.invariant_of-linked
invariant_of-linked g c =
    let r = c.args.request.now in
    let names = names_of r.job.now.ignore_case in
    record {
      even = sym (length-map c.in_ok-sources.sources.items source_bytes) ∙ ap length c.in_ok-sources.ensures
          ∙ length-map r.handed.now (λ h. (handed_held h).bytes)
          ∙ sym (local.as-many names _ (given_of r) _ _ c.in_ok-modules-2.ensures
          ∙ taking.as-many (taking_of r.job.now (says_of r) (given_of r)) (start_module r.job.now) (given_of r) _ _ _
          c.in_ok-modules.ensures.taken
          ∙ length-map r.handed.now (λ h. (handed_held h).bytes));
    }

pub returns-in_err-linked : goal.returns-in_err-linked
returns-in_err-linked g c =
    let r = c.args.request.now in
    let vs = map variable_said c.args.variables.now in
    let modules = c.in_ok-modules-2.modules.items in
    refused-exit _ c.from_residual-in_err-linked.result _ c.from_residual-in_err-linked.ensures.1
    (λ none. none-joined r.job.now (says_of r) r.marks (held_of r) vs (given_of r)
    (map-map handed_held (λ m. m.bytes) r.handed.now) _ _ _ c.in_ok-modules.ensures c.in_ok-modules-2.ensures
    (subst (λ given. AreNotJoined (asking_of r.job.now r.marks (held_of r)) r.job.now.stack (from given modules) vs)
    c.in_ok-sources.ensures none))
    c.in_err-linked.ensures

pub returns : goal.returns
returns g c =
    let r = c.args.request.now in
    let vs = map variable_said c.args.variables.now in
    let modules = c.in_ok-modules-2.modules.items in
    let all = linked_said c.in_ok-linked.linked in
    chained r.job.now (says_of r) r.marks (held_of r) vs (given_of r)
    (map-map handed_held (λ m. m.bytes) r.handed.now) _ _ modules all c.in_ok-modules.ensures
    c.in_ok-modules-2.ensures
    (subst (λ given. AreJoined (asking_of r.job.now r.marks (held_of r)) r.job.now.stack (from given modules) vs all)
    c.in_ok-sources.ensures c.in_ok-linked.ensures)
