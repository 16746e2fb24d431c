use Rattle.std.proofs.Common.{[], ◌∙◌, ap, length, map, subst, sym, take, arith}
use Rattle.std.proofs.lemmas.Iterator.Adapters.{YieldsList-from_vec}
use Rattle.std.proofs.lemmas.Iterator.Consumers.{YieldsList-end, YieldsList-turn}
use Rattle.std.proofs.lemmas.List.{length-map, map-id}
use Rattle.std.specs.List.{list_any}
use Rattle.omf_communal.specs.Bss.{has_bss}
use Rattle.doslink_stock.specs.Seen.{handed_held}
use Rattle.doslink_passes.specs.Locals.{EachHasLocals, HasLocals, HasNoLocals}
use Rattle.doslink_passes.specs.Request.{names_of}
use Rattle.doslink_passes.proofs.LocalModules.{locals-all, locals-next, none-at}
use Rattle.doslink_passes.proofs.Refused.{refused-exit}
use Rattle.doslink_passes.proofs.locals.with_locals.Goals as goal

pub loop-module-init : goal.loop-module-init
loop-module-init g c =
    let names = names_of c.args.request.now.job.now.ignore_case in
    subst (EachHasLocals names c.args.modules.items [] []) (sym c.new-all.ensures.items) tt

pub loop-module-preserved : goal.loop-module-preserved
loop-module-preserved g c =
    let names = names_of c.args.request.now.job.now.ignore_case in
    let modules = c.args.modules.items in
    let given = map (λ h. (handed_held h).bytes) c.args.request.now.handed.now in
    let so_far = c.loop-module.yielded in
    let b = c.into_iter-module-iterator.ensures.into_iter_gives in
    let t = YieldsList-turn (YieldsList-from_vec {s = c.into_iter-module-iterator.result} modules b.0
    (b.1 ∙ c.args.modules.ok.0)) so_far c.loop-module.module-iterator c.loop-module.yielded_by c.next.result
    c.next.new.self c.in-Some.module c.in-Some.is c.next.ensures.steps in
    locals-next names modules given so_far c.loop-module.all.items c.push.new.self.items c.in-Some.module c.in_ok-with_own.field-0 _ _
    c.loop-module.invariant (c.len.ensures ∙ c.loop-module.all.ok.0)
    (omega (arith, t.0, c.requires, length-map c.args.request.now.handed.now (λ h. (handed_held h).bytes)))
    c.given-given.ensures
    (subst (λ n. HasLocals n modules c.given-given.result.bytes.now c.in-Some.module c.in_ok-with_own.field-0)
    c.names-names.ensures
    (c.in_ok-with_own.ensures modules (c.have_bss-in_bss.ensures ∙ ap (list_any has_bss) c.deref.ensures.value)))
    c.in_ok-push.ensures.items

pub returns-in_err-with_own : goal.returns-in_err-with_own
returns-in_err-with_own g c =
    let names = names_of c.args.request.now.job.now.ignore_case in
    let modules = c.args.modules.items in
    let given = map (λ h. (handed_held h).bytes) c.args.request.now.handed.now in
    let so_far = c.loop-module.yielded in
    let b = c.into_iter-module-iterator.ensures.into_iter_gives in
    let t = YieldsList-turn (YieldsList-from_vec {s = c.into_iter-module-iterator.result} modules b.0
    (b.1 ∙ c.args.modules.ok.0)) so_far c.loop-module.module-iterator c.loop-module.yielded_by c.next.result
    c.next.new.self c.in-Some.module c.in-Some.is c.next.ensures.steps in
    refused-exit _ c.from_residual.result _ c.from_residual.ensures.1
    (λ none. none-at names modules given modules so_far c.loop-module.all.items c.in-Some.module _ _
    c.loop-module.invariant (c.len.ensures ∙ c.loop-module.all.ok.0) t.0
    (omega (arith, t.0, c.requires, length-map c.args.request.now.handed.now (λ h. (handed_held h).bytes))) t.1
    c.given-given.ensures
    (subst (λ n. HasNoLocals n modules c.given-given.result.bytes.now c.in-Some.module) c.names-names.ensures
    (none modules (c.have_bss-in_bss.ensures ∙ ap (list_any has_bss) c.deref.ensures.value))))
    c.in_err-with_own.ensures

pub returns : goal.returns
returns g c =
    let names = names_of c.args.request.now.job.now.ignore_case in
    let modules = c.args.modules.items in
    let given = map (λ h. (handed_held h).bytes) c.args.request.now.handed.now in
    let so_far = c.loop-module.yielded in
    let b = c.into_iter-module-iterator.ensures.into_iter_gives in
    let e = YieldsList-end (YieldsList-from_vec {s = c.into_iter-module-iterator.result} modules b.0
    (b.1 ∙ c.args.modules.ok.0)) so_far c.loop-module.module-iterator c.loop-module.yielded_by c.next.result
    c.next.new.self c.in-None.is c.next.ensures.steps in
    locals-all names modules given modules c.loop-module.all.items
    (subst (λ ms. EachHasLocals names modules (take (length ms) given) ms c.loop-module.all.items)
    (sym (map-id so_far) ∙ e.0) c.loop-module.invariant)
    (c.requires ∙ sym (length-map c.args.request.now.handed.now (λ h. (handed_held h).bytes)))
