use Rattle.std.proofs.Common.{◌∙◌, ap, sym, map, [], None}
use Rattle.omf_place.specs.declared.groups.Grpdef as held
use Rattle.omf_place.specs.Parts.{sites}
use Rattle.omf_place.specs.Tables.{grpdefs, is_first_grpdef}
use Rattle.omf_place.specs.inside.Steps.{placed_group}
use Rattle.omf_place.specs.inside.Groups.{GroupReach, grpdef_view}
use Rattle.omf_place.specs.inside.Program.{addresses_of}
use Rattle.omf_place.proofs.GroupSteps.{at, found, placed_is, viewed}
use Rattle.omf_place.proofs.SpanTables.{passing-more, passing-kept}
use Rattle.omf_place.proofs.groups.placed_groups.Goals as goal
use Rattle.omf_place.proofs.groups.placed_groups.Goals.{then-is_first+in_ok-push, else-is_first}

pub loop-grpdef-preserved : goal.loop-grpdef-preserved
loop-grpdef-preserved g c =
    let p = c.args.groups.now.program.now in
    let ms = p.modules.now in
    let A = addresses_of p.stands.now in
    let i = c.loop-grpdef.grpdef-index in
    let items = c.deref-grpdef-items.result.now in
    let are = ap (λ gs. map grpdef_view gs) c.deref-grpdef-items.ensures.value ∙ c.args.groups.now.listed in
    let d : held.Grpdef = record { input = 0; group = 0; name = record { ref_ptr = (0, 0); now = [] }; reach = None } in
    let x = at (sites ms) A items (grpdefs ms) are i d c.loop-grpdef-test.true in
    let there = found (sites ms) A items (grpdefs ms) are i d c.loop-grpdef-test.true in
    let view = viewed (sites ms) A items (grpdefs ms) are i d c.loop-grpdef-test.true in
    let test =
    c.is_first.ensures x.sites
    ∙ ap
    (λ (v : GroupReach).
    is_first_grpdef ms A (record { input = v.input; group = v.group; name = v.name; sites = x.sites })) view in
    elim c.if-is_first.branch [
      | then-is_first+in_ok-push w ↦ ap (λ v. v.items) w.all-is ∙ w.in_ok-push.ensures.items
          ∙ passing-more (placed_group ms A) (is_first_grpdef ms A) (grpdefs ms) i x c.loop-grpdef.all.items _ there
          (sym test ∙ w.if-is_first.true) (placed_is ms A _ x _ view w.frame.ensures) c.loop-grpdef.invariant
      | else-is_first w ↦ ap (λ v. v.items) w.all-is
          ∙ passing-kept (placed_group ms A) (is_first_grpdef ms A) (grpdefs ms) i x c.loop-grpdef.all.items there
          (sym test ∙ w.if-is_first.false) c.loop-grpdef.invariant
    ]
