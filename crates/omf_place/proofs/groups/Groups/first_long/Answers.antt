use Rattle.std.proofs.Common.{◌∙◌, ap, sym, map, [], Option, Some, None, arith, find}
use Rattle.std.specs.Option.{option_map}
use Rattle.omf_place.specs.Faults.{GroupTooLong}
use Rattle.omf_place.specs.declared.groups.Grpdef as held
use Rattle.omf_place.specs.Parts.{sites}
use Rattle.omf_place.specs.Tables.{Grpdef, grpdefs}
use Rattle.omf_place.specs.inside.Groups.{GroupReach, grpdef_view}
use Rattle.omf_place.specs.inside.OfProgram.{is_long_group}
use Rattle.omf_place.specs.inside.Program.{addresses_of}
use Rattle.omf_place.proofs.Finds.{find-here, find-more}
use Rattle.omf_place.proofs.GroupSteps.{as-many, at, found, viewed}
use Rattle.omf_place.proofs.SiteLists.{take-all}
use Rattle.omf_place.proofs.groups.Groups.first_long.Goals as goal

pub returns-then-is_long : goal.returns-then-is_long
returns-then-is_long g c =
    let p = c.args.self.now.program.now in
    let ms = p.modules.now in
    let A = addresses_of p.stands.now in
    let items = c.deref-grpdef-items.result.now in
    let are = ap (λ gs. map grpdef_view gs) c.deref-grpdef-items.ensures.value ∙ c.args.self.now.listed in
    let d : held.Grpdef = record { input = 0; group = 0; name = record { ref_ptr = (0, 0); now = [] }; reach = None } in
    let x = at (sites ms) A items (grpdefs ms) are c.loop-grpdef.grpdef-index d c.loop-grpdef-test.true in
    let name =
    ap (λ (v : GroupReach). v.name)
    (viewed (sites ms) A items (grpdefs ms) are c.loop-grpdef.grpdef-index d c.loop-grpdef-test.true) in
    ap (λ n. Some (GroupTooLong n)) name
    ∙ sym
    (ap (λ (o : Option Grpdef). option_map (λ y. GroupTooLong y.name) o)
    (find-here (λ (y : Grpdef). is_long_group ms A y.name) (grpdefs ms) c.loop-grpdef.grpdef-index x
    (found (sites ms) A items (grpdefs ms) are c.loop-grpdef.grpdef-index d c.loop-grpdef-test.true)
    c.loop-grpdef.invariant (ap (λ n. is_long_group ms A n) (sym name) ∙ sym c.is_long.ensures ∙ c.if-is_long.true)))

pub loop-grpdef-preserved : goal.loop-grpdef-preserved
loop-grpdef-preserved g c =
    let p = c.args.self.now.program.now in
    let ms = p.modules.now in
    let A = addresses_of p.stands.now in
    let items = c.deref-grpdef-items.result.now in
    let are = ap (λ gs. map grpdef_view gs) c.deref-grpdef-items.ensures.value ∙ c.args.self.now.listed in
    let d : held.Grpdef = record { input = 0; group = 0; name = record { ref_ptr = (0, 0); now = [] }; reach = None } in
    let name =
    ap (λ (v : GroupReach). v.name)
    (viewed (sites ms) A items (grpdefs ms) are c.loop-grpdef.grpdef-index d c.loop-grpdef-test.true) in
    find-more (λ (y : Grpdef). is_long_group ms A y.name) (grpdefs ms) c.loop-grpdef.grpdef-index
    (at (sites ms) A items (grpdefs ms) are c.loop-grpdef.grpdef-index d c.loop-grpdef-test.true)
    (found (sites ms) A items (grpdefs ms) are c.loop-grpdef.grpdef-index d c.loop-grpdef-test.true)
    c.loop-grpdef.invariant (ap (λ n. is_long_group ms A n) (sym name) ∙ sym c.is_long.ensures ∙ c.if-is_long.false)

pub returns : goal.returns
returns g c =
    let p = c.args.self.now.program.now in
    let ms = p.modules.now in
    let A = addresses_of p.stands.now in
    let items = c.deref-grpdef-items.result.now in
    let are = ap (λ gs. map grpdef_view gs) c.deref-grpdef-items.ensures.value ∙ c.args.self.now.listed in
    let many = as-many (sites ms) A items (grpdefs ms) are in
    sym (ap (λ (o : Option Grpdef). option_map (λ y. GroupTooLong y.name) o)
    (ap (λ gs. find (λ (y : Grpdef). is_long_group ms A y.name) gs)
    (sym (take-all c.loop-grpdef.grpdef-index (grpdefs ms) (omega (arith, many, c.loop-grpdef-test.false))))
    ∙ c.loop-grpdef.invariant))
