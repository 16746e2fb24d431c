use Rattle.std.proofs.Common.{◌∙◌, ap, ℕ, List, Option, map, arith}
use Rattle.omf_place.specs.declared.groups.GroupEntry.{GroupEntry}
use Rattle.omf_place.specs.Parts.{sites}
use Rattle.omf_place.specs.Tables.{grpdefs}
use Rattle.omf_place.specs.inside.Groups.{entry_in, grpdef_view}
use Rattle.omf_place.specs.inside.Named.{named_slices, value_of}
use Rattle.omf_place.specs.inside.Program.{addresses_of}
use Rattle.omf_place.proofs.GroupSteps.{as-many, groups-more}
use Rattle.omf_place.proofs.SiteLists.{take-all}
use Rattle.omf_place.proofs.groups.Groups.collect.Goals as goal

pub loop-grpdef-init : goal.loop-grpdef-init
loop-grpdef-init g c = λ q. ap (λ es. value_of (named_slices es) q) c.new-by_name.ensures.empty

pub loop-grpdef-preserved : goal.loop-grpdef-preserved
loop-grpdef-preserved g c =
    let p = c.args.program.now in
    let items = c.deref-grpdef-items.result.now in
    let are = ap (λ gs. map grpdef_view gs) c.deref-grpdef-items.ensures.value ∙ c.in_ok-grpdefs.ensures in
    let old : List ℕ → Option GroupEntry = λ q. value_of (named_slices c.loop-grpdef.by_name.entries) q in
    let new : List ℕ → Option GroupEntry = λ q. value_of (named_slices c.add_grpdef.new.by_name.entries) q in
    groups-more (sites p.modules.now) (addresses_of p.stands.now) items (grpdefs p.modules.now) are
    c.loop-grpdef.grpdef-index _ c.loop-grpdef-test.true old new c.loop-grpdef.invariant c.in_ok-add_grpdef.ensures

pub invariant_of-result : goal.invariant_of-result
invariant_of-result g c =
    let p = c.args.program.now in
    let items = c.deref-grpdef-items.result.now in
    let are = ap (λ gs. map grpdef_view gs) c.deref-grpdef-items.ensures.value ∙ c.in_ok-grpdefs.ensures in
    let many = as-many (sites p.modules.now) (addresses_of p.stands.now) items (grpdefs p.modules.now) are in
    record {
      listed = c.in_ok-grpdefs.ensures;
      named =
          λ q.
          c.loop-grpdef.invariant q
          ∙ ap (λ gs. entry_in (sites p.modules.now) (addresses_of p.stands.now) gs q)
          (take-all c.loop-grpdef.grpdef-index (grpdefs p.modules.now) (omega (arith, many, c.loop-grpdef-test.false)));
    }
