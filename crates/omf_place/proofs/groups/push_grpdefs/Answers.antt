use Rattle.std.proofs.Common.{ℕ, ◌∙◌, ◌++◌, ap, map, arith}
use Rattle.std.proofs.lemmas.List.{map-append}
use Rattle.omf_module.specs.Module.{Group}
use Rattle.omf_place.specs.inside.Groups.{GroupReach, grpdef_view, reach_in}
use Rattle.omf_place.proofs.LinkGroups.{grpdefs_here}
use Rattle.omf_place.proofs.Numbering.{pushed-more, numbered-all}
use Rattle.omf_place.proofs.groups.push_grpdefs.Goals as goal

pub loop-index-preserved : goal.loop-index-preserved
loop-index-preserved g c =
    ap (λ xs. map grpdef_view xs) c.in_ok-push.ensures.items ∙ map-append grpdef_view c.loop-index.all.items _
    ∙ pushed-more (λ (e : ℕ × Group). record {
      input = c.args.input.now.input;
      group = e.0;
      name = e.1.name;
      reach = reach_in c.args.input.now.stands.now e.1.members;
    }) c.args.input.now.says.now.groups c.loop-index.index _
    (map grpdef_view c.args.all.now.items) (map grpdef_view c.loop-index.all.items) _ c.group-group.ensures
    (ap (λ r. record {
      input = c.args.input.now.input;
      group = c.loop-index.index;
      name = c.group-group.result.name.now;
      reach = r;
    }) c.reach_of.ensures) c.loop-index.invariant

pub returns : goal.returns
returns g c = λ ss A placed.
    let f : ℕ × Group → GroupReach =
    λ e. record {
      input = c.args.input.now.input;
      group = e.0;
      name = e.1.name;
      reach = reach_in c.args.input.now.stands.now e.1.members;
    } in
    c.loop-index.invariant ∙ ap (λ es. map grpdef_view c.args.all.now.items ++ map f es)
    (numbered-all c.args.input.now.says.now.groups c.loop-index.index
    (omega (arith, c.loop-index-test.false, c.group_count-index-end.ensures)))
    ∙ ap (λ ys. map grpdef_view c.args.all.now.items ++ ys) (grpdefs_here ss A c.args.input.now placed)
