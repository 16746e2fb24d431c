use Rattle.std.proofs.Common.{sym, ◌∙◌}
use Rattle.omf_module.specs.Seen.{group_seen}
use Rattle.link_map.proofs.Grouped.{group-named, group-within}
use Rattle.link_map.proofs.parts.DetailedInput.group_name.Goals as goal

pub group-requires : goal.group-requires
group-requires g c =
    group-within c.args.self.now.from.now.groups c.args.segment c.in-Some.group (sym c.in-Some.is ∙ c.requires)

pub returns-in-Some : goal.returns-in-Some
returns-in-Some g c =
    group-named c.args.self.now.from.now.groups c.args.segment c.in-Some.group (group_seen c.group.result)
    (sym c.in-Some.is ∙ c.requires) c.group.ensures
