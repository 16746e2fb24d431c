use Rattle.std.proofs.Common.{◌-◌, sym, ap, ◌∙◌}
use Rattle.std.specs.Option.{option_map}
use Rattle.omf_library.specs.Said.{bytes_said}
use Rattle.omf_library.proofs.Indexes.{at-item, external-is}
use Rattle.omf_library.proofs.defaults.external_at.Goals as goal

pub returns-in_default : goal.returns-in_default
returns-in_default c =
    sym (external-is c.args.externals.now c.args.index _ c.if-index-eq0.false (ap (λ n. n - 1) c.from.ensures)
    ∙ at-item c.args.externals.now _ c.get.result c.get.ensures.lookup
    ∙ ap (option_map (λ x. bytes_said x.now)) c.in_default.is)

pub returns : goal.returns
returns c =
    sym (external-is c.args.externals.now c.args.index _ c.if-index-eq0.false (ap (λ n. n - 1) c.from.ensures)
    ∙ at-item c.args.externals.now _ c.get.result c.get.ensures.lookup
    ∙ ap (option_map (λ x. bytes_said x.now)) c.in-Some.is)
