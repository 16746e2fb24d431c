use Rattle.std.proofs.Common.{◌≡◌, rules}
use Rattle.std.proofs.lemmas.Fn.{always_returns_same}
use Rattle.std.proofs.lemmas.List.Sorted.{IsNonDecreasingBy-from_sort_by_key}
use Rattle.omf_lines.specs.declared.line.Line.{Line}
use Rattle.omf_lines.proofs.Kept.{kept}
use Rattle.omf_lines.proofs.sorted.sort_by_segment.Goals as goal

pub returns : goal.returns
returns g c = (
  IsNonDecreasingBy-from_sort_by_key (λ (l : Line). l.segment) _ c.in_ok-sort_by_key.ensures.sorted
      (λ a r f' k. (search rules, search rules)),
  kept c.args.lines.now.items _
      (c.sort_by_key.ensures.stable (λ (l : Line). l.segment)
      (always_returns_same _ (λ a r. r ≡ a.0.now.segment) _ (λ a r f' k. (search rules, search rules)))),
)
