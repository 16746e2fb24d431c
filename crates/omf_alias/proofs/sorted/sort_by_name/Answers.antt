use Rattle.std.proofs.Common.{◌≡◌, rules, ap}
use Rattle.std.proofs.lemmas.Fn.{always_returns_same}
use Rattle.std.specs.Ordering.{is_lt}
use Rattle.omf_alias.proofs.InOrder.{before_value, values_weak, value-kept}
use Rattle.omf_alias.proofs.sorted.sort_by_name.Goals as goal

pub returns-clause-sorted : goal.returns-clause-sorted
returns-clause-sorted g c =
    c.in_ok-sort_by.ensures.sorted (before_value c.args.names) (values_weak c.args.names)
    (always_returns_same _ (λ a r. is_lt r ≡ before_value c.args.names a.0.now a.1.0.now) _
    (λ a r f' k. (ap is_lt (search rules), search rules)))

pub returns-clause-kept : goal.returns-clause-kept
returns-clause-kept g c = λ name.
    value-kept c.args.names c.args.values.now.items _ name
    (c.sort_by.ensures.stable (before_value c.args.names) (values_weak c.args.names)
    (always_returns_same _ (λ a r. is_lt r ≡ before_value c.args.names a.0.now a.1.0.now) _
    (λ a r f' k. (ap is_lt (search rules), search rules))))
