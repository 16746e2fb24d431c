use Rattle.std.proofs.Common.{ap, sym, ◌∙◌, arith}
use Rattle.std.proofs.lemmas.List.{take_all}
use Rattle.std.specs.BTreeSet.{contains}
use Rattle.std.specs.Ordering.{nat_cmp}
use Rattle.omf_library.specs.Said.{bytes_said}
use Rattle.omf_library.specs.inside.Others.{bytes_cmp, has_name_at}
use Rattle.omf_library.specs.Said.{externals_said}
use Rattle.omf_library.proofs.Indexes.{others-named, others-same}
use Rattle.omf_library.proofs.defaults.other_names.Goals as goal
use Rattle.omf_library.proofs.defaults.other_names.Goals.{in-Some+in_ok-insert, in_default}

pub returns : goal.returns
returns g c = λ q.
    c.loop-before.invariant q
    ∙ ap (λ l. has_name_at (contains nat_cmp c.args.indexes.now) q.now 1 (externals_said l))
    (take_all c.loop-before.before c.args.externals.now (omega arith))

pub loop-before-preserved : goal.loop-before-preserved
loop-before-preserved g c = λ q.
    let is_marked = contains nat_cmp c.args.indexes.now in
    let externals = c.args.externals.now in
    elim c.match-other_name.branch [
      | in-Some+in_ok-insert w ↦
          ap (λ s. contains bytes_cmp s q) w.names-is
          ∙ others-named is_marked q.now w.in-Some.name.now externals c.loop-before.before _
          (contains bytes_cmp c.loop-before.names q) _ c.loop-before-test.true
          (sym c.other_name.ensures ∙ ap bytes_said w.in-Some.is) (c.loop-before.invariant q)
          (w.in_ok-insert.ensures.updates.0 q)
      | in_default w ↦
          ap (λ s. contains bytes_cmp s q) w.names-is
          ∙ others-same is_marked q.now externals c.loop-before.before _ (contains bytes_cmp c.loop-before.names q)
          c.loop-before-test.true (sym c.other_name.ensures ∙ ap bytes_said w.in_default.is) (c.loop-before.invariant q)
    ]
