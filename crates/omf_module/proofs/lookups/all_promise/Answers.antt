use Rattle.std.proofs.Common.{◌≡◌, inl, inr, sym, subst, arith, slice_index_or}
use Rattle.std.proofs.lemmas.Bool.{cases_lt}
use Rattle.std.proofs.lemmas.List.{get_or_read}
use Rattle.omf_module.specs.Sound.{IsSound}
use Rattle.omf_module.proofs.lookups.all_promise.Goals as goal

pub loop-each-preserved : goal.loop-each-preserved
loop-each-preserved g c = λ k d lt.
    let xs = c.args.modules.now in
    let i = c.loop-each.each-index in
    elim (cases_lt k i) [
      | inl l ↦ c.loop-each.invariant k d l
      | inr r ↦
          let e : k ≡ i = omega arith in
          let here = get_or_read xs i c.each-item.result c.loop-each-test.true c.each-item.is d in
          subst (λ n. IsSound (slice_index_or xs n d)) (sym e) (subst IsSound here c.promises.ensures)
    ]
