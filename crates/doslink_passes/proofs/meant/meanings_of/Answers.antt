use Rattle.std.proofs.Common.{arith, ap, sym, ◌∙◌}
use Rattle.std.proofs.lemmas.List.{drop_all}
use Rattle.std.proofs.Common.{◌-◌, get_or, length, map}
use Rattle.omf_library.specs.Said.{all_defaulted, defaulted_said}
use Rattle.omf_search.specs.Results.{module_said}
use Rattle.doslink_passes.specs.Meant.{meanings_of}
use Rattle.doslink_passes.proofs.Passing.{indexes-written, meanings-next, meanings-none}
use Rattle.doslink_passes.proofs.meant.meanings_of.Goals as goal

pub loop-left-init : goal.loop-left-init
loop-left-init g c =
    let m = c.args.meanings.now in
    let says = map module_said m.says.now in
    let count = c.args.count in
    record {
      within = omega arith;
      indexes = c.in_ok-indexes.ensures ∙ meanings-none m.names says c.args.from.now.externals count 1 count
          ∙ ap (λ ds. meanings_of m.names says c.args.from.now.externals (all_defaulted ds) count)
          (sym (drop_all (length c.args.defaults.now) c.args.defaults.now (omega arith)));
    }

pub loop-left-preserved : goal.loop-left-preserved
loop-left-preserved g c =
    let m = c.args.meanings.now in
    let says = map module_said m.says.now in
    record {
      within = omega arith;
      indexes =
          indexes-written c.loop-left.indexes c.set_meaning.new.indexes c.deref_mut.result.now m.names says
          c.args.from.now.externals
          (defaulted_said (get_or c.args.defaults.now (c.loop-left.left - 1) _))
          c.deref_mut.ensures.value c.loop-left.indexes.ok.0 c.set_meaning.ensures
          ∙ meanings-next m.names says c.args.from.now.externals c.args.count c.args.defaults.now c.loop-left.left (c.loop-left.left - 1) _
          c.loop-left.indexes.items (omega arith) (omega arith) c.loop-left.invariant.indexes;
    }
