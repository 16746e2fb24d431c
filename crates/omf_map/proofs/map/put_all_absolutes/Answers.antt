use Rattle.std.proofs.Common.{◌∙◌}
use Rattle.std.specs.List.{flat_map}
use Rattle.omf_frame.proofs.Told.{Wrote-failed}
use Rattle.omf_module.specs.Module.{Module}
use Rattle.omf_map.specs.Map.{absolute_line}
use Rattle.omf_text.proofs.PrintLemmas.{items_cut}
use Rattle.omf_map.proofs.MapLemmas.{item_more}
use Rattle.omf_map.proofs.map.put_all_absolutes.Goals as goal

pub returns-in_err-put_absolutes : goal.returns-in_err-put_absolutes
returns-in_err-put_absolutes g c =
    let loop = c.loop-module in
    Wrote-failed _ _ _ _ _ _ _
    (items_cut (λ (m : Module). flat_map absolute_line m.segments) c.args.modules.now loop.module-index
    c.module-item.result _ _ _ _ _ _ c.loop-module-test.true
    loop.invariant.appended loop.invariant.count (rw (← c.module-item.is) c.in_err-put_absolutes.ensures))
    c.from_residual.ensures.1

pub loop-module-preserved : goal.loop-module-preserved
loop-module-preserved g c =
    let loop = c.loop-module in
    record {
      count = c.in_ok-put_absolutes.ensures.1 ∙ loop.invariant.count;
      appended =
          item_more (λ (m : Module). flat_map absolute_line m.segments) c.args.modules.now loop.module-index
          c.module-item.result _ _ _ c.loop-module-test.true
          loop.invariant.appended (rw (← c.module-item.is) c.in_ok-put_absolutes.ensures.0);
    }
