use Rattle.std.proofs.Common.{◌∙◌, ◌-◌, ap, arith, sym}
use Rattle.std.specs.Option.{option_map}
use Rattle.doslink_telling.specs.inside.Tables.{number_said, symbol_said}
use Rattle.doslink_telling.proofs.SymbolTables.{paired-more}
use Rattle.doslink_telling.proofs.symbols.paired.Goals as goal

pub loop-left-preserved : goal.loop-left-preserved
loop-left-preserved g c =
    paired-more symbol_said c.loop-left.left (c.loop-left.left - 1) c.args.names.now c.loop-left.pairs.now
    _ _ _ _
    c.loop-left.symbols.items c.push.new.self.items _ _
    (omega (arith, c.loop-left-test.true))
    (sym c.low_number.ensures ∙ ap (option_map number_said) c.in-Some.is)
    (sym c.low_number-in-loop-left.ensures ∙ ap (option_map number_said) c.in-Some-low_number.is)
    c.in_ok-push.ensures.items
    (ap (λ n. record { name = n; place = c.in-Some-low_number.place }) c.name_at-name.ensures)
    c.loop-left.invariant
