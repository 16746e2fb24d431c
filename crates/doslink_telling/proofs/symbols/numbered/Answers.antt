use Rattle.std.proofs.Common.{◌∙◌, ◌++◌, ◌+◌, ◌-◌, not, ap, arith, drop, map, sym, take}
use Rattle.std.specs.Option.{option_map}
use Rattle.doslink_telling.specs.Symbols.{numbered}
use Rattle.doslink_telling.specs.inside.Tables.{number_said, symbol_said}
use Rattle.doslink_telling.proofs.SymbolTables.{nonempty, numbered-more}
use Rattle.doslink_telling.proofs.symbols.numbered.Goals as goal

pub loop-left-preserved : goal.loop-left-preserved
loop-left-preserved g c =
    let names = c.loop-left.names.now in
    let behind = c.in-Some.behind.now in
    let place = c.in-Some.place in
    let new = map symbol_said c.push.new.self.items in
    let less = c.loop-left.left - 1 in
    let len = c.name_len-len.ensures.len in
    ap (λ n. new ++ numbered less c.args.wide behind n)
    (c.behind_name-names.ensures ∙ ap (λ n. drop (n + 1) names) len)
    ∙ numbered-more symbol_said c.loop-left.left less c.args.wide c.loop-left.places.now names place behind
    c.loop-left.symbols.items c.push.new.self.items _ _
    (omega (arith, c.loop-left-test.true))
    (nonempty _ _ c.is_empty.ensures (ap not c.if-not-is_empty.true))
    (sym c.number.ensures ∙ ap (option_map number_said) c.in-Some.is) c.in_ok-push.ensures.items
    (ap (λ n. record { name = take n names; place = place }) len)
    c.loop-left.invariant
