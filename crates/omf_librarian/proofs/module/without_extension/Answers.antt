use Rattle.std.proofs.Common.{◌≡◌, ◌+◌, ◌-◌, length, drop, take, sym, ap, ◌∙◌, arith, true}
use Rattle.std.proofs.lemmas.Bool.{eq-eqb}
use Rattle.std.specs.List.{list_any}
use Rattle.omf_librarian.proofs.Stems.{dot_at, is_dot, no_dot}
use Rattle.omf_librarian.proofs.module.without_extension.Goals as goal

pub returns-then-name-end-eq46 : goal.returns-then-name-end-eq46
returns-then-name-end-eq46 c =
    let name = c.args.name.now in
    let end = c.loop-end.end in
    let e : end - 1 + 1 ≡ end = omega (arith, c.loop-end-test.true) in
    sym (dot_at name (end - 1) (omega (arith, c.loop-end-test.true, c.loop-end.invariant.within))
    (eq-eqb _ 0x2E c.if-name-end-eq46.true)
    (ap (λ n. list_any is_dot (drop n name)) e ∙ c.loop-end.invariant.none))

pub returns : goal.returns
returns c =
    let z : c.loop-end.end ≡ 0 = omega (arith, c.loop-end-test.false) in
    sym (no_dot c.args.name.now
    (ap (λ n. list_any is_dot (drop n c.args.name.now)) (sym z) ∙ c.loop-end.invariant.none))
