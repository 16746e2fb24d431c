use Rattle.std.proofs.Common.{◌≡◌, ◌+◌, ◌-◌, length, drop, take, sym, ap, ◌∙◌, arith}
use Rattle.std.proofs.lemmas.List.{take_rest}
use Rattle.std.specs.List.{list_any}
use Rattle.omf_librarian.specs.Modules.{ends_folder}
use Rattle.omf_librarian.proofs.Stems.{folder_at, no_folder}
use Rattle.omf_librarian.proofs.module.without_folder.Goals as goal

pub returns-then-ends_folder : goal.returns-then-ends_folder
returns-then-ends_folder c =
    let name = c.args.name.now in
    let start = c.loop-start.start in
    let e : start - 1 + 1 ≡ start = omega (arith, c.loop-start-test.true) in
    take_rest name start
    ∙ sym (folder_at name (start - 1) (omega (arith, c.loop-start-test.true, c.loop-start.invariant.within))
    (sym c.ends_folder.ensures ∙ c.if-ends_folder.true)
    (ap (λ n. list_any ends_folder (drop n name)) e ∙ c.loop-start.invariant.none)
    ∙ ap (λ n. drop n name) e)

pub returns : goal.returns
returns c =
    let z : c.loop-start.start ≡ 0 = omega (arith, c.loop-start-test.false) in
    sym (no_folder c.args.name.now
    (ap (λ n. list_any ends_folder (drop n c.args.name.now)) (sym z) ∙ c.loop-start.invariant.none))
