use Rattle.std.proofs.Common.{ℕ, List, Bor, sym, ap, ◌∙◌}
use Rattle.std.proofs.lemmas.List.{append-nil, take_all}
use Rattle.omf_module.specs.inside.Store.{Kept}
use Rattle.omf_module.proofs.Lists.{map_pushed}
use Rattle.omf_module.proofs.builder.add_names.Goals as goal

pub loop-name-init : goal.loop-name-init
loop-name-init g c =
    let old : Kept = c.args.store.now in
    ap (λ ns. record old { names = ns }) (sym (append-nil old.names))

pub loop-name-preserved : goal.loop-name-preserved
loop-name-preserved g c =
    let old : Kept = c.args.store.now in
    let i = c.loop-name.name-index in
    let pushed = rw c.loop-name.invariant at c.in_ok-push_name.ensures in
    pushed
    ∙ ap (λ ns. record old { names = ns })
    (map_pushed (λ (n : Bor (List ℕ)). n.now) old.names c.args.names.now i _ c.loop-name-test.true)

pub returns : goal.returns
returns g c = rw (take_all c.loop-name.name-index c.args.names.now c.loop-name-test.false) at c.loop-name.invariant
