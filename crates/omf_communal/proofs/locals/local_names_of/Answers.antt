use Rattle.std.proofs.Common.{◌∙◌, ap, arith, filter, map, refl}
use Rattle.std.proofs.lemmas.List.{take_all}
use Rattle.omf_module.specs.Module.{PublicSymbol}
use Rattle.omf_module.specs.Seen.{public_seen}
use Rattle.omf_communal.specs.Modules.{bytes_of}
use Rattle.omf_communal.proofs.Reaching.{named-in, named-out}
use Rattle.omf_communal.proofs.locals.local_names_of.Goals as goal
use Rattle.omf_communal.proofs.locals.local_names_of.Goals.{then-symbol+in_ok-push, else-symbol}

pub loop-index-preserved : goal.loop-index-preserved
loop-index-preserved g c =
    let named = λ (p : PublicSymbol). p.name in
    let local = λ (p : PublicSymbol). p.local in
    let m = c.args.from.now in
    let i = c.loop-index.index in
    let s = c.public_symbol-symbol.result in
    elim c.if-symbol.branch [
      | then-symbol+in_ok-push w ↦ ap (λ v. bytes_of v.items) w.names-is
          ∙ named-in named local m.publics i (public_seen s) c.public_symbol-symbol.ensures s.name
          c.loop-index.names.items _ refl w.if-symbol.true c.loop-index.invariant w.in_ok-push.ensures.items
      | else-symbol w ↦ ap (λ v. bytes_of v.items) w.names-is
          ∙ named-out named local m.publics i (public_seen s) c.public_symbol-symbol.ensures
          c.loop-index.names.items w.if-symbol.false c.loop-index.invariant
    ]

pub returns : goal.returns
returns g c =
    c.loop-index.invariant
    ∙ ap (λ xs. map (λ (p : PublicSymbol). p.name) (filter (λ (p : PublicSymbol). p.local) xs))
    (take_all c.loop-index.index c.args.from.now.publics (omega arith))
