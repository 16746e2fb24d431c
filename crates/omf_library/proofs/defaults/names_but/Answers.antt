use Rattle.std.proofs.Common.{◌≡◌, [], filter, map, not, subst, sym, ap, ◌∙◌}
use Rattle.std.proofs.lemmas.Bool.{eqb-true}
use Rattle.std.proofs.lemmas.Result.{IfOk-weaker}
use Rattle.omf_library.specs.Defaults.{is_theirs, is_theirs_alone}
use Rattle.omf_library.specs.Names.{texts}
use Rattle.omf_frame.specs.Lending.{plain_frame}
use Rattle.omf_library.specs.Said.{all_defaulted, defaulted_said}
use Rattle.omf_library.specs.Said.{externals_said}
use Rattle.omf_library.proofs.Unmarked.{none-of, unmarked}
use Rattle.omf_library.proofs.defaults.names_but.Goals as goal

pub returns : goal.returns
unfolding is_theirs_alone
returns g c =
    let marked = all_defaulted c.args.marked.now in
    IfOk-weaker c.names_except.result _ _
    (λ v items. items
    ∙ ap (λ es. filter (λ name. not (is_theirs marked es name)) (texts c.args.names.now))
    (ap externals_said c.deref.ensures.value ∙ c.in_ok-externals.ensures))
    c.names_except.ensures

pub returns-then-is_empty : goal.returns-then-is_empty
returns-then-is_empty g c =
    let records = map plain_frame c.args.frames.now in
    let none : all_defaulted c.args.marked.now ≡ [] =
    none-of defaulted_said c.args.marked.now (eqb-true _ 0 (sym c.is_empty.ensures ∙ c.if-is_empty.true)) in
    IfOk-weaker c.from_slice.result _ _
    (λ v items. ap texts items
    ∙ subst
    (λ m. texts c.args.names.now ≡ filter (λ name. not (is_theirs_alone m records name)) (texts c.args.names.now))
    (sym none) (unmarked records (texts c.args.names.now)))
    c.from_slice.ensures.items
