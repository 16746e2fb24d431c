use Rattle.std.proofs.Common.{filter, get_or, not, ◌&&◌, sym, ap, ap₂, ◌∙◌, arith}
use Rattle.std.proofs.lemmas.List.{get_or_default, take_all}
use Rattle.std.specs.BTreeSet.{contains}
use Rattle.std.specs.Ordering.{nat_cmp}
use Rattle.omf_library.specs.Defaults.{is_theirs}
use Rattle.omf_library.specs.Names.{texts}
use Rattle.omf_library.specs.Said.{all_defaulted}
use Rattle.omf_library.specs.Said.{externals_said}
use Rattle.omf_library.proofs.Gathering.{failing-turn, passing-turn}
use Rattle.omf_library.proofs.Indexes.{others-of}
use Rattle.omf_library.proofs.Listing.{texts-push}
use Rattle.omf_library.proofs.defaults.names_except.Goals as goal

pub loop-name-preserved-then-is_theirs : goal.loop-name-preserved-then-is_theirs
loop-name-preserved-then-is_theirs g c =
    let name = get_or c.args.names.now c.loop-name.name-index _ in
    let marked = all_defaulted c.args.marked.now in
    failing-turn (λ x. x.now) (λ name. not (is_theirs marked (externals_said c.args.externals.now) name))
    c.args.names.now c.loop-name.name-index name _ c.loop-name-test.true
    (get_or_default c.args.names.now c.loop-name.name-index _ _ c.loop-name-test.true)
    (ap not (sym (ap₂ (λ a b. a && not b) (c.in_ok-theirs.ensures name)
    (c.in_ok-others.ensures name
    ∙ others-of (contains nat_cmp c.in_ok-indexes.indexes) marked c.in_ok-indexes.ensures name.now 1
    (externals_said c.args.externals.now)))
    ∙ sym c.is_theirs.ensures ∙ c.if-is_theirs.true))
    c.loop-name.invariant

pub loop-name-preserved : goal.loop-name-preserved
loop-name-preserved g c =
    let name = get_or c.args.names.now c.loop-name.name-index _ in
    let marked = all_defaulted c.args.marked.now in
    passing-turn (λ x. x.now) (λ name. not (is_theirs marked (externals_said c.args.externals.now) name))
    c.args.names.now c.loop-name.name-index name (texts c.loop-name.kept.items) _ c.loop-name-test.true
    (get_or_default c.args.names.now c.loop-name.name-index _ _ c.loop-name-test.true)
    (ap not (sym (ap₂ (λ a b. a && not b) (c.in_ok-theirs.ensures name)
    (c.in_ok-others.ensures name
    ∙ others-of (contains nat_cmp c.in_ok-indexes.indexes) marked c.in_ok-indexes.ensures name.now 1
    (externals_said c.args.externals.now)))
    ∙ sym c.is_theirs.ensures ∙ c.if-is_theirs.false))
    c.loop-name.invariant (ap texts c.in_ok-push.ensures.items ∙ texts-push c.loop-name.kept.items _)

pub returns : goal.returns
returns g c =
    c.loop-name.invariant
    ∙ ap (λ names. filter (λ name. not (is_theirs (all_defaulted c.args.marked.now)
    (externals_said c.args.externals.now) name)) (texts names))
    (take_all c.loop-name.name-index c.args.names.now (omega arith))
