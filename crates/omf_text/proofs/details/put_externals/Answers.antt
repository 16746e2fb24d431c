use Rattle.std.proofs.Common.{arith, subst, sym}
use Rattle.std.proofs.lemmas.List.Folds.{flat_map-map}
use Rattle.std.specs.Io.KnownBytes.{Appends}
use Rattle.omf_frame.proofs.Told.{Wrote-failed, Wrote-same}
use Rattle.omf_record.specs.View.{external_view}
use Rattle.omf_text.specs.Details.{external_line}
use Rattle.omf_text.proofs.PrintLemmas.{all_items, items_cut}
use Rattle.omf_text.proofs.details.put_externals.Goals as goal

pub returns-in_err-put_external : goal.returns-in_err-put_external
returns-in_err-put_external g c =
    let local = c.args.local in
    let items = c.args.names.now in
    let loop = c.loop-external in
    let cut =
    items_cut (λ x. external_line local (external_view x)) items loop.external-index _ _ _ _ _ _ _
    c.loop-external-test.true loop.invariant.appended loop.invariant.count
    c.in_err-put_external.ensures in
    Wrote-same _ _ _ _ _ _ _ (sym (flat_map-map (external_line local) external_view items))
    (Wrote-failed _ _ _ _ _ _ _ cut c.from_residual.ensures.1)

pub returns : goal.returns
returns g c =
    let local = c.args.local in
    let items = c.args.names.now in
    let loop = c.loop-external in
    let all =
    all_items (λ x. external_line local (external_view x)) items loop.external-index _ _
    (omega (arith, c.loop-external-test.false)) loop.invariant.appended in
    (subst (Appends _ _) (sym (flat_map-map (external_line local) external_view items)) all, loop.invariant.count)
