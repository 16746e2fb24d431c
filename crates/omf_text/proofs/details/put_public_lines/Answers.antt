use Rattle.std.proofs.Common.{arith, subst, sym}
use Rattle.std.proofs.lemmas.List.Folds.{flat_map-map}
use Rattle.std.specs.Io.KnownBytes.{Appends}
use Rattle.omf_frame.proofs.Told.{Wrote-failed, Wrote-same}
use Rattle.omf_record.specs.View.{public_view}
use Rattle.omf_text.specs.Details.{public_line}
use Rattle.omf_text.proofs.PrintLemmas.{all_items, items_cut}
use Rattle.omf_text.proofs.details.put_public_lines.Goals as goal

pub returns-in_err-put_public : goal.returns-in_err-put_public
returns-in_err-put_public g c =
    let local = c.args.local in
    let items = c.args.publics.now in
    let loop = c.loop-public in
    let cut =
    items_cut (λ x. public_line local (public_view x)) items loop.public-index _ _ _ _ _ _ _ c.loop-public-test.true
    loop.invariant.appended loop.invariant.count
    c.in_err-put_public.ensures in
    Wrote-same _ _ _ _ _ _ _ (sym (flat_map-map (public_line local) public_view items))
    (Wrote-failed _ _ _ _ _ _ _ cut c.from_residual.ensures.1)

pub returns : goal.returns
returns g c =
    let local = c.args.local in
    let items = c.args.publics.now in
    let loop = c.loop-public in
    let all =
    all_items (λ x. public_line local (public_view x)) items loop.public-index _ _
    (omega (arith, c.loop-public-test.false)) loop.invariant.appended in
    (subst (Appends _ _) (sym (flat_map-map (public_line local) public_view items)) all, loop.invariant.count)
