use Rattle.std.proofs.Common.{sym, subst}
use Rattle.std.specs.Io.KnownBytes.{Appends}
use Rattle.omf_frame.proofs.Told.{Wrote-failed, Wrote-same}
use Rattle.omf_text.proofs.PrintLemmas.{all_items, items_cut}
use Rattle.link_map.specs.Public.{public_line}
use Rattle.link_map.specs.declared.public.ListedPublic.{ListedPublic}
use Rattle.link_map.specs.inside.Listed.{seen}
use Rattle.link_map.proofs.Lines.{flat_map-map}
use Rattle.link_map.proofs.public.put_publics.Goals as goal

pub returns-in_err-put_public : goal.returns-in_err-put_public
returns-in_err-put_public g c =
    let loop = c.loop-public in
    Wrote-same _ _ _ _ _ _ _ (sym (flat_map-map public_line seen c.args.publics.now))
    (Wrote-failed _ _ _ _ _ _ _
    (items_cut (λ (p : ListedPublic). public_line (seen p)) c.args.publics.now loop.public-index _ _ _ _ _ _ _
    c.loop-public-test.true loop.invariant.appended loop.invariant.count c.in_err-put_public.ensures)
    c.from_residual.ensures.1)

pub returns : goal.returns
returns g c =
    let loop = c.loop-public in (
      subst (Appends (g.K.Sink.written c.args.sink.now) (g.K.Sink.written loop.sink))
          (sym (flat_map-map public_line seen c.args.publics.now))
          (all_items (λ (p : ListedPublic). public_line (seen p)) c.args.publics.now loop.public-index _ _
          c.loop-public-test.false loop.invariant.appended),
      loop.invariant.count,
    )
