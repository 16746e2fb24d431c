use Rattle.std.proofs.Common.{◌∙◌}
use Rattle.omf_frame.proofs.Told.{Wrote-failed}
use Rattle.omf_module.specs.Seen.{public_seen}
use Rattle.omf_map.specs.Map.{public_line}
use Rattle.omf_map.proofs.MapLemmas.{reads_cut, read_more}
use Rattle.omf_map.proofs.map.put_publics.Goals as goal

pub returns-in_err-put_public : goal.returns-in_err-put_public
returns-in_err-put_public g c =
    let loop = c.loop-public in
    Wrote-failed _ _ _ _ _ _ _
    (reads_cut (public_line c.args.layout.now) c.args.«module».now.publics loop.public
    (public_seen c.public_symbol.result) _ _ _ _ _ _ c.public_symbol.ensures loop.invariant.appended
    loop.invariant.count
    c.in_err-put_public.ensures) c.from_residual.ensures.1

pub loop-public-preserved : goal.loop-public-preserved
loop-public-preserved g c =
    let loop = c.loop-public in
    record {
      count = c.in_ok-put_public.ensures.1 ∙ loop.invariant.count;
      appended =
          read_more (public_line c.args.layout.now) c.args.«module».now.publics loop.public
          (public_seen c.public_symbol.result) _ _ _ c.public_symbol.ensures loop.invariant.appended
          c.in_ok-put_public.ensures.0;
    }
