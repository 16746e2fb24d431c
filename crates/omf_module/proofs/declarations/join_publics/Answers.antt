use Rattle.std.proofs.Common.{ap, sym, ◌∙◌, arith}
use Rattle.std.proofs.lemmas.List.{append-nil, take_all}
use Rattle.omf_module.specs.Joined.{public_behind}
use Rattle.omf_module.specs.Seen.{public_seen}
use Rattle.omf_module.specs.Sound.{PublicFits}
use Rattle.omf_module.specs.inside.Store.{Kept}
use Rattle.omf_module.proofs.Pushing.{mapped_more, fits_at}
use Rattle.omf_module.proofs.JoinedSound.{room_base}
use Rattle.omf_module.proofs.declarations.join_publics.Goals as goal

pub loop-index-init : goal.loop-index-init
loop-index-init g c =
    let old : Kept = c.args.store.now in
    ap (λ xs. record old { publics = xs }) (sym (append-nil old.publics))

pub base_behind-base-requires : goal.base_behind-base-requires
base_behind-base-requires g c =
    let m = c.args.more.now in
    let fits =
    fits_at (PublicFits m.segments m.groups m.externals) m.publics c.loop-index.index
    (public_seen c.public_symbol-public.result) c.promises.ensures.publics c.public_symbol-public.ensures in
    room_base c.args.behind.segments c.args.behind.groups m.segments m.groups m.externals c.requires.segments
    c.requires.groups _ fits.base

pub loop-index-preserved : goal.loop-index-preserved
loop-index-preserved g c =
    let old : Kept = c.args.store.now in
    let more =
    mapped_more (public_behind c.args.behind.segments c.args.behind.groups) old.publics c.args.more.now.publics
    c.loop-index.index (public_seen c.public_symbol-public.result) c.public_symbol-public.ensures in
    let pushed = rw (c.loop-index.invariant, c.base_behind-base.ensures) at c.in_ok-push_public.ensures in
    pushed ∙ ap (λ xs. record old { publics = xs }) more

pub returns : goal.returns
returns g c =
    let all = take_all c.loop-index.index c.args.more.now.publics (omega arith) in
    rw all at c.loop-index.invariant
