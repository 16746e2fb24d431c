use Rattle.std.proofs.Common.{◌≡◌, ◌∙◌, ◌∷◌, [], List, All, ap, option_map, subst, sym}
use Rattle.omf_image.specs.declared.faults.FixFault.TheVariants.{At}
use Rattle.omf_image.specs.Registers.{starts, starts_fault, entry_point}
use Rattle.omf_image.specs.inside.Entries.{StartEntry}
use Rattle.omf_image.specs.inside.Ready.{IsStartReady}
use Rattle.omf_image.proofs.Listing.{one_start, two_starts, all_head}
use Rattle.omf_image.proofs.start.entry.Goals as goal

pub returns-in-Some-next_start : goal.returns-in-Some-next_start
returns-in-Some-next_start g c =
    two_starts c.args.layout.now c.args.modules.now (c.in-Some.input, c.in-Some.start)
    (c.in-Some-next_start.second, c.in-Some-next_start.other) c.in-Some.ensures c.in-Some-next_start.ensures

pub entry_of-requires : goal.entry_of-requires
entry_of-requires g c =
    all_head (IsStartReady c.args.layout.now) _ _
    (subst (All (IsStartReady c.args.layout.now))
    (c.in-Some.ensures.1 c.index-modules-input.result c.index-modules-input.is) c.requires)

pub returns-in-Ok : goal.returns-in-Ok
returns-in-Ok g c =
    one_start c.args.layout.now c.args.modules.now (c.in-Some.input, c.in-Some.start) c.index-modules-input.result
    c.in-Ok.entry c.index-modules-input.is c.in-Some.ensures
    c.in_default-next_start.ensures c.in-Ok.ensures

pub returns-in_default : goal.returns-in_default
returns-in_default g c = (
  ap (starts_fault c.args.layout.now) c.in_default.ensures,
  sym (ap (entry_point 0 c.args.layout.now) c.in_default.ensures),
)

pub returns-in-Err : goal.returns-in-Err
returns-in-Err g c =
    let layout = c.args.layout.now in
    let m = c.index-modules-input.result in
    let e : StartEntry = record { input = c.in-Some.input; module' = m; item = c.in-Some.start } in
    let only : starts c.args.modules.now ≡ e ∷ [] =
    c.in-Some.ensures.1 m c.index-modules-input.is
    ∙ ap (λ (es : List StartEntry). e ∷ es) c.in_default-next_start.ensures in
    ap (starts_fault layout) only ∙ ap (option_map (λ k. At k e.input e.item.place)) c.in-Err.ensures
