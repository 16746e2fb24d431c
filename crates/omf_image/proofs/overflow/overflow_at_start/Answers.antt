use Rattle.std.proofs.Common.{◌≡◌, ◌∙◌, ◌∷◌, [], if◌then◌else◌, List, Bool, Some, None, All, ap, subst, sym}
use Rattle.omf_image.specs.Overflow.{only_overflow}
use Rattle.omf_image.specs.Registers.{starts}
use Rattle.omf_image.specs.inside.Entries.{StartEntry}
use Rattle.omf_image.specs.inside.Ready.{IsStartReady}
use Rattle.omf_image.proofs.Listing.{all_head, neither_overflows}
use Rattle.omf_image.proofs.overflow.overflow_at_start.Goals as goal

pub returns-in-Some-next_start : goal.returns-in-Some-next_start
returns-in-Some-next_start g c =
    sym (neither_overflows c.args.layout.now c.args.modules.now (c.in-Some.input, c.in-Some.start)
    (c.in-Some-next_start.field-0-0, c.in-Some-next_start.field-0-1) c.in-Some.ensures c.in-Some-next_start.ensures)

pub start_overflows-requires : goal.start_overflows-requires
start_overflows-requires g c =
    all_head (IsStartReady c.args.layout.now) _ _
    (subst (All (IsStartReady c.args.layout.now))
    (c.in-Some.ensures.1 c.index-modules-input.result c.index-modules-input.is) c.requires)

pub returns-in_default : goal.returns-in_default
returns-in_default g c = sym (ap (only_overflow c.args.layout.now) c.in_default.ensures)

pub returns-then-start_overflows : goal.returns-then-start_overflows
returns-then-start_overflows g c =
    let layout = c.args.layout.now in
    let m = c.index-modules-input.result in
    let e : StartEntry = record { input = c.in-Some.input; module' = m; item = c.in-Some.start } in
    let only : starts c.args.modules.now ≡ e ∷ [] =
    c.in-Some.ensures.1 m c.index-modules-input.is
    ∙ ap (λ (es : List StartEntry). e ∷ es) c.in_default-next_start.ensures in
    sym (ap (only_overflow layout) only
    ∙ ap (λ (b : Bool). if b then Some (e.input, e.item.place) else None)
    (sym c.start_overflows.ensures ∙ c.if-start_overflows.true))

pub returns : goal.returns
returns g c =
    let layout = c.args.layout.now in
    let m = c.index-modules-input.result in
    let e : StartEntry = record { input = c.in-Some.input; module' = m; item = c.in-Some.start } in
    let only : starts c.args.modules.now ≡ e ∷ [] =
    c.in-Some.ensures.1 m c.index-modules-input.is
    ∙ ap (λ (es : List StartEntry). e ∷ es) c.in_default-next_start.ensures in
    sym (ap (only_overflow layout) only
    ∙ ap (λ (b : Bool). if b then Some (e.input, e.item.place) else None)
    (sym c.start_overflows.ensures ∙ c.if-start_overflows.false))
