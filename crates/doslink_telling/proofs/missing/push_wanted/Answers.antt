use Rattle.std.proofs.Common.{◌++◌, [], ◌∙◌, ap, append-nil, length, refl, sym}
use Rattle.std.proofs.lemmas.Option.{slice_get-map, slice_get_past, slice_get_read}
use Rattle.std.proofs.lemmas.Result.{on_ok_weaker}
use Rattle.std.specs.Option.{option_map, option_map_or}
use Rattle.doslink_telling.specs.Missing.{wanting_text}
use Rattle.doslink_telling.specs.inside.Wanters.{wanter_held}
use Rattle.doslink_telling.proofs.missing.push_wanted.Goals as goal

pub returns-in-Some : goal.returns-in-Some
returns-in-Some g c =
    let old = c.args.lines.now.items in
    let wanters = c.args.wanters.now in
    let wanted = c.args.wanted.now in
    let lookup = c.in-Some.ensures.lookup in
    let is =
    slice_get-map wanter_held wanters wanted.wanted_by
    ∙ ap (option_map wanter_held)
    (slice_get_read wanters (length wanters) wanted.wanted_by c.in-Some.wanter.now refl lookup.3.0 lookup.1) in
    on_ok_weaker c.push_wanting.result
    (λ e. e ∙ sym (ap (λ o. old ++ option_map_or (wanting_text c.args.paths.now wanted.name.now) o []) is))
    c.push_wanting.ensures

pub returns-in-None : goal.returns-in-None
returns-in-None g c =
    let old = c.args.lines.now.items in
    let wanters = c.args.wanters.now in
    let wanted = c.args.wanted.now in
    let is =
    slice_get-map wanter_held wanters wanted.wanted_by
    ∙ ap (option_map wanter_held) (slice_get_past wanters wanted.wanted_by c.in-None.ensures.lookup.3) in
    sym (ap (λ o. old ++ option_map_or (wanting_text c.args.paths.now wanted.name.now) o []) is ∙ append-nil old)
