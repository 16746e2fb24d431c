use Rattle.std.proofs.Common.{◌∙◌, ◌||◌, ◌&&◌, ap, sym}
use Rattle.std.specs.List.{list_any}
use Rattle.omf_module.specs.Seen.{data_seen}
use Rattle.omf_image.specs.Overflow.{is_above, is_shared, numbers_at}
use Rattle.omf_image.proofs.Overflowing.{without_room}
use Rattle.omf_image.proofs.overflow.has_no_room.Goals as goal

pub returns-then-is_shared : goal.returns-then-is_shared
returns-then-is_shared c =
    let r = c.args.resolved.now in
    let d = c.args.data_record.now in
    let shared = is_shared c.args.offset (data_seen d) in
    let above = list_any (is_above r) (numbers_at c.args.offset (data_seen d)) in
    c.if-is_shared.true
    ∙ sym (without_room r c.args.offset shared d.places.now d.bytes.now c.requires
    ∙ ap (λ there. there && (shared || above)) (sym c.contains.ensures.value ∙ c.if-contains.true)
    ∙ ap (λ more. more || above) (sym c.is_shared.ensures ∙ c.if-is_shared.true))

pub returns-else-contains : goal.returns-else-contains
returns-else-contains c =
    let r = c.args.resolved.now in
    let d = c.args.data_record.now in
    let shared = is_shared c.args.offset (data_seen d) in
    let above = list_any (is_above r) (numbers_at c.args.offset (data_seen d)) in
    c.if-contains.false
    ∙ sym (without_room r c.args.offset shared d.places.now d.bytes.now c.requires
    ∙ ap (λ there. there && (shared || above)) (sym c.contains.ensures.value ∙ c.if-contains.false))
