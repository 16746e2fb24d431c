use Rattle.std.proofs.Common.{rules, ◌≡◌, ◌+◌, ◌-◌, ◌∙◌, true, false, ap, sym, eqb, get_or, length}
use Rattle.std.specs.List.{list_any, range_with_len}
use Rattle.omf_image.specs.Overflow.{double_word_at, is_above}
use Rattle.omf_image.proofs.Overflowing.{above_at, any_here, any_later, both_true, first_false, range_next, range_past}
use Rattle.omf_image.proofs.Overflowing.{second_false, numbers_above}
use Rattle.omf_image.proofs.overflow.has_number_above.Goals as goal
use Rattle.omf_image.proofs.overflow.has_number_above.Goals.{else-place-offset-via-then-place-offset+else-is_above}
use Rattle.omf_image.proofs.overflow.has_number_above.Goals.{else-place-offset-via-else-place-offset}

pub returns-then-is_above : goal.returns-then-is_above
returns-then-is_above c =
    let r = c.args.resolved.now in
    let places = c.args.data_record.now.places.now in
    let bytes = c.args.data_record.now.bytes.now in
    let at = c.loop-at.at in
    let here : eqb (get_or places at 0) c.args.offset ≡ true = search rules in
    let above : is_above r (double_word_at bytes at) ≡ true =
    sym (c.is_above.ensures ∙ ap (is_above r) c.double_word_at.ensures) ∙ c.if-is_above.true in
    any_here (above_at r c.args.offset places bytes) (range_with_len at (length places - at))
    (range_with_len (at + 1) (length places - (at + 1))) at _ (range_next at (length places) c.loop-at-test.true)
    (both_true _ _ here above) (c.loop-at.invariant ∙ sym (numbers_above r c.args.offset places bytes c.requires))

pub loop-at-preserved : goal.loop-at-preserved
loop-at-preserved c =
    let r = c.args.resolved.now in
    let places = c.args.data_record.now.places.now in
    let bytes = c.args.data_record.now.bytes.now in
    let at = c.loop-at.at in
    let not : above_at r c.args.offset places bytes at ≡ false = elim c.else-place-offset.branch [
      | else-place-offset-via-then-place-offset+else-is_above w ↦
          let here : eqb (get_or places at 0) c.args.offset ≡ true = search rules in
          second_false _ _ here
          (sym (w.is_above.ensures ∙ ap (is_above r) w.double_word_at.ensures) ∙ w.if-is_above.false)
      | else-place-offset-via-else-place-offset w ↦
          let here : eqb (get_or places at 0) c.args.offset ≡ false = search rules in
          first_false _ _ here
    ] in
    any_later (above_at r c.args.offset places bytes) (range_with_len at (length places - at))
    (range_with_len (at + 1) (length places - (at + 1))) at _ (range_next at (length places) c.loop-at-test.true)
    not c.loop-at.invariant

pub returns : goal.returns
returns c =
    let r = c.args.resolved.now in
    let places = c.args.data_record.now.places.now in
    let bytes = c.args.data_record.now.bytes.now in
    sym (ap (list_any (above_at r c.args.offset places bytes))
    (range_past c.loop-at.at (length places) c.loop-at-test.false))
    ∙ c.loop-at.invariant ∙ sym (numbers_above r c.args.offset places bytes c.requires)
