use Rattle.std.proofs.Common.{◌≡◌, length, drop, sym, ap, ◌∙◌, arith, length-take}
use Rattle.std.proofs.lemmas.List.{take_at}
use Rattle.omf_record.proofs.Expanded.{bytes-stored, numbered}
use Rattle.omf_record.proofs.expand.lay_content.Goals as goal

pub returns-clause-bytes : goal.returns-clause-bytes
returns-clause-bytes c =
    let content = c.args.content.now in
    let written : c.copy_from_slice.new.self ≡ content = c.copy_from_slice.ensures.after in
    take_at c.copy_from_slice.new.self (drop (length content) c.args.bytes.now) (length content) (ap length written)
    ∙ written ∙ sym (bytes-stored c.args.place content)

pub returns-clause-stored : goal.returns-clause-stored
returns-clause-stored c =
    let content = c.args.content.now in
    let written = c.number.new.items in
    let same : length written ≡ length content =
    omega
    (arith, c.number.auto.items, length-take (length content) c.args.stored.now, c.requires.room, c.requires.same) in
    take_at written (drop (length content) c.args.stored.now) (length content) same
    ∙ numbered c.args.place content written same (λ k lt. c.number.ensures k lt)
