use Rattle.std.proofs.Common.{◌≡◌, ◌+◌, ◌-◌, ◌<◌, ◌≤◌, [], ◌∷◌, ◌∙◌, ap, arith, cond, drop, get_or, length, sym}
use Rattle.std.proofs.Math.ListN.{drop_of_length-le}
use Rattle.std.proofs.lemmas.List.{length-drop}
use Rattle.std.specs.List.{position_or_len}
use Rattle.omf_library.specs.inside.Lines.{ends_line, line_lengths}
use Rattle.omf_library.proofs.Lines.{at-place, line-le, one-back, step-length}
use Rattle.omf_library.proofs.long_names.line_lengths.Goals as goal

pub loop-place-init : goal.loop-place-init
unfolding line_lengths
loop-place-init g c =
    let table = c.args.table.now in
    let none : drop (length table) table ≡ [] =
    drop_of_length-le table (let h : length table ≤ length table = omega arith in h) in (
      omega arith,
      omega arith,
      ap (position_or_len ends_line) (sym none),
      c.new-lengths.ensures.items ∙ ap line_lengths (sym none),
    )

pub loop-place-preserved : goal.loop-place-preserved
loop-place-preserved g c =
    let table = c.args.table.now in
    let i = c.loop-place.place - 1 in
    let inv = c.loop-place.invariant in
    let next : c.loop-place.place ≡ i + 1 = omega (arith, c.loop-place-test.true) in
    let within : i < length table = omega (arith, c.loop-place-test.true, inv.0) in
    let old : c.loop-place.len ≡ position_or_len ends_line (drop (i + 1) table) =
    inv.2 ∙ ap (λ k. position_or_len ends_line (drop k table)) next in
    let is : c.line_length-len.result ≡ position_or_len ends_line (get_or table i 0 ∷ drop (i + 1) table) =
    c.line_length-len.ensures
    ∙ ap (λ n. cond (ends_line (get_or table i 0)) 0 (n + 1)) old
    ∙ step-length (ends_line (get_or table i 0)) (position_or_len ends_line (drop (i + 1) table)) in
    let whole = one-back table i 0 c.loop-place.lengths.items c.line_length-len.result within
    (inv.3 ∙ ap (λ k. line_lengths (drop k table)) next) is in
    let all : c.line_length-len.result ≡ position_or_len ends_line (drop i table) =
    is ∙ ap (position_or_len ends_line) (sym (at-place table i 0 within)) in
    let long = line-le (drop i table) in
    let left = length-drop i table in
    (omega (arith, inv.0), omega (arith, all, long, left, within), all, c.in_ok-push.ensures.items ∙ whole)
