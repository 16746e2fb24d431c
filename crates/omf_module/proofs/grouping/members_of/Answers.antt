use Rattle.std.proofs.Common.{◌≡◌, ◌<◌, ◌+◌, ◌++◌, length, take, get_or, false, refl, sym, arith}
use Rattle.std.specs.Option.{option_to_list}
use Rattle.std.specs.Bool.{then_some}
use Rattle.std.proofs.lemmas.List.{append-nil, get_or_default}
use Rattle.omf_module.specs.Grouped.{members}
use Rattle.omf_module.proofs.Joining.{members_more}
use Rattle.omf_module.proofs.grouping.members_of.Goals.{then-joins+in_ok-push, else-joins}
use Rattle.omf_module.proofs.grouping.members_of.Goals as goal

pub loop-number-preserved : goal.loop-number-preserved
loop-number-preserved g c =
    let xs = c.args.joined.now in
    let i = c.loop-number.number in
    let x = get_or xs i false in
    let lt : i < length xs = omega arith in
    let more : members (take (i + 1) xs) ≡ members (take i xs) ++ option_to_list (then_some x i) =
    members_more xs i x lt (get_or_default xs i false x lt) in
    elim c.if-joins.branch [
      | then-joins+in_ok-push w ↦
          let was = w.if-joins.true in
          rw (w.members-is, w.in_ok-push.ensures.items, c.loop-number.invariant, more, was) refl
      | else-joins w ↦
          let was = w.if-joins.false in
          rw (w.members-is, c.loop-number.invariant, more, was) (sym (append-nil (members (take i xs))))
    ]
