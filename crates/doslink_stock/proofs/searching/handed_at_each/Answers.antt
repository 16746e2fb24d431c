use Rattle.std.proofs.Common.{◌≡◌, ◌≤◌, ◌+◌, ◌++◌, ◌∷◌, [], ◌∙◌, None, Option, Some, add-one, ap, append-nil, append_assoc, arith}
use Rattle.std.proofs.Common.{drop, length, map, sym}
use Rattle.std.proofs.Math.ListN.{drop_of_length-le}
use Rattle.std.proofs.lemmas.List.{map-append}
use Rattle.std.specs.Option.{option_map}
use Rattle.doslink_stock.specs.Search.{TakenFor}
use Rattle.doslink_stock.specs.Seen.{entry_held, handed_taken}
use Rattle.doslink_stock.proofs.Places.{placed-at, placed-length}
use Rattle.doslink_stock.proofs.searching.handed_at_each.Goals as goal
use Rattle.doslink_stock.proofs.searching.handed_at_each.Goals.{in-Some+in_ok-push, in_default}

pub loop-index-preserved : goal.loop-index-preserved
loop-index-preserved g c = λ taken placed.
    let objects = map entry_held c.args.objects.now in
    let members = map entry_held c.args.members.now in
    let i = c.loop-index.index in
    let (t, here, splits) = placed-at objects members c.args.linked.now taken i _ placed c.loop-index-test.true in
    let found = c.handed_at.ensures t here in
    let behind = drop (i + 1) taken in
    let whole : drop i taken ≡ t ∷ behind = splits ∙ ap (λ k. t ∷ drop k taken) (sym (add-one i)) in
    elim c.match-handed_at.branch [
      | in-Some+in_ok-push w ↦
          let one : Some (handed_taken w.in-Some.each) ≡ Some t =
          ap (option_map handed_taken) (sym w.in-Some.is) ∙ found in
          let is : handed_taken w.in-Some.each ≡ t = cc in
          ap (λ v. map handed_taken v.items ++ behind) w.handed-is
          ∙ ap (λ l. map handed_taken l ++ behind) w.in_ok-push.ensures.items
          ∙ ap (λ l. l ++ behind) (map-append handed_taken c.loop-index.handed.items (w.in-Some.each ∷ []))
          ∙ append_assoc (map handed_taken c.loop-index.handed.items) (handed_taken w.in-Some.each ∷ []) behind
          ∙ ap (λ (x : TakenFor). map handed_taken c.loop-index.handed.items ++ x ∷ behind) is
          ∙ ap (λ l. map handed_taken c.loop-index.handed.items ++ l) (sym whole)
          ∙ c.loop-index.invariant taken placed
      | in_default w ↦
          absurd (let u : None ≡ Some t = ap (option_map handed_taken) (sym w.in_default.is) ∙ found in cc)
    ]

pub returns : goal.returns
returns g c = λ taken placed.
    let len = placed-length (map entry_held c.args.objects.now) (map entry_held c.args.members.now) c.args.linked.now taken
    placed in
    let past : length taken ≤ c.loop-index.index = omega (arith, len, c.loop-index-test.false) in
    sym (append-nil (map handed_taken c.loop-index.handed.items))
    ∙ ap (λ l. map handed_taken c.loop-index.handed.items ++ l) (sym (drop_of_length-le taken past))
    ∙ c.loop-index.invariant taken placed
