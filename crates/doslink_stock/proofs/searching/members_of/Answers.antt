use Rattle.std.proofs.Common.{map, ap, ◌∙◌, refl, arith}
use Rattle.std.specs.List.{enumerate_from}
use Rattle.omf_search.specs.Results.{member_said}
use Rattle.doslink_stock.specs.Search.{candidate, candidates}
use Rattle.doslink_stock.specs.Seen.{entry_held}
use Rattle.doslink_stock.proofs.Walks.{push-made, walk-done, walk-step}
use Rattle.doslink_stock.proofs.searching.members_of.Goals as goal

pub loop-member-preserved : goal.loop-member-preserved
loop-member-preserved g c =
    let entries = c.args.entries.now in
    let i = c.loop-member.member in
    let entry = c.index-entries-member.result in
    let said = ap (λ m. record { library = entry.file; member = i; says = m }) c.of-says.ensures
    ∙ ap (λ e. candidate (i, entry_held e)) c.index-entries-member.is in
    walk-step member_said (λ n l. map candidate (enumerate_from n (map entry_held l))) _ entries i entry
    c.loop-member.all.items _ (candidates (map entry_held entries)) c.loop-member-test.true refl
    (push-made member_said c.loop-member.all.items _ _ _ c.in_ok-push.ensures.items said) c.loop-member.invariant

pub returns : goal.returns
returns g c =
    walk-done member_said (λ n l. map candidate (enumerate_from n (map entry_held l))) c.args.entries.now
    c.loop-member.member
    c.loop-member.all.items (candidates (map entry_held c.args.entries.now)) (omega arith) refl c.loop-member.invariant
