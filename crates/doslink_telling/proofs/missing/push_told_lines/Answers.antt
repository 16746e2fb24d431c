use Rattle.std.proofs.Common.{rules, arith, ◌≡◌, ◌≤◌, ◌++◌, [], ◌∷◌, ap, drop, get_or, length, length-append, map}
use Rattle.std.proofs.Common.{refl, subst, sym, ◌∙◌}
use Rattle.std.proofs.lemmas.List.{length-map}
use Rattle.std.proofs.lemmas.Slice.Zip.{zip_end, zip_turn}
use Rattle.std.specs.Iterator.Adapters.{zip_first, zip_second}
use Rattle.std.specs.List.{flat_map}
use Rattle.std.specs.Option.{option_map}
use Rattle.std.specs.Slice.Iter.{iter_rest}
use Rattle.omf_search.specs.declared.said.Wanted.{Wanted}
use Rattle.omf_search.specs.Results.{offered_said, wanted_said}
use Rattle.doslink_stock.specs.Seen.{entry_held, handed_held}
use Rattle.doslink_telling.specs.Missing.{like_offered, missing_line}
use Rattle.doslink_telling.specs.inside.Wanters.{wanter_held}
use Rattle.doslink_telling.proofs.Texts.{mapped-same, text-done, text-step}
use Rattle.doslink_telling.proofs.missing.push_told_lines.Goals as goal

pub push_missing_line-requires : goal.push_missing_line-requires
push_missing_line-requires g c =
    let missing = c.args.missing.now in
    let likes = c.in_ok-likes.likes.items in
    let linked = map handed_held c.args.handed.now in
    let members = map entry_held c.args.stock.now.members.items in
    let each = c.in-Some.each.now in
    let like = c.in-Some.like.now in
    let n = length c.loop-each.yielded in
    let first : iter_rest (zip_first c.into_iter-each-iterator.result) ≡ missing = search rules in
    let second : iter_rest (zip_second c.into_iter-each-iterator.result) ≡ likes = search rules in
    let turn = zip_turn missing likes c.loop-each.yielded c.into_iter-each-iterator.result c.loop-each.each-iterator
    c.next.new.self c.next.result first second c.loop-each.yielded_by _ c.in-Some.is c.next.ensures.steps in
    let same : map wanter_held c.as_slice-wanters.result.now ≡ linked =
    ap (map wanter_held) c.as_slice-wanters.ensures.value ∙ c.in_ok-all.ensures in
    ap (option_map offered_said) (turn.3 like)
    ∙ mapped-same (option_map offered_said) (λ (w : Wanted). like_offered linked members w.name.now) likes missing n
    like each c.in_ok-likes.ensures turn.1 turn.0
    ∙ ap (λ (w : Wanted). like_offered linked members w.name.now) (sym (turn.2 each))
    ∙ ap (λ l. like_offered l members each.name.now) (sym same)

pub loop-each-preserved : goal.loop-each-preserved
loop-each-preserved g c =
    let missing = c.args.missing.now in
    let likes = c.in_ok-likes.likes.items in
    let linked = map handed_held c.args.handed.now in
    let members = map entry_held c.args.stock.now.members.items in
    let line = missing_line c.args.paths.now linked members in
    let same : map wanter_held c.as_slice-wanters.result.now ≡ linked =
    ap (map wanter_held) c.as_slice-wanters.ensures.value ∙ c.in_ok-all.ensures in
    let each = c.in-Some.each.now in
    let old = c.loop-each.lines.items in
    let new = c.push_missing_line.new.lines.items in
    let yielded = c.loop-each.yielded in
    let goal = c.args.lines.now.items ++ flat_map line (map wanted_said missing) in
    let first : iter_rest (zip_first c.into_iter-each-iterator.result) ≡ missing = search rules in
    let second : iter_rest (zip_second c.into_iter-each-iterator.result) ≡ likes = search rules in
    let turn = zip_turn missing likes yielded c.into_iter-each-iterator.result c.loop-each.each-iterator
    c.next.new.self c.next.result first second c.loop-each.yielded_by _ c.in-Some.is c.next.ensures.steps in
    subst (λ k. new ++ flat_map line (map wanted_said (drop k missing)) ≡ goal)
    (sym (length-append yielded ((c.in-Some.each, c.in-Some.like) ∷ [])))
    (text-step (λ _ l. flat_map line (map wanted_said l)) (line (wanted_said (get_or missing (length yielded) each)))
    missing (length yielded) each old new goal turn.0 refl
    (c.in_ok-push_missing_line.ensures
    ∙ ap (λ l. old ++ missing_line c.args.paths.now l members (wanted_said each)) same
    ∙ ap (λ w. old ++ line (wanted_said w)) (turn.2 each)) c.loop-each.invariant)

pub returns : goal.returns
returns g c =
    let missing = c.args.missing.now in
    let likes = c.in_ok-likes.likes.items in
    let line = missing_line c.args.paths.now (map handed_held c.args.handed.now)
    (map entry_held c.args.stock.now.members.items) in
    let yielded = c.loop-each.yielded in
    let first : iter_rest (zip_first c.into_iter-each-iterator.result) ≡ missing = search rules in
    let second : iter_rest (zip_second c.into_iter-each-iterator.result) ≡ likes = search rules in
    let end = zip_end missing likes yielded c.into_iter-each-iterator.result c.loop-each.each-iterator
    c.next.new.self c.next.result first second c.loop-each.yielded_by c.in-None.is c.next.ensures.steps in
    let same = sym (length-map likes _) ∙ ap length c.in_ok-likes.ensures ∙ length-map missing _ in
    let all : length missing ≤ length yielded = omega (arith, end, same) in
    text-done (λ _ l. flat_map line (map wanted_said l)) missing (length yielded) c.loop-each.lines.items _ all refl
    c.loop-each.invariant
