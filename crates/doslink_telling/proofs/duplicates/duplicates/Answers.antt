use Rattle.std.proofs.Common.{◌≡◌, ℕ, [], ◌∷◌, ◌++◌, ◌∙◌, ap, append-nil, arith, cond, filter, get_or, map, sym, take}
use Rattle.std.proofs.lemmas.List.{map-append, take_all}
use Rattle.std.specs.List.{enumerate_from}
use Rattle.doslink_telling.specs.Duplicates.{Public, is_second}
use Rattle.doslink_telling.specs.inside.Duplicates.{duplicate_said, public_said}
use Rattle.doslink_telling.proofs.Doubled.{some-more}
use Rattle.doslink_telling.proofs.duplicates.duplicates.Goals as goal
use Rattle.doslink_telling.proofs.duplicates.duplicates.Goals.{then-is_second+in_ok-push, else-is_second}

pub loop-place-preserved : goal.loop-place-preserved
loop-place-preserved g c =
    let ps = c.args.publics.now in
    let all = map public_said ps in
    let i = c.loop-place.place in
    let public' = c.index-publics-place.result in
    let here : ℕ × Public = (i, public_said public') in
    let there : ℕ × Public = (i, public_said (get_or ps i public')) in
    let same : here ≡ there = ap (λ p. (i, public_said p)) c.index-publics-place.is in
    let front = filter (is_second all) (enumerate_from 0 (map public_said (take i ps))) in
    let more = some-more public_said (is_second all) ps i public' c.loop-place-test.true in
    let tested : c.is_second.result ≡ is_second all there =
    c.is_second.ensures all (public_said public') (c.same_places.ensures all c.requires) ∙ ap (is_second all) same in
    elim c.if-is_second.branch [
      | then-is_second+in_ok-push w ↦
          ap (λ v. map duplicate_said v.items) w.found-is
          ∙ ap (map duplicate_said) w.in_ok-push.ensures.items
          ∙ map-append duplicate_said c.loop-place.found.items _
          ∙ ap (λ l. l ++ here ∷ []) c.loop-place.invariant
          ∙ ap (λ e. front ++ e ∷ []) same
          ∙ ap (λ b. front ++ cond b (there ∷ []) []) (sym w.if-is_second.true ∙ tested)
          ∙ sym more
      | else-is_second w ↦
          ap (λ v. map duplicate_said v.items) w.found-is
          ∙ c.loop-place.invariant
          ∙ sym (append-nil front)
          ∙ ap (λ b. front ++ cond b (there ∷ []) []) (sym w.if-is_second.false ∙ tested)
          ∙ sym more
    ]

pub returns : goal.returns
returns g c =
    c.loop-place.invariant
    ∙ ap (λ ps. filter (is_second (map public_said c.args.publics.now)) (enumerate_from 0 (map public_said ps)))
    (take_all c.loop-place.place c.args.publics.now (omega arith))
