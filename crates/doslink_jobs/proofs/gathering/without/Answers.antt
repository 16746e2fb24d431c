use Rattle.std.proofs.Common.{◌++◌, ◌∷◌, ◌∙◌, [], Bool, ap, append-nil, cond, filter, not, sym}
use Rattle.std.proofs.lemmas.List.Elements.{filter-append}
use Rattle.doslink_jobs.specs.declared.gathering.DefaultLibrary.{DefaultLibrary}
use Rattle.doslink_jobs.specs.Jobs.{is_left_out}
use Rattle.doslink_jobs.proofs.gathering.without.Goals as goal

pub loop-library-preserved-in_ok-push : goal.loop-library-preserved-in_ok-push
loop-library-preserved-in_ok-push g c =
    λ names are.
    let stays : DefaultLibrary g.row.A.Denot → Bool = λ l. not (is_left_out names l.name.now) in
    let some = c.loop-library.yielded in
    let one = c.in-Some.library in
    c.in_ok-push.ensures.items
    ∙ ap (λ ls. ls ++ one ∷ []) (c.loop-library.invariant names are)
    ∙ ap (λ b. filter stays some ++ cond (not b) (one ∷ []) [])
    (sym c.if-not-branch.true ∙ c.in_ok-is_left_out.ensures names are)
    ∙ sym (filter-append stays some (one ∷ []))

pub loop-library-preserved : goal.loop-library-preserved
loop-library-preserved g c =
    λ names are.
    let stays : DefaultLibrary g.row.A.Denot → Bool = λ l. not (is_left_out names l.name.now) in
    let some = c.loop-library.yielded in
    let one = c.in-Some.library in
    c.loop-library.invariant names are
    ∙ sym (append-nil (filter stays some))
    ∙ ap (λ b. filter stays some ++ cond (not b) (one ∷ []) [])
    (sym c.if-not-branch.false ∙ c.in_ok-is_left_out.ensures names are)
    ∙ sym (filter-append stays some (one ∷ []))
