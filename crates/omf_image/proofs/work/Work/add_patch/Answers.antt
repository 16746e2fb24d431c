use Rattle.std.proofs.Common.{◌≡◌, ◌∙◌, ◌++◌, ◌∷◌, [], ap, arith, length}
use Rattle.std.proofs.lemmas.List.{with_items_is}
use Rattle.omf_image.specs.inside.States.{state, begun}
use Rattle.omf_image.proofs.Holding.{holds_more, room_more, words_at, marked_same}
use Rattle.omf_image.proofs.work.Work.add_patch.Goals as goal

pub returns-clause-room : goal.returns-clause-room
returns-clause-room g c =
    let old = c.args.self.now in
    let w =
    with_items_is old.words c.begin_word.new.words (omega (arith, c.begin_word.auto.words, c.deref_mut.ensures.len)) in
    let t =
    with_items_is old.touched c.mark_patch.new.touched
    (omega (arith, c.mark_patch.auto.touched, c.deref_mut-2.ensures.len)) in
    let r =
    with_items_is old.relocated c.mark_patch.new.relocated
    (omega (arith, c.mark_patch.auto.relocated, c.deref_mut-3.ensures.len)) in
    let n : length c.mark_patch.new.touched ≡ length old.touched.items =
    c.mark_patch.auto.touched ∙ ap length c.deref_mut-2.ensures.value in
    let m : length c.mark_patch.new.relocated ≡ length old.relocated.items =
    c.mark_patch.auto.relocated ∙ ap length c.deref_mut-3.ensures.value in
    room_more c.args.start (state old) _ c.args.patch c.requires.room c.patch_image.ensures.bytes
    c.patch_image.ensures.made
    (w ∙ c.begin_word.ensures ∙ ap (begun (words_at c.args.start (c.args.patch ∷ []))) c.deref_mut.ensures.value)
    (ap length t ∙ n) (ap length r ∙ m)

pub returns-clause-holds : goal.returns-clause-holds
returns-clause-holds g c bytes base ps h =
    let old = c.args.self.now in
    let w =
    with_items_is old.words c.begin_word.new.words (omega (arith, c.begin_word.auto.words, c.deref_mut.ensures.len)) in
    let t =
    with_items_is old.touched c.mark_patch.new.touched
    (omega (arith, c.mark_patch.auto.touched, c.deref_mut-2.ensures.len)) in
    let r =
    with_items_is old.relocated c.mark_patch.new.relocated
    (omega (arith, c.mark_patch.auto.relocated, c.deref_mut-3.ensures.len)) in
    let n : length c.mark_patch.new.touched ≡ length old.touched.items =
    c.mark_patch.auto.touched ∙ ap length c.deref_mut-2.ensures.value in
    holds_more c.args.start bytes base (state old) _ ps c.args.patch c.requires.room c.requires.inside
    c.patch_image.ensures.bytes c.patch_image.ensures.made
    (w ∙ c.begin_word.ensures ∙ ap (begun (words_at c.args.start (c.args.patch ∷ []))) c.deref_mut.ensures.value)
    (λ m.
    marked_same _ _ _ _ (ps ++ c.args.patch ∷ []) t r
    (c.mark_patch.ensures ps (marked_same _ _ _ _ ps c.deref_mut-2.ensures.value c.deref_mut-3.ensures.value m)))
    (ap length t ∙ n) h
