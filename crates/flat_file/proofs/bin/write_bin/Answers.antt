use Rattle.std.proofs.Common.{slice_range, ◌≡◌, ◌+◌, ◌-◌, ◌<◌, ◌++◌, ℕ, List, get_or, length, min, max}
use Rattle.std.proofs.Common.{arith}
use Rattle.std.proofs.Common.{refl, ◌∙◌, ap, sym, subst}
use Rattle.std.proofs.lemmas.Slice.{between_is}
use Rattle.std.specs.Io.KnownBytes.{Appends}
use Rattle.omf_frame.proofs.Told.{Appends-trans, Wrote-cut, Wrote-same, Wrote-then}
use Rattle.omf_image.specs.Words.{add_words}
use Rattle.flat_file.proofs.Moving.{up_to_word, word_ahead, word_split, behind_word, word_tail, behind_last}
use Rattle.flat_file.proofs.Moving.{behind_more}
use Rattle.flat_file.proofs.bin.write_bin.Goals as goal

pub returns-in_err-put_image : goal.returns-in_err-put_image
returns-in_err-put_image g c =
    let loop = c.loop-word in
    let p = c.args.program.now in
    let is = c.size-size.ensures.limits in
    let i = loop.word-index in
    let r = get_or c.relocations-word-items.result.now i 0 in
    let r_is : r ≡ get_or p.relocations i 0 = ap (λ (l : List ℕ). get_or l i 0) c.relocations-word-items.ensures in
    let there : i < length p.relocations =
    omega (arith, c.loop-word-test.true, ap length c.relocations-word-items.ensures) in
    let whole = add_words c.args.paragraph p.relocations p.image in
    let split =
    sym (between_is whole c.args.from p.written)
    ∙ word_ahead c.args.paragraph p.written p.relocations p.image is.apart is.inside is.written i r loop.at
    (min (loop.at - r) 2) there r_is refl c.args.from loop.invariant.above loop.invariant.within
    loop.invariant.behind in
    Wrote-same _ _ _ _ _ _ _ (sym split)
    (Wrote-then _ _ _ _ _ _ _ _ _ (loop.invariant.appended, loop.invariant.count)
    (Wrote-cut _ _ _ _ _ _ _ _ _ c.in_err-put_image.ensures refl c.from_residual.ensures.1))

pub returns-in_err-put_all : goal.returns-in_err-put_all
returns-in_err-put_all g c =
    let loop = c.loop-word in
    let p = c.args.program.now in
    let is = c.size-size.ensures.limits in
    let i = loop.word-index in
    let r = get_or c.relocations-word-items.result.now i 0 in
    let r_is : r ≡ get_or p.relocations i 0 = ap (λ (l : List ℕ). get_or l i 0) c.relocations-word-items.ensures in
    let there : i < length p.relocations =
    omega (arith, c.loop-word-test.true, ap length c.relocations-word-items.ensures) in
    let least : c.min-skipped.result ≡ min (loop.at - r) 2 =
    omega (arith, c.min-skipped.ensures, c.saturating_sub.ensures) in
    let P = c.args.paragraph in
    let whole = add_words P p.relocations p.image in
    let from = c.args.from in
    let front = slice_range whole from (max loop.at r) in
    let rest = slice_range whole (max loop.at (r + 2)) (max from p.written) in
    let tail =
    word_tail P p.written p.relocations p.image is.apart is.inside is.written i r loop.at c.min-skipped.result there
    r_is least c.moved_word.result c.moved_word.ensures in
    let split =
    sym (between_is whole from p.written)
    ∙ word_split P p.written p.relocations p.image is.apart is.inside is.written i r loop.at c.min-skipped.result there
    r_is least from loop.invariant.above loop.invariant.within loop.invariant.behind
    ∙ ap (λ (l : List ℕ). front ++ (l ++ rest)) (sym tail) in
    let ahead =
    subst (Appends (g.K.Sink.written c.args.sink.now) (g.K.Sink.written c.put_image.new.sink))
    (up_to_word P p.written p.relocations p.image is.apart is.inside is.written i r loop.at c.min-skipped.result there
    r_is least from loop.invariant.above loop.invariant.within loop.invariant.behind)
    (Appends-trans _ _ _ _ _ loop.invariant.appended c.in_ok-put_image.ensures.0) in
    Wrote-same _ _ _ _ _ _ _ (sym split)
    (Wrote-then _ _ _ _ _ _ _ _ _ (ahead, c.in_ok-put_image.ensures.1 ∙ loop.invariant.count)
    (Wrote-cut _ _ _ _ _ _ _ _ _ c.in_err-put_all.ensures refl c.from_residual-in_err-put_all.ensures.1))

pub loop-word-preserved : goal.loop-word-preserved
loop-word-preserved g c =
    let loop = c.loop-word in
    let p = c.args.program.now in
    let is = c.size-size.ensures.limits in
    let i = loop.word-index in
    let r = get_or c.relocations-word-items.result.now i 0 in
    let r_is : r ≡ get_or p.relocations i 0 = ap (λ (l : List ℕ). get_or l i 0) c.relocations-word-items.ensures in
    let there : i < length p.relocations =
    omega (arith, c.loop-word-test.true, ap length c.relocations-word-items.ensures) in
    let least : c.min-skipped.result ≡ min (loop.at - r) 2 =
    omega (arith, c.min-skipped.ensures, c.saturating_sub.ensures) in
    let next : c.max-at.result ≡ max loop.at (r + 2) = omega (arith, c.max-at.ensures) in
    let P = c.args.paragraph in
    let whole = add_words P p.relocations p.image in
    let from = c.args.from in
    let front = slice_range whole from (max loop.at r) in
    let ends = is.inside i 0 there in
    let tail =
    word_tail P p.written p.relocations p.image is.apart is.inside is.written i r loop.at c.min-skipped.result there
    r_is least c.moved_word.result c.moved_word.ensures in
    let ahead =
    subst (Appends (g.K.Sink.written c.args.sink.now) (g.K.Sink.written c.put_image.new.sink))
    (up_to_word P p.written p.relocations p.image is.apart is.inside is.written i r loop.at c.min-skipped.result there
    r_is least from loop.invariant.above loop.invariant.within loop.invariant.behind)
    (Appends-trans _ _ _ _ _ loop.invariant.appended c.in_ok-put_image.ensures.0) in
    let behind =
    ap (λ (l : List ℕ). front ++ l) tail
    ∙ behind_word P p.written p.relocations p.image is.apart is.inside is.written i r loop.at c.min-skipped.result
    there r_is least from loop.invariant.above loop.invariant.within loop.invariant.behind
    ∙ ap (λ (n : ℕ). slice_range whole from n) (sym next) in
    record {
      above = omega (arith, next, loop.invariant.above);
      within = omega (arith, next, ends, r_is, loop.invariant.within);
      behind = behind_more p.relocations i loop.at r c.max-at.result r_is next loop.invariant.behind;
      count = c.in_ok-put_all.ensures.1 ∙ c.in_ok-put_image.ensures.1 ∙ loop.invariant.count;
      appended =
          subst (Appends (g.K.Sink.written c.args.sink.now) (g.K.Sink.written c.put_all.new.sink)) behind
          (Appends-trans _ _ _ _ _ ahead c.in_ok-put_all.ensures.0);
    }

pub returns : goal.returns
returns g c =
    let loop = c.loop-word in
    let p = c.args.program.now in
    let is = c.size-size.ensures.limits in
    let P = c.args.paragraph in
    let whole = add_words P p.relocations p.image in
    let from = c.args.from in
    let joined =
    ap (λ (n : ℕ). slice_range whole from loop.at ++ slice_range p.image loop.at n) c.written.ensures.same
    ∙ behind_last P p.written p.relocations p.image is.apart is.inside is.written loop.word-index from loop.at
    (omega (arith, c.loop-word-test.false, ap length c.relocations-word-items.ensures)) loop.invariant.behind
    loop.invariant.above loop.invariant.within
    ∙ between_is whole from p.written in
    Wrote-same _ _ _ _ _ _ _ joined
    (Wrote-then _ _ _ _ _ _ _ _ _ (loop.invariant.appended, loop.invariant.count) c.put_image-2.ensures)
