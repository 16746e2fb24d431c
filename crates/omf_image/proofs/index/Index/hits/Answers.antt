use Rattle.std.proofs.Common.{◌≡◌, ◌∙◌, ◌+◌, ◌-◌, ◌<◌, ℕ, List, length, get_or, take, drop, sym, ap, arith}
use Rattle.omf_image.specs.inside.Index.{hits_before}
use Rattle.omf_image.proofs.Chains.{part, fits, read}
use Rattle.omf_image.proofs.index.Index.hits.Goals as goal
use Rattle.omf_image.proofs.index.Index.hits.Goals.{then-place-len+else-start-end}
use Rattle.omf_image.proofs.index.Index.hits.Goals.{else-start-end-via-then-start-end+else-end-len}
use Rattle.omf_image.proofs.index.Index.hits.Goals.{else-start-end-via-else-start-end, else-place-len}

pub returns-then-end-len : goal.returns-then-end-len
returns-then-end-len g c places x =
    let s = c.args.self.now in
    let o = c.args.offset in
    let m = length s.starts.items - 1 in
    let inside : o + 1 < length s.starts.items =
    omega (arith, c.from-place.ensures, c.len.ensures, c.if-place-len.true) in
    let a : c.index.result.now ≡ length (hits_before places o) =
    read s.starts.items c.from-place.result c.index.result.now c.index.ensures
    (omega (arith, inside, c.from-place.ensures)) ∙ ap (λ (k : ℕ). get_or s.starts.items k 0) c.from-place.ensures
    ∙ x.starts o (omega (arith, inside)) in
    let b : c.index-then-place-len.result.now ≡ length (hits_before places (o + 1)) =
    read s.starts.items (c.from-place.result + 1) c.index-then-place-len.result.now c.index-then-place-len.ensures
    (omega (arith, inside, c.from-place.ensures)) ∙ ap (λ (k : ℕ). get_or s.starts.items (k + 1) 0) c.from-place.ensures
    ∙ x.starts (o + 1) inside in
    let p : c.deref.result.now ≡ hits_before places m = c.deref.ensures.value ∙ x.positions m (omega (arith, inside)) in
    ap (λ (k : ℕ). take (c.index-then-place-len.result.now - k) (drop k c.deref.result.now)) a
    ∙ ap (λ (k : ℕ). take (k - length (hits_before places o)) (drop (length (hits_before places o)) c.deref.result.now))
    b
    ∙ ap
    (λ (l : List ℕ).
    take (length (hits_before places (o + 1)) - length (hits_before places o)) (drop (length (hits_before places o)) l))
    p
    ∙ part places o m (omega (arith, inside))

pub returns : goal.returns
returns g c places x =
    let s = c.args.self.now in
    let o = c.args.offset in
    let m = length s.starts.items - 1 in
    elim c.if-place-len.branch [
      | then-place-len+else-start-end w ↦
          let inside : o + 1 < length s.starts.items =
          omega (arith, c.from-place.ensures, c.len.ensures, w.if-place-len.true) in
          let a : w.index.result.now ≡ length (hits_before places o) =
          read s.starts.items c.from-place.result w.index.result.now w.index.ensures
          (omega (arith, inside, c.from-place.ensures)) ∙ ap (λ (k : ℕ). get_or s.starts.items k 0) c.from-place.ensures
          ∙ x.starts o (omega (arith, inside)) in
          let b : w.index-then-place-len.result.now ≡ length (hits_before places (o + 1)) =
          read s.starts.items (c.from-place.result + 1) w.index-then-place-len.result.now w.index-then-place-len.ensures
          (omega (arith, inside, c.from-place.ensures))
          ∙ ap (λ (k : ℕ). get_or s.starts.items (k + 1) 0) c.from-place.ensures ∙ x.starts (o + 1) inside in
          let p : length s.positions.items ≡ length (hits_before places m) =
          ap length (x.positions m (omega (arith, inside))) in
          let f = fits places o (o + 1) (omega arith) in
          let h = fits places (o + 1) m (omega (arith, inside)) in
          elim w.else-start-end.branch [
            | else-start-end-via-then-start-end+else-end-len w' ↦
                absurd (omega (arith, b, p, h, w'.if-end-len.false, w'.len-then-start-end.ensures))
            | else-start-end-via-else-start-end w' ↦ absurd (omega (arith, a, b, f, w'.if-start-end.false))
          ]
      | else-place-len w ↦ sym (x.past o (omega (arith, c.from-place.ensures, c.len.ensures, w.if-place-len.false)))
    ]
