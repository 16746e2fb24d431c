use Rattle.std.proofs.Common.{◌≡◌, ℕ, ◌+◌, ◌-◌, ◌*◌, List, length, set, min, sym, ap, ◌∙◌, refl, arith}
use Rattle.std.specs.Int.{to_le_bytes, w16}
use borrow.Rule.Slice.PartMut.{put_mid}
use Rattle.omf_librarian.specs.Entering.{entry_bytes, entry_words, overwritten}
use Rattle.omf_librarian.specs.inside.Views.{entry_view}
use Rattle.omf_librarian.proofs.Lists.{written}
use Rattle.omf_librarian.proofs.block.put.Goals as goal

pub returns : goal.returns
returns c =
    let b = c.args.block.now in
    let name = c.args.entry.now.name.now in
    let n = length name in
    let word = to_le_bytes w16 c.args.entry.now.page in
    let at = 2 * c.from-place.result in
    let behind = at + 1 + n in
    let free = c.args.free in
    let first : at ≡ 2 * free = ap (λ k. 2 * k) c.from-place.ensures in
    let words : c.min.result ≡ min (free + entry_words (entry_view c.args.entry.now)) 255 =
    omega (arith, c.min.ensures, c.words.ensures, c.from.ensures, c.from-2.ensures) in
    let bytes : put_mid behind (behind + 2 - behind) (put_mid (at + 1) (behind - (at + 1)) (set b at n) name) word
    ≡ overwritten at (entry_bytes (entry_view c.args.entry.now)) b =
    written b name word at n behind (behind - (at + 1)) (behind + 2 - behind) refl refl (omega arith) (omega arith)
    refl (omega (arith, c.requires.size, c.requires.room, first)) in
    ap (λ (l : List ℕ). set (set (put_mid behind (behind + 2 - behind)
    (put_mid (at + 1) (behind - (at + 1)) (set b at n) l) c.copy_from_slice-2.new.self) c.args.bucket free) 37
    c.min.result)
    c.copy_from_slice.ensures.after
    ∙ ap (λ (l : List ℕ). set (set (put_mid behind (behind + 2 - behind)
    (put_mid (at + 1) (behind - (at + 1)) (set b at n) name) l) c.args.bucket free) 37 c.min.result)
    (c.copy_from_slice-2.ensures.after ∙ c.to_le_bytes.ensures)
    ∙ ap (λ (l : List ℕ). set (set l c.args.bucket free) 37 c.min.result) bytes
    ∙ ap
    (λ k. set (set (overwritten k (entry_bytes (entry_view c.args.entry.now)) b) c.args.bucket free) 37 c.min.result)
    first
    ∙ ap (λ k. set (set (overwritten (2 * free) (entry_bytes (entry_view c.args.entry.now)) b) c.args.bucket free) 37 k)
    words
    ∙ ap (λ k. set (set (overwritten (2 * k) (entry_bytes (entry_view c.args.entry.now)) b) c.args.bucket k) 37
    (min (k + entry_words (entry_view c.args.entry.now)) 255)) c.requires.free
