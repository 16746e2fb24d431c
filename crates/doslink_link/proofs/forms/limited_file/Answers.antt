use Rattle.std.proofs.Common.{◌≡◌, ◌%◌, ◌/◌, ℕ, max, set, get_or, length, arith, ap, refl}
use Rattle.std.proofs.lemmas.List.{get_or_read_under}
use Rattle.omf_image.specs.Words.{put_word, word_at}
use Rattle.doslink_link.proofs.forms.limited_file.Goals as goal

pub returns-then-len-ge-HEADER_LEN : goal.returns-then-len-ge-HEADER_LEN
unfolding put_word
returns-then-len-ge-HEADER_LEN g c long =
    let exe = c.args.exe.items in
    let low : c.index.result.now ≡ get_or exe 10 0 =
    get_or_read_under exe 10 (length exe) c.index.result.now 0 c.index.ensures (omega arith) refl in
    let high : c.index-then-len-ge-HEADER_LEN.result.now ≡ get_or exe 11 0 =
    get_or_read_under exe 11 (length exe) c.index-then-len-ge-HEADER_LEN.result.now 0
    c.index-then-len-ge-HEADER_LEN.ensures (omega arith) refl in
    let most : c.max-most.result ≡ max c.args.paragraphs (word_at exe 10) =
    omega (arith, low, high, c.max-most.ensures, c.from.ensures, c.from-then-len-ge-HEADER_LEN.ensures) in
    ap (λ (m : ℕ). set (set exe 12 (m % 256)) 13 (m / 256)) most
