use Rattle.std.proofs.Common.{◌≡◌, ◌+◌, ◌%◌, ◌/◌, ℕ, arith, get_or, set, ap, ◌∙◌, List}
use Rattle.omf_image.specs.Words.{word_at, add_word, put_word}
use Rattle.mz.proofs.loading.add_to_word.Goals as goal

high_byte : (n : ℕ) → n % 65536 / 256 % 256 ≡ n % 65536 / 256
high_byte n = omega arith

pub returns : goal.returns
unfolding add_word put_word
returns c =
    let xs = c.args.bytes.now in
    let i = c.args.at in
    let v = c.args.value in
    let two = c.to_le_bytes.result in
    let w = (word_at xs i + v) % 65536 in
    let low : get_or two 0 0 ≡ w % 256 =
    ap (λ (l : List ℕ). get_or l 0 0) c.to_le_bytes.ensures ∙ ap (λ (n : ℕ). (n + v) % 65536 % 256) c.word.ensures in
    let high : get_or two 1 0 ≡ w / 256 =
    ap (λ (l : List ℕ). get_or l 1 0) c.to_le_bytes.ensures ∙ ap (λ (n : ℕ). (n + v) % 65536 / 256 % 256) c.word.ensures
    ∙ high_byte (word_at xs i + v) in
    ap (λ (n : ℕ). set (set xs i n) (i + 1) (get_or two 1 0)) low
    ∙ ap (λ (n : ℕ). set (set xs i (w % 256)) (i + 1) n) high
