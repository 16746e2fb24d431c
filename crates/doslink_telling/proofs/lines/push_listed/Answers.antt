use Rattle.std.proofs.Common.{◌≡◌, ℕ, ◌+◌, List, [], ◌∷◌, ◌++◌, Bor, refl, ap, ◌∙◌}
use Rattle.std.specs.List.{enumerate_from, flat_map}
use Rattle.omf_search.specs.Results.{bytes_of}
use Rattle.doslink_telling.specs.Lines.{word_joint}
use Rattle.doslink_telling.proofs.Texts.{each-done}
use Rattle.doslink_telling.proofs.lines.push_listed.Goals as goal

joined-now : (i : ℕ) (words : List (Bor (List ℕ)))
    → flat_map (λ (p : ℕ × Bor (List ℕ)). word_joint p.0 ++ p.1.now) (enumerate_from i words)
    ≡ flat_map (λ (p : ℕ × List ℕ). word_joint p.0 ++ p.1) (enumerate_from i (bytes_of words))
joined-now i [] = refl
joined-now i (w ∷ words) = ap (λ l. (word_joint i ++ w.now) ++ l) (joined-now (i + 1) words)

pub returns : goal.returns
returns g c =
    each-done (λ (p : ℕ × Bor (List ℕ)). word_joint p.0 ++ p.1.now) c.args.words.now c.loop-index.index
    c.loop-index.lines.items _ c.loop-index-test.false c.loop-index.invariant
    ∙ ap (λ l. c.args.lines.now.items ++ l) (joined-now 0 c.args.words.now)
