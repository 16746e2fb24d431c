use Rattle.std.proofs.Common.{◌∙◌, ◌++◌, ◌∷◌, [], ℕ, List, sym, ap, arith}
use Rattle.omf_image.proofs.Ranges.{plain_hit, plain_miss}
use Rattle.omf_image.proofs.finding.find_one.Goals as goal

pub returns-in_ok-push : goal.returns-in_ok-push
returns-in_ok-push g c stored n plain =
    c.in_ok-push.ensures.items
    ∙ ap (λ (l : List ℕ). l ++ c.from-then-from-len.result ∷ []) c.clear.ensures.items
    ∙ ap (λ (k : ℕ). k ∷ []) c.from-then-from-len.ensures
    ∙ sym (plain_hit stored c.args.offset plain (omega (arith, c.from.ensures, c.if-from-len.true, n)))

pub returns-else-from-len : goal.returns-else-from-len
returns-else-from-len g c stored n plain =
    c.clear.ensures.items
    ∙ sym (plain_miss stored c.args.offset plain (omega (arith, c.from.ensures, c.if-from-len.false, n)))
