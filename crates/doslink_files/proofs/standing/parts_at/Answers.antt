use Rattle.std.proofs.Common.{ap, arith, codes, drop, sym, take, ◌≡◌, ◌+◌, ◌-◌, ◌∙◌}
use Rattle.std.proofs.lemmas.Str.Pattern.{rfind_char}
use Rattle.std.specs.Option.{option_map_or}
use Rattle.doslink_files.proofs.Parting.{last-found}
use Rattle.doslink_files.proofs.standing.parts_at.Goals as goal

pub returns-in-Some : goal.returns-in-Some
returns-in-Some c =
    let path = c.args.path.now in
    let found = last-found c.args.border path c.rfind.result
    (rfind_char c.args.border path c.rfind.result c.rfind.ensures.cases c.requires) ∙ c.in-Some.is in
    let whole : c.in-Some.last + 1 - 0 ≡ c.in-Some.last + 1 = omega arith in
    let front = c.range.ensures.value ∙ ap (λ n. take n path) whole in
    ap (λ text. (text, c.range_from.result.now)) front
    ∙ ap (λ text. (take (c.in-Some.last + 1) path, text)) c.range_from.ensures.value
    ∙ sym (ap (λ at. option_map_or (λ last. (take (last + 1) path, drop (last + 1) path)) at (codes ".", path)) found)

pub returns-in-None : goal.returns-in-None
returns-in-None c =
    let path = c.args.path.now in
    let none = last-found c.args.border path c.rfind.result
    (rfind_char c.args.border path c.rfind.result c.rfind.ensures.cases c.requires) ∙ c.in-None.is in
    sym (ap (λ at. option_map_or (λ last. (take (last + 1) path, drop (last + 1) path)) at (codes ".", path)) none)
