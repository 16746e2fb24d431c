use Rattle.std.proofs.Common.{◌≡◌, ◌∙◌, ◌++◌, ◌+◌, ◌==◌, [], true, ap, ap₂, sym, eq-eqb}
use Rattle.std.specs.List.{flat_map}
use Rattle.std.proofs.lemmas.Bool.{cond-true}
use Rattle.omf_match.specs.Told.{hit_lines}
use Rattle.omf_match.proofs.Laying.{zip-first}
use Rattle.omf_match.proofs.told.Shown.push_record.Goals as goal

pub returns-in_ok-push_fixups : goal.returns-in_ok-push_fixups
returns-in_ok-push_fixups g c =
    let record' = c.args.record.now in
    let m = c.args.self.now.from.now in
    let image = c.args.self.now.image.now in
    let same : (record'.segment == c.args.segment) ≡ true =
    eq-eqb record'.segment c.args.segment (sym c.from.ensures ∙ c.if-from-segment.true) in
    c.in_ok-push_fixups.ensures
    ∙ ap (λ l. c.args.lines.now.items ++ l)
    (ap₂ (λ start ps. flat_map (hit_lines m image (c.args.place + start) ps) record'.fixups.now)
    c.from-then-from-segment.ensures (sym (zip-first record'.places.now record'.bytes.now c.requires.lengths))
    ∙ sym (cond-true (record'.segment == c.args.segment) _ [] same))
