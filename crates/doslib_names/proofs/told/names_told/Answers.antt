use Rattle.std.proofs.Common.{◌≡◌, ◌==◌, ◌∙◌, ◌++◌, ap, arith, false, length, map, rules, sym, true, codes}
use Rattle.std.proofs.lemmas.Bool.{eqb-true}
use Rattle.std.proofs.lemmas.List.{nil_from_length}
use Rattle.doslib_names.specs.Said.{held_said}
use Rattle.doslib_names.proofs.Telling.{none-amiss, some-amiss, text-of-none, text-of-some}
use Rattle.doslib_names.proofs.told.names_told.Goals as goal

pub returns-then-is_empty-clause-amiss : goal.returns-then-is_empty-clause-amiss
returns-then-is_empty-clause-amiss g c =
    let empty : (length c.in_ok-text.text.items == 0) ≡ true = search rules in
    sym (none-amiss c.args.names (map held_said c.args.modules.now) _ c.in_ok-text.ensures empty)

pub returns-clause-amiss : goal.returns-clause-amiss
returns-clause-amiss g c =
    let full : (length c.in_ok-text.text.items == 0) ≡ false = search rules in
    sym (some-amiss c.args.names (map held_said c.args.modules.now) _ c.in_ok-text.ensures full)

pub returns-then-is_empty-clause-text : goal.returns-then-is_empty-clause-text
returns-then-is_empty-clause-text g c =
    let empty : (length c.in_ok-text.text.items == 0) ≡ true = search rules in
    let none = none-amiss c.args.names (map held_said c.args.modules.now) _ c.in_ok-text.ensures empty in
    let length_is : length c.in_ok-text.text.items ≡ 0 =
    omega (arith, eqb-true (length c.in_ok-text.text.items) 0 empty) in
    let said : c.extend_from_slice.new.self.items ≡ codes "each name that is wanted is defined once\n" =
    c.in_ok-extend_from_slice.ensures.items
    ∙ ap (λ l. l ++ codes "each name that is wanted is defined once\n")
    (nil_from_length c.in_ok-text.text.items length_is) in
    said ∙ sym (text-of-none c.args.names (map held_said c.args.modules.now) none)

pub returns-clause-text : goal.returns-clause-text
returns-clause-text g c =
    let full : (length c.in_ok-text.text.items == 0) ≡ false = search rules in
    let some = some-amiss c.args.names (map held_said c.args.modules.now) _ c.in_ok-text.ensures full in
    c.in_ok-text.ensures ∙ sym (text-of-some c.args.names (map held_said c.args.modules.now) some)
