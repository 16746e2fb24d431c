use Rattle.std.proofs.Common.{◌∙◌, ℕ, ap, arith, false, refl, sym}
use Rattle.std.proofs.lemmas.List.{length-map, take_all}
use Rattle.std.specs.Prelude.{codes, find}
use Rattle.std.specs.List.{enumerate_from}
use Rattle.std.specs.Option.{option_map_or}
use Rattle.omf_place.proofs.Finds.{find-here}
use Rattle.omf_order.specs.Parts.{Part}
use Rattle.omf_order.specs.Plan.{is_in_group, opens_behind_bss}
use Rattle.omf_order.specs.inside.Held.{part_view, parts_view}
use Rattle.omf_order.proofs.Behind.{next_kept, numbered, tested}
use Rattle.omf_order.proofs.FirstMet.{length-enumerate}
use Rattle.omf_order.proofs.planning.is_followed.Goals as goal

pub loop-place-init : goal.loop-place-init
loop-place-init c = refl

pub returns-then-is_behind : goal.returns-then-is_behind
returns-then-is_behind c =
    let ps = c.args.parts.now in
    let i = c.loop-place.place in
    let h = c.loop-place-test.true in
    c.is_near_stack.ensures
    ∙ sym
    (ap (λ o. option_map_or (λ (p : ℕ × Part). is_in_group (codes "STACK") p.1) o false)
    (find-here (opens_behind_bss (parts_view ps)) (enumerate_from 0 (parts_view ps)) i _ (numbered ps i _ h)
    c.loop-place.invariant
    (sym (tested ps i _ h c.args.firsts.now c.args.bss c.requires.firsts c.requires.bss)
    ∙ sym c.is_behind.ensures ∙ c.if-is_behind.true)))

pub loop-place-preserved : goal.loop-place-preserved
loop-place-preserved c =
    next_kept c.args.parts.now c.args.firsts.now c.args.bss c.loop-place.place c.loop-place-test.true c.requires.firsts
    c.requires.bss (sym c.is_behind.ensures ∙ c.if-is_behind.false) c.loop-place.invariant

pub returns : goal.returns
returns c =
    let P = parts_view c.args.parts.now in
    sym
    (ap (λ o. option_map_or (λ (p : ℕ × Part). is_in_group (codes "STACK") p.1) o false)
    (ap (find (opens_behind_bss P))
    (sym
    (take_all c.loop-place.place (enumerate_from 0 P)
    (let l = length-map c.args.parts.now part_view in let m = length-enumerate 0 P in omega (arith, l, m))))
    ∙ c.loop-place.invariant))
