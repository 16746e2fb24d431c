use Rattle.std.proofs.Common.{◌≡◌, ◌++◌, ◌∙◌, [], ap, ap₂, map, sym}
use Rattle.std.specs.List.{flat_map}
use Rattle.omf_search.specs.Missing.{missing_names}
use Rattle.omf_search.specs.Results.{module_said, needs_said, wanted_said}
use Rattle.doslib_names.specs.Lines.{doubled_line, missing_text}
use Rattle.doslib_names.specs.Names.{doubled, doubled_behind, missing, offers_from, says}
use Rattle.doslib_names.specs.Said.{held_said}
use Rattle.doslib_names.specs.inside.First.{doubled_said, offer_said}
use Rattle.doslib_names.proofs.Lists.{twice-mapped}
use Rattle.doslib_names.proofs.told.amiss.Goals as goal

pub returns : goal.returns
returns g c =
    let names = c.args.names in
    let held = map held_said c.args.modules.now in
    let all : map needs_said c.in_ok-said.said.items ≡ map says held =
    c.in_ok-said.ensures ∙ sym (twice-mapped says held_said c.args.modules.now) in
    let said : map module_said c.in_ok-all_said.field-0.items ≡ map says held =
    c.in_ok-all_said.ensures ∙ ap (map needs_said) c.deref.ensures.value ∙ all in
    let wanting : map wanted_said c.in_ok-wanting.wanting.items ≡ missing names held =
    c.in_ok-wanting.ensures
    ∙ ap (missing_names names) (ap (map module_said) c.deref-2.ensures.value ∙ said) in
    let offers : map offer_said c.in_ok-offers.offers.items ≡ offers_from 0 (map says held) =
    c.in_ok-offers.ensures ∙ ap (offers_from 0) (ap (map needs_said) c.deref-3.ensures.value ∙ all) in
    let twice : map doubled_said c.in_ok-doubled.doubled.items ≡ doubled names held =
    c.in_ok-doubled.ensures
    ∙ ap (doubled_behind names []) (ap (map offer_said) c.deref-4.ensures.value ∙ offers) in
    let first : c.push_missing.new.text.items ≡ flat_map (missing_text held) (missing names held) =
    c.in_ok-push_missing.ensures
    ∙ ap (λ l. l ++ flat_map (missing_text held) (map wanted_said c.deref-5.result.now)) c.new-text.ensures.items
    ∙ ap (flat_map (missing_text held)) (ap (map wanted_said) c.deref-5.ensures.value ∙ wanting) in
    c.in_ok-push_doubled.ensures
    ∙ ap₂ (λ t ds. t ++ flat_map (doubled_line held) ds) first
    (ap (map doubled_said) c.deref-6.ensures.value ∙ twice)
