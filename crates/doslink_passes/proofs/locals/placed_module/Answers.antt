use Rattle.std.proofs.Common.{◌≡◌, List, Some, None, false, length, map, inr, refl, subst, rules}
use Rattle.std.specs.Prelude.{◌==◌}
use Rattle.std.specs.List.{list_any}
use Rattle.std.specs.Option.{option_map}
use Rattle.omf_communal.specs.Bss.{has_bss}
use Rattle.omf_communal.specs.Reading.{plain_communal}
use Rattle.omf_module.specs.Module.{Module}
use Rattle.doslink_passes.specs.Locals.{IsMadeFor}
use Rattle.doslink_passes.proofs.LocalModules.{is-placed}
use Rattle.doslink_passes.proofs.Refused.{steps-weaker}
use Rattle.doslink_passes.proofs.locals.placed_module.Goals as goal

pub returns-in-Some : goal.returns-in-Some
returns-in-Some g c =
    let names = c.args.room.now.names in
    let declared = c.args.declared.items in
    let some : (length declared == 0) ≡ false = (let full = c.if-is_empty.false in search rules) in
    let made : (all : List Module) → c.args.room.now.in_bss ≡ list_any has_bss all
    → IsMadeFor names all (map plain_communal declared) c.args.module (Some c.in-Some.bytes.items) =
    λ all bss. subst (λ o. IsMadeFor names all (map plain_communal declared) c.args.module (option_map (λ v. v.items) o))
    c.in-Some.is (c.in_ok-bytes.ensures all bss) in
    steps-weaker c.with_behind.result
    (λ m behind all bss. is-placed names all declared c.args.module m (Some c.in-Some.bytes.items)
    some
    (made all bss) behind)
    (λ none all bss. inr (inr (c.in-Some.bytes.items, made all bss, none)))
    c.with_behind.ensures

pub returns-in-None : goal.returns-in-None
returns-in-None g c =
    let names = c.args.room.now.names in
    let declared = c.args.declared.items in
    let some : (length declared == 0) ≡ false = (let full = c.if-is_empty.false in search rules) in
    λ all bss. is-placed names all declared c.args.module c.args.module None some
    (subst (λ o. IsMadeFor names all (map plain_communal declared) c.args.module (option_map (λ v. v.items) o))
    c.in-None.is (c.in_ok-bytes.ensures all bss)) refl
