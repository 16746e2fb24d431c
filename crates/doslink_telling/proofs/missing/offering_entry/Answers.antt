use Rattle.std.proofs.Common.{◌≡◌, ◌<◌, ◌≤◌, ◌∙◌, IfSome, List, MatchOption, None, Option, Some, ap, get_or, length}
use Rattle.std.proofs.Common.{map, refl, slice_get, sym, ℕ}
use Rattle.std.proofs.lemmas.Option.{slice_get-map, slice_get_past, slice_get_read}
use Rattle.std.specs.Borrow.{Bor}
use Rattle.std.specs.List.{HoldsAt}
use Rattle.std.specs.Option.{option_map}
use Rattle.doslink_stock.specs.Seen.{entry_held}
use Rattle.doslink_telling.specs.inside.Wanters.{wanter_held}
use Rattle.doslink_telling.proofs.missing.offering_entry.Goals as goal

-- what is found at an index of a list, once it is mapped
seen-at : {X Y : Type 0} (f : X → Y) (xs : List X) (i : ℕ) (o : Option (Bor X)) → IfSome o (λ x. x.now ≡ get_or xs i x.now)
    → MatchOption o (length xs ≤ i) (λ x. (i < length xs) × HoldsAt (λ y. x.now ≡ y) xs i)
    → option_map (λ x. f x.now) o ≡ slice_get (map f xs) i
seen-at f xs i None here there = sym (slice_get-map f xs i ∙ ap (option_map f) (slice_get_past xs i there))
seen-at f xs i (Some x) here there =
    sym (slice_get-map f xs i ∙ ap (option_map f) (slice_get_read xs (length xs) i x.now refl there.0 here))

pub returns-in-Some : goal.returns-in-Some
returns-in-Some g c =
    let wanters = c.args.wanters.now in
    let index = c.in-Module.index in
    let lookup = c.in-Some.ensures.lookup in
    rw c.in-Module.is (sym (slice_get-map wanter_held wanters index ∙ ap (option_map wanter_held)
    (slice_get_read wanters (length wanters) index c.in-Some.each.now refl lookup.3.0 lookup.1)))

pub returns-in-None : goal.returns-in-None
returns-in-None g c =
    let wanters = c.args.wanters.now in
    let index = c.in-Module.index in
    rw c.in-Module.is (sym (slice_get-map wanter_held wanters index ∙ ap (option_map wanter_held)
    (slice_get_past wanters index c.in-None.ensures.lookup.3)))

pub returns-in-Member : goal.returns-in-Member
returns-in-Member g c =
    let index = c.in-Member.member in
    let found = c.get-in-Member.result in
    let lookup = c.get-in-Member.ensures.lookup in
    rw c.in-Member.is (seen-at entry_held c.deref.result.now index found lookup.1 lookup.3
    ∙ ap (λ l. slice_get (map entry_held l) index) c.deref.ensures.value)
