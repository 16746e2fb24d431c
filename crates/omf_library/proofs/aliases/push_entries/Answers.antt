use Rattle.std.proofs.Common.{◌≡◌, [], ◌∷◌, ◌++◌, sym, refl}
use Rattle.std.proofs.lemmas.List.{map-append}
use Rattle.omf_library.specs.Aliases.{alias_entry_front}
use Rattle.omf_library.specs.Said.{alias_said, aliases_said}
use Rattle.omf_library.proofs.Listing.{left_first, left_more}
use Rattle.omf_library.proofs.aliases.push_entries.Goals as goal

pub loop-alias-init : goal.loop-alias-init
loop-alias-init g c =
    left_first (alias_entry_front c.args.place) (λ xs. xs) c.args.body.now (aliases_said c.args.aliases.now.items)

pub loop-alias-preserved : goal.loop-alias-preserved
loop-alias-preserved g c =
    let alias = c.in-Some.alias in
    let told = c.loop-alias.aliases.items in
    let pushed : aliases_said c.push.new.self.items ≡ aliases_said told ++ alias_said alias ∷ [] =
    rw c.in_ok-push.ensures.items (map-append alias_said told (alias ∷ [])) in
    rw pushed (left_more (alias_entry_front c.args.place) (λ xs. xs) c.args.body.now c.loop-alias.rest.now
    c.in-Some.after.now (aliases_said c.args.aliases.now.items) (aliases_said told) (alias_said alias)
    (alias_said alias ∷ []) c.loop-alias.invariant (sym c.in-Some.ensures.said) c.in-Some.ensures.shorter (λ xs. refl))
