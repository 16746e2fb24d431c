use Rattle.std.proofs.Common.{◌≡◌, [], ◌∷◌, ◌++◌, sym, refl}
use Rattle.std.proofs.lemmas.List.{map-append}
use Rattle.omf_library.specs.Names.{texts}
use Rattle.omf_library.specs.Said.{bytes_said}
use Rattle.omf_library.specs.Said.{externals_said}
use Rattle.omf_library.specs.Defaults.{any_external_front}
use Rattle.omf_library.proofs.Listing.{left_first, left_more}
use Rattle.omf_library.proofs.defaults.push_entries.Goals as goal

pub loop-name-init : goal.loop-name-init
loop-name-init g c =
    left_first (any_external_front (texts c.args.listed.now) c.args.kind) (λ xs. xs) c.args.body.now
    (externals_said c.args.externals.now.items)

pub loop-name-preserved : goal.loop-name-preserved
loop-name-preserved g c =
    let name = c.in-Some.name in
    let told = c.loop-name.externals.items in
    let pushed : externals_said c.push.new.self.items ≡ externals_said told ++ bytes_said name ∷ [] =
    rw c.in_ok-push.ensures.items (map-append bytes_said told (name ∷ [])) in
    rw pushed (left_more (any_external_front (texts c.args.listed.now) c.args.kind) (λ xs. xs) c.args.body.now
    c.loop-name.rest.now c.in-Some.after.now (externals_said c.args.externals.now.items) (externals_said told)
    (bytes_said name) (bytes_said name ∷ []) c.loop-name.invariant (sym c.in-Some.ensures.said)
    c.in-Some.ensures.shorter (λ xs. refl))
