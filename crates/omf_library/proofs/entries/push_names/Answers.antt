use Rattle.std.proofs.Common.{◌≡◌, [], ◌∷◌, ◌++◌, sym, refl}
use Rattle.omf_library.specs.Names.{texts}
use Rattle.omf_library.specs.inside.Views.{entry_front}
use Rattle.omf_library.proofs.Listing.{left_first, left_more, texts-push}
use Rattle.omf_library.proofs.entries.push_names.Goals as goal

pub loop-name-init : goal.loop-name-init
loop-name-init g c = left_first (entry_front c.args.entry) (λ xs. xs) c.args.bytes.now (texts c.args.names.now.items)

pub loop-name-preserved : goal.loop-name-preserved
loop-name-preserved g c =
    let name = c.in-Some.name in
    let told = c.loop-name.names.items in
    let pushed : texts c.push.new.self.items ≡ texts told ++ name.now ∷ [] =
    rw c.in_ok-push.ensures.items (texts-push told name) in
    rw pushed (left_more (entry_front c.args.entry) (λ xs. xs) c.args.bytes.now c.loop-name.rest.now c.in-Some.after.now
    (texts c.args.names.now.items) (texts told) name.now (name.now ∷ []) c.loop-name.invariant
    (sym c.in-Some.ensures.said) c.in-Some.ensures.shorter (λ xs. refl))
