use Rattle.std.proofs.Common.{◌≡◌, [], ◌∷◌, ◌++◌, sym, ap}
use Rattle.std.specs.List.{filter_map, cons_option}
use Rattle.omf_library.specs.Entries.{communal_front, listed_name}
use Rattle.omf_library.specs.Names.{texts}
use Rattle.omf_library.proofs.Listing.{left_first, left_more, left_skip, texts-push}
use Rattle.omf_library.proofs.entries.push_communal.Goals as goal

pub loop-index-init : goal.loop-index-init
loop-index-init g c =
    left_first communal_front (filter_map (listed_name (texts c.args.listed.now))) c.args.bytes.now
    (texts c.args.names.now.items)

pub loop-index-preserved-in_ok-push : goal.loop-index-preserved-in_ok-push
loop-index-preserved-in_ok-push g c =
    let name = c.in-Some-listed_name.name in
    let told = c.loop-index.names.items in
    let of_index = listed_name (texts c.args.listed.now) in
    let pushed : texts c.push.new.self.items ≡ texts told ++ name.now ∷ [] =
    rw c.in_ok-push.ensures.items (texts-push told name) in
    rw pushed (left_more communal_front (filter_map of_index) c.args.bytes.now c.loop-index.rest.now c.in-Some.after.now
    (texts c.args.names.now.items) (texts told) c.in-Some.index (name.now ∷ []) c.loop-index.invariant
    (sym c.in-Some.ensures.said) c.in-Some.ensures.shorter
    (λ xs. ap (λ o. cons_option o (filter_map of_index xs)) (sym c.in-Some-listed_name.ensures)))

pub loop-index-preserved : goal.loop-index-preserved
loop-index-preserved g c =
    let of_index = listed_name (texts c.args.listed.now) in
    left_skip communal_front (filter_map of_index) c.args.bytes.now c.loop-index.rest.now c.in-Some.after.now
    (texts c.args.names.now.items) (texts c.loop-index.names.items) c.in-Some.index c.loop-index.invariant
    (sym c.in-Some.ensures.said) c.in-Some.ensures.shorter
    (λ xs. ap (λ o. cons_option o (filter_map of_index xs)) (sym c.in_default-listed_name.ensures))
