use Rattle.std.proofs.Common.{◌≡◌, [], ◌∷◌, ◌++◌, sym, ap}
use Rattle.std.proofs.lemmas.List.{map-append}
use Rattle.std.specs.List.{filter_map, cons_option}
use Rattle.omf_library.specs.Said.{defaulted_said, all_defaulted}
use Rattle.omf_library.specs.Said.{externals_said}
use Rattle.omf_library.specs.Defaults.{pair_front, defaulted_of}
use Rattle.omf_library.proofs.Listing.{left_first, left_more, left_skip}
use Rattle.omf_library.proofs.defaults.push_pairs.Goals as goal

pub loop-pair-init : goal.loop-pair-init
loop-pair-init g c =
    left_first pair_front (filter_map (defaulted_of (externals_said c.args.externals.now) c.args.place)) c.args.text.now
    (all_defaulted c.args.told.now.items)

pub loop-pair-preserved-in_ok-push : goal.loop-pair-preserved-in_ok-push
loop-pair-preserved-in_ok-push g c =
    let one = c.in-Some-defaulted_of.one in
    let told = c.loop-pair.told.items in
    let of_pair = defaulted_of (externals_said c.args.externals.now) c.args.place in
    let pushed : all_defaulted c.push.new.self.items ≡ all_defaulted told ++ defaulted_said one ∷ [] =
    rw c.in_ok-push.ensures.items (map-append defaulted_said told (one ∷ [])) in
    rw pushed (left_more pair_front (filter_map of_pair) c.args.text.now c.loop-pair.rest.now c.in-Some.after.now
    (all_defaulted c.args.told.now.items) (all_defaulted told) c.in-Some.pair (defaulted_said one ∷ [])
    c.loop-pair.invariant
    (sym c.in-Some.ensures.said) c.in-Some.ensures.shorter
    (λ xs. ap (λ o. cons_option o (filter_map of_pair xs)) (sym c.in-Some-defaulted_of.ensures)))

pub loop-pair-preserved : goal.loop-pair-preserved
loop-pair-preserved g c =
    let of_pair = defaulted_of (externals_said c.args.externals.now) c.args.place in
    left_skip pair_front (filter_map of_pair) c.args.text.now c.loop-pair.rest.now c.in-Some.after.now
    (all_defaulted c.args.told.now.items) (all_defaulted c.loop-pair.told.items) c.in-Some.pair c.loop-pair.invariant
    (sym c.in-Some.ensures.said) c.in-Some.ensures.shorter
    (λ xs. ap (λ o. cons_option o (filter_map of_pair xs)) (sym c.in_default-defaulted_of.ensures))
