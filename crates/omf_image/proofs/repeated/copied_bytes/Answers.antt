use Rattle.std.proofs.Common.{◌≡◌, ◌∙◌, ◌++◌, ℕ, List, [], ◌∷◌, map, take, get_or, ap, sym, arith}
use Rattle.std.proofs.lemmas.List.{map_more, take_all}
use Rattle.omf_image.proofs.repeated.copied_bytes.Goals as goal

pub loop-place-init : goal.loop-place-init
loop-place-init g c = c.new-bytes.ensures.items

pub byte-requires : goal.byte-requires
byte-requires g c =
    let below = c.requires c.loop-place.place-index 0 c.loop-place-test.true in
    omega (arith, below, c.from.ensures)

pub loop-place-preserved : goal.loop-place-preserved
loop-place-preserved g c =
    let image = c.args.image.now.bytes in
    let places = c.args.places.now in
    let i = c.loop-place.place-index in
    let front : List ℕ = map (λ p. get_or image p 0) (take i places) in
    let byte : c.byte.result ≡ get_or image (get_or places i 0) 0 =
    c.byte.ensures ∙ ap (λ (p : ℕ). get_or image p 0) c.from.ensures in
    c.in_ok-push.ensures.items ∙ ap (λ (xs : List ℕ). xs ++ c.byte.result ∷ []) c.loop-place.invariant
    ∙ ap (λ (b : ℕ). front ++ b ∷ []) byte
    ∙ sym (map_more (λ p. get_or image p 0) places i 0 c.loop-place-test.true)

pub returns : goal.returns
returns g c =
    c.loop-place.invariant
    ∙ ap (map (λ p. get_or c.args.image.now.bytes p 0))
    (take_all c.loop-place.place-index c.args.places.now c.loop-place-test.false)
