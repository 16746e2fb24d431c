use Rattle.std.proofs.Common.{◌≡◌, ◌∙◌, ◌++◌, ◌∷◌, [], ℕ, List, Bool, false, cond, filter, get_or, length, sym, ap}
use Rattle.std.proofs.Common.{arith}
use Rattle.std.proofs.lemmas.List.{append-nil}
use Rattle.std.specs.List.{range_with_len}
use Rattle.omf_image.proofs.Ranges.{filter_more}
use Rattle.omf_image.proofs.building.flagged.Goals as goal
use Rattle.omf_image.proofs.building.flagged.Goals.{then-flag+in_ok-push, else-flag}

pub loop-address-preserved : goal.loop-address-preserved
loop-address-preserved g c =
    let p : ℕ → Bool = λ a. get_or c.args.flags.now a false in
    let i = c.loop-address.address in
    let so_far = filter p (range_with_len 0 i) in
    elim c.if-flag.branch [
      | then-flag+in_ok-push w ↦
          ap (λ v. v.items) w.addresses-is ∙ w.in_ok-push.ensures.items
          ∙ ap (λ (l : List ℕ). l ++ i ∷ []) c.loop-address.invariant
          ∙ sym (filter_more p i ∙ ap (λ (b : Bool). so_far ++ cond b (i ∷ []) []) w.if-flag.true)
      | else-flag w ↦
          ap (λ v. v.items) w.addresses-is ∙ c.loop-address.invariant
          ∙ sym (filter_more p i ∙ ap (λ (b : Bool). so_far ++ cond b (i ∷ []) []) w.if-flag.false ∙ append-nil so_far)
    ]

pub loop-address-init : goal.loop-address-init
loop-address-init g c = c.new-addresses.ensures.items

pub returns : goal.returns
returns g c =
    let p : ℕ → Bool = λ a. get_or c.args.flags.now a false in
    let all : c.loop-address.address ≡ length c.args.flags.now = omega arith in
    c.loop-address.invariant ∙ ap (λ (n : ℕ). filter p (range_with_len 0 n)) all
