use Rattle.std.proofs.Common.{◌≡◌, ℕ, zero, suc, ◌-◌, ◌<◌, ◌≤◌, ◌||◌, ◌==◌, false, List, length, get_or, Some}
use Rattle.std.proofs.Common.{nat_lt, refl, sym, ap, ◌∙◌, arith}
use Rattle.std.proofs.lemmas.Bool.Decides.{nat_tests}
use Rattle.std.proofs.lemmas.Option.{slice_get_read}
use Rattle.omf_module.specs.Before.{entry}
use Rattle.omf_module.proofs.checks.entry.Goals as goal

inside : (n index : ℕ) → (index == 0 || nat_lt n index) ≡ false → (0 < index) × (index ≤ n)
inside n index h = grind (arith, nat_tests)

entry-at : {A : Type 0} (list : List A) (index : ℕ) (x : A) → 0 < index → index ≤ length list
    → x ≡ get_or list (index - 1) x → Some x ≡ entry list index
entry-at list zero x above below is = absurd (omega arith)
entry-at list (suc n) x above below is =
    let before : suc n - 1 ≡ n = omega arith in
    let within : n < length list = omega arith in
    sym (slice_get_read list (length list) n x refl within (rw before at is))

pub bounds-list-from : goal.bounds-list-from
bounds-list-from g c =
    let h = inside (length c.args.list.now) c.args.index (sym c.misses.ensures ∙ c.if-misses.false) in
    omega (arith, h.0, h.1, c.from.ensures)

pub returns-else-misses : goal.returns-else-misses
returns-else-misses g c =
    let h = inside (length c.args.list.now) c.args.index (sym c.misses.ensures ∙ c.if-misses.false) in
    entry-at c.args.list.now c.args.index c.index-list-from.result h.0 h.1
    (c.index-list-from.is ∙ ap (λ n. get_or c.args.list.now (n - 1) c.index-list-from.result) c.from.ensures)
