use Rattle.std.proofs.Common.{ℕ, ◌<◌, get_or, refl, sym, arith, rules}
use Rattle.std.proofs.lemmas.List.{length-drop, take_rest}
use Rattle.omf_library.proofs.Fronts.{name-some, name_front-none, name_front-some}
use Rattle.omf_library.proofs.fields.take_name.Goals as goal

pub returns-in_err-name-clause-name : goal.returns-in_err-name-clause-name
returns-in_err-name-clause-name c =
    let bytes = c.args.bytes.now in
    let fits : (i : ℕ) → get_or bytes i 0 < 256 = search rules in
    let none = name_front-none bytes fits c.in_err-name.ensures in
    rw (c.from_residual.ensures, none) refl

pub returns-clause-name : goal.returns-clause-name
returns-clause-name c =
    rw (take_rest c.args.bytes.now c.in_ok-name.len)
    (sym (name_front-some c.args.bytes.now _ _ c.in_ok-name.ensures.0 c.in_ok-name.ensures.1))

pub returns-clause-shorter : goal.returns-clause-shorter
returns-clause-shorter c =
    let bytes = c.args.bytes.now in
    let some = name-some bytes _ _ c.in_ok-name.ensures.1 in
    rw (take_rest bytes c.in_ok-name.len) (omega (arith, some, c.in_ok-name.ensures.0, length-drop {A = ℕ}))
