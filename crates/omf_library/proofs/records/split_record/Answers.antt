use Rattle.std.proofs.Common.{ℕ, ◌+◌, ◌*◌, ◌<◌, length, get_or, refl, ap, inl, inr, arith, rules}
use Rattle.std.proofs.lemmas.List.{take_rest, get_or-drop}
use Rattle.omf_library.proofs.Splitting.{split_short, split_zero, split_cut, split_open, split_whole}
use Rattle.omf_library.proofs.records.split_record.Goals as goal
use Rattle.omf_library.proofs.records.split_record.Goals.{else-last-ne0-via-then-last-ne0+else-last-closing}
use Rattle.omf_library.proofs.records.split_record.Goals.{else-last-ne0-via-else-last-ne0}

pub returns-in_default-clause-split : goal.returns-in_default-clause-split
returns-in_default-clause-split c = split_short c.args.bytes.now c.in_default.len_below

pub returns-then-len-eq0-clause-split : goal.returns-then-len-eq0-clause-split
returns-then-len-eq0-clause-split c =
    split_zero c.args.bytes.now c.in-len3-up.len_at_least
    (omega (arith, c.from.ensures, c.from-2.ensures, c.if-len-eq0.true))

pub returns-then-rest-len-clause-split : goal.returns-then-rest-len-clause-split
returns-then-rest-len-clause-split c =
    let rest = ap length (take_rest c.args.bytes.now 3) in
    split_cut c.args.bytes.now c.in-len3-up.len_at_least
    (omega (arith, c.from.ensures, c.from-2.ensures, c.if-rest-len.true, rest))

pub returns-then-last-closing-clause-split : goal.returns-then-last-closing-clause-split
returns-then-last-closing-clause-split c =
    let bytes = c.args.bytes.now in
    let fits : (i : ℕ) → get_or bytes i 0 < 256 = search rules in
    let rest = ap length (take_rest bytes 3) in
    let nonzero = rw (take_rest bytes 3, c.from.ensures, c.from-2.ensures) at c.if-last-ne0.true in
    let other = rw (c.closing.ensures, take_rest bytes 3, c.from.ensures, c.from-2.ensures) at c.if-last-closing.true in
    split_open bytes c.in-len3-up.len_at_least (fits 1)
    (omega (arith, c.from.ensures, c.from-2.ensures, c.if-len-eq0.false))
    (omega (arith, c.from.ensures, c.from-2.ensures, c.if-rest-len.false, rest)) (rw get_or-drop (fits _)) nonzero other

pub returns-clause-split : goal.returns-clause-split
returns-clause-split c =
    let bytes = c.args.bytes.now in
    let fits : (i : ℕ) → get_or bytes i 0 < 256 = search rules in
    let rest = ap length (take_rest bytes 3) in
    let len = get_or bytes 1 0 + 256 * get_or bytes 2 0 in
    split_whole bytes _ _ c.in-len3-up.len_at_least (fits 1) (fits 2)
    (omega (arith, c.from.ensures, c.from-2.ensures, c.if-len-eq0.false))
    (omega (arith, c.from.ensures, c.from-2.ensures, c.if-rest-len.false, rest)) (rw get_or-drop (fits _))
    (elim c.else-last-ne0.branch [
      | else-last-ne0-via-then-last-ne0+else-last-closing w ↦
          inr (rw (w.closing.ensures, take_rest bytes 3, c.from.ensures, c.from-2.ensures) at w.if-last-closing.false)
      | else-last-ne0-via-else-last-ne0 w ↦
          inl (rw (take_rest bytes 3, c.from.ensures, c.from-2.ensures) at w.if-last-ne0.false)
    ])
    refl (rw (take_rest bytes 3, c.from.ensures, c.from-2.ensures) refl)
