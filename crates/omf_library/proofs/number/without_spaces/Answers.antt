use Rattle.std.proofs.Common.{◌≡◌, ◌≢◌, ◌-◌, get_or, sym, refl, ◌∙◌, arith}
use Rattle.omf_library.proofs.Spaces.{spaces_less, spaces_kept, spaces_all}
use Rattle.omf_library.proofs.number.without_spaces.Goals as goal

pub loop-len-init : goal.loop-len-init
loop-len-init c = (spaces_all c.args.bytes.now _ refl, omega arith)

pub loop-len-preserved : goal.loop-len-preserved
loop-len-preserved c =
    let bytes = c.args.bytes.now in
    let len = c.loop-len.len in
    let last : get_or bytes (len - 1) 0 ≡ 32 = omega arith in (
      spaces_less bytes len (omega arith) c.loop-len.invariant.1 last
          ∙ c.loop-len.invariant.0,
      omega (arith, c.loop-len.invariant.1),
    )

pub returns-then-bytes-len-ne32-clause-value : goal.returns-then-bytes-len-ne32-clause-value
returns-then-bytes-len-ne32-clause-value c =
    let bytes = c.args.bytes.now in
    let len = c.loop-len.len in
    let last : get_or bytes (len - 1) 0 ≢ 32 = c.if-bytes-len-ne32.true in
    sym (spaces_kept bytes len (omega arith) c.loop-len.invariant.1 last) ∙ c.loop-len.invariant.0
