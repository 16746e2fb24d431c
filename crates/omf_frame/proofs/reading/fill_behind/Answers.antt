use Rattle.std.proofs.Common.{take, subst, ap, arith}
use Rattle.std.proofs.lemmas.Result.{IfOk-weaker}
use Rattle.std.specs.Io.KnownBytes.{Consumes}
use Rattle.omf_frame.proofs.Framing.{written_behind}
use Rattle.omf_frame.proofs.reading.fill_behind.Goals as goal

pub returns-clause-taken : goal.returns-clause-taken
returns-clause-taken g c =
    let grown = rw c.unwrap.ensures at c.resize.ensures.len in
    let behind =
    written_behind c.len-held.result _ c.resize.new.self.len c.deref_mut.result.now c.resize.new.self.items
    c.fill.new.buf c.len-held.ensures c.deref_mut.ensures.len
    (omega (arith, grown, c.fill.auto.buf, c.deref_mut.ensures.len, c.len-held.ensures)) in
    IfOk-weaker c.fill.result _ _ (λ n taken. subst (Consumes _ _) (ap (take n) behind) taken) c.fill.ensures.taken
