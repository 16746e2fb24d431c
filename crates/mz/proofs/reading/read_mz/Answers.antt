use Rattle.std.proofs.Common.{arith, ◌≡◌, ◌∙◌, ap, sym, subst, Err, Ok}
use Rattle.std.proofs.lemmas.Result.{err_from_is_err_and}
use Rattle.omf_frame.proofs.Told.{TakesAtMost-more}
use Rattle.mz.specs.Reading.{Takes}
use Rattle.mz.specs.inside.Steps.{ReadsOn, header_in}
use Rattle.mz.proofs.Source.{first_stops, header_exact, header_takes, accepts, second_stops, cut_exact, cut_takes}
use Rattle.mz.proofs.Source.{whole_exact, whole_takes, gives_fault}
use Rattle.mz.proofs.reading.read_mz.Goals as goal

pub returns-in_err-read_up_to-clause-stands : goal.returns-in_err-read_up_to-clause-stands
returns-in_err-read_up_to-clause-stands g c =
    let p = err_from_is_err_and c.from_residual.result c.from_residual.ensures.1 in
    subst (Takes _ _) (sym (p.1 ∙ ap Err p.2))
    (first_stops _ _ c.in_err-read_up_to.field-0.0 c.in_err-read_up_to.ensures.stops
    (TakesAtMost-more _ _ _ 28 c.in_err-read_up_to.ensures.failed (omega arith))
    c.in_err-read_up_to.ensures.memory)

pub returns-in_err-header-clause-exact : goal.returns-in_err-header-clause-exact
returns-in_err-header-clause-exact g c =
    let p = err_from_is_err_and c.from_residual-in_err-header.result c.from_residual-in_err-header.ensures.1 in
    let given : header_in c.read_up_to.new.bytes.items ≡ Err c.in_err-header.field-0.0 =
    sym (c.in_err-header.ensures ∙ ap header_in c.deref.ensures.value) in
    gives_fault _ _ c.in_err-header.field-0.0 (p.1 ∙ ap Err p.2)
    (header_exact _ _ c.new-bytes.result.items c.read_up_to.new.bytes.items c.in_err-header.field-0.0
    c.new-bytes.ensures.items c.in_ok-read_up_to.ensures.read given)

pub returns-in_err-header-clause-stands : goal.returns-in_err-header-clause-stands
returns-in_err-header-clause-stands g c =
    let p = err_from_is_err_and c.from_residual-in_err-header.result c.from_residual-in_err-header.ensures.1 in
    let given : header_in c.read_up_to.new.bytes.items ≡ Err c.in_err-header.field-0.0 =
    sym (c.in_err-header.ensures ∙ ap header_in c.deref.ensures.value) in
    subst (Takes _ _) (sym (p.1 ∙ ap Err p.2))
    (header_takes _ _ c.new-bytes.result.items c.read_up_to.new.bytes.items c.in_err-header.field-0.0
    c.new-bytes.ensures.items c.in_ok-read_up_to.ensures.read given)

pub returns-in_err-read_up_to-2-clause-stands : goal.returns-in_err-read_up_to-2-clause-stands
returns-in_err-read_up_to-2-clause-stands g c =
    let p =
    err_from_is_err_and c.from_residual-in_err-read_up_to-2.result c.from_residual-in_err-read_up_to-2.ensures.1 in
    let given : header_in c.read_up_to.new.bytes.items ≡ Ok c.in_ok-header.header =
    sym (c.in_ok-header.ensures ∙ ap header_in c.deref.ensures.value) in
    subst (Takes _ _) (sym (p.1 ∙ ap Err p.2))
    (second_stops _ _ _ c.new-bytes.result.items c.read_up_to.new.bytes.items c.in_ok-header.header
    c.in_err-read_up_to-2.field-0.0 _ c.new-bytes.ensures.items c.in_ok-read_up_to.ensures.read given
    c.in_err-read_up_to-2.ensures.stops (omega arith) c.in_err-read_up_to-2.ensures.failed
    c.in_err-read_up_to-2.ensures.memory)

pub returns-then-len-clause-exact : goal.returns-then-len-clause-exact
returns-then-len-clause-exact g c =
    let given : header_in c.read_up_to.new.bytes.items ≡ Ok c.in_ok-header.header =
    sym (c.in_ok-header.ensures ∙ ap header_in c.deref.ensures.value) in
    let rest =
    subst
    (λ n.
    ReadsOn n (g.S.Source.remaining c.read_up_to.new.source) (g.S.Source.remaining c.read_up_to-2.new.source)
    c.read_up_to.new.bytes.items c.read_up_to-2.new.bytes.items) c.told_len-len.ensures
    c.in_ok-read_up_to-2.ensures.read in
    cut_exact _ _ _ c.new-bytes.result.items c.read_up_to.new.bytes.items c.read_up_to-2.new.bytes.items
    c.in_ok-header.header c.new-bytes.ensures.items c.in_ok-read_up_to.ensures.read given rest (omega arith)

pub returns-then-len-clause-stands : goal.returns-then-len-clause-stands
returns-then-len-clause-stands g c =
    let given : header_in c.read_up_to.new.bytes.items ≡ Ok c.in_ok-header.header =
    sym (c.in_ok-header.ensures ∙ ap header_in c.deref.ensures.value) in
    let rest =
    subst
    (λ n.
    ReadsOn n (g.S.Source.remaining c.read_up_to.new.source) (g.S.Source.remaining c.read_up_to-2.new.source)
    c.read_up_to.new.bytes.items c.read_up_to-2.new.bytes.items) c.told_len-len.ensures
    c.in_ok-read_up_to-2.ensures.read in
    cut_takes _ _ _ c.new-bytes.result.items c.read_up_to.new.bytes.items c.read_up_to-2.new.bytes.items
    c.in_ok-header.header c.new-bytes.ensures.items c.in_ok-read_up_to.ensures.read given rest (omega arith)

pub file_of-requires-clause-accepted : goal.file_of-requires-clause-accepted
file_of-requires-clause-accepted g c = accepts c.deref.result.now c.in_ok-header.header c.in_ok-header.ensures

pub returns-clause-exact : goal.returns-clause-exact
returns-clause-exact g c =
    let given : header_in c.read_up_to.new.bytes.items ≡ Ok c.in_ok-header.header =
    sym (c.in_ok-header.ensures ∙ ap header_in c.deref.ensures.value) in
    let rest =
    subst
    (λ n.
    ReadsOn n (g.S.Source.remaining c.read_up_to.new.source) (g.S.Source.remaining c.read_up_to-2.new.source)
    c.read_up_to.new.bytes.items c.read_up_to-2.new.bytes.items) c.told_len-len.ensures
    c.in_ok-read_up_to-2.ensures.read in
    whole_exact _ _ _ c.new-bytes.result.items c.read_up_to.new.bytes.items c.read_up_to-2.new.bytes.items
    c.in_ok-header.header c.file_of.result c.new-bytes.ensures.items c.in_ok-read_up_to.ensures.read given rest
    (omega arith)
    c.file_of.ensures.exact

pub returns-clause-stands : goal.returns-clause-stands
returns-clause-stands g c =
    let given : header_in c.read_up_to.new.bytes.items ≡ Ok c.in_ok-header.header =
    sym (c.in_ok-header.ensures ∙ ap header_in c.deref.ensures.value) in
    let rest =
    subst
    (λ n.
    ReadsOn n (g.S.Source.remaining c.read_up_to.new.source) (g.S.Source.remaining c.read_up_to-2.new.source)
    c.read_up_to.new.bytes.items c.read_up_to-2.new.bytes.items) c.told_len-len.ensures
    c.in_ok-read_up_to-2.ensures.read in
    whole_takes _ _ _ c.new-bytes.result.items c.read_up_to.new.bytes.items c.read_up_to-2.new.bytes.items
    c.in_ok-header.header c.file_of.result c.new-bytes.ensures.items c.in_ok-read_up_to.ensures.read given rest
    (omega arith)
    c.file_of.ensures.exact c.file_of.ensures.works
