use Rattle.std.proofs.lemmas.List.{map-id}
use Rattle.std.proofs.lemmas.Result.{err_from_is_err_and}
use Rattle.omf_codec.specs.inside.PrimitiveLaws.{index, index_lawful}
use Rattle.omf_codec.proofs.Parts.{first_fails, second_written}
use Rattle.omf_record.proofs.encode.put_record.Goals as goal

pub returns-in-Extdef : goal.returns-in-Extdef
unfolding Rattle.omf_record.specs.Body.Body Rattle.omf_record.specs.Canonical.canonical
    Rattle.omf_record.specs.View.view
returns-in-Extdef g c = rw c.in-Extdef.is c.put-in-Extdef.ensures

pub returns-in-Pubdef : goal.returns-in-Pubdef
unfolding Rattle.omf_record.specs.Body.Body Rattle.omf_record.specs.Canonical.canonical
    Rattle.omf_record.specs.View.view
returns-in-Pubdef g c = rw c.in-Pubdef.is c.put_both.ensures

pub returns-in_err-put-in-Linnum : goal.returns-in_err-put-in-Linnum
unfolding Rattle.omf_record.specs.Body.Body Rattle.omf_record.specs.Canonical.canonical
    Rattle.omf_record.specs.View.view
returns-in_err-put-in-Linnum g c =
    let p = err_from_is_err_and c.from_residual.result c.from_residual.ensures.1 in
    rw (c.in-Linnum.is, p.1)
    (first_fails g.O.Output.Takes g.O.Output.Refuses g.met.O.Output.is_output c.args.out.now c.put-in-Linnum.new.out
    c.in_err-put-in-Linnum.ensures)

pub returns-in_ok-put-in-Linnum : goal.returns-in_ok-put-in-Linnum
unfolding Rattle.omf_record.specs.Body.Body Rattle.omf_record.specs.Canonical.canonical
    Rattle.omf_record.specs.View.view
returns-in_ok-put-in-Linnum g c =
    rw c.in-Linnum.is
    (second_written g.O.Output.Takes g.O.Output.Refuses g.met.O.Output.is_output index index_lawful c.in-Linnum.group _
    _ c.args.out.now c.put-in-Linnum.new.out c.put_both-in-Linnum.new.out c.put_both-in-Linnum.result
    c.in_ok-put-in-Linnum.ensures (rw (map-id c.in-Linnum.lines.items) at c.put_both-in-Linnum.ensures))

pub returns-in-Grpdef : goal.returns-in-Grpdef
unfolding Rattle.omf_record.specs.Body.Body Rattle.omf_record.specs.Canonical.canonical
    Rattle.omf_record.specs.View.view
returns-in-Grpdef g c = rw c.in-Grpdef.is (rw (map-id c.in-Grpdef.segments.items) at c.put_both-in-Grpdef.ensures)

pub returns-in_err-put-in-Lidata : goal.returns-in_err-put-in-Lidata
unfolding Rattle.omf_record.specs.Body.Body Rattle.omf_record.specs.Canonical.canonical
    Rattle.omf_record.specs.View.view
returns-in_err-put-in-Lidata g c =
    let p =
    err_from_is_err_and c.from_residual-in_err-put-in-Lidata.result c.from_residual-in_err-put-in-Lidata.ensures.1 in
    rw (c.in-Lidata.is, p.1)
    (first_fails g.O.Output.Takes g.O.Output.Refuses g.met.O.Output.is_output c.args.out.now c.put-in-Lidata.new.out
    c.in_err-put-in-Lidata.ensures)

pub returns-in_ok-put-in-Lidata : goal.returns-in_ok-put-in-Lidata
unfolding Rattle.omf_record.specs.Body.Body Rattle.omf_record.specs.Canonical.canonical
    Rattle.omf_record.specs.View.view
returns-in_ok-put-in-Lidata g c =
    rw c.in-Lidata.is
    (second_written g.O.Output.Takes g.O.Output.Refuses g.met.O.Output.is_output index index_lawful c.in-Lidata.segment
    _ _ c.args.out.now c.put-in-Lidata.new.out c.put_both-in-Lidata.new.out c.put_both-in-Lidata.result
    c.in_ok-put-in-Lidata.ensures c.put_both-in-Lidata.ensures)
