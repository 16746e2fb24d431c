use Rattle.std.proofs.Common.{◌++◌, arith, length, sym, subst}
use Rattle.std.specs.Io.KnownBytes.{Appends}
use Rattle.omf_frame.specs.Device.{AppendsFront}
use Rattle.omf_record.specs.View.{view}
use Rattle.omf_text.specs.Details.{details}
use Rattle.omf_text.specs.Listing.{head_line}
use Rattle.omf_commands.proofs.Through.{handled, written_count}
use Rattle.omf_commands.proofs.records.put_record.Goals as goal

pub returns-clause-count : goal.returns-clause-count
returns-clause-count g c =
    written_count g.K.Sink.written g.K.Sink.failures _ _ _ c.put_canonical.result c.put_canonical.ensures

pub returns-clause-handles : goal.returns-clause-handles
returns-clause-handles g c =
    let f = c.args.frame.now in
    let r = view c.in_ok-record.record in
    rw c.in-Rewriting.is
    (handled g.K.Sink.written g.K.Sink.failures _ _ f.place f.kind f.body.now r c.put_canonical.result
    c.in_ok-record.ensures.0 c.put_canonical.ensures)

pub returns-in-Listing-clause-handles : goal.returns-in-Listing-clause-handles
returns-in-Listing-clause-handles g c =
    let f = c.args.frame.now in
    let r = view c.in_ok-record.record in
    let says = c.in_ok-record.ensures.0 in
    rw c.in-Listing.is (
      r,
      says,
      subst
          (λ kind.
          AppendsFront (g.K.Sink.written c.args.sink.now) (g.K.Sink.written c.put_listing.new.sink)
          (head_line f.place kind (length f.body.now) ++ details r)) (sym says.0) c.in-Err.ensures.0,
    )

pub returns-in-Ok-clause-count : goal.returns-in-Ok-clause-count
returns-in-Ok-clause-count g c = omega (arith, c.in-Ok.ensures.1)

pub returns-in-Ok-clause-handles : goal.returns-in-Ok-clause-handles
returns-in-Ok-clause-handles g c =
    let f = c.args.frame.now in
    let r = view c.in_ok-record.record in
    let says = c.in_ok-record.ensures.0 in
    rw c.in-Listing.is (
      r,
      says,
      subst
          (λ kind.
          Appends (g.K.Sink.written c.args.sink.now) (g.K.Sink.written c.put_listing.new.sink)
          (head_line f.place kind (length f.body.now) ++ details r)) (sym says.0) c.in-Ok.ensures.0,
    )
