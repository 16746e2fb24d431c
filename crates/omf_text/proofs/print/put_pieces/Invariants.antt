use Rattle.std.proofs.Common.{◌≡◌, take}
use Rattle.std.specs.List.{flat_map}
use Rattle.omf_text.specs.inside.Printing.{AppendsBut}
use Rattle.omf_text.proofs.print.put_pieces.Given as goal

abbrev pub invariant-loop-piece : goal.invariant-loop-piece
invariant-loop-piece g l = record {
  count : g.K.Sink.failures l.sink ≡ g.K.Sink.failures l.initial.sink;
  appended : AppendsBut l.line (g.K.Sink.written l.initial.sink) (g.K.Sink.written l.sink)
      (flat_map (λ piece. piece.now) (take l.piece-index l.pieces));
}
