use Rattle.std.proofs.Common.{sym, ◌∙◌}
use Rattle.std.proofs.lemmas.Slice.Eq.{bytes_eq-Decides}
use Rattle.doslink_files.proofs.LeftOut.{bytes-at}
use Rattle.doslink_files.proofs.reading.has_bytes_at.Goals as goal

pub returns-in-Some : goal.returns-in-Some
returns-in-Some g c =
    λ equal.
    bytes-at c.args.files.now c.args.place c.in-Some.file.now c.args.bytes.now c.in-Some.ensures.lookup.3.0
    c.in-Some.ensures.lookup.1
    (sym c.as_slice.ensures.value ∙ (bytes_eq-Decides _ _).0 (sym c.eq.ensures ∙ equal))
