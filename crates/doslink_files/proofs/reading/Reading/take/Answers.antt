use Rattle.std.proofs.Common.{refl, subst}
use Rattle.std.proofs.lemmas.Result.{on_ok_weaker}
use Rattle.doslink_files.specs.declared.reading.Reading.{Reading}
use Rattle.doslink_files.specs.Files.{IsSought}
use Rattle.doslink_files.specs.inside.Taking.{IsTaken}
use Rattle.doslink_files.proofs.LeftOut.{reading-known}
use Rattle.doslink_files.proofs.reading.Reading.take.Goals as goal

pub returns-in-New-clause-files : goal.returns-in-New-clause-files
returns-in-New-clause-files g c =
    on_ok_weaker c.keep.result (λ kept told holds objects libraries sought taken before.
    let is = subst (IsTaken (λ path. IsSought told objects libraries c.args.one) holds c.args.self.now.known)
    c.in-New.is taken in
    kept told holds objects libraries sought is.0 is.1 before)
    c.keep.ensures.files

pub returns-in_ok-insert-in-Known-clause-files : goal.returns-in_ok-insert-in-Known-clause-files
returns-in_ok-insert-in-Known-clause-files g c told holds objects libraries sought taken before =
    let old = c.args.self.now in
    let new : Reading g.row.A.Denot = record {
      files = old.files;
      libraries = c.insert.new.self;
      places = old.places;
      known = old.known;
      unread = old.unread;
    } in
    let is = subst (IsTaken (λ path. IsSought told objects libraries c.args.one) holds old.known) c.in-Known.is taken in
    let one = before.2 c.in-Known.field-0 is.0 in
    reading-known told holds objects libraries sought c.args.one one.0 old new refl refl
    c.in_ok-insert-in-Known.ensures.updates.0 refl one.2 one.3 (is.2 one.0 one.1) before
