use Rattle.std.proofs.Common.{◌++◌, ◌∷◌, [], ap, refl, sym, ◌∙◌}
use Rattle.std.specs.BTreeSet.{contains}
use Rattle.doslink_files.specs.declared.reading.Reading.{Reading}
use Rattle.doslink_files.specs.Files.{is_library}
use Rattle.doslink_files.specs.inside.Reading.{sought_cmp}
use Rattle.doslink_files.specs.Standing.{has_file}
use Rattle.doslink_files.proofs.LeftOut.{reading-known, reading-library, reading-module}
use Rattle.doslink_files.proofs.reading.Reading.keep.Goals as goal
use Rattle.doslink_files.proofs.reading.Reading.keep.Goals.{then-is_library+in_ok-insert+else-has_bytes_of+in_ok-mark}
use Rattle.doslink_files.proofs.reading.Reading.keep.Goals.{else-is_library}

pub returns-then-has_bytes_of-clause-files : goal.returns-then-has_bytes_of-clause-files
returns-then-has_bytes_of-clause-files g c =
    let old = c.args.self.now in
    let new : Reading g.row.A.Denot = record {
      files = old.files;
      libraries = c.insert.new.self;
      places = old.places;
      known = old.known;
      unread = old.unread;
    } in
    λ told holds objects libraries sought is part before.
    reading-known told holds objects libraries sought c.args.one c.args.file.bytes.items old new refl refl
    c.in_ok-insert.ensures.updates.0 refl
    (sym (ap is_library c.deref.ensures.value) ∙ sym c.is_library.ensures ∙ c.if-is_library.true)
    (c.has_bytes_of.ensures c.if-has_bytes_of.true) is before

pub returns : goal.returns
returns g c =
    let file = c.args.file in
    let old = c.args.self.now in
    let new : Reading g.row.A.Denot = record {
      files = c.push.new.self;
      libraries = c.if-is_library.self.libraries;
      places = c.if-is_library.self.places;
      known = c.if-is_library.self.known;
      unread = c.if-is_library.self.unread;
    } in
    let library = sym (ap is_library c.deref.ensures.value) ∙ sym c.is_library.ensures in
    elim c.if-is_library.branch [
      | then-is_library+in_ok-insert+else-has_bytes_of+in_ok-mark w ↦ record {
        files = λ told holds objects libraries sought is part before.
            reading-library told holds objects libraries sought c.args.one file old new
            (c.in_ok-push.ensures.items ∙ ap (λ r. r.files.items ++ file ∷ []) w.self-is
            ∙ ap (λ fs. fs.items ++ file ∷ []) w.mark.ensures.files)
            (ap (λ r. r.unread.items) w.self-is ∙ ap (λ us. us.items) w.mark.ensures.unread)
            (λ q. ap (λ r. contains sought_cmp r.libraries q) w.self-is
            ∙ ap (λ ls. contains sought_cmp ls q) w.mark.ensures.libraries ∙ w.in_ok-insert.ensures.updates.0 q)
            c.args.regular (λ q has. w.in_ok-mark.ensures.known q (ap (λ r. has_file r.known q) (sym w.self-is) ∙ has))
            (library ∙ w.if-is_library.true) is part before;
        unread = ap (λ r. r.unread) w.self-is ∙ w.mark.ensures.unread;
      }
      | else-is_library w ↦ record {
        files = λ told holds objects libraries sought is part before.
            reading-module told holds objects libraries sought c.args.one file old new
            (c.in_ok-push.ensures.items ∙ ap (λ r. r.files.items ++ file ∷ []) w.self-is)
            (ap (λ r. r.unread.items) w.self-is) (ap (λ r. r.libraries) w.self-is)
            (ap (λ r. r.known) w.self-is) is before;
        unread = ap (λ r. r.unread) w.self-is;
      }
    ]
