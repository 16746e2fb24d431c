use Rattle.std.proofs.Common.{All, map, refl, subst, sym, ◌∙◌}
use Rattle.std.proofs.lemmas.List.Elements.{All-push}
use Rattle.std.proofs.lemmas.Result.{on_ok_weaker}
use Rattle.std.specs.List.{Contains}
use Rattle.doslink_files.specs.declared.fault.Unread.{Unread}
use Rattle.doslink_files.specs.declared.reading.Reading.{Reading}
use Rattle.doslink_files.proofs.LeftOut.{reading-left, reading-unread}
use Rattle.doslink_files.proofs.reading.read_next.Goals as goal

pub returns-then-contains : goal.returns-then-contains
returns-then-contains g c =
    let objects = map (λ f. f.now) c.args.folders.objects.now in
    let libraries = map (λ f. f.now) c.args.folders.libraries.now in
    let told = g.W.World.bytes c.args.world.now in
    let holds = g.W.World.holds c.args.world.now in
    record {
      files = λ sought before.
          reading-left told holds objects libraries sought c.args.one c.args.reading.now
          (sym c.contains.ensures ∙ c.if-contains.true) before;
      unread = λ names there before. before;
    }

pub returns-in-Ok-clause-files : goal.returns-in-Ok-clause-files
returns-in-Ok-clause-files g c =
    let objects = map (λ f. f.now) c.args.folders.objects.now in
    let libraries = map (λ f. f.now) c.args.folders.libraries.now in
    let told = g.W.World.bytes c.args.world.now in
    let holds = g.W.World.holds c.args.world.now in
    on_ok_weaker c.take.result (λ done sought before. done told holds objects libraries sought c.in-Ok.ensures before)
    c.take.ensures.files

pub returns-in-Ok-clause-unread : goal.returns-in-Ok-clause-unread
returns-in-Ok-clause-unread g c =
    on_ok_weaker c.take.result (λ done names there before.
    subst (λ (us : _). All (λ (u : Unread). Contains names u.name.now) us.items) (sym c.take.ensures.unread) before)
    c.take.ensures.files

pub returns-in_ok-push-in-Err : goal.returns-in_ok-push-in-Err
returns-in_ok-push-in-Err g c =
    let objects = map (λ f. f.now) c.args.folders.objects.now in
    let libraries = map (λ f. f.now) c.args.folders.libraries.now in
    let told = g.W.World.bytes c.args.world.now in
    let holds = g.W.World.holds c.args.world.now in
    let old = c.args.reading.now in
    let new : Reading g.row.A.Denot = record {
      files = old.files;
      libraries = old.libraries;
      places = old.places;
      known = old.known;
      unread = c.push.new.self;
    } in
    record {
      files = λ sought before.
          reading-unread told holds objects libraries sought c.args.one _ old new refl refl refl
          c.in_ok-push-in-Err.ensures.items before;
      unread = λ names there before.
          let named : Unread → Type 0 = λ u. Contains names u.name.now in
          subst (All named) (sym c.in_ok-push-in-Err.ensures.items)
          (All-push named _ _ before (rw c.name-name.ensures there));
    }
