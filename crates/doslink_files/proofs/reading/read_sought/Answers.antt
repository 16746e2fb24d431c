use Rattle.std.proofs.Common.{rules, All, map, arith, sym, subst}
use Rattle.std.proofs.lemmas.List.{nil_from_length, take_all, take_more}
use Rattle.std.proofs.lemmas.List.Elements.{All-nil}
use Rattle.std.specs.List.{Contains}
use Rattle.doslink_files.specs.declared.fault.Unread.{Unread}
use Rattle.doslink_files.specs.declared.reading.Reading.{Reading}
use Rattle.doslink_files.specs.Files.{AreSought, contents, sought_name}
use Rattle.doslink_files.specs.inside.Reading.{IsReading}
use Rattle.doslink_files.proofs.LeftOut.{reading-none}
use Rattle.doslink_files.proofs.Looking.{sought-at}
use Rattle.doslink_files.proofs.reading.read_sought.Goals as goal

pub loop-one-init : goal.loop-one-init
loop-one-init g c =
    let objects = map (λ f. f.now) c.args.folders.objects.now in
    let libraries = map (λ f. f.now) c.args.folders.libraries.now in
    let told = g.W.World.bytes c.args.world.now in
    let holds = g.W.World.holds c.args.world.now in
    let none : Reading g.row.A.Denot = record {
      files = c.new.result;
      libraries = c.new-2.result;
      places = c.new-3.result;
      known = c.new-4.result;
      unread = c.new-5.result;
    } in
    let named : Unread → Type 0 = λ one. Contains (map sought_name c.args.sought.now) one.name.now in
    record {
      files = reading-none told holds objects libraries none c.new.ensures.items c.new-2.ensures.empty
          c.new-4.ensures.empty;
      unread = subst (All named) (sym c.new-5.ensures.items) (All-nil named);
    }

pub loop-one-preserved : goal.loop-one-preserved
loop-one-preserved g c =
    let objects = map (λ f. f.now) c.args.folders.objects.now in
    let libraries = map (λ f. f.now) c.args.folders.libraries.now in
    let told = g.W.World.bytes c.args.world.now in
    let holds = g.W.World.holds c.args.world.now in
    let sought = c.args.sought.now in
    record {
      files = subst (λ ss. IsReading told holds objects libraries ss c.read_next.new.reading)
          (sym (take_more sought c.loop-one.one-index _ c.loop-one-test.true))
          (c.in_ok-read_next.ensures.files _ c.loop-one.invariant.files);
      unread = c.in_ok-read_next.ensures.unread (map sought_name sought)
          (sought-at sought c.loop-one.one-index _ c.loop-one-test.true) c.loop-one.invariant.unread;
    }

pub returns-then-is_empty-clause-told : goal.returns-then-is_empty-clause-told
returns-then-is_empty-clause-told g c =
    let objects = map (λ f. f.now) c.args.folders.objects.now in
    let libraries = map (λ f. f.now) c.args.folders.libraries.now in
    let told = g.W.World.bytes c.args.world.now in
    subst (λ sought. AreSought told objects libraries sought (contents c.loop-one.reading.files.items))
    (take_all c.loop-one.one-index c.args.sought.now (omega arith)) (c.loop-one.invariant.files.0
    (nil_from_length c.loop-one.reading.unread.items (let empty = c.if-is_empty.true in search rules)))
