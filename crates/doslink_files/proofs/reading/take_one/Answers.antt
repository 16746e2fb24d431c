use Rattle.std.proofs.Common.{map, subst, sym}
use Rattle.doslink_files.specs.Files.{IsFound, IsModulesPart, IsObjectPath, IsSought}
use Rattle.doslink_files.proofs.Looking.{found-weaker}
use Rattle.doslink_files.proofs.reading.take_one.Goals as goal

pub returns-in-File : goal.returns-in-File
returns-in-File g c =
    let objects = map (λ f. f.now) c.args.folders.objects.now in
    let libraries = map (λ f. f.now) c.args.folders.libraries.now in
    let told = g.W.World.bytes c.args.world.now in
    found-weaker (λ found bytes. IsObjectPath objects c.in-File.path.now found × IsModulesPart (told found) bytes)
    (λ found. IsSought told objects libraries c.args.sought) (g.W.World.holds c.args.world.now) c.args.known.now
    c.take_module.result
    (λ found bytes is.
    subst (λ sought. IsSought told objects libraries sought bytes) (sym c.in-File.is) (found, is.0, is.1))
    c.take_module.ensures

pub returns-in-Library : goal.returns-in-Library
returns-in-Library g c =
    let objects = map (λ f. f.now) c.args.folders.objects.now in
    let libraries = map (λ f. f.now) c.args.folders.libraries.now in
    let told = g.W.World.bytes c.args.world.now in
    found-weaker (IsFound told libraries c.in-Library.name.now)
    (λ found. IsSought told objects libraries c.args.sought) (g.W.World.holds c.args.world.now) c.args.known.now
    c.take_library.result
    (λ found bytes is. subst (λ sought. IsSought told objects libraries sought bytes) (sym c.in-Library.is) (found, is))
    c.take_library.ensures
