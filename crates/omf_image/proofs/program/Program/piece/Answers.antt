use Rattle.std.proofs.Common.{◌∙◌, ◌<◌, ap, sym, subst, length, take, drop, arith}
use Rattle.omf_image.specs.Program.{Program}
use Rattle.omf_image.proofs.program.Program.piece.Goals as goal

pub piece-requires : goal.piece-requires
piece-requires g c =
    let inside : c.args.address < length c.self.inside.pages.bytes =
    subst (λ (p : Program). c.args.address < length p.image) (sym c.self.view_is) c.requires in
    omega arith

pub returns-clause-front : goal.returns-clause-front
returns-clause-front g c =
    c.piece.ensures.front
    ∙ ap (λ (p : Program). take (length c.piece.result.now) (drop c.args.address p.image)) c.self.view_is

pub returns-clause-some : goal.returns-clause-some
returns-clause-some g c = c.piece.ensures.some
