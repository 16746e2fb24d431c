use Rattle.std.proofs.Common.{◌≡◌, [], ◌∙◌, subst}
use Rattle.std.specs.Io.KnownBytes.{Appends}
use Rattle.omf_frame.specs.Device.{AppendsFront}
use Rattle.omf_text.proofs.PrintLemmas.{WroteBut-cut, WroteBut-then}
use Rattle.omf_text.proofs.print.Line.put.Goals as goal

pub returns-in_err-put_held : goal.returns-in_err-put_held
returns-in_err-put_held g c =
    let kept : c.hold.new.self ≡ c.args.self.now = c.hold.ensures.full c.if-hold.false in
    let written = c.in_err-put_held.ensures.written in
    WroteBut-cut _ _ _ _ _ _ c.args.self.now c.args.piece.now _ (subst (AppendsFront _ _) kept written.0, written.1)
    c.from_residual.ensures.1

pub returns : goal.returns
returns g c =
    let kept : c.hold.new.self ≡ c.args.self.now = c.hold.ensures.full c.if-hold.false in
    let none : c.hold-2.new.self ≡ [] = c.hold-2.ensures.full c.if-hold-2.false ∙ c.in_ok-put_held.ensures.emptied in
    let written = c.in_ok-put_held.ensures.written in
    WroteBut-then _ _ _ _ _ _ _ c.args.self.now c.args.piece.now _ none (subst (Appends _ _) kept written.0) written.1
    c.put_all.ensures
