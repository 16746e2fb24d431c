use Rattle.std.proofs.Common.{◌∙◌, ap, length, ltb}
use Rattle.std.specs.List.{position_or_len}
use Rattle.omf_order.proofs.Found.{found}
use Rattle.omf_order.proofs.firsts.KeyPlaces.has.Goals as goal

pub returns : goal.returns
returns g c =
    let eq = g.K.PartialEq.eq c.args.key in
    ap (λ n. ltb n (length c.self.inside.keys.now)) c.first.ensures
    ∙ ap (λ xs. ltb (position_or_len eq c.args.self.now) (length xs)) c.self.view_is
    ∙ found eq c.args.self.now
