use Rattle.std.proofs.Common.{ap, map, sym, ◌∙◌, arith}
use Rattle.std.proofs.lemmas.List.{take_all}
use Rattle.std.proofs.lemmas.Simd.{map-map}
use Rattle.omf_alias.specs.inside.Ends.{twice, way_said}
use Rattle.omf_alias.proofs.ends.longer.Goals as goal

pub returns : goal.returns
returns g c =
    let ways = c.args.ways.now in
    let far = twice c.args.names (map way_said ways) in
    c.loop-way.invariant ∙ ap (map (λ v. far (way_said v))) (take_all _ ways (omega arith))
    ∙ sym (map-map far way_said ways)
