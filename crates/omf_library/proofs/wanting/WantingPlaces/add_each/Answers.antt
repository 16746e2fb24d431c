use Rattle.std.proofs.Common.{List, ℕ, Bor, ◌∙◌, ap, arith, refl, Some, None, cond}
use Rattle.std.proofs.lemmas.List.{take_all}
use Rattle.std.specs.Option.{option_or}
use Rattle.std.specs.Str.{bytes_eq}
use Rattle.omf_library.specs.Defaults.{is_among}
use Rattle.omf_library.specs.Names.{texts}
use Rattle.omf_library.specs.Wanting.{place_of}
use Rattle.omf_library.proofs.Wanted.{hit-first, hit-turn}
use Rattle.omf_library.proofs.wanting.WantingPlaces.add_each.Goals as goal

pub loop-name-init : goal.loop-name-init
loop-name-init g c = λ q. hit-first c.args.place (place_of c.args.self.now q)

pub loop-name-preserved : goal.loop-name-preserved
loop-name-preserved g c = λ q.
    hit-turn (λ (b : Bor (List ℕ)). b.now) (bytes_eq q.now) c.args.names.now c.loop-name.name-index _ _ c.args.place
    (place_of c.args.self.now q) (place_of c.loop-name.self q) (place_of c.add.new.self q) c.loop-name-test.true refl
    (c.loop-name.invariant q) (c.in_ok-add.ensures q)

pub returns : goal.returns
returns g c = λ q.
    c.loop-name.invariant q
    ∙ ap (λ l. option_or (place_of c.args.self.now q) (cond (is_among q.now (texts l)) (Some c.args.place) None))
    (take_all c.loop-name.name-index c.args.names.now (omega arith))
