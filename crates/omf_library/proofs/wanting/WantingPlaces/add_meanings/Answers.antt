use Rattle.std.proofs.Common.{List, ℕ, ◌∙◌, ap, arith, refl, Some, None, cond}
use Rattle.std.proofs.lemmas.List.{take_all}
use Rattle.std.specs.Option.{option_or}
use Rattle.std.specs.Str.{bytes_eq}
use Rattle.omf_library.specs.Aliases.{Alias}
use Rattle.omf_library.specs.Said.{alias_said, aliases_said}
use Rattle.omf_library.specs.Wanting.{is_meant, place_of}
use Rattle.omf_library.proofs.Wanted.{hit-first, hit-turn}
use Rattle.omf_library.proofs.wanting.WantingPlaces.add_meanings.Goals as goal

pub loop-alias-init : goal.loop-alias-init
loop-alias-init g c = λ q. hit-first c.args.place (place_of c.args.self.now q)

pub loop-alias-preserved : goal.loop-alias-preserved
loop-alias-preserved g c = λ q.
    hit-turn alias_said (λ (a : Alias). bytes_eq q.now a.meaning) c.args.aliases.now c.loop-alias.alias-index
    _ _ c.args.place (place_of c.args.self.now q) (place_of c.loop-alias.self q) (place_of c.add.new.self q)
    c.loop-alias-test.true refl (c.loop-alias.invariant q) (c.in_ok-add.ensures q)

pub returns : goal.returns
returns g c = λ q.
    c.loop-alias.invariant q
    ∙ ap (λ l. option_or (place_of c.args.self.now q) (cond (is_meant q.now (aliases_said l)) (Some c.args.place) None))
    (take_all c.loop-alias.alias-index c.args.aliases.now (omega arith))
