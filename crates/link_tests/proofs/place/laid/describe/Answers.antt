use Rattle.std.proofs.Common.{refl}
use Rattle.std.proofs.lemmas.Option.{slice_get_read}
use Rattle.link_tests.proofs.place.laid.describe.Goals as goal

pub push_module-requires-clause-places : goal.push_module-requires-clause-places
push_module-requires-clause-places g c =
    c.requires.each c.loop-input.input _
    (slice_get_read c.args.modules.now _ _ _ refl c.loop-input-test.true c.index-modules-input.is)
