use Rattle.std.proofs.Common.{◌≡◌, ℕ, arith}
use Rattle.omf_librarian.specs.inside.Views.{hash_view}
use Rattle.omf_librarian.proofs.Filling.{empty_found, empty_init, empty_none, empty_step}
use Rattle.omf_librarian.proofs.block.empty_bucket.Goals as goal

pub loop-init : goal.loop-init
loop-init c = empty_init c.args.block.now (hash_view c.args.hash) c.requires.first
