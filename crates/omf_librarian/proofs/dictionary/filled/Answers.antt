use Rattle.std.proofs.Common.{◌≡◌, ℕ, ◌+◌, ◌-◌, ◌*◌, List, length, map, take, drop, sym, ap, ◌∙◌, refl, arith}
use Rattle.std.specs.List.{repeat}
use Rattle.omf_librarian.specs.Entering.{all_entered, empty_block, filled}
use Rattle.omf_librarian.specs.inside.Views.{entry_view}
use Rattle.omf_librarian.proofs.Lists.{repeat_size}
use Rattle.omf_librarian.proofs.dictionary.filled.Goals as goal

pub loop-entry-init : goal.loop-entry-init
unfolding filled
loop-entry-init g c = record {
  size = ap length c.in_ok-dictionary.ensures ∙ repeat_size c.args.blocks;
  same = ap (λ d. all_entered c.args.blocks d (map entry_view c.args.entries.now)) c.in_ok-dictionary.ensures;
}
