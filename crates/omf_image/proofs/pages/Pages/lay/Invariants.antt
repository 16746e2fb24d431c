use Rattle.std.proofs.Common.{◌-◌, ◌≤◌, length}
use Rattle.omf_image.specs.inside.Pages.{IsLaid, MakesPages}
use Rattle.omf_image.proofs.Laying.{front}
use Rattle.omf_image.proofs.pages.Pages.lay.Given as goal

abbrev pub invariant-loop-laid : goal.invariant-loop-laid
invariant-loop-laid g l = record {
  within : l.laid ≤ length l.bytes;
  bytes : IsLaid (front l.start l.bytes l.laid) l.initial.self.bytes l.self.bytes;
  made : MakesPages (front l.start l.bytes l.laid) l.initial.self.made l.self.made;
}

abbrev pub decreases-loop-laid : goal.decreases-loop-laid
decreases-loop-laid g l = length l.bytes - l.laid
