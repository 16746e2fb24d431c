use Rattle.std.proofs.Common.{◌≡◌, map, take, All}
use Rattle.omf_files.specs.declared.files.Stage.TheVariants.{Waiting}
use Rattle.omf_files.proofs.files.open_sources.Given as goal

abbrev pub invariant-loop-path : goal.invariant-loop-path
invariant-loop-path g l = record {
  paths : map (λ s. s.path) l.sources.items ≡ take l.path-index l.fn.paths;
  waiting : All (λ s. (s.world ≡ l.fn.world) × (s.stage ≡ Waiting)) l.sources.items;
  failures : All (λ s. s.failures ≡ 0) l.sources.items;
}
