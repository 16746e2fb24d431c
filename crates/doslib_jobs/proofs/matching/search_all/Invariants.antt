use Rattle.std.proofs.Common.{◌≡◌, take}
use Rattle.omf_files.specs.Files.{sink_bytes, sink_failures}
use Rattle.doslib_words.specs.Words.{texts}
use Rattle.doslib_jobs.specs.inside.Matching.{Added}
use Rattle.doslib_jobs.proofs.matching.search_all.Given as goal

abbrev pub invariant-loop-path : goal.invariant-loop-path
invariant-loop-path g l = record {
  working : sink_failures l.output ≡ 0;
  added : Added l.sought.wanted (g.W.World.bytes l.world) l.sought.image.now (texts (take l.path-index l.files))
      (sink_bytes g.O.Write.contents l.initial.output) (sink_bytes g.O.Write.contents l.output) l.matched;
}
