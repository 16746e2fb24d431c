use Rattle.std.proofs.Common.{◌≡◌, ◌++◌}
use Rattle.doslink_files.specs.Files.{contents}
use Rattle.doslink_link.specs.Linking.{bytes_of}
use Rattle.doslink_jobs.proofs.gathering.keep_files.Given as goal

abbrev pub invariant-loop-file : goal.invariant-loop-file
invariant-loop-file g l = record {
  bytes : bytes_of l.gathered.bytes.items ≡ bytes_of l.initial.gathered.bytes.items ++ contents l.yielded;
  same : l.gathered.stock ≡ l.initial.gathered.stock;
}
