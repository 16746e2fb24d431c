use Rattle.std.proofs.Common.{[], arith}
use Rattle.omf_record.specs.Expansion.{data_len}
use Rattle.omf_record.specs.View.{view}
use Rattle.format_tests.proofs.module.built.with_no_header.Goals as goal

pub add-requires : goal.add-requires
unfolding view data_len
add-requires c = record { names = tt; short = omega arith }

pub finish-requires : goal.finish-requires
finish-requires c = (_, c.in_ok-add.ensures [] [] c.new-builder.ensures)
