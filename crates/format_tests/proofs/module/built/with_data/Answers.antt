use Rattle.std.proofs.Common.{[], arith}
use Rattle.omf_record.specs.Expansion.{data_len}
use Rattle.omf_record.specs.View.{view}
use Rattle.format_tests.proofs.module.built.with_data.Goals as goal

pub add-requires : goal.add-requires
unfolding view data_len
add-requires c = record { names = tt; short = omega arith }

pub add-requires-2 : goal.add-requires-2
unfolding view data_len
add-requires-2 c = record { names = tt; short = omega arith }

pub add-requires-3 : goal.add-requires-3
unfolding view data_len
add-requires-3 c = record { names = tt; short = omega arith }

pub finish-requires : goal.finish-requires
finish-requires c =
    (_, c.in_ok-add-3.ensures _ [] (c.in_ok-add-2.ensures _ [] (c.in_ok-add.ensures [] [] c.new-builder.ensures)))
