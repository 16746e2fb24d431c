-- A command's sink fails at most once.
use Rattle.std.proofs.Common.{◌≤◌, Result, Ok, Err, arith}
use Rattle.omf_faults.specs.declared.fault.LinkFault.{LinkFault}
use Rattle.omf_faults.specs.declared.fault.LinkFault.TheVariants.{Memory, Output, Device, Record, Program, File}
use Rattle.omf_commands.specs.Reading.{sink_failures}

pub at_most_one : {T A : Type 0} (r : Result T (LinkFault A)) → sink_failures r ≤ 1
at_most_one (Ok done) = omega arith
at_most_one (Err Memory) = omega arith
at_most_one (Err Output) = omega arith
at_most_one (Err (Record input place fault)) = omega arith
at_most_one (Err (Device input place)) = omega arith
at_most_one (Err (Program fault)) = omega arith
at_most_one (Err (File fault)) = omega arith
