use Rattle.std.proofs.Common.{rules}
use Rattle.omf_image.proofs.reference.Resolved.patches.Goals as goal

pub returns-in-false-LowByte-clause-patches : goal.returns-in-false-LowByte-clause-patches
returns-in-false-LowByte-clause-patches c = search rules

pub returns-in-false-LowByte-clause-first : goal.returns-in-false-LowByte-clause-first
returns-in-false-LowByte-clause-first c = search rules

pub returns-in-false-Pointer-clause-patches : goal.returns-in-false-Pointer-clause-patches
returns-in-false-Pointer-clause-patches c = search rules

pub returns-in-true-default : goal.returns-in-true-default
returns-in-true-default c = search rules
