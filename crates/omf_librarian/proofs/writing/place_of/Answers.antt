use Rattle.std.proofs.Common.{arith}
use Rattle.omf_librarian.proofs.Paging.{end_most}
use Rattle.omf_librarian.proofs.writing.place_of.Goals as goal

pub overflow_mul-result : goal.overflow_mul-result
overflow_mul-result c = omega (arith, end_most c.args.size c.args.page c.requires.size c.requires.page)

pub returns-clause-most : goal.returns-clause-most
returns-clause-most c = end_most c.args.size c.args.page c.requires.size c.requires.page
