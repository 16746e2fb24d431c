use Rattle.std.proofs.Common.{map, length, refl, sym, ◌∙◌, arith}
use Rattle.omf_record.specs.View.{block_view}
use Rattle.omf_record.specs.Expansion.{expansion}
use Rattle.omf_module.specs.inside.Running.{step_record}
use Rattle.omf_module.proofs.builder.ModuleBuilder.add_blocks.Goals as goal

pub returns-in-Some : goal.returns-in-Some
unfolding step_record
returns-in-Some g c =
    let f =
    c.in-Some.ensures.exact (length (expansion (map block_view c.args.blocks.now))) c.expanded_len-count.ensures in
    rw (← f) refl

pub push_blocks-requires-clause-len : goal.push_blocks-requires-clause-len
push_blocks-requires-clause-len g c =
    omega (arith, c.data_fault.ensures.small c.in_default.is, c.expanded_len-count.ensures)

pub returns : goal.returns
unfolding step_record
returns g c =
    let f =
    c.data_fault.ensures.exact (length (expansion (map block_view c.args.blocks.now))) c.expanded_len-count.ensures in
    let none = sym f ∙ c.in_default.is in
    rw (none, c.in_ok-push_blocks.ensures, c.in_ok-contents.ensures, c.from_zero.ensures) refl
