use Rattle.std.proofs.Common.{◌≡◌, ℕ, map, length, arith}
use Rattle.std.proofs.lemmas.List.{length-map}
use Rattle.omf_record.specs.Expansion.{expansion, capped}
use Rattle.omf_record.specs.View.{block_view}
use Rattle.omf_text.specs.Details.{details, expanded}
use Rattle.omf_text.proofs.details.put_repeated.Goals as goal

expanded_capped : (n : ℕ) → expanded (capped n) ≡ expanded n
expanded_capped n = grind arith

pub returns : goal.returns
unfolding details
returns g c =
    let len = length (expansion (map block_view c.args.blocks.now)) in
    rw (length-map c.args.blocks.now block_view)
    (rw (c.as_slice.ensures, c.expanded_len.ensures, expanded_capped len) at c.put_each.ensures)
