-- The copies that a block expands to, and how many bytes those are.
use Rattle.std.specs.Prelude.{ℕ, ◌+◌, ◌*◌, List, length}
use Rattle.omf_record.specs.Record.{Block, Content, Nested, Blocks, End, More}
use Rattle.omf_record.specs.Expansion.{expansions_at}
use Rattle.omf_record.specs.inside.Fields.{stored_from}

-- how often a block repeats its content or its blocks
abbrev pub repeat_of : Block → ℕ
repeat_of (Content repeat bytes) = repeat
repeat_of (Nested repeat blocks) = repeat

-- one copy of what a block repeats, where the block is stored at a place
abbrev pub once_at : ℕ → Block → List (ℕ × ℕ)
once_at place (Content repeat bytes) = stored_from (place + 5) bytes
once_at place (Nested repeat blocks) = expansions_at (place + 4) blocks

abbrev mutual
  -- the bytes that a block expands to
  pub expanded_len : Block → ℕ
  expanded_len (Content repeat bytes) = repeat * length bytes
  expanded_len (Nested repeat blocks) = repeat * all_expanded_len blocks

  -- the bytes that blocks expand to
  pub all_expanded_len : Blocks → ℕ
  all_expanded_len End = 0
  all_expanded_len (More b bs) = expanded_len b + all_expanded_len bs
