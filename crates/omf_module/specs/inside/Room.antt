-- Where indexes that count on still fit 16 bits.
use Rattle.std.specs.Prelude.{ℕ, ◌+◌, ◌≤◌}
use Rattle.omf_record.specs.declared.externals.PublicBase.{PublicBase}
use Rattle.omf_record.specs.declared.externals.PublicBase.TheVariants.{AtFrame, InSegment}

-- what a public counts from, behind so many segments and groups
abbrev pub HasRoom : (segments groups : ℕ) → PublicBase → Type 0
HasRoom segments groups (AtFrame group frame) = groups + group ≤ 65535
HasRoom segments groups (InSegment group segment) = (groups + group ≤ 65535) × (segments + segment ≤ 65535)
