-- What a text of the code is parted into.
use Rattle.std.specs.Prelude.{Option}
use Rattle.std.specs.Option.{option_map}
use Rattle.std.specs.Borrow.{Bor}
use Rattle.clap.specs.Words.{Text}

-- what stands before a mark and behind it, by its texts
abbrev pub split_of : Option (Bor Text × Bor Text) → Option (Text × Text)
split_of = option_map (λ p. (p.0.now, p.1.now))
