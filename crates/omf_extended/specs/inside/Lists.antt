-- Aliases, lines of symbols and patches, by their parts.
use Rattle.std.proofs.Common.{Bool, ◌++◌, refl}
use Rattle.omf_codec.specs.Language.{little, width_of}
use Rattle.omf_codec.specs.inside.Canonical as canon
use Rattle.omf_codec.specs.inside.Format.{Format, Lawful, IsFilled, IsMade, free}
use Rattle.omf_codec.specs.inside.FormatLaws.{both, both_lawful, both_filled, made_lawful, made_filled, exact}
use Rattle.omf_codec.specs.inside.Numbers.{number}
use Rattle.omf_codec.specs.inside.PrimitiveLaws.{name, name_lawful, name_filled, word}
use Rattle.omf_extended.specs.Body.{StandingText, LineAt, PatchAt}
use Rattle.omf_extended.specs.Said as says
use Rattle.omf_extended.specs.View.{plain_alias}
use Rattle.omf_extended.specs.declared.aliases.Alias.{Alias}
use Rattle.omf_extended.specs.declared.patches.Patch.{Patch}
use Rattle.omf_extended.specs.declared.symbols.SymbolLine.{SymbolLine}

-- a name, and the one that it stands for
abbrev pub standing : Format Alias says.Standing
standing = free plain_alias StandingText (λ s. canon.name s.name ++ canon.name s.substitute)

pub standing_made : IsMade (both name name) standing
standing_made = exact (both name name) standing (λ x. record { name = x.0; substitute = x.1 })
    (λ s. (s.name, s.substitute)) (λ y. refl) (λ x text l. l) (λ y text l. l) (λ y. refl) (λ r. tt)

pub standing_lawful : Lawful standing
standing_lawful = made_lawful (both name name) standing standing_made
    (both_lawful name name_lawful (λ r. tt) name name_lawful) (λ r. tt)

pub standing_filled : IsFilled standing
standing_filled = made_filled (both name name) standing standing_made (both_filled name name name_filled)

module _ (wide : Bool) where
  -- a line number, and an offset
  abbrev pub line : Format SymbolLine SymbolLine
  line = free (λ x. x) (LineAt (width_of wide)) (λ l. canon.word l.number ++ little (width_of wide) l.offset)

  pub line_made : IsMade (both word (number wide)) line
  line_made = exact (both word (number wide)) line (λ x. record { number = x.0; offset = x.1 })
      (λ l. (l.number, l.offset)) (λ y. refl) (λ x text l. l) (λ y text l. l) (λ y. refl) (λ r. tt)

  -- an offset, and a value
  abbrev pub patch : Format Patch Patch
  patch = free (λ x. x) (PatchAt (width_of wide))
      (λ p. little (width_of wide) p.offset ++ little (width_of wide) p.value)

  pub patch_made : IsMade (both (number wide) (number wide)) patch
  patch_made = exact (both (number wide) (number wide)) patch (λ x. record { offset = x.0; value = x.1 })
      (λ p. (p.offset, p.value)) (λ y. refl) (λ x text l. l) (λ y text l. l) (λ y. refl) (λ r. tt)
