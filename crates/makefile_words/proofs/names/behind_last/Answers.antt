use Rattle.std.proofs.Common.{Option, ap, sym}
use Rattle.clap.specs.Words.{Text}
use Rattle.std.specs.Option.{option_map_or}
use Rattle.makefile_words.proofs.Splitting.{split-none, split-some}
use Rattle.makefile_words.proofs.names.behind_last.Goals as goal

pub returns-in-Some : goal.returns-in-Some
returns-in-Some c =
    sym (ap (λ (o : Option (Text × Text)). option_map_or (λ parts. parts.1) o c.args.name.now)
    (split-some c.args.parting c.args.name.now c.in-Some.field-0-0.now c.in-Some.behind.now
    c.in-Some.ensures.cases c.requires))

pub returns-in-None : goal.returns-in-None
returns-in-None c =
    sym (ap (λ (o : Option (Text × Text)). option_map_or (λ parts. parts.1) o c.args.name.now)
    (split-none c.args.parting c.args.name.now c.in-None.ensures.cases c.requires))
