use Rattle.std.proofs.Common.{◌∙◌, ℕ, List}
use Rattle.std.specs.Borrow.{Bor}
use Rattle.std.specs.Str.{bytes_eq}
use Rattle.omf_place.proofs.NamedLookups.{lookup-named}
use Rattle.omf_place.proofs.groups.Groups.get.Goals as goal

pub returns : goal.returns
returns g c =
    c.copied.ensures ∙ c.get.ensures.value
    ∙ lookup-named (λ (k : Bor (List ℕ)). k.now) (bytes_eq c.args.name.now) c.args.self.now.by_name.entries
    ∙ c.args.self.now.named c.args.name.now
