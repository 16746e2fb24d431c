use Rattle.std.proofs.Common.{◌∙◌, ap}
use Rattle.std.specs.Str.{bytes_eq}
use Rattle.omf_place.specs.inside.HeldNames.{folded_table, key_name}
use Rattle.omf_place.specs.inside.Named.{folded}
use Rattle.omf_place.specs.declared.folded.FoldedName.TheVariants.{Held}
use Rattle.omf_place.specs.declared.names.Names.TheVariants.{AsciiFolded}
use Rattle.omf_place.proofs.NamedLookups.{insert-absent, insert-fresh, insert-there}
use Rattle.omf_place.proofs.named.add_folded.Goals as goal

pub returns-clause-fresh : goal.returns-clause-fresh
returns-clause-fresh g c =
    λ t. ap folded_table c.in_ok-earlier.ensures.entries ∙ ap (λ es. record { names = AsciiFolded; entries = es })
    (insert-fresh key_name (λ n m. bytes_eq (folded n) (folded m)) (Held c.in_ok-from_slice.field-0) c.args.name.now
    c.args.by_name.now.entries c.in_ok-earlier.earlier c.is_none.result
    c.in_ok-from_slice.ensures.items c.in_ok-earlier.ensures.old c.is_none.ensures c.args.value t)

pub returns-clause-absent : goal.returns-clause-absent
returns-clause-absent g c =
    insert-absent key_name (λ n m. bytes_eq (folded n) (folded m)) (Held c.in_ok-from_slice.field-0) c.args.name.now
    c.args.by_name.now.entries c.in_ok-earlier.earlier c.is_none.result
    c.in_ok-from_slice.ensures.items c.in_ok-earlier.ensures.old c.is_none.ensures

pub returns-clause-there : goal.returns-clause-there
returns-clause-there g c =
    insert-there key_name (λ n m. bytes_eq (folded n) (folded m)) (Held c.in_ok-from_slice.field-0) c.args.name.now
    c.args.by_name.now.entries c.in_ok-earlier.earlier c.is_none.result
    c.in_ok-from_slice.ensures.items c.in_ok-earlier.ensures.old c.is_none.ensures
