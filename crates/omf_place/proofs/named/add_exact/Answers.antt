use Rattle.std.proofs.Common.{◌∙◌, ap}
use Rattle.std.specs.Str.{bytes_eq}
use Rattle.omf_place.specs.inside.HeldNames.{exact_table}
use Rattle.omf_place.specs.declared.names.Names.TheVariants.{Exact}
use Rattle.omf_place.proofs.NamedLookups.{vector_name, insert-absent, insert-fresh, insert-there}
use Rattle.omf_place.proofs.named.add_exact.Goals as goal

pub returns-clause-fresh : goal.returns-clause-fresh
returns-clause-fresh g c =
    λ t. ap exact_table c.in_ok-earlier.ensures.entries ∙ ap (λ es. record { names = Exact; entries = es })
    (insert-fresh vector_name bytes_eq c.in_ok-key.key c.args.name.now c.args.by_name.now.entries
    c.in_ok-earlier.earlier c.is_none.result
    c.in_ok-key.ensures.items c.in_ok-earlier.ensures.old c.is_none.ensures c.args.value t)

pub returns-clause-absent : goal.returns-clause-absent
returns-clause-absent g c =
    insert-absent vector_name bytes_eq c.in_ok-key.key c.args.name.now c.args.by_name.now.entries
    c.in_ok-earlier.earlier c.is_none.result
    c.in_ok-key.ensures.items c.in_ok-earlier.ensures.old c.is_none.ensures

pub returns-clause-there : goal.returns-clause-there
returns-clause-there g c =
    insert-there vector_name bytes_eq c.in_ok-key.key c.args.name.now c.args.by_name.now.entries c.in_ok-earlier.earlier
    c.is_none.result
    c.in_ok-key.ensures.items c.in_ok-earlier.ensures.old c.is_none.ensures
