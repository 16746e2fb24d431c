use Rattle.std.proofs.Common.{◌∙◌, ◌++◌, ap, sym}
use Rattle.std.proofs.lemmas.Grind.{flat_map-append}
use Rattle.std.specs.List.{flat_map}
use Rattle.std.specs.Option.{option_map, option_to_list}
use Rattle.omf_names.specs.Records.{alias_record, end_record, external_record, header_record, names_module}
use Rattle.omf_names.specs.Views.{aliases_said, names_said}
use Rattle.omf_names.proofs.Walking.{all-parts}
use Rattle.omf_names.proofs.records.names_module.Goals as goal

pub returns : goal.returns
unfolding names_module
returns g c =
    let start = option_map (λ s. s.now) c.args.start in
    let names = names_said c.args.wanted.now in
    let aliases = aliases_said c.args.aliases.now in
    all-parts c.new-out.result.items c.put_header.new.out.items c.put_start.new.out.items c.put_externals.new.out.items
    c.put_aliases.new.out.items c.put_end.new.out.items header_record
    (flat_map external_record (option_to_list start)) (flat_map external_record names) (flat_map alias_record aliases)
    (end_record start) c.new-out.ensures.items c.in_ok-put_header.ensures c.in_ok-put_start.ensures
    c.in_ok-put_externals.ensures c.in_ok-put_aliases.ensures c.in_ok-put_end.ensures
    ∙ ap (λ l. header_record ++ (l ++ (flat_map alias_record aliases ++ end_record start)))
    (sym (flat_map-append external_record (option_to_list start) names))
