use Rattle.std.proofs.Common.{◌≡◌}
use Rattle.std.specs.List.{list_all}
use Rattle.doslink_words.specs.Directives.{is_name}
use Rattle.doslink_words.specs.Tokens.{texts}
use Rattle.doslink_words.proofs.NamingLemmas.{all_from}
use Rattle.doslink_words.proofs.naming.are_names.Given as goal

abbrev pub invariant-loop-name : goal.invariant-loop-name
invariant-loop-name l = all_from l.names l.name-index ≡ list_all is_name (texts l.names)
