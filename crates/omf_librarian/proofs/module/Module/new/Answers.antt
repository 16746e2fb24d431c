use Rattle.std.proofs.Common.{◌≡◌, ◌++◌, ℕ, List, true, false, Ok, sym, ap, ◌∙◌}
use Rattle.std.specs.List.{list_any}
use Rattle.omf_library.specs.Names.{texts}
use Rattle.omf_library.specs.Records.{result_and_then}
use Rattle.omf_librarian.specs.Modules.{checked, is_long, names_of}
use Rattle.omf_librarian.specs.inside.Answers.{own_names}
use Rattle.omf_librarian.proofs.Members.{checked_long, checked_short, named_so}
use Rattle.omf_librarian.proofs.module.Module.new.Goals as goal

pub returns-then-has_long_name : goal.returns-then-has_long_name
returns-then-has_long_name g c =
    let m = c.in_ok-bytes.bytes.now in
    let own = own_names c.in_ok-own.own.items in
    let offered = texts c.in_ok-says.says.offered.items in
    ap (result_and_then (checked c.args.member)) (sym c.in_ok-bytes.ensures)
    ∙ checked_long c.args.member m (own ++ offered)
    (named_so m own offered c.in_ok-own.ensures c.in_ok-says.ensures.offered)
    (ap (λ l. list_any is_long (own_names l ++ offered)) (sym c.deref.ensures.value)
    ∙ ap (λ l. list_any is_long (own_names c.deref.result.now ++ texts l)) (sym c.deref-2.ensures.value)
    ∙ sym c.has_long_name.ensures ∙ c.if-has_long_name.true)

pub invariant_of-result : goal.invariant_of-result
invariant_of-result g c =
    let m = c.in_ok-bytes.bytes.now in
    let own = own_names c.in_ok-own.own.items in
    let offered = texts c.in_ok-says.says.offered.items in
    let named = named_so m own offered c.in_ok-own.ensures c.in_ok-says.ensures.offered in
    record {
      named = named;
      short =
          ap (list_any is_long) (sym named)
          ∙ ap (λ l. list_any is_long (own_names l ++ offered)) (sym c.deref.ensures.value)
          ∙ ap (λ l. list_any is_long (own_names c.deref.result.now ++ texts l)) (sym c.deref-2.ensures.value)
          ∙ sym c.has_long_name.ensures ∙ c.if-has_long_name.false;
    }

pub returns : goal.returns
returns g c =
    let m = c.in_ok-bytes.bytes.now in
    let own = own_names c.in_ok-own.own.items in
    let offered = texts c.in_ok-says.says.offered.items in
    ap (result_and_then (checked c.args.member)) (sym c.in_ok-bytes.ensures)
    ∙ checked_short c.args.member m (own ++ offered)
    (named_so m own offered c.in_ok-own.ensures c.in_ok-says.ensures.offered)
    (ap (λ l. list_any is_long (own_names l ++ offered)) (sym c.deref.ensures.value)
    ∙ ap (λ l. list_any is_long (own_names c.deref.result.now ++ texts l)) (sym c.deref-2.ensures.value)
    ∙ sym c.has_long_name.ensures ∙ c.if-has_long_name.false)
