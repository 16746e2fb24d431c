use Rattle.std.proofs.Common.{◌++◌, codes}
use Rattle.std.specs.List.{flat_map}
use Rattle.omf_library.specs.Names.{communal_names, library_names, offered_names, wanted_names}
use Rattle.omf_library.specs.Records.{module_records}
use Rattle.doslib_text.specs.Listing.{name_line}
use Rattle.doslib_text.proofs.Texts.{then-ok}
use Rattle.doslib_text.proofs.listing.push_module_names.Goals as goal

pub returns : goal.returns
returns g c =
    let records = module_records c.args.bytes.now 0 in
    let r = c.push_names-4.result in
    let s0 = c.args.lines.now.items in
    let s1 = c.push_names.new.lines.items in
    let s2 = c.push_names-2.new.lines.items in
    let s3 = c.push_names-3.new.lines.items in
    let s4 = c.push_names-4.new.lines.items in
    let offers = flat_map (name_line (codes "offers")) (offered_names records) in
    let communals = flat_map (name_line (codes "communal")) (communal_names records) in
    let wants = flat_map (name_line (codes "wants")) (wanted_names records) in
    let libraries = flat_map (name_line (codes "library")) (library_names records) in
    let said = c.in_ok-said.ensures in
    then-ok r s0 s1 s4 offers (communals ++ (wants ++ libraries))
    (rw (c.deref.ensures.value, said.offered) at c.in_ok-push_names.ensures)
    (then-ok r s1 s2 s4 communals (wants ++ libraries)
    (rw (c.deref-2.ensures.value, said.communals) at c.in_ok-push_names-2.ensures)
    (then-ok r s2 s3 s4 wants libraries (rw (c.deref-3.ensures.value, said.wanted) at c.in_ok-push_names-3.ensures)
    (rw (c.deref-4.ensures.value, said.libraries) at c.push_names-4.ensures)))
