use Rattle.std.proofs.Common.{◌∙◌, sym, ap, cond, ℕ, List, Some}
use Rattle.std.specs.Borrow.{Bor}
use Rattle.std.specs.Str.{bytes_eq}
use Rattle.omf_place.specs.declared.groups.GroupEntry.{GroupEntry}
use Rattle.omf_place.specs.inside.Groups.{entry_with, grpdef_view}
use Rattle.omf_place.specs.inside.Named.{named_slices, value_of}
use Rattle.omf_place.proofs.NamedLookups.{lookup-named}
use Rattle.omf_place.proofs.groups.add_grpdef.Goals as goal

pub returns : goal.returns
returns g c = λ q.
    let name = c.args.grpdef.now.name.now in
    let old = c.args.by_name.now.entries in
    let there =
    c.copied.ensures ∙ c.get.ensures.value ∙ lookup-named (λ (k : Bor (List ℕ)). k.now) (bytes_eq name) old in
    sym (lookup-named (λ (k : Bor (List ℕ)). k.now) (bytes_eq q) c.insert.new.self.entries)
    ∙ c.in_ok-insert.ensures.updates.0 (record { ref_ptr = (0, 0); now = q })
    ∙ ap (λ o. cond (bytes_eq name q) (Some c.with_grpdef-entry.result) o)
    (lookup-named (λ (k : Bor (List ℕ)). k.now) (bytes_eq q) old)
    ∙ ap (λ (e : GroupEntry). cond (bytes_eq name q) (Some e) (value_of (named_slices old) q))
    (c.with_grpdef-entry.ensures ∙ ap (λ o. entry_with o (grpdef_view c.args.grpdef.now)) there)
