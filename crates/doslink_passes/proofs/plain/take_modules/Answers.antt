use Rattle.std.proofs.Common.{map, ap, inl, inr, length, subst, sym, ◌∙◌}
use Rattle.std.proofs.lemmas.List.{length-map}
use Rattle.omf_alias.specs.Said.{aliases_said}
use Rattle.omf_search.specs.Results.{module_said}
use Rattle.doslink_stock.specs.Seen.{handed_held}
use Rattle.doslink_passes.specs.Comdats.{AreFatesFor}
use Rattle.doslink_passes.specs.Plain.{AreNotTaken, AreTakenFor}
use Rattle.doslink_passes.specs.Request.{given_of, names_of}
use Rattle.doslink_passes.proofs.Fates.{as-many-fates}
use Rattle.doslink_passes.proofs.Refused.{refused-exit, steps-weaker}
use Rattle.doslink_passes.proofs.Taking.{not-ending, not-plain, taken-for}
use Rattle.doslink_passes.proofs.plain.take_modules.Goals as goal

pub all_taken-requires : goal.all_taken-requires
all_taken-requires g c =
    let r = c.args.request.now in
    let fates = c.in_ok-fates.fates.items in
    ap length c.deref.ensures.value ∙ sym (length-map fates (λ v. v.items))
    ∙ as-many-fates (names_of r.job.now.ignore_case) (given_of r) (map (λ v. v.items) fates) c.in_ok-fates.ensures
    ∙ length-map r.handed.now (λ h. (handed_held h).bytes)

pub returns-in_err-check_aliases : goal.returns-in_err-check_aliases
returns-in_err-check_aliases g c =
    let m = c.args.meanings.now in
    let r = c.args.request.now in
    refused-exit _ c.from_residual.result _ c.from_residual.ensures.1
    (λ some. subst (λ says. AreNotTaken r.job.now says (given_of r)) c.requires.says_so
    (not-ending r.job.now (map module_said m.says.now) (given_of r) m.names (aliases_said m.aliases.aliases.items)
    c.requires.names c.requires.aliases some))
    c.in_err-check_aliases.ensures

pub returns-in_err-fates : goal.returns-in_err-fates
returns-in_err-fates g c =
    refused-exit _ c.from_residual-in_err-fates.result _ c.from_residual-in_err-fates.ensures.1
    (λ clash. inr (inl clash)) c.in_err-fates.ensures

pub returns : goal.returns
returns g c =
    let m = c.args.meanings.now in
    let r = c.args.request.now in
    let job = r.job.now in
    let says = map module_said m.says.now in
    let fare = subst (λ fs. AreFatesFor (names_of job.ignore_case) (given_of r) (map (λ v. v.items) fs))
    (sym c.deref.ensures.value) c.in_ok-fates.ensures in
    steps-weaker c.all_taken.result
    (λ t are. subst (λ s. AreTakenFor job s (given_of r) t.modules.items t.widths.items) c.requires.says_so
    (taken-for job says (given_of r) m.names (aliases_said m.aliases.aliases.items) _ _ t.modules.items t.widths.items
    c.requires.names c.requires.aliases (c.lent_bytes.ensures ∙ c.in_ok-start.ensures)
    c.in_ok-check_aliases.ensures fare are))
    (λ some. subst (λ s. AreNotTaken job s (given_of r)) c.requires.says_so
    (not-plain job says (given_of r) m.names (aliases_said m.aliases.aliases.items) _ c.requires.names
    c.requires.aliases fare some))
    c.all_taken.ensures
