use Rattle.std.proofs.Common.{◌∙◌, ap, arith, filter, map, not, sym}
use Rattle.std.proofs.lemmas.List.{take_all}
use Rattle.std.specs.List.{list_any}
use Rattle.omf_search.specs.Results.{wanted_said}
use Rattle.doslink_telling.specs.Missing.{is_mark}
use Rattle.doslink_telling.proofs.Staying.{mark-parted, name-parted, none-parted}
use Rattle.doslink_telling.proofs.missing.unmet_names.Goals as goal

pub loop-each-init : goal.loop-each-init
loop-each-init g c = none-parted c.args.names c.new-others.result.items c.new-others.ensures.items

pub loop-each-preserved-then-is_mark : goal.loop-each-preserved-then-is_mark
loop-each-preserved-then-is_mark g c =
    mark-parted c.args.names _ c.loop-each.each-index _ c.loop-each.others.items _ c.loop-each-test.true
    (sym c.is_mark.ensures ∙ c.if-is_mark.true) c.loop-each.invariant

pub loop-each-preserved : goal.loop-each-preserved
loop-each-preserved g c =
    name-parted c.args.names _ c.loop-each.each-index _ c.loop-each.others.items c.push.new.self.items _
    c.loop-each-test.true
    (sym c.is_mark.ensures ∙ c.if-is_mark.false) c.in_ok-push.ensures.items c.loop-each.invariant

pub returns-clause-missing : goal.returns-clause-missing
returns-clause-missing g c =
    let items = c.deref-each-items.result.now in
    c.loop-each.invariant.stay
    ∙ ap (λ ws. filter (λ w. not (is_mark c.args.names w.name)) ws)
    (ap (map wanted_said) (take_all c.loop-each.each-index items (omega arith) ∙ c.deref-each-items.ensures.value)
    ∙ c.in_ok-wanted.ensures)

pub returns-clause-marks : goal.returns-clause-marks
returns-clause-marks g c =
    let items = c.deref-each-items.result.now in
    c.loop-each.invariant.wants
    ∙ ap (λ ws. list_any (λ w. is_mark c.args.names w.name) ws)
    (ap (map wanted_said) (take_all c.loop-each.each-index items (omega arith) ∙ c.deref-each-items.ensures.value)
    ∙ c.in_ok-wanted.ensures)
