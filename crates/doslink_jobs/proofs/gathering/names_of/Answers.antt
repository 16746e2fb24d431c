use Rattle.std.proofs.Common.{map, ap, subst, sym}
use Rattle.std.proofs.lemmas.List.Elements.{All-nil}
use Rattle.doslink_stock.specs.Seen.{handed_held}
use Rattle.doslink_jobs.specs.Jobs.{IsNamedBy}
use Rattle.doslink_jobs.specs.inside.Gathering.{AreNamed}
use Rattle.doslink_jobs.proofs.Rounds.{Contains-seen}
use Rattle.doslink_jobs.proofs.gathering.names_of.Goals as goal

pub loop-each-init : goal.loop-each-init
loop-each-init g c =
    subst (AreNamed (map handed_held c.args.handed.now)) (sym c.new-libraries.ensures.items)
    (All-nil (λ l. IsNamedBy (map handed_held c.args.handed.now) l.name.now))

pub loop-each-preserved : goal.loop-each-preserved
loop-each-preserved g c =
    let handed = c.args.handed.now in
    c.in_ok-push_names.ensures (map handed_held handed)
    (Contains-seen handed_held handed c.loop-each.each-index c.each-item.result _ c.loop-each-test.true
    (ap handed_held c.each-item.is))
    c.loop-each.invariant
