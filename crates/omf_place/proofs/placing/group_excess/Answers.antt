use Rattle.std.proofs.Common.{◌≡◌, ℕ, List, IfOk, ap, find, nat_lt, subst, sym, ◌∙◌}
use Rattle.std.specs.List.{AllByRecursion}
use Rattle.omf_place.specs.Excess.{group_excesses}
use Rattle.omf_place.specs.declared.spans.SegmentSpan.{SegmentSpan}
use Rattle.omf_place.specs.declared.stands.Stand.{Stand}
use Rattle.omf_place.specs.inside.Program.{HasStands, addresses_of}
use Rattle.omf_place.specs.inside.Sites.{sites_view}
use Rattle.omf_place.specs.inside.Spans.{IsLow, addresses_in}
use Rattle.omf_place.specs.inside.Stands.{StartsLow}
use Rattle.omf_place.proofs.LinkProgram.{given-address, given-placed, given-stands, spans-low, starts-low}
use Rattle.omf_place.proofs.placing.group_excess.Goals as goal

pub collect_stands-requires-clause-low : goal.collect_stands-requires-clause-low
collect_stands-requires-clause-low g c =
    let ss = sites_view c.args.sites.now in
    let A = addresses_in c.args.started.now.spans.items in
    subst (λ (sp : List SegmentSpan). AllByRecursion IsLow sp) (sym c.deref.ensures.value)
    (spans-low ss A c.args.started.now.size c.requires.numbered c.requires.placed c.requires.sound c.requires.size
    c.args.started.now.spans.items c.requires.spans)

pub collect_stands-requires-clause-framed : goal.collect_stands-requires-clause-framed
collect_stands-requires-clause-framed g c =
    let ss = sites_view c.args.sites.now in
    let A = addresses_in c.args.started.now.spans.items in
    subst (λ (sp : List SegmentSpan). AllByRecursion (StartsLow ss (addresses_in sp)) ss) (sym c.deref.ensures.value)
    (starts-low ss A c.args.started.now.size c.requires.numbered c.requires.placed c.requires.sound c.requires.size)

pub collect_inputs-requires-clause-stands : goal.collect_inputs-requires-clause-stands
collect_inputs-requires-clause-stands g c =
    let ss = sites_view c.args.sites.now in
    let A = addresses_in c.args.started.now.spans.items in
    given-stands c.args.modules.now ss c.requires.made A c.args.started.now.size c.requires.numbered c.requires.placed
    c.requires.sound c.requires.size
    c.deref.result.now (ap addresses_in c.deref.ensures.value) c.in_ok-stands.stands.items c.deref-2.result.now
    c.in_ok-stands.ensures c.deref-2.ensures.value

pub program_excess-requires : goal.program_excess-requires
program_excess-requires g c =
    let ss = sites_view c.args.sites.now in
    let A = addresses_in c.args.started.now.spans.items in
    let xs = c.in_ok-inputs.inputs.items in
    given-placed c.args.modules.now ss c.requires.made A c.args.started.now.size c.requires.numbered c.requires.placed
    c.requires.sound c.requires.size
    c.deref.result.now (ap addresses_in c.deref.ensures.value) c.in_ok-stands.stands.items c.deref-3.result.now
    c.in_ok-stands.ensures c.deref-3.ensures.value xs c.in_ok-inputs.ensures.made
    (subst (λ (ts : List Stand). AllByRecursion (HasStands ss (addresses_of ts)) xs)
    (c.deref-2.ensures.value ∙ sym c.deref-3.ensures.value) c.in_ok-inputs.ensures.stands) c.in_ok-inputs.ensures.sound

pub returns : goal.returns
returns g c =
    let ss = sites_view c.args.sites.now in
    let A = addresses_in c.args.started.now.spans.items in
    subst
    (λ (B : List ℕ).
    IfOk c.program_excess.result (λ bytes. bytes ≡ find (nat_lt 0) (group_excesses c.args.modules.now B)))
    (given-address c.args.modules.now ss c.requires.made A c.args.started.now.size c.requires.numbered c.requires.placed
    c.requires.sound c.requires.size
    c.deref.result.now (ap addresses_in c.deref.ensures.value) c.in_ok-stands.stands.items c.deref-3.result.now
    c.in_ok-stands.ensures c.deref-3.ensures.value) c.program_excess.ensures
