use Rattle.std.proofs.Common.{◌≡◌, ℕ, List, Some, None, IfErr, IfOk, IfSome, OnOk, map, subst, sym, ap, ◌∙◌}
use Rattle.std.specs.List.{AllByRecursion}
use Rattle.omf_place.specs.declared.spans.SegmentSpan.{SegmentSpan}
use Rattle.omf_place.specs.declared.stands.Stand.{Stand}
use Rattle.omf_place.specs.inside.Steps.{later_fault}
use Rattle.omf_place.specs.Layout.{layout_at}
use Rattle.omf_place.specs.Parts.{sites}
use Rattle.omf_place.specs.Said.{said}
use Rattle.omf_place.specs.Tables.{combined_segment, leaders}
use Rattle.omf_place.specs.inside.Program.{HasStands, addresses_of}
use Rattle.omf_place.specs.inside.Sites.{sites_view}
use Rattle.omf_place.specs.inside.Spans.{IsLow, addresses_in}
use Rattle.omf_place.specs.inside.Stands.{StartsLow}
use Rattle.omf_place.proofs.LinkProgram.{given-address, given-placed, given-stands, spans-low, starts-low}
use Rattle.omf_place.proofs.placing.place_started.Goals as goal

pub collect_stands-requires-clause-low : goal.collect_stands-requires-clause-low
collect_stands-requires-clause-low g c =
    let ss = sites_view c.args.sites.now in
    let A = addresses_in c.args.started.now.spans.items in
    subst (λ (sp : List SegmentSpan). AllByRecursion IsLow sp) (sym c.deref.ensures.value)
    (spans-low ss A c.args.started.now.size c.requires.numbered c.requires.placed c.requires.sound c.requires.size
    c.args.started.now.spans.items c.requires.spans)

pub collect_stands-requires-clause-framed : goal.collect_stands-requires-clause-framed
collect_stands-requires-clause-framed g c =
    let ss = sites_view c.args.sites.now in
    let A = addresses_in c.args.started.now.spans.items in
    subst (λ (sp : List SegmentSpan). AllByRecursion (StartsLow ss (addresses_in sp)) ss) (sym c.deref.ensures.value)
    (starts-low ss A c.args.started.now.size c.requires.numbered c.requires.placed c.requires.sound c.requires.size)

pub combined_segments-requires-clause-low : goal.combined_segments-requires-clause-low
combined_segments-requires-clause-low g c =
    let ss = sites_view c.args.sites.now in
    let A = addresses_in c.args.started.now.spans.items in
    subst (λ (sp : List SegmentSpan). AllByRecursion IsLow sp) (sym c.deref-3.ensures.value)
    (spans-low ss A c.args.started.now.size c.requires.numbered c.requires.placed c.requires.sound c.requires.size
    c.args.started.now.spans.items c.requires.spans)

pub collect_inputs-requires-clause-stands : goal.collect_inputs-requires-clause-stands
collect_inputs-requires-clause-stands g c =
    let ss = sites_view c.args.sites.now in
    let A = addresses_in c.args.started.now.spans.items in
    given-stands c.args.modules.now ss c.requires.made A c.args.started.now.size c.requires.numbered c.requires.placed
    c.requires.sound c.requires.size
    c.deref.result.now (ap addresses_in c.deref.ensures.value) c.in_ok-stands.stands.items c.deref-4.result.now
    c.in_ok-stands.ensures c.deref-4.ensures.value

pub lay_out-requires-clause-placed : goal.lay_out-requires-clause-placed
lay_out-requires-clause-placed g c =
    let ss = sites_view c.args.sites.now in
    let A = addresses_in c.args.started.now.spans.items in
    let xs = c.in_ok-inputs.inputs.items in
    given-placed c.args.modules.now ss c.requires.made A c.args.started.now.size c.requires.numbered c.requires.placed
    c.requires.sound c.requires.size
    c.deref.result.now (ap addresses_in c.deref.ensures.value) c.in_ok-stands.stands.items c.deref-5.result.now
    c.in_ok-stands.ensures c.deref-5.ensures.value xs c.in_ok-inputs.ensures.made
    (subst (λ (ts : List Stand). AllByRecursion (HasStands ss (addresses_of ts)) xs)
    (c.deref-4.ensures.value ∙ sym c.deref-5.ensures.value) c.in_ok-inputs.ensures.stands) c.in_ok-inputs.ensures.sound

pub lay_out-requires-clause-combined : goal.lay_out-requires-clause-combined
lay_out-requires-clause-combined g c =
    let ss = sites_view c.args.sites.now in
    let A = addresses_in c.args.started.now.spans.items in
    let program = c.args.modules.now in
    c.in_ok-combined.ensures
    ∙ ap (λ (sp : List SegmentSpan). map (combined_segment ss (addresses_in sp)) (leaders ss)) c.deref-3.ensures.value
    ∙ ap (λ s. map (combined_segment s A) (leaders s)) c.requires.made
    ∙ ap (λ (B : List ℕ). map (combined_segment (sites program) B) (leaders (sites program))) (sym
    (given-address c.args.modules.now ss c.requires.made A c.args.started.now.size c.requires.numbered c.requires.placed
    c.requires.sound c.requires.size
    c.deref.result.now (ap addresses_in c.deref.ensures.value) c.in_ok-stands.stands.items c.deref-5.result.now
    c.in_ok-stands.ensures c.deref-5.ensures.value))

pub returns-clause-apart : goal.returns-clause-apart
returns-clause-apart g c =
    let ss = sites_view c.args.sites.now in
    let A = addresses_in c.args.started.now.spans.items in
    subst (λ (B : List ℕ). OnOk c.lay_out.result (later_fault c.args.names c.args.modules.now B ≡ None))
    (given-address c.args.modules.now ss c.requires.made A c.args.started.now.size c.requires.numbered c.requires.placed
    c.requires.sound c.requires.size
    c.deref.result.now (ap addresses_in c.deref.ensures.value) c.in_ok-stands.stands.items c.deref-5.result.now
    c.in_ok-stands.ensures c.deref-5.ensures.value) c.lay_out.ensures.apart

pub returns-clause-layout : goal.returns-clause-layout
returns-clause-layout g c =
    let ss = sites_view c.args.sites.now in
    let A = addresses_in c.args.started.now.spans.items in
    subst
    (λ (B : List ℕ).
    IfOk c.lay_out.result (λ l. l ≡ layout_at c.args.names c.args.modules.now B c.args.started.now.size))
    (given-address c.args.modules.now ss c.requires.made A c.args.started.now.size c.requires.numbered c.requires.placed
    c.requires.sound c.requires.size
    c.deref.result.now (ap addresses_in c.deref.ensures.value) c.in_ok-stands.stands.items c.deref-5.result.now
    c.in_ok-stands.ensures c.deref-5.ensures.value) c.lay_out.ensures.layout

pub returns-clause-fault : goal.returns-clause-fault
returns-clause-fault g c =
    let ss = sites_view c.args.sites.now in
    let A = addresses_in c.args.started.now.spans.items in
    subst
    (λ (B : List ℕ).
    IfErr c.lay_out.result (λ e. IfSome (said e) (λ f. later_fault c.args.names c.args.modules.now B ≡ Some f)))
    (given-address c.args.modules.now ss c.requires.made A c.args.started.now.size c.requires.numbered c.requires.placed
    c.requires.sound c.requires.size
    c.deref.result.now (ap addresses_in c.deref.ensures.value) c.in_ok-stands.stands.items c.deref-5.result.now
    c.in_ok-stands.ensures c.deref-5.ensures.value) c.lay_out.ensures.fault
