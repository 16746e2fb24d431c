use Rattle.std.proofs.Common.{◌≡◌, ◌<◌, ◌+◌, ◌∙◌, sym, ap, subst, subst₂, ◌++◌, ◌-◌, ◌&&◌, leb, length, arith, zero-le}
use Rattle.std.proofs.lemmas.List.{get_or_read}
use Rattle.byte_places.specs.Places.{stands}
use Rattle.byte_places.specs.Chains.{IsTable, IsNext}
use Rattle.byte_places.specs.inside.Found.{found_before}
use Rattle.byte_places.proofs.Agreeing.{stands-anchored}
use Rattle.byte_places.proofs.Following.{follow-first, follow-more, follow-all}
use Rattle.byte_places.proofs.Listing.{looked-few, first-many}
use Rattle.byte_places.proofs.index.Index.places_of_anchor.Goals as goal
use Rattle.byte_places.proofs.index.Index.places_of_anchor.Goals.{else-loop-at-test, then-loop-at-test+else-len-search}

pub loop-at-init : goal.loop-at-init
loop-at-init g c =
    let image = c.args.self.now in
    let anchor = c.args.anchor in
    let table : IsTable image c.self.inside.first.items c.self.inside.next.items c.self.inside.counts.items =
    subst (λ i. IsTable i c.self.inside.first.items c.self.inside.next.items c.self.inside.counts.items)
    c.self.view_is c.self.invariant in
    let small : anchor.word < length c.self.inside.first.items =
    omega (arith, c.requires.anchored.small, table.linked.first_len) in
    let next : IsNext image anchor.word 0 c.index-at.result.now =
    subst (λ n. IsNext image anchor.word 0 n)
    (sym (get_or_read c.self.inside.first.items anchor.word c.index-at.result.now small c.index-at.ensures 0))
    (table.linked.begins anchor.word c.requires.anchored.small) in
    let none = ap length c.new.ensures.items in
    record {
      found = c.new.ensures.items ∙ follow-first
          (stands c.args.search.pattern.now c.args.search.alignment image) image anchor.word anchor.at
          c.index-at.result.now (λ q t. stands-anchored c.args.search.pattern.now c.args.search.alignment image q
          anchor.at anchor.word c.requires.anchored t) next;
      few = omega (arith, none);
      within = next.within;
      here = next.here;
    }

pub loop-at-preserved : goal.loop-at-preserved
loop-at-preserved g c =
    let image = c.args.self.now in
    let anchor = c.args.anchor in
    let at = c.loop-at.at in
    let table : IsTable image c.self.inside.first.items c.self.inside.next.items c.self.inside.counts.items =
    subst (λ i. IsTable i c.self.inside.first.items c.self.inside.next.items c.self.inside.counts.items)
    c.self.view_is c.self.invariant in
    let within : at < length c.self.inside.next.items =
    omega (arith, c.loop-at-test.true, c.len.ensures, c.self.inside.next.ok) in
    let inside : at < length image - 1 = omega (arith, within, table.linked.next_len) in
    let next : IsNext image anchor.word (at + 1) c.index-at-in-loop-at.result.now =
    subst₂ (λ w n. IsNext image w (at + 1) n) (c.loop-at.invariant.here inside)
    (sym (get_or_read c.self.inside.next.items at c.index-at-in-loop-at.result.now within
    c.index-at-in-loop-at.ensures 0)) (table.linked.goes at zero-le inside) in
    let test = stands c.args.search.pattern.now c.args.search.alignment image in
    let added : c.push_before.new.self.found.items ≡ c.loop-at.walk.found.items ++ found_before test at anchor.at =
    subst (λ i. c.push_before.new.self.found.items
    ≡ c.loop-at.walk.found.items ++ found_before (stands c.args.search.pattern.now c.args.search.alignment i) at anchor.at)
    c.self.view_is c.in_ok-push_before.ensures in
    record {
      found = follow-more test image anchor.word anchor.at at c.index-at-in-loop-at.result.now c.loop-at.walk.found.items
          c.push_before.new.self.found.items
          (λ q t. stands-anchored c.args.search.pattern.now c.args.search.alignment image q
          anchor.at anchor.word c.requires.anchored t) next c.loop-at.invariant.found added;
      few = looked-few (leb anchor.at at && test (at - anchor.at)) (at - anchor.at) c.args.search.limit
          c.loop-at.walk.found.items c.push_before.new.self.found.items added
          (omega (arith, c.if-len-search.true, c.len-in-loop-at.ensures, c.loop-at.walk.found.ok));
      within = next.within;
      here = next.here;
    }

pub returns : goal.returns
returns g c =
    let image = c.args.self.now in
    let anchor = c.args.anchor in
    let loop = c.loop-at in
    let test = stands c.args.search.pattern.now c.args.search.alignment image in
    let table : IsTable image c.self.inside.first.items c.self.inside.next.items c.self.inside.counts.items =
    subst (λ i. IsTable i c.self.inside.first.items c.self.inside.next.items c.self.inside.counts.items)
    c.self.view_is c.self.invariant in
    elim c.loop-at-test.branch [
      | then-loop-at-test+else-len-search w ↦
          first-many test (loop.at - anchor.at) (length image) c.args.search.limit loop.walk.found.items
          loop.invariant.found loop.invariant.few
          (omega (arith, w.if-len-search.false, w.len-in-loop-at.ensures, loop.walk.found.ok))
          (omega (arith, loop.invariant.within))
      | else-loop-at-test w ↦
          follow-all test image anchor.word anchor.at loop.at c.args.search.limit loop.walk.found.items
          (λ q t. stands-anchored c.args.search.pattern.now c.args.search.alignment image q
          anchor.at anchor.word c.requires.anchored t)
          loop.invariant.found loop.invariant.few
          (omega (arith, w.loop-at-test.false, c.len.ensures, c.self.inside.next.ok, table.linked.next_len))
          loop.invariant.within
    ]
