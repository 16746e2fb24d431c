use Rattle.std.proofs.Common.{◌<◌, ◌≤◌, length, take, get_or, max, ap, ◌∙◌, arith, refl, length-set}
use Rattle.std.proofs.lemmas.List.{take_all}
use Rattle.omf_place.specs.inside.Greatest.{greatest_at}
use Rattle.omf_place.proofs.GreatestAt.{greatest_at-more, any_default, All-at}
use Rattle.omf_place.proofs.greatest.greatest_by_first.Goals as goal

pub index-requires : goal.index-requires
index-requires g c =
    let fs = c.args.firsts.now in
    let within = All-at (λ f. f < length fs) fs c.loop-i.i 0 c.requires.within c.loop-i-test.true in
    omega (arith, within, c.loop-i.invariant.len)

pub index_mut-requires : goal.index_mut-requires
index_mut-requires g c =
    let fs = c.args.firsts.now in
    let within = All-at (λ f. f < length fs) fs c.loop-i.i 0 c.requires.within c.loop-i-test.true in
    omega (arith, within, c.loop-i.invariant.len)

pub bounds-values-i : goal.bounds-values-i
bounds-values-i g c = omega (arith, c.requires.same)

pub loop-i-preserved : goal.loop-i-preserved
loop-i-preserved g c =
    let fs = c.args.firsts.now in
    let vs = c.args.values.now in
    let i = c.loop-i.i in
    let out = c.loop-i.greatest.items in
    let inv = c.loop-i.invariant in
    let hi : i < length fs = c.loop-i-test.true in
    let within : get_or fs i 0 < length fs = All-at (λ f. f < length fs) fs i 0 c.requires.within hi in
    let inside : get_or fs i 0 < length out = omega (arith, inv.len) in
    record {
      len = length-set out (get_or fs i 0) c.max.result ∙ inv.len;
      each = λ k hk. greatest_at-more fs vs out i (get_or fs i 0) c.max.result k c.requires.same inv.len hi within refl
          (c.max.ensures
          ∙ ap (λ z. max z (get_or vs i 0))
          (c.index.ensures ∙ any_default out (get_or fs i 0) c.index.result.now 0 inside)) inv.each hk;
    }

pub returns-clause-each : goal.returns-clause-each
returns-clause-each g c k h =
    let fs = c.args.firsts.now in
    let vs = c.args.values.now in
    let all : length vs ≤ c.loop-i.i = omega (arith, c.requires.same, c.loop-i-test.false) in
    c.loop-i.invariant.each k h
    ∙ ap (λ xs. greatest_at xs (take c.loop-i.i vs) k) (take_all c.loop-i.i fs c.loop-i-test.false)
    ∙ ap (λ xs. greatest_at fs xs k) (take_all c.loop-i.i vs all)
