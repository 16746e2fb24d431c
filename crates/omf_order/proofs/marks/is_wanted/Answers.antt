use Rattle.std.proofs.Common.{◌∙◌, ◌||◌, ap, refl, sym, arith}
use Rattle.omf_order.specs.Marks.{is_external, is_public}
use Rattle.omf_order.proofs.Lists.{any_turn, refuted, unrefuted}
use Rattle.omf_order.proofs.marks.is_wanted.Goals as goal

pub returns-then-is_public : goal.returns-then-is_public
returns-then-is_public g c =
    sym (refuted (is_external c.args.names c.args.name.now) (is_public c.args.names c.args.name.now) c.args.modules.now
    c.loop-each.each-index c.each-item.result c.loop-each-test.true c.each-item.is
    (sym c.is_public.ensures ∙ c.if-is_public.true))

pub loop-each-preserved : goal.loop-each-preserved
loop-each-preserved g c =
    let P = is_public c.args.names c.args.name.now in
    let E = is_external c.args.names c.args.name.now in
    let ms = c.args.modules.now in
    let i = c.loop-each.each-index in
    let each = c.each-item.result in
    record {
      publics =
          any_turn P ms i each c.loop-each-test.true c.each-item.is
          ∙ ap (λ b. b || P each) c.loop-each.invariant.publics
          ∙ sym c.is_public.ensures ∙ c.if-is_public.false;
      externals =
          ap (λ b. c.loop-each.wanted || b) c.is_external-wanted.ensures
          ∙ ap (λ b. b || E each) c.loop-each.invariant.externals
          ∙ sym (any_turn E ms i each c.loop-each-test.true c.each-item.is);
    }

pub returns : goal.returns
returns g c =
    c.loop-each.invariant.externals
    ∙ unrefuted (is_external c.args.names c.args.name.now) (is_public c.args.names c.args.name.now) c.args.modules.now
    c.loop-each.each-index (omega arith) c.loop-each.invariant.publics

pub loop-each-init : goal.loop-each-init
loop-each-init g c = record { publics = refl; externals = refl }
