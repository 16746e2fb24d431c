use Rattle.std.proofs.Common.{◌≡◌, Bool, ◌||◌, true, false, ap, refl, subst, sym, ◌∙◌}
use Rattle.std.specs.List.{list_any}
use Rattle.omf_place.specs.Names.{agrees}
use Rattle.omf_search.specs.Taken.{IsMet}
use Rattle.omf_search.specs.Results.{module_said}
use Rattle.omf_search.specs.Wanted.{Met, add_module, met}
use Rattle.omf_search.proofs.Joining.{met-push}
use Rattle.omf_search.proofs.Results.{OnOk-map}
use Rattle.omf_search.proofs.TakenSteps.{is_defined-push}
use Rattle.omf_search.proofs.taken.Taken.add.Goals as goal

or-assoc : (a b c : Bool) → ((a || b) || c) ≡ (a || (b || c))
or-assoc true b c = refl
or-assoc false b c = refl

pub returns : goal.returns
returns g c =
    let m = module_said c.args.says in
    let names = c.args.names in
    OnOk-map c.define_each-2.result _ _
    (λ defined. λ ms len was. record {
      met =
          subst (λ (s : Met). IsMet names s c.add.new.self)
          (ap (λ n. add_module names (met names ms) (n, m)) (sym len) ∙ sym (met-push names ms m))
          (c.in_ok-add.ensures (met names ms) was.met);
      defined =
          λ q.
          defined q
          ∙ ap (λ b. b || list_any (agrees names q.now) m.communals)
          (c.in_ok-define_each.ensures q ∙ ap (λ b. b || list_any (agrees names q.now) m.offered) (was.defined q))
          ∙ or-assoc _ (list_any (agrees names q.now) m.offered) (list_any (agrees names q.now) m.communals)
          ∙ sym (is_defined-push names ms m q.now);
    }) c.define_each-2.ensures
