use Rattle.std.proofs.Common.{◌++◌, ◌∷◌, [], arith, map, subst, sym, take}
use Rattle.omf_place.specs.declared.names.Names.{Names}
use Rattle.omf_search.specs.Searching.{HasPlaces}
use Rattle.omf_search.specs.Taken.{IsTaken}
use Rattle.omf_search.specs.Results.{module_said, wanted_said}
use Rattle.omf_search.proofs.GoingBack.{first-module, places-more}
use Rattle.omf_search.proofs.Joining.{wanted-longer}
use Rattle.omf_search.proofs.Results.{OnOk-map}
use Rattle.omf_search.proofs.searching.Search.add_module.Goals as goal

pub returns : goal.returns
returns g c =
    let m = module_said c.args.says in
    let old = c.args.self.now in
    OnOk-map c.place_each.result _ _
    (λ placed. λ names ms bs len was.
    let longer = wanted-longer names ms m in
    let taken : IsTaken names (ms ++ m ∷ []) c.add.new.self =
    subst (λ (n : Names). IsTaken n (ms ++ m ∷ []) c.add.new.self) was.by
    (c.in_ok-add.ensures ms len (subst (λ (n : Names). IsTaken n ms old.taken) (sym was.by) was.taken)) in
    record {
      by = was.by;
      taken = taken;
      places =
          places-more names ms m old.taken.meeting.wanted.items c.add.new.self.meeting.wanted.items
          c.as_slice-wanted.result.now c.len-first.result old.places c.place_each.new.places was.taken.met.wanted
          taken.met.wanted c.as_slice-wanted.ensures.value
          (omega (arith, c.len-first.ensures, old.taken.meeting.wanted.ok.0))
          (subst
          (λ (n : Names).
          HasPlaces n (map wanted_said (take c.len-first.result c.as_slice-wanted.result.now)) old.places
          → HasPlaces n (map wanted_said c.as_slice-wanted.result.now) c.place_each.new.places) was.by placed)
          was.places;
      offered = was.offered;
      within = omega (arith, longer, was.within);
      again = first-module names bs ms m old.next old.back was.within was.again;
      behind = was.behind;
    }) c.place_each.ensures
