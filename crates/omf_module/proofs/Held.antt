-- What a builder keeps, as the state that its steps go over; and one record more.
use Rattle.std.proofs.Common.{◌≡◌, ◌∷◌, ◌++◌, [], List, Result, Ok, Err, refl, sym, ap, ◌∙◌}
use Rattle.std.specs.Prelude.{OnOk}
use Rattle.omf_record.specs.Records.{Placed}
use Rattle.omf_record.proofs.Places.{all-append}
use Rattle.omf_module.specs.declared.builder.AddFault.{AddFault}
use Rattle.omf_module.specs.declared.builder.AddFault.TheVariants as adds
use Rattle.omf_module.specs.declared.builder.ModuleBuilder.{ModuleBuilder}
use Rattle.omf_module.specs.Building.{HasShortNames, FitsFields, Progress, is_begun, progress_of, progress, Holds, Adds}
use Rattle.omf_module.specs.inside.Building.{Gives, state}
use Rattle.omf_module.specs.inside.Checking.{begun}
use Rattle.omf_module.specs.inside.Running.{State, state_of, step}
use Rattle.omf_module.proofs.Whole.{ok_more, err_of}

begun_is : (rs : List Placed) → is_begun rs ≡ begun rs
begun_is [] = refl
begun_is (r ∷ rs) = refl

abbrev state_in : Progress → State
state_in k = record {
  begun = k.begun;
  tables =
      record {
        names = k.names;
        segments = k.said.segments;
        groups = k.said.groups;
        externals = k.said.externals;
      };
  publics = k.said.publics;
  frame_threads = k.frame_threads;
  target_threads = k.target_threads;
  data_records = k.said.data_records;
  contents = k.contents;
  start = k.said.start;
}

abbrev progress_in : State → Progress
progress_in s = record {
  begun = s.begun;
  names = s.tables.names;
  said =
      record {
        segments = s.tables.segments;
        groups = s.tables.groups;
        externals = s.tables.externals;
        publics = s.publics;
        data_records = s.data_records;
        start = s.start;
      };
  frame_threads = s.frame_threads;
  target_threads = s.target_threads;
  contents = s.contents;
}

module _ {A : Type 0} where
  pub state_is : (rs : List Placed) (b : ModuleBuilder A) → progress b ≡ progress_of rs → state b ≡ state_of rs
  state_is rs b e = ap state_in e ∙ ap (λ x. record (state_of rs) { begun = x }) (begun_is rs)

  pub kept_is : (rs : List Placed) (b : ModuleBuilder A) → state b ≡ state_of rs → progress b ≡ progress_of rs
  kept_is rs b e = ap progress_in e ∙ ap (λ x. record (progress_of rs) { begun = x }) (sym (begun_is rs))

  module _ (rs : List Placed) (r : Placed) (old new : ModuleBuilder A) (h : Holds rs old) where
    stepped : (x : Result State _) → step (state old) r.place r.says ≡ x → step (state_of rs) r.place r.says ≡ x
    stepped x e = ap (λ (s : State). step s r.place r.says) (sym (state_is rs old h.keeps)) ∙ e

    pub adds_one : {X : Type 0} (result : Result X AddFault) → HasShortNames r.says
        → OnOk result (FitsFields r.says) → Gives (λ _. state new) result (step (state old) r.place r.says)
        → Adds rs r new result
    adds_one (Ok done) names fits g =
        let p = ok_more rs r h.sound (state new) (stepped (Ok (state new)) g) in
        record {
          keeps = kept_is (rs ++ r ∷ []) new p.0;
          taken = all-append _ rs (r ∷ []) h.taken ((names, fits), tt);
          sound = p.1;
        }
    adds_one (Err adds.Memory) names fits g = tt
    adds_one (Err (adds.Check c)) names fits g = err_of rs r h.sound c (stepped (Err c) g)
