-- A whole sound module keeps its promises.
use Rattle.std.proofs.Common.{◌≡◌, ℕ, List, [], ◌∷◌, ◌++◌, None, sym, ap, subst, ◌∙◌, append_assoc}
use Rattle.std.proofs.lemmas.List.{append-nil}
use Rattle.std.specs.List.{AllByRecursion}
use Rattle.omf_record.specs.Body.{Body}
use Rattle.omf_record.specs.Records.{Placed}
use Rattle.omf_module.specs.Tables.{module_of}
use Rattle.omf_module.specs.Faults.{first_fault}
use Rattle.omf_module.specs.inside.Running.{state_of, checked}
use Rattle.omf_module.specs.Building.{HasShortNames, FitsFields}
use Rattle.omf_module.specs.Bytes.{ModuleBytes}
use Rattle.omf_module.specs.Sound.{IsSound}
use Rattle.omf_module.proofs.Whole.{step_whole, no_fault_at}
use Rattle.omf_module.proofs.Fitting.{sound_is}
use Rattle.omf_module.proofs.Takable.{names_of, fields_of}
use Rattle.omf_module.proofs.Promises.{Promises, step_keeps, none_promised}

-- records that a module may hold
abbrev pub AreFit : List Placed → Type 0
AreFit rs = AllByRecursion (λ (r : Placed). HasShortNames r.says × FitsFields r.says) rs

kept_from : (done todo : List Placed) → AreFit todo → first_fault (done ++ todo) ≡ None → Promises (state_of done)
    → Promises (state_of (done ++ todo))
kept_from done [] h e p = subst (λ rs. Promises (state_of rs)) (sym (append-nil done)) p
kept_from done (r ∷ todo) h e p =
    let stepped = step_whole done r ∙ ap (λ o. checked o (state_of (done ++ r ∷ []))) (no_fault_at done todo r e) in
    let next = step_keeps r.place (state_of done) (state_of (done ++ r ∷ [])) r.says h.0.0 h.0.1 stepped p in
    let same = append_assoc done (r ∷ []) todo in
    subst (λ rs. Promises (state_of rs)) same (kept_from (done ++ r ∷ []) todo h.1 (ap first_fault same ∙ e) next)

-- records that no check refuses
pub sound_records : (rs : List Placed) → AreFit rs → first_fault rs ≡ None → IsSound (module_of rs)
sound_records rs h e = sound_is (module_of rs) (kept_from [] rs h e none_promised).sound

fit_bodies : (rs : List Placed) → AllByRecursion (λ (r : Placed). Body r.says r.body) rs → AreFit rs
fit_bodies [] h = tt
fit_bodies (r ∷ rs) h = ((names_of r.says r.body h.0, fields_of r.says r.body h.0), fit_bodies rs h.1)

pub sound_module : (rs : List Placed) (bytes : List ℕ) → ModuleBytes rs bytes → IsSound (module_of rs)
sound_module rs bytes h = sound_records rs (fit_bodies rs h.records.1) h.sound
