-- Subrecords one after the other, as a loop takes them.
use Rattle.std.proofs.Common.{◌≡◌, ℕ, ◌+◌, ◌<◌, ◌≤◌, List, length, get_or, drop, Result, Ok, sym, ap, ◌∙◌}
use Rattle.std.proofs.lemmas.List.{drop_more, drop_all}
use Rattle.omf_record.specs.declared.fixups.Subrecord.{Subrecord}
use Rattle.omf_module.specs.declared.fault.CheckFault.{CheckFault}
use Rattle.omf_module.specs.declared.builder.AddFault.{AddFault}
use Rattle.omf_module.specs.declared.builder.AddFault.TheVariants as adds
use Rattle.omf_module.specs.inside.Running.{State, step_subrecord, step_subrecords, ◌>>=◌}
use Rattle.omf_module.specs.inside.Building.{Refuses}

module _ (place : ℕ) (s : State) (xs : List Subrecord) (i : ℕ) (d : Subrecord) (total : Result State CheckFault)
    (lt : i < length xs) (so_far : step_subrecords place s (drop i xs) ≡ total) where
  here : (step_subrecord place s (get_or xs i d) >>= λ t. step_subrecords place t (drop (i + 1) xs)) ≡ total
  unfolding step_subrecords
  here = ap (step_subrecords place s) (sym (drop_more xs i d lt)) ∙ so_far

  pub goes_on : (t : State) → step_subrecord place s (get_or xs i d) ≡ Ok t
      → step_subrecords place t (drop (i + 1) xs) ≡ total
  goes_on t e = ap (λ r. r >>= λ t. step_subrecords place t (drop (i + 1) xs)) (sym e) ∙ here

  pub ends : (e : AddFault) → Refuses e (step_subrecord place s (get_or xs i d)) → Refuses e total
  ends adds.Memory h = tt
  ends (adds.Check f) h = sym here ∙ ap (λ r. r >>= λ t. step_subrecords place t (drop (i + 1) xs)) h

pub is_done : (place : ℕ) (s : State) (xs : List Subrecord) (i : ℕ) (total : Result State CheckFault) → length xs ≤ i
    → step_subrecords place s (drop i xs) ≡ total → total ≡ Ok s
unfolding step_subrecords
is_done place s xs i total le so_far = sym so_far ∙ ap (step_subrecords place s) (drop_all i xs le)
