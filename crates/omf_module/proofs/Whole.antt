-- One step is one record further.
use Rattle.std.proofs.Common.{◌≡◌, ℕ, List, [], ◌∷◌, ◌++◌, Option, None, Some, Ok, Err, refl, sym, ap, ◌∙◌}
use Rattle.std.specs.Option.{option_map}
use Rattle.omf_record.specs.Record.{Record, Theadr, Coment, Modend, Extdef, Pubdef, Linnum, Lnames, Segdef, Grpdef}
use Rattle.omf_record.specs.Record.{Fixupp, Ledata, Lidata}
use Rattle.omf_record.specs.Records.{Placed}
use Rattle.omf_module.specs.declared.fault.CheckFault.{CheckFault}
use Rattle.omf_module.specs.Before.{along, first}
use Rattle.omf_module.specs.Faults.{header_fault, items, fault, first_fault}
use Rattle.omf_module.specs.inside.Checking.{begun, opening_fault}
use Rattle.omf_module.specs.inside.Running.{State, state_of, checked, step, step_record, ◌>>=◌}
use Rattle.omf_module.proofs.Lists.{along_push, along_from_append}
use Rattle.omf_module.proofs.Growing.{Steps, header_steps, comment_steps, lines_steps, names_steps, externals_steps}
use Rattle.omf_module.proofs.Growing.{publics_steps, segment_steps, group_steps, no_start_steps, start_steps}
use Rattle.omf_module.proofs.Growing.{data_steps, repeated_steps}
use Rattle.omf_module.proofs.Subrecords.{fixup_steps}

record_steps : (r : Record) → Steps r
record_steps (Theadr name) = header_steps name
record_steps (Coment t c bytes) = comment_steps t c bytes
record_steps (Modend main None) = no_start_steps main
record_steps (Modend main (Some r)) = start_steps main r
record_steps (Extdef local listed) = externals_steps local listed
record_steps (Pubdef local base listed) = publics_steps local base listed
record_steps (Linnum g s lines) = lines_steps g s lines
record_steps (Lnames listed) = names_steps listed
record_steps (Segdef d) = segment_steps d
record_steps (Grpdef name components) = group_steps name components
record_steps (Fixupp subs) = fixup_steps subs
record_steps (Ledata segment offset bytes) = data_steps segment offset bytes
record_steps (Lidata segment offset blocks) = repeated_steps segment offset blocks

by_header : (h : Option CheckFault) (place : ℕ) (s : State) (r : Record) (is : List (Option CheckFault)) (t : State)
    → step_record place s r ≡ checked (first is) t
    → (checked h s >>= λ u. step_record place u r) ≡ checked (first (h ∷ is)) t
by_header None place s r is t e = e
by_header (Some f) place s r is t e = refl

-- a header is wanted where no record has been read
opening_is : (rs : List Placed) (r : Record) → opening_fault (begun rs) r ≡ header_fault rs r
opening_is [] (Theadr name) = refl
opening_is [] (Coment t c bytes) = refl
opening_is [] (Modend main start) = refl
opening_is [] (Extdef local listed) = refl
opening_is [] (Pubdef local base listed) = refl
opening_is [] (Linnum g s lines) = refl
opening_is [] (Lnames listed) = refl
opening_is [] (Segdef d) = refl
opening_is [] (Grpdef name components) = refl
opening_is [] (Fixupp subs) = refl
opening_is [] (Ledata segment offset bytes) = refl
opening_is [] (Lidata segment offset blocks) = refl
opening_is (x ∷ rs) r = refl

pub step_whole : (rs : List Placed) (r : Placed)
    → step (state_of rs) r.place r.says ≡ checked (fault rs r.says) (state_of (rs ++ r ∷ []))
unfolding step
step_whole rs r =
    rw (opening_is rs r.says)
    (by_header (header_fault rs r.says) r.place _ r.says (items rs r.says) _
    (record_steps r.says r.place r.body rs))

first_append_none : {A : Type 0} (xs ys : List (Option A)) → first xs ≡ None → first (xs ++ ys) ≡ first ys
first_append_none [] ys e = refl
first_append_none (None ∷ xs) ys e = first_append_none xs ys e
first_append_none ((Some x) ∷ xs) ys e = cc

abbrev place_fault : List Placed → Placed → List (Option (ℕ × CheckFault))
place_fault before r = option_map (λ f. (r.place, f)) (fault before r.says) ∷ []

pub by_fault : (f : Option CheckFault) (s t : State) → checked f s ≡ Ok t → (f ≡ None) × (s ≡ t)
by_fault None s t e = (refl, cc)
by_fault (Some f) s t e = cc

by_err : (f : Option CheckFault) (s : State) (g : CheckFault) → checked f s ≡ Err g → f ≡ Some g
by_err None s g e = cc
by_err (Some f) s g e = cc

-- no fault so far, and one record more
module _ (rs : List Placed) (r : Placed) (sound : first_fault rs ≡ None) where
  pub ok_more : (t : State) → step (state_of rs) r.place r.says ≡ Ok t
      → (t ≡ state_of (rs ++ r ∷ [])) × (first_fault (rs ++ r ∷ []) ≡ None)
  ok_more t e =
      let p = by_fault (fault rs r.says) (state_of (rs ++ r ∷ [])) t (sym (step_whole rs r) ∙ e) in
      (sym p.1, rw (along_push, p.0) (first_append_none (along [] place_fault rs) (None ∷ []) sound))

  pub err_of : (f : CheckFault) → step (state_of rs) r.place r.says ≡ Err f → fault rs r.says ≡ Some f
  err_of f e = by_err (fault rs r.says) (state_of (rs ++ r ∷ [])) f (sym (step_whole rs r) ∙ e)

-- no fault of all is none of one
none_of : {A : Type 0} (xs ys : List (Option A)) (o : Option A) → first (xs ++ o ∷ ys) ≡ None → o ≡ None
none_of [] ys None e = refl
none_of [] ys (Some x) e = cc
none_of (None ∷ xs) ys o e = none_of xs ys o e
none_of ((Some x) ∷ xs) ys o e = cc

none_mapped : (g : CheckFault → ℕ × CheckFault) (o : Option CheckFault) → option_map g o ≡ None → o ≡ None
none_mapped g None e = refl
none_mapped g (Some f) e = cc

pub no_fault_at : (done todo : List Placed) (r : Placed) → first_fault (done ++ r ∷ todo) ≡ None
    → fault done r.says ≡ None
no_fault_at done todo r e =
    none_mapped (λ f. (r.place, f)) (fault done r.says)
    (none_of (along [] place_fault done) (along (done ++ r ∷ []) place_fault todo) _
    (sym (ap first (along_from_append place_fault [] done (r ∷ todo))) ∙ e))
