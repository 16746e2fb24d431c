-- What is left of a record's entries, and of a module's records, while their variables are told.
use Rattle.std.proofs.Common.{◌≡◌, ℕ, zero, suc, ◌+◌, ◌<◌, ◌≤◌, Bool, true, false, eqb, List, [], ◌∷◌, ◌++◌, length}
use Rattle.std.proofs.Common.{drop, get_or, map, Ok, Err, refl, sym, ap, ◌∙◌, arith, le_refl}
use Rattle.std.specs.declared.result.Result.{Result}
use Rattle.std.proofs.lemmas.Bool.{eqb-true}
use Rattle.std.proofs.lemmas.List.{at_drop_all, drop_more}
use Rattle.omf_frame.specs.Lending.{plain_frame}
use Rattle.omf_frame.specs.declared.frame.Frame.{Frame as LentFrame}
use Rattle.omf_library.specs.Members.{joined}
use Rattle.omf_library.specs.Records.{result_and_then}
use Rattle.omf_communal.specs.declared.fault.EntryFault.{EntryFault}
use Rattle.omf_communal.specs.declared.fault.CommunalFault.{CommunalFault}
use Rattle.omf_communal.specs.declared.fault.CommunalFault.TheVariants.{Malformed, Memory}
use Rattle.omf_communal.specs.declared.declarations.Communal as lent
use Rattle.omf_communal.specs.declared.declarations.Scope.{Scope}
use Rattle.omf_communal.specs.Entries.{Entry, entries, entries_up_to, entry_front}
use Rattle.omf_communal.specs.Reading.{Communal, IsFault, plain_communal, at_record, communal_at, communals_in}
use Rattle.omf_communal.specs.Reading.{communals_of, entries_at}
use Rattle.omf_communal.proofs.Joining.{behind_one, joined-append, joined-end, joined-err, joined-nil}

-- the variables that were told, and the entries that are left, make all behind those before
pub record EntriesLeft (place : ℕ) (body rest : List ℕ) (old now : List Communal) : Type 0 where
  pub most : ℕ
  pub enough : length rest ≤ most
  pub all : joined now (at_record place (entries_up_to most rest)) ≡ joined old (entries_at place body)

pub left_first : (place : ℕ) (body : List ℕ) (old : List Communal) → EntriesLeft place body body old old
unfolding entries
left_first place body old = record { most = length body; enough = le_refl _; all = refl }

none_left : (most : ℕ) → entries_up_to most [] ≡ Ok []
none_left zero = refl
none_left (suc most) = refl

-- no entry is left
pub left_none : (place : ℕ) (body rest : List ℕ) (old now : List Communal) → EntriesLeft place body rest old now
    → length rest ≡ 0 → joined old (entries_at place body) ≡ Ok now
left_none place body [] old now left e =
    joined-end now _ (ap (λ r. joined now (at_record place r)) (sym (none_left left.most)) ∙ left.all)
left_none place body (b ∷ rest) old now left e = absurd (omega arith)

at_record-joined : (place : ℕ) (e : Entry) (r : Result (List Entry) EntryFault)
    → at_record place (joined (e ∷ []) r) ≡ joined (communal_at place e ∷ []) (at_record place r)
at_record-joined place e (Ok es) = refl
at_record-joined place e (Err f) = refl

entries-more : (most : ℕ) (b : ℕ) (bs : List ℕ) (e : Entry) → entry_front (b ∷ bs) ≡ Ok e
    → entries_up_to (suc most) (b ∷ bs) ≡ joined (e ∷ []) (entries_up_to most e.rest)
entries-more most b bs e h = ap (result_and_then (λ (e : Entry). joined (e ∷ []) (entries_up_to most e.rest))) h

entries-fault : (most : ℕ) (b : ℕ) (bs : List ℕ) (f : EntryFault) → entry_front (b ∷ bs) ≡ Err f
    → entries_up_to (suc most) (b ∷ bs) ≡ Err f
entries-fault most b bs f h = ap (result_and_then (λ (e : Entry). joined (e ∷ []) (entries_up_to most e.rest))) h

left_next : (place : ℕ) (body rest : List ℕ) (old now : List Communal) (e : Entry) → entry_front rest ≡ Ok e →
    length e.rest < length rest →
    (most : ℕ) → length rest ≤ most →
    joined now (at_record place (entries_up_to most rest)) ≡ joined old (entries_at place body) →
    EntriesLeft place body e.rest old (now ++ communal_at place e ∷ [])
left_next place body [] old now e h shorter most enough all = absurd (omega arith)
left_next place body (b ∷ bs) old now e h shorter zero enough all = absurd (omega arith)
left_next place body (b ∷ bs) old now e h shorter (suc most) enough all = record {
  most = most;
  enough = omega arith;
  all =
      joined-append now (communal_at place e ∷ []) _
      ∙ ap (joined now)
      (sym (ap (at_record place) (entries-more most b bs e h) ∙ at_record-joined place e (entries_up_to most e.rest)))
      ∙ all;
}

-- one entry more
pub left_more : (place : ℕ) (body rest : List ℕ) (old now : List Communal) (e : Entry) →
    EntriesLeft place body rest old now → entry_front rest ≡ Ok e → length e.rest < length rest →
    EntriesLeft place body e.rest old (now ++ communal_at place e ∷ [])
left_more place body rest old now e left h shorter =
    left_next place body rest old now e h shorter left.most left.enough left.all

-- an entry at fault
fault_in : (place : ℕ) (body rest : List ℕ) (old now : List Communal) (f : EntryFault) → entry_front rest ≡ Err f →
    0 < length rest →
    (most : ℕ) → length rest ≤ most →
    joined now (at_record place (entries_up_to most rest)) ≡ joined old (entries_at place body) →
    entries_at place body ≡ Err (Malformed place f)
fault_in place body [] old now f h some most enough all = absurd (omega arith)
fault_in place body (b ∷ bs) old now f h some zero enough all = absurd (omega arith)
fault_in place body (b ∷ bs) old now f h some (suc most) enough all =
    joined-err old (entries_at place body) (Malformed place f)
    (sym all ∙ ap (λ r. joined now (at_record place r)) (entries-fault most b bs f h))

pub left_fault : (place : ℕ) (body rest : List ℕ) (old now : List Communal) (f : EntryFault) →
    EntriesLeft place body rest old now → entry_front rest ≡ Err f → 0 < length rest →
    entries_at place body ≡ Err (Malformed place f)
left_fault place body rest old now f left h some =
    fault_in place body rest old now f h some left.most left.enough left.all

-- ---- records

-- the records from a place of the list on
abbrev pub records_left : Scope → List LentFrame → ℕ → Result (List Communal) CommunalFault
records_left s frames i = communals_of s (map plain_frame (drop i frames))

records_next : (s : Scope) (frames : List LentFrame) (i : ℕ) (x : LentFrame) → i < length frames →
    x ≡ get_or frames i x →
    records_left s frames i
    ≡ result_and_then (λ cs. joined cs (records_left s frames (i + 1))) (communals_in s (plain_frame x))
records_next s frames i x h e =
    ap (λ (fs : List LentFrame). communals_of s (map plain_frame fs))
    (drop_more frames i x h ∙ ap (λ y. y ∷ drop (i + 1) frames) (sym e))

-- one record more
pub record_more : (s : Scope) (frames : List LentFrame) (i : ℕ) (x : LentFrame) (told more : List Communal)
    (all : Result (List Communal) CommunalFault) → i < length frames → x ≡ get_or frames i x →
    joined told (records_left s frames i) ≡ all → joined told (communals_in s (plain_frame x)) ≡ Ok more →
    joined more (records_left s frames (i + 1)) ≡ all
record_more s frames i x told more all h e was is =
    sym (ap (joined told) (records_next s frames i x h e)
    ∙ behind_one told (communals_in s (plain_frame x)) (records_left s frames (i + 1)) more is) ∙ was

-- a record at fault
pub record_fault : (s : Scope) (frames : List LentFrame) (i : ℕ) (x : LentFrame) (told : List Communal)
    (all : Result (List Communal) CommunalFault) (f : CommunalFault) → i < length frames → x ≡ get_or frames i x →
    joined told (records_left s frames i) ≡ all → communals_in s (plain_frame x) ≡ Err f → all ≡ Err f
record_fault s frames i x told all f h e was is =
    sym was
    ∙ ap (joined told)
    (records_next s frames i x h e ∙ ap (result_and_then (λ cs. joined cs (records_left s frames (i + 1)))) is)

-- before the first record
pub records_first : (s : Scope) (frames : List LentFrame) (told : List lent.Communal) → told ≡ []
    → joined (map plain_communal told) (records_left s frames 0) ≡ communals_of s (map plain_frame frames)
records_first s frames told e =
    ap (λ (cs : List lent.Communal). joined (map plain_communal cs) (records_left s frames 0)) e
    ∙ joined-nil (communals_of s (map plain_frame frames))

-- behind the last
pub records_end : (s : Scope) (frames : List LentFrame) (i : ℕ) (told : List Communal)
    (all : Result (List Communal) CommunalFault)
    → length frames ≤ i → joined told (records_left s frames i) ≡ all → all ≡ Ok told
records_end s frames i told all h was =
    joined-end told all
    (ap (joined told) (sym (at_drop_all (λ (fs : List LentFrame). communals_of s (map plain_frame fs)) frames i h))
    ∙ was)

-- a fault of a part is one of the whole
pub fault-through : {A B : Type 0} (e : CommunalFault) (r : Result A CommunalFault) (all : Result B CommunalFault)
    → IsFault e r → ((f : CommunalFault) → r ≡ Err f → all ≡ Err f) → IsFault e all
fault-through (Malformed place fault) r all h k = k (Malformed place fault) h
fault-through Memory r all h k = tt

-- what a test for no bytes tells
pub some_left : (xs : List ℕ) (b : Bool) → b ≡ eqb (length xs) 0 → b ≡ false → 0 < length xs
some_left [] b e t = absurd (let u : true ≡ false = sym e ∙ t in cc)
some_left (x ∷ xs) b e t = omega arith

pub none_there : (xs : List ℕ) (b : Bool) → b ≡ eqb (length xs) 0 → b ≡ true → length xs ≡ 0
none_there xs b e t = eqb-true _ _ (sym e ∙ t)
