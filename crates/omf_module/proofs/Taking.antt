-- Records that are taken one after the other from a source.
use Rattle.std.proofs.Common.{◌≡◌, ℕ, ◌<◌, true, false, List, [], ◌∷◌, ◌++◌, length, None, Some, refl, sym, subst}
use Rattle.std.proofs.Common.{arith, append_assoc, inl, inr}
use Rattle.std.specs.declared.option.Option.{Option}
use Rattle.std.specs.Prelude.{IfSome}
use Rattle.std.specs.Io.KnownBytes.{Consumes}
use Rattle.std.proofs.lemmas.List.{append-nil}
use Rattle.omf_frame.specs.Frame.{Framed, place_limit}
use Rattle.omf_frame.proofs.Told.{Consumes-nil, Consumes-trans}
use Rattle.omf_record.specs.Body.{kind_of, Body}
use Rattle.omf_record.specs.Records.{Placed, is_end, AreRecords}
use Rattle.omf_record.proofs.Records.{AreRecords-push, AreBeforeEnd-push, AreToEnd-push}
use Rattle.omf_module.specs.declared.fault.CheckFault.{CheckFault}
use Rattle.omf_module.specs.declared.fault.FaultKind.{FaultKind}
use Rattle.omf_module.specs.declared.fault.FaultKind.TheVariants as kind
use Rattle.omf_module.specs.Faults.{fault, first_fault}
use Rattle.omf_module.specs.Bytes.{ModuleBytes, ReadingFault}
use Rattle.omf_module.specs.inside.Behind.{StopsAt}
use Rattle.omf_module.specs.inside.Behind.{Took}

pub begun : (a : Option (List ℕ)) → Took [] [] a a
begun a = record { beginning = record { records = (refl, tt); open' = tt; sound = refl }; taken = Consumes-nil a }

-- bytes that are told, and a front of them
told : (P : List ℕ → Type 0) (a b : Option (List ℕ)) (front : List ℕ) → Consumes a b front
    → ((rest : List ℕ) → P (front ++ rest)) → IfSome a P
told P None b front t f = tt
told P (Some xs) None front t f = absurd t
told P (Some xs) (Some ys) front t f = subst P (sym t) (f ys)

-- a record as it was taken behind a sound beginning
module _ (rs : List Placed) (front : List ℕ) (a b c : Option (List ℕ)) (r : Placed) (bytes : List ℕ)
    (t : Took rs front a b) (at : r.place ≡ length front) (below : r.place < place_limit)
    (framed : Framed (kind_of r.says) r.body bytes)
    (body : Body r.says r.body) (taken : Consumes b c bytes) where
  joined : AreRecords 0 (rs ++ r ∷ []) (front ++ bytes)
  joined = AreRecords-push 0 rs front r bytes t.beginning.records (omega (arith, at)) below framed body

  pub all_taken : Consumes a c (front ++ bytes)
  all_taken = Consumes-trans a b c front bytes t.taken taken

  pub one_more : is_end r.says ≡ false → first_fault (rs ++ r ∷ []) ≡ None → Took (rs ++ r ∷ []) (front ++ bytes) a c
  one_more e f = record {
    beginning = record { records = joined; open' = AreBeforeEnd-push rs r t.beginning.open' e; sound = f };
    taken = all_taken;
  }

  pub whole : is_end r.says ≡ true → first_fault (rs ++ r ∷ []) ≡ None → ModuleBytes (rs ++ r ∷ []) (front ++ bytes)
  whole e f = record { records = joined; ended = AreToEnd-push rs r t.beginning.open' e; sound = f }

  pub refused : (f : CheckFault) → fault rs r.says ≡ Some f
      → IfSome a (λ bytes. ReadingFault bytes r.place (kind.Check f))
  refused f e =
      let here : AreRecords r.place (r ∷ []) bytes =
      ((bytes, [], sym (append-nil bytes), refl, below, framed, refl), (body, tt)) in
      told (λ bytes. ReadingFault bytes r.place (kind.Check f)) a c (front ++ bytes) all_taken (λ rest. (
        rs,
        front,
        bytes ++ rest,
        append_assoc front bytes rest,
        t.beginning,
        at,
        inl (r, bytes, rest, refl, here, f, refl, e),
      ))

both_told : (P Q : List ℕ → Type 0) (a b : Option (List ℕ)) (front : List ℕ) → Consumes a b front → IfSome b Q
    → ((rest : List ℕ) → Q rest → P (front ++ rest)) → IfSome a P
both_told P Q None b front t q f = tt
both_told P Q (Some xs) None front t q f = absurd t
both_told P Q (Some xs) (Some ys) front t q f = subst P (sym t) (f ys q)

pub stops : (rs : List Placed) (front : List ℕ) (a b : Option (List ℕ)) (place : ℕ) (f : FaultKind) → Took rs front a b
    → place ≡ length front → IfSome b (λ rest. StopsAt place rest f) → IfSome a (λ bytes. ReadingFault bytes place f)
stops rs front a b place f t at n =
    both_told (λ bytes. ReadingFault bytes place f) (λ rest. StopsAt place rest f) a b front t.taken n
    (λ rest q. (rs, front, rest, refl, t.beginning, at, inr q))
