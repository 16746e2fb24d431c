-- What the reader answers, after each outcome of one more record.
use Rattle.std.proofs.Common.{◌≡◌, ℕ, ◌+◌, ◌<◌, true, false, List, [], ◌∷◌, ◌++◌, length, None, Some, Ok, Err, Result}
use Rattle.std.proofs.Common.{refl, sym, ap, subst, ◌∙◌, arith, length-append, inl, inr}
use Rattle.std.proofs.lemmas.Option.{IfSome_then}
use Rattle.std.specs.declared.option.Option.{Option}
use Rattle.std.specs.Prelude.{IfSome}
use Rattle.std.specs.Io.KnownBytes.{Consumes}
use Rattle.omf_frame.specs.Frame.{Frame, Framed, frame_at, place_limit}
use Rattle.omf_frame.specs.Reading.{TakesWhole, IsAt, Gives}
use Rattle.omf_frame.specs.Reading as framing_of
use Rattle.omf_frame.specs.Lending.{plain_frame}
use Rattle.omf_frame.proofs.Told.{Keeps-refl}
use Rattle.omf_frame.specs.declared.frame.Frame as lent
use Rattle.omf_frame.specs.declared.reading.FrameFault.{FrameFault}
use Rattle.omf_frame.specs.declared.reading.FrameFault.TheVariants as frame
use Rattle.omf_frame.specs.declared.reading.FramingFault.{FramingFault}
use Rattle.omf_frame.specs.declared.reading.FramingFault.TheVariants as framing
use Rattle.omf_record.specs.Record.{Record}
use Rattle.omf_record.specs.Body.{kind_of}
use Rattle.omf_record.specs.Records.{Placed, NoRecordAt}
use Rattle.omf_record.specs.declared.fault.NoRecord.{NoRecord}
use Rattle.omf_record.specs.declared.fault.NoRecord.TheVariants as absent
use Rattle.omf_record.proofs.Records.{framed_len}
use Rattle.omf_module.specs.declared.fault.FaultKind.{FaultKind}
use Rattle.omf_module.specs.declared.fault.FaultKind.TheVariants as kind
use Rattle.omf_module.specs.declared.fault.ModuleFault.{ModuleFault}
use Rattle.omf_module.specs.declared.fault.ModuleFault.TheVariants as fault
use Rattle.omf_module.specs.Module.{Module}
use Rattle.omf_module.specs.inside.Running.{State, state_of, step, module_in}
use Rattle.omf_module.specs.inside.Behind.{StopsAt}
use Rattle.omf_module.specs.Reading.{Reads, TakesFaulty}
use Rattle.omf_module.specs.inside.Behind.{Took}
use Rattle.omf_module.specs.inside.Reading.{TakesRecord, IsRecordFault}
use Rattle.omf_module.specs.inside.ModuleFaults.{read_fault}
use Rattle.omf_module.specs.Sound.{IsSound}
use Rattle.omf_module.proofs.Whole.{ok_more, err_of}
use Rattle.omf_module.proofs.Promised.{sound_module}
use Rattle.omf_module.proofs.Taking.{begun, one_more, whole, all_taken, refused, stops}

abbrev reads : Option (List ℕ) → Option (List ℕ) → Result Module ModuleFault → Type 0
reads = Reads (λ m. m)

always : (a : Option (List ℕ)) → IfSome a (λ bytes. Unit {0})
always None = tt
always (Some x) = tt

pub no_memory : (a : Option (List ℕ)) → reads a a (Err fault.Memory)
unfolding Reads
no_memory a = ([], [], a, (begun a).beginning, (begun a).taken, inl (Keeps-refl a))

-- what is taken where there is no frame
faulty_taken : (b c : Option (List ℕ)) (place : ℕ) (why : FramingFault)
    → framing_of.TakesRecord {A = Option lent.Frame} b c (Err (frame.Framing place why))
    → TakesFaulty b c (kind.Absent (absent.Framing why))
faulty_taken b c place framing.ZeroLength stands = stands
faulty_taken b c place framing.Truncated stands = stands
faulty_taken b c place framing.Closing stands = stands
faulty_taken b c place framing.InputTooLong stands = stands

-- behind a sound beginning
module _ (rs : List Placed) (front : List ℕ) (a b c : Option (List ℕ)) (t : Took rs front a b) where
  -- no record begins
  none_begins : (place : ℕ) (why : NoRecord) → place ≡ length front → TakesFaulty b c (kind.Absent why)
      → IfSome b (λ rest. NoRecordAt place rest why) → reads a c (Err (fault.Record place (kind.Absent why)))
  unfolding Reads
  none_begins place why at stands none = (
    rs,
    front,
    b,
    t.beginning,
    t.taken,
    at,
    stands,
    stops rs front a b place (kind.Absent why) t at
        (IfSome_then b {Q = (λ rest. StopsAt place rest (kind.Absent why))} none (λ x e. (why, e, refl))),
  )

  pub no_end : (place : ℕ) → place ≡ length front → IfSome b (λ bytes. frame_at place bytes ≡ Ok None) → TakesWhole b c
      → reads a c (Err (fault.Record place (kind.Absent absent.NoEnd)))
  no_end place at none stands = none_begins place absent.NoEnd at stands none

  pub frame_stopped : (place : ℕ) (e : FrameFault) → place ≡ length front → IsAt {A = Option lent.Frame} place (Err e)
      → IfSome b (λ bytes. Gives plain_frame (Err e) (frame_at place bytes))
      → framing_of.TakesRecord {A = Option lent.Frame} b c (Err e)
      → reads a c (Err (read_fault e))
  unfolding Reads
  frame_stopped place (frame.Device p) at h exact stands =
      (rs, front, b, t.beginning, t.taken, h.0 ∙ at, stands, always a)
  frame_stopped place (frame.Framing p why) at h exact stands =
      none_begins p (absent.Framing why) (h.0 ∙ at) (faulty_taken b c p why stands)
      (IfSome_then b {Q = (λ rest. NoRecordAt p rest (absent.Framing why))} exact
      (λ x e. ap (λ n. frame_at n x) h.0 ∙ e))
  frame_stopped place frame.Memory at h exact stands = absurd h
  frame_stopped place frame.Failed at h exact stands = absurd h

  -- a frame, whose record is taken
  module _ (f : Frame) (bytes : List ℕ) (at : f.place ≡ length front) (below : f.place < place_limit)
      (framed : Framed f.kind f.body bytes) (taken : Consumes b c bytes)
      (exact : IfSome b (λ rest. frame_at f.place rest ≡ Ok (Some f))) (stands : TakesWhole b c)
      (s : State) (kept : s ≡ state_of rs) where
    abbrev here : Record → Placed
    here r = record { place = f.place; body = f.body; says = r }

    stepped : (r : Record) (x : Result State _) → step s f.place r ≡ x → step (state_of rs) f.place r ≡ x
    stepped r x e = ap (λ (u : State). step u f.place r) (sym kept) ∙ e

    same_kind : (r : Record) → kind_of r ≡ f.kind → Framed (kind_of r) f.body bytes
    same_kind r e = subst (λ k. Framed k f.body bytes) (sym e) framed

    kind_refuses : (k : FaultKind) → IsRecordFault f.kind f.body f.place s k → reads a c (Err (fault.Record f.place k))
    unfolding Reads
    kind_refuses (kind.Absent absent.Type) h =
        none_begins f.place absent.Type at stands
        (IfSome_then b {Q = (λ rest. NoRecordAt f.place rest absent.Type)} exact (λ x e. (f, e, h)))
    kind_refuses (kind.Absent (absent.Body i)) h =
        none_begins f.place (absent.Body i) at stands
        (IfSome_then b {Q = (λ rest. NoRecordAt f.place rest (absent.Body i))} exact (λ x e. (f, e, h.0, h.1)))
    kind_refuses (kind.Check g) h =
        let r = here h.0 in
        let first = err_of rs r t.beginning.sound g (stepped h.0 (Err g) h.2) in (
          rs,
          front,
          b,
          t.beginning,
          t.taken,
          at,
          stands,
          refused rs front a b c r bytes t at below (same_kind h.0 h.1.0)
              h.1.1 taken g first,
        )
    kind_refuses kind.Device h = absurd h
    kind_refuses (kind.Absent absent.NoEnd) h = absurd h
    kind_refuses (kind.Absent (absent.Framing why)) h = absurd h

    no_more : reads a c (Err fault.Memory)
    unfolding Reads
    no_more = (rs, front, b, t.beginning, t.taken, inr stands)

    pub refuses : (u : State) (e : ModuleFault) → TakesRecord f.kind f.body f.place s u (Err e) → reads a c (Err e)
    refuses u fault.Memory h = no_more
    refuses u (fault.Record p k) h = subst (λ n. reads a c (Err (fault.Record n k))) (sym h.0) (kind_refuses k h.1)

    pub ends : (u : State) (m : Module) → TakesRecord f.kind f.body f.place s u (Ok true) → m ≡ module_in u
        → reads a c (Ok m)
    unfolding Reads
    ends u m h e =
        let r = here h.0 in
        let says = same_kind h.0 h.1.0 in
        let p = ok_more rs r t.beginning.sound u (stepped h.0 (Ok u) h.3) in (
          rs ++ r ∷ [],
          front ++ bytes,
          whole rs front a b c r bytes t at below says h.1.1 taken h.2 p.1,
          all_taken rs front a b c r bytes t at below says h.1.1 taken,
          e ∙ ap module_in p.0,
        )

    pub ends_sound : (u : State) → TakesRecord f.kind f.body f.place s u (Ok true) → IsSound (module_in u)
    ends_sound u h =
        let r = here h.0 in
        let says = same_kind h.0 h.1.0 in
        let p = ok_more rs r t.beginning.sound u (stepped h.0 (Ok u) h.3) in
        subst (λ (v : State). IsSound (module_in v)) (sym p.0)
        (sound_module (rs ++ r ∷ []) (front ++ bytes)
        (whole rs front a b c r bytes t at below says h.1.1 taken h.2 p.1))

    pub goes_on : (u : State) → TakesRecord f.kind f.body f.place s u (Ok false)
        → (rs' : List Placed) × (front' : List ℕ) × Took rs' front' a c × (f.place + length f.body + 4 ≡ length front')
        × (u ≡ state_of rs')
    goes_on u h =
        let r = here h.0 in
        let says = same_kind h.0 h.1.0 in
        let p = ok_more rs r t.beginning.sound u (stepped h.0 (Ok u) h.3) in (
          rs ++ r ∷ [],
          front ++ bytes,
          one_more rs front a b c r bytes t at below says h.1.1 taken h.2 p.1,
          omega (arith, at, length-append front bytes, framed_len f.kind f.body bytes framed),
          p.0,
        )
