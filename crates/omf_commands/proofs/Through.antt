-- Going through records one after the other.
use Rattle.std.proofs.Common.{◌≡◌, ℕ, ◌+◌, ◌<◌, ◌≤◌, List, [], ◌∷◌, ◌++◌, length, None, Some, IfSome, Result, Ok, Err}
use Rattle.std.proofs.Common.{refl, sym, ap, subst, ◌∙◌, append-nil, arith, length-append, inl, inr}
use Rattle.std.proofs.lemmas.List.Concat.{flat_map-append}
use Rattle.std.proofs.lemmas.Option.{IfSome_then}
use Rattle.std.specs.declared.option.Option.{Option}
use Rattle.std.specs.List.{flat_map}
use Rattle.std.specs.Io.KnownBytes.{Consumes, Appends, Keeps}
use Rattle.omf_frame.specs.Device.{AppendsFront}
use Rattle.omf_frame.specs.Frame.{Frame, place_limit, Framed, frame_at, frame}
use Rattle.omf_frame.specs.Reading.{Gives, IsAt, TakesRecord, TakesWhole}
use Rattle.omf_frame.specs.Lending.{plain_frame}
use Rattle.omf_frame.specs.declared.frame.Frame.{Frame as LentFrame}
use Rattle.omf_frame.specs.declared.reading.FrameFault.{FrameFault}
use Rattle.omf_frame.specs.declared.reading.FrameFault.TheVariants as frame_fault
use Rattle.omf_frame.specs.declared.reading.FramingFault.{FramingFault}
use Rattle.omf_frame.specs.declared.reading.FramingFault.TheVariants as framing
use Rattle.omf_frame.proofs.Frames.{framed-frame}
use Rattle.omf_frame.proofs.Told.{Consumes-nil, Consumes-trans, Appends-nil, Appends-trans, Appends-kept}
use Rattle.omf_frame.proofs.Told.{AppendsFront-then}
use Rattle.omf_record.specs.Record as says
use Rattle.omf_record.specs.Body.{kind_of, Body, BodyOf}
use Rattle.omf_record.specs.Canonical.{canonical}
use Rattle.omf_record.specs.Records.{Placed, AreRecords, AreBeforeEnd, AreToEnd, NoRecordAt}
use Rattle.omf_record.specs.declared.fault.NoRecord.TheVariants as absent
use Rattle.omf_record.proofs.RecordLaws.{body_bytes}
use Rattle.omf_record.proofs.RecordLaws.{canonical_shortest}
use Rattle.omf_record.proofs.Records.{AreRecords-push, framed_len, placed, only_way, no_fault}
use Rattle.omf_faults.specs.declared.fault.InputFault.{InputFault}
use Rattle.omf_faults.specs.declared.fault.InputFault.TheVariants as fault
use Rattle.omf_faults.specs.declared.fault.LinkFault.{LinkFault}
use Rattle.omf_faults.specs.declared.fault.LinkFault.TheVariants as link
use Rattle.omf_commands.specs.declared.records.Form.TheVariants.{Rewriting}
use Rattle.omf_commands.specs.Records.{FaultAt, says_of, output as written_as}
use Rattle.omf_commands.specs.Reading.{sink_failures, TakesFaulty, WentThrough, GoesThrough, WritesWhole}
use Rattle.omf_commands.specs.Reading.{AppendsRewritten}
use Rattle.omf_commands.specs.inside.Reading.{Handles, WritesAll}
use Rattle.omf_commands.specs.inside.Faults.{frame_fault}

pub begun : (output : Placed → List ℕ) (a w : Option (List ℕ))
    → (t : WentThrough output [] a a w w) × (0 ≡ length t.bytes)
begun output a w =
    (record { bytes = []; are_records = (refl, tt); taken = Consumes-nil a; written = Appends-nil w }, refl)

all_output : (output : Placed → List ℕ) (rs : List Placed) (r : Placed)
    → flat_map output (rs ++ r ∷ []) ≡ flat_map output rs ++ output r
all_output output rs r = flat_map-append output rs (r ∷ []) ∙ ap (λ l. flat_map output rs ++ l) (append-nil (output r))

pub one_more : (output : Placed → List ℕ) (rs : List Placed) (a b c w v u : Option (List ℕ)) (r : Placed)
    (front : List ℕ) (t : WentThrough output rs a b w v)
    → r.place ≡ length t.bytes → r.place < place_limit → Framed (kind_of r.says) r.body front → Body r.says r.body
    → Consumes b c front → Appends v u (output r)
    → (t' : WentThrough output (rs ++ r ∷ []) a c w u) × (r.place + length r.body + 4 ≡ length t'.bytes)
one_more output rs a b c w v u r front t at below framed body taken written = (
  record {
    bytes = t.bytes ++ front;
    are_records = AreRecords-push 0 rs t.bytes r front t.are_records (omega (arith, at)) below framed body;
    taken = Consumes-trans a b c t.bytes front t.taken taken;
    written =
        subst (Appends w u) (sym (all_output output rs r))
        (Appends-trans w v u (flat_map output rs) (output r) t.written written);
  },
  omega (arith, length-append t.bytes front, framed_len (kind_of r.says) r.body front framed, at),
)

faulty_taken : (b c : Option (List ℕ)) (p : ℕ) (e : FramingFault)
    → TakesRecord {A = Option LentFrame} b c (Err (frame_fault.Framing p e))
    → TakesFaulty b c (fault.Absent (absent.Framing e))
faulty_taken b c p framing.ZeroLength s = s
faulty_taken b c p framing.Truncated s = s
faulty_taken b c p framing.Closing s = s
faulty_taken b c p framing.InputTooLong s = s

-- reading the next record failed
pub stopped : (T A : Type 0) (output : Placed → List ℕ) (rs : List Placed) (a b c w v : Option (List ℕ)) (place : ℕ)
    (e : FrameFault) (t : WentThrough output rs a b w v)
    → AreBeforeEnd rs → place ≡ length t.bytes → IsAt {A = Option LentFrame} place (Err e)
    → IfSome b (λ bytes. Gives plain_frame (Err e) (frame_at place bytes))
    → TakesRecord {A = Option LentFrame} b c (Err e)
    → GoesThrough output a c w v {T = T} {A = A} (Err (frame_fault e))
stopped T A output rs a b c w v place (frame_fault.Device p) t before at h g s = (rs, b, before, t, refl, h.0 ∙ at, s)
stopped T A output rs a b c w v place (frame_fault.Framing p e) t before at h g s = (
  rs,
  b,
  before,
  t,
  refl,
  h.0
      ∙ at,
  IfSome_then b {Q = (λ bytes. FaultAt p bytes (fault.Absent (absent.Framing e)))} g
      (λ x k. (absent.Framing e, ap (λ n. frame_at n x) h.0 ∙ k, refl)),
  faulty_taken b c p e s,
)
stopped T A output rs a b c w v place frame_fault.Memory t before at h g s = absurd h
stopped T A output rs a b c w v place frame_fault.Failed t before at h g s = absurd h

module _ {K : Type 0} (written : K → Option (List ℕ)) (failures : K → ℕ) (w v : K) where
  -- the canonical record was written
  pub handled : {A : Type 0} (place kind : ℕ) (body : List ℕ) (r : says.Record)
      (result : Result (Unit {0}) (LinkFault A)) → BodyOf kind r body
      → WritesAll written failures w v (frame kind (canonical r)) result
      → Handles (written_as Rewriting) place kind body (written w) (written v) result
  handled place kind body r (Ok x) b h =
      (r, b, subst (λ k. Appends (written w) (written v) (frame k (canonical r))) (sym b.0) h.0)
  handled place kind body r (Err link.Output) b h =
      (r, b, subst (λ k. AppendsFront (written w) (written v) (frame k (canonical r))) (sym b.0) h.0)
  handled place kind body r (Err link.Memory) b h = h.0
  handled place kind body r (Err (link.Record input at f)) b h = absurd h
  handled place kind body r (Err (link.Device input at)) b h = absurd h
  handled place kind body r (Err (link.Program f)) b h = absurd h
  handled place kind body r (Err (link.File f)) b h = absurd h

  -- and the sink failed exactly where the answer says so
  pub written_count : {A : Type 0} (out : List ℕ) (result : Result (Unit {0}) (LinkFault A))
      → WritesAll written failures w v out result
      → failures v ≡ failures w + sink_failures result
  written_count out (Ok x) h = omega (arith, h.1)
  written_count out (Err link.Output) h = omega (arith, h.1)
  written_count out (Err link.Memory) h = omega (arith, h.1)
  written_count out (Err (link.Record input at f)) h = absurd h
  written_count out (Err (link.Device input at)) h = absurd h
  written_count out (Err (link.Program f)) h = absurd h
  written_count out (Err (link.File f)) h = absurd h

kept_through : (output : Placed → List ℕ) (rs : List Placed) (a b w v u : Option (List ℕ))
    (t : WentThrough output rs a b w v) → Keeps v u → WentThrough output rs a b w u
kept_through output rs a b w v u t k = record {
  bytes = t.bytes;
  are_records = t.are_records;
  taken = t.taken;
  written = Appends-kept w v u (flat_map output rs) t.written k;
}

-- the record that was read was not written whole
pub refused : {A : Type 0} (output : Placed → List ℕ) (rs : List Placed) (a b c w v u : Option (List ℕ)) (f : Frame)
    (front : List ℕ) (e : LinkFault A) (t : WentThrough output rs a b w v)
    → AreBeforeEnd rs → f.place ≡ length t.bytes → f.place < place_limit → Framed f.kind f.body front
    → Consumes b c front → TakesWhole b c → IfSome b (λ bytes. frame_at f.place bytes ≡ Ok (Some f))
    → Handles output f.place f.kind f.body v u (Err e) → GoesThrough output a c w u {T = Unit {0}} (Err e)
unfolding kept_through
refused output rs a b c w v u f front link.Memory t before at below framed taken whole told h =
    (rs, b, before, kept_through output rs a b w v u t h, inr whole)
refused output rs a b c w v u f front link.Output t before at below framed taken whole told h =
    let r = placed f.place f.body h.0 in (
      rs,
      r,
      before,
      t.bytes ++ front,
      AreRecords-push 0 rs t.bytes r front t.are_records (omega (arith, at)) below
          (subst (λ k. Framed k f.body front) (sym h.1.0) framed) h.1.1,
      Consumes-trans a b c t.bytes front t.taken taken,
      subst (AppendsFront w u) (sym (all_output output rs r))
          (AppendsFront-then w v u (flat_map output rs) (output r) t.written h.2),
    )
refused output rs a b c w v u f front (link.Device input place) t before at below framed taken whole told h = absurd h
refused output rs a b c w v u f front (link.Program g) t before at below framed taken whole told h = absurd h
refused output rs a b c w v u f front (link.File g) t before at below framed taken whole told h = absurd h
refused output rs a b c w v u f front (link.Record input place g) t before at below framed taken whole told h =
    elim h.3 [
      | inl k ↦ (
        rs,
        b,
        before,
        kept_through output rs a b w v u t h.0,
        h.1,
        h.2 ∙ at,
        IfSome_then b {Q = (λ bytes. FaultAt place bytes g)} told
            (λ x e. (absent.Type, (f, ap (λ n. frame_at n x) h.2 ∙ e, k.0), k.1)),
        subst (TakesFaulty b c) (sym k.1) whole,
      )
      | inr k ↦ (
        rs,
        b,
        before,
        kept_through output rs a b w v u t h.0,
        h.1,
        h.2 ∙ at,
        IfSome_then b {Q = (λ bytes. FaultAt place bytes g)} told
            (λ x e. (absent.Body k.0, (f, ap (λ n. frame_at n x) h.2 ∙ e, k.1, k.2), k.3)),
        subst (TakesFaulty b c) (sym k.3) whole,
      )
    ]

-- ---- where the input has a module's records, the answer is that

abbrev some_list : List ℕ → Option (List ℕ)
some_list l = Some l

-- what an answer other than a device's says, where the input has a module's records
told_fault : (rs gs : List Placed) (bytes rest : List ℕ) (mid : Option (List ℕ)) (place : ℕ) (g : InputFault)
    (output : Placed → List ℕ) (w v : Option (List ℕ)) → AreToEnd rs → AreBeforeEnd gs
    → AreRecords 0 rs bytes → (t : WentThrough output gs (Some (bytes ++ rest)) mid w v) → place ≡ length t.bytes
    → IfSome mid (λ l. FaultAt place l g) → ⊥
told_fault rs gs bytes rest None place g output w v re bg h t at e = t.taken
told_fault rs gs bytes rest (Some l) place g output w v re bg h t at e =
    let here : place ≡ 0 + length t.bytes = omega (arith, at) in
    no_fault 0 rs gs bytes t.bytes rest l e.0 re bg h t.are_records t.taken (subst (λ n. NoRecordAt n l e.0) here e.1)

only_told : (T A : Type 0) (output : Placed → List ℕ) (rs : List Placed) (bytes rest : List ℕ)
    (new w v : Option (List ℕ)) (r : Result T (LinkFault A)) → AreToEnd rs → AreRecords 0 rs bytes
    → GoesThrough output (Some (bytes ++ rest)) new w v r
    → WritesWhole (flat_map output rs) rest new w v r
only_told T A output rs bytes rest None w v (Ok x) re h k = absurd k.2.taken
only_told T A output rs bytes rest (Some l) w v (Ok x) re h k =
    let one = only_way 0 rs k.0 bytes k.2.bytes rest l re k.1 h k.2.are_records k.2.taken in
    (ap (λ (m : List ℕ). some_list m) (sym one.2), subst (Appends w v) (ap (flat_map output) (sym one.0)) k.2.written)
only_told T A output rs bytes rest new w v (Err link.Memory) re h k = tt
only_told T A output rs bytes rest new w v (Err link.Output) re h k = tt
only_told T A output rs bytes rest new w v (Err (link.Device input place)) re h k = tt
only_told T A output rs bytes rest new w v (Err (link.Program f)) re h k = absurd k
only_told T A output rs bytes rest new w v (Err (link.File f)) re h k = absurd k
only_told T A output rs bytes rest new w v (Err (link.Record input place g)) re h k =
    told_fault rs k.0 bytes rest k.1 place g output w v re k.2 h k.3 k.5 k.6

pub only_answer : (T A : Type 0) (output : Placed → List ℕ) (rs : List Placed) (bytes rest : List ℕ)
    (old new w v : Option (List ℕ)) (r : Result T (LinkFault A)) → AreToEnd rs → AreRecords 0 rs bytes
    → old ≡ Some (bytes ++ rest)
    → GoesThrough output old new w v r → WritesWhole (flat_map output rs) rest new w v r
only_answer T A output rs bytes rest old new w v r re h e k =
    only_told T A output rs bytes rest new w v r re h (subst (λ o. GoesThrough output o new w v r) e k)

-- ---- what was rewritten is records again

-- the records as they stand when they are rewritten, the first at this place
abbrev pub rewritten_from : ℕ → List Placed → List Placed
rewritten_from at [] = []
rewritten_from at (r ∷ rs) =
    placed at (canonical r.says) r.says ∷ rewritten_from (at + length (frame (kind_of r.says) (canonical r.says))) rs

same_output : (at : ℕ) (rs : List Placed)
    → flat_map (written_as Rewriting) (rewritten_from at rs) ≡ flat_map (written_as Rewriting) rs
same_output at [] = refl
same_output at (r ∷ rs) =
    ap (λ (l : List ℕ). frame (kind_of r.says) (canonical r.says) ++ l)
    (same_output (at + length (frame (kind_of r.says) (canonical r.says))) rs)

pub rewritten_are : (place at : ℕ) (rs : List Placed) (bytes : List ℕ) → at ≤ place → AreRecords place rs bytes
    → AreRecords at (rewritten_from at rs) (flat_map (written_as Rewriting) rs)
rewritten_are place at [] bytes le h = (refl, tt)
rewritten_are place at (r ∷ rs) bytes le (h, says) =
    let canon = canonical_shortest r.says r.body says.0 in
    let short : length (canonical r.says) ≤ 65534 = omega (arith, canon.1, h.5.body_short) in
    let framed =
    framed-frame (kind_of r.says) (canonical r.says) h.5.kind_fits (body_bytes r.says (canonical r.says) canon.0)
    short in
    let len = framed_len (kind_of r.says) (canonical r.says) _ framed in
    let old = framed_len (kind_of r.says) r.body h.0 h.5 in
    let below : at < place_limit = omega (arith, le, h.4) in
    let next =
    rewritten_are (place + length h.0) (at + length (frame (kind_of r.says) (canonical r.says))) rs h.1
    (omega (arith, le, len, old, canon.1)) (h.6, says.1) in (
      (
        frame (kind_of r.says) (canonical r.says),
        flat_map (written_as Rewriting)
            rs,
        refl,
        refl,
        below,
        framed,
        next.0,
      ),
      (canon.0, next.1),
    )

-- the last of them is the end again
pub still_ended : (at : ℕ) (rs : List Placed) → AreToEnd rs → AreToEnd (rewritten_from at rs)
still_ended at [] h = h
still_ended at (r ∷ []) h = h
still_ended at (r ∷ s ∷ rs) h =
    (h.0, still_ended (at + length (frame (kind_of r.says) (canonical r.says))) (s ∷ rs) h.1)

pub says_same : (at : ℕ) (rs : List Placed) → says_of (rewritten_from at rs) ≡ says_of rs
says_same at [] = refl
says_same at (r ∷ rs) = ap (λ l. r.says ∷ l) (says_same (at + length (frame (kind_of r.says) (canonical r.says))) rs)

pub again : (A : Type 0) (a b w v : Option (List ℕ)) (x : Unit {0})
    → GoesThrough (written_as Rewriting) a b w v {T = Unit {0}} {A = A} (Ok x) → AppendsRewritten a b w v
again A a b w v x k = (
  k.0,
  k.1,
  k.2,
  record {
    records = rewritten_from 0 k.0;
    ended = still_ended 0 k.0 k.1;
    are_records = rewritten_are 0 0 k.0 k.2.bytes (omega arith) k.2.are_records;
    says = says_same 0 k.0;
    same = same_output 0 k.0;
  },
)
