-- The records of an input: one more, the only ones, and none where a fault stands.
use Rattle.std.proofs.Common.{◌≡◌, ℕ, ◌+◌, ◌<◌, Bool, true, false, List, [], ◌∷◌, ◌++◌, length, take, drop, None, Some}
use Rattle.std.proofs.Common.{Result, Ok, Err, refl, sym, ap, subst, ◌∙◌, append_assoc, append-nil, arith}
use Rattle.std.proofs.Common.{length-append, ◌⊎◌, inl, inr}
use Rattle.std.proofs.lemmas.List.{take_at, drop_at}
use Rattle.std.proofs.lemmas.Bool.{cases_lt}
use Rattle.std.specs.declared.option.Option.{Option}
use Rattle.omf_frame.specs.Frame.{Frame, Framed, frame_at, place_limit}
use Rattle.omf_frame.specs.declared.reading.FramingFault.{FramingFault}
use Rattle.omf_frame.proofs.Frames.{frame_at-framed}
use Rattle.omf_record.specs.Record.{Record, Modend, Extdef, Pubdef}
use Rattle.omf_record.specs.Body.{kind_of, Body, BodyFault, IsRecordType}
use Rattle.omf_record.specs.Records.{Placed, frame_of_record, is_end, AreRecords, AreBeforeEnd, AreToEnd}
use Rattle.omf_record.specs.Records.{NoRecordAt}
use Rattle.omf_record.specs.declared.fault.NoRecord.{NoRecord}
use Rattle.omf_record.specs.declared.fault.NoRecord.TheVariants as absent
use Rattle.omf_record.proofs.RecordLaws.{one_of}

-- ---- MODEND is the type 8AH

pub end_kind : (r : Record) → is_end r ≡ true → kind_of r ≡ 0x8A
end_kind (Modend main start) e = refl
end_kind _ e = absurd cc

pub kind_end : (r : Record) → kind_of r ≡ 0x8A → is_end r ≡ true
kind_end (Modend main start) e = refl
kind_end (Extdef true _) e = absurd (omega (arith, e))
kind_end (Pubdef true _ _) e = absurd (omega (arith, e))
kind_end _ e = absurd (omega (arith, e))

pub not_end : (r : Record) → (kind_of r ≡ 0x8A → ⊥) → is_end r ≡ false
not_end r h = of (is_end r) refl
  where
    of : (b : Bool) → is_end r ≡ b → is_end r ≡ false
    of true e = absurd (h (end_kind r e))
    of false e = e

-- ---- one record more

pub framed_len : (kind : ℕ) (body bytes : List ℕ) → Framed kind body bytes → length bytes ≡ length body + 4
framed_len kind body bytes h = ap length h.parts ∙ omega (arith, length-append body (h.closing ∷ []))

pub AreRecords-push : (place : ℕ) (rs : List Placed) (bytes : List ℕ) (r : Placed) (front : List ℕ)
    → AreRecords place rs bytes → r.place ≡ place + length bytes → r.place < place_limit
    → Framed (kind_of r.says) r.body front → Body r.says r.body → AreRecords place (rs ++ r ∷ []) (bytes ++ front)
AreRecords-push place [] bytes r front h at below framed body =
    let same : r.place ≡ place = omega (arith, at, ap length h.0) in (
      (
        front,
        [],
        ap (λ l. l ++ front) h.0
            ∙ sym (append-nil front),
        same,
        subst (λ n. n < place_limit) same below,
        framed,
        refl,
      ),
      (body, tt),
    )
AreRecords-push place (x ∷ rs) bytes r front (h, says) at below framed body =
    let rest =
    AreRecords-push (place + length h.0) rs h.1 r front (h.6, says.1)
    (omega (arith, at, ap length h.2, length-append h.0 h.1)) below framed body in (
      (
        h.0,
        h.1 ++ front,
        ap (λ l. l ++ front) h.2
            ∙ append_assoc h.0 h.1 front,
        h.3,
        h.4,
        h.5,
        rest.0,
      ),
      (says.0, rest.1),
    )

pub AreBeforeEnd-push : (rs : List Placed) (r : Placed) → AreBeforeEnd rs → is_end r.says ≡ false
    → AreBeforeEnd (rs ++ r ∷ [])
AreBeforeEnd-push [] r h p = (p, tt)
AreBeforeEnd-push (x ∷ rs) r h p = (h.0, AreBeforeEnd-push rs r h.1 p)

pub AreToEnd-push : (rs : List Placed) (r : Placed) → AreBeforeEnd rs → is_end r.says ≡ true → AreToEnd (rs ++ r ∷ [])
AreToEnd-push [] r h p = p
AreToEnd-push (x ∷ []) r h p = (h.0, p)
AreToEnd-push (x ∷ y ∷ rs) r h p = (h.0, AreToEnd-push (y ∷ rs) r h.1 p)

-- ---- the records of the same bytes are the same

abbrev found : Frame → Result (Option Frame) FramingFault
found f = Ok (Some f)

found_is : (f g : Frame) → found f ≡ found g → f ≡ g
found_is f g e = cc

abbrev pub placed : ℕ → List ℕ → Record → Placed
placed place body r = record { place = place; body = body; says = r }

-- what stands where a record begins
record_at : (place : ℕ) (r : Placed) (front rest : List ℕ) → r.place ≡ place → place < place_limit
    → Framed (kind_of r.says) r.body front → frame_at place (front ++ rest) ≡ found (frame_of_record r)
record_at place r front rest p below h =
    frame_at-framed place (kind_of r.says) r.body front rest below h
    ∙ ap (λ n. found (record { place = n; kind = kind_of r.says; body = r.body })) (sym p)

-- the first record of the same bytes
pub first_same : (place : ℕ) (f g : Placed) (fs gs : List Placed) (x y r s : List ℕ) → (h : AreRecords place (f ∷ fs) x)
    → (k : AreRecords place (g ∷ gs) y) → x ++ r ≡ y ++ s → (f ≡ g) × (h.0.0 ≡ k.0.0) × (h.0.1 ++ r ≡ k.0.1 ++ s)
first_same place f g fs gs x y r s (h, hs) (k, ks) e =
    let split : h.0 ++ (h.1 ++ r) ≡ k.0 ++ (k.1 ++ s) =
    sym (append_assoc h.0 h.1 r) ∙ ap (λ l. l ++ r) (sym h.2) ∙ e ∙ ap (λ l. l ++ s) k.2 ∙ append_assoc k.0 k.1 s in
    let same : frame_of_record f ≡ frame_of_record g =
    found_is _ _
    (sym (record_at place f h.0 (h.1 ++ r) h.3 h.4 h.5) ∙ ap (frame_at place) split
    ∙ record_at place g k.0 (k.1 ++ s) k.3 k.4 k.5) in
    let kinds : kind_of f.says ≡ kind_of g.says = ap (λ (v : Frame). v.kind) same in
    let bodies : f.body ≡ g.body = ap (λ (v : Frame). v.body) same in
    let says_same : f.says ≡ g.says =
    one_of (kind_of g.says) g.body f.says g.says (kinds, subst (Body f.says) bodies hs.0) (refl, ks.0) in
    let places : f.place ≡ g.place = h.3 ∙ sym k.3 in
    let records : f ≡ g =
    ap (λ n. placed n f.body f.says) places ∙ ap (λ b. placed g.place b f.says) bodies
    ∙ ap (placed g.place g.body) says_same in
    let len : length h.0 ≡ length k.0 =
    framed_len (kind_of f.says) f.body h.0 h.5 ∙ ap (λ (v : Placed). length v.body + 4) records
    ∙ sym (framed_len (kind_of g.says) g.body k.0 k.5) in
    let fronts : h.0 ≡ k.0 =
    sym (take_at h.0 (h.1 ++ r) (length h.0) refl) ∙ ap (take (length h.0)) split
    ∙ take_at k.0 (k.1 ++ s) (length h.0) (sym len) in
    let rests : h.1 ++ r ≡ k.1 ++ s =
    sym (drop_at h.0 (h.1 ++ r) (length h.0) refl) ∙ ap (drop (length h.0)) split
    ∙ drop_at k.0 (k.1 ++ s) (length h.0) (sym len) in
    (records, fronts, rests)

-- the second list goes on behind the first
pub record GoesOn (place : ℕ) (rs ss : List Placed) (x y r s : List ℕ) : Type 0 where
  pub more : List Placed
  pub bytes : List ℕ
  pub records : ss ≡ rs ++ more
  pub fronts : y ≡ x ++ bytes
  pub rests : r ≡ bytes ++ s
  pub there : AreRecords (place + length x) more bytes

-- of two lists that the same bytes begin with one goes on behind the other
pub compare : (place : ℕ) (rs ss : List Placed) (x y r s : List ℕ) → AreRecords place rs x → AreRecords place ss y
    → x ++ r ≡ y ++ s → GoesOn place rs ss x y r s ⊎ GoesOn place ss rs y x s r
compare place [] ss x y r s h k e =
    let here : place + length x ≡ place = omega (arith, ap length h.0) in
    inl (record {
      more = ss;
      bytes = y;
      records = refl;
      fronts = ap (λ l. l ++ y) (sym h.0);
      rests = ap (λ l. l ++ r) (sym h.0) ∙ e;
      there = subst (λ n. AreRecords n ss y) (sym here) k;
    })
compare place (p ∷ rs) [] x y r s h k e =
    let here : place + length y ≡ place = omega (arith, ap length k.0) in
    inr (record {
      more = p ∷ rs;
      bytes = x;
      records = refl;
      fronts = ap (λ l. l ++ x) (sym k.0);
      rests = ap (λ l. l ++ s) (sym k.0) ∙ sym e;
      there = subst (λ n. AreRecords n (p ∷ rs) x) (sym here) h;
    })
compare place (p ∷ rs) (q ∷ ss) x y r s h k e =
    let one = first_same place p q rs ss x y r s h k e in
    let (hf, hs) = h in
    let (kf, ks) = k in
    let behind = subst (λ (l : List ℕ). AreRecords (place + length l) ss kf.1) (sym one.1) (kf.6, ks.1) in
    let len : length x ≡ length hf.0 + length hf.1 = ap length hf.2 ∙ length-append hf.0 hf.1 in
    let leny : length y ≡ length hf.0 + length kf.1 =
    omega (arith, ap length kf.2, length-append kf.0 kf.1, ap length one.1) in
    let nx : place + length hf.0 + length hf.1 ≡ place + length x = omega arith in
    let ny : place + length hf.0 + length kf.1 ≡ place + length y = omega arith in
    elim (compare (place + length hf.0) rs ss hf.1 kf.1 r s (hf.6, hs.1) behind one.2) [
      | inl g ↦ inl (record {
        more = g.more;
        bytes = g.bytes;
        records = ap (λ c. c ∷ ss) (sym one.0) ∙ ap (λ l. p ∷ l) g.records;
        fronts =
            kf.2 ∙ ap (λ l. l ++ kf.1) (sym one.1) ∙ ap (λ l. hf.0 ++ l) g.fronts ∙ sym (append_assoc hf.0 hf.1 g.bytes)
            ∙ ap (λ l. l ++ g.bytes) (sym hf.2);
        rests = g.rests;
        there = subst (λ n. AreRecords n g.more g.bytes) nx g.there;
      })
      | inr g ↦ inr (record {
        more = g.more;
        bytes = g.bytes;
        records = ap (λ c. c ∷ rs) one.0 ∙ ap (λ l. q ∷ l) g.records;
        fronts =
            hf.2 ∙ ap (λ l. l ++ hf.1) one.1 ∙ ap (λ l. kf.0 ++ l) g.fronts ∙ sym (append_assoc kf.0 kf.1 g.bytes)
            ∙ ap (λ l. l ++ g.bytes) (sym kf.2);
        rests = g.rests;
        there = subst (λ n. AreRecords n g.more g.bytes) ny g.there;
      })
    ]

-- the same records, where the second list goes on by none
pub none_more : (place : ℕ) (rs ss : List Placed) (x y r s : List ℕ) → (g : GoesOn place rs ss x y r s) → g.more ≡ []
    → (rs ≡ ss) × (x ≡ y) × (r ≡ s)
none_more place rs ss x y r s g none =
    let bytes : g.bytes ≡ [] = (subst (λ (l : List Placed). AreRecords (place + length x) l g.bytes) none g.there).0 in (
      sym (g.records ∙ ap (λ l. rs ++ l) none ∙ append-nil rs),
      sym
          (g.fronts ∙ ap (λ l. x ++ l) bytes ∙ append-nil x),
      g.rests ∙ ap (λ l. l ++ s) bytes,
    )

-- behind the end of the module
true_is_false : (b : Bool) → b ≡ true → b ≡ false → ⊥
true_is_false b e f = cc

pub none_behind : (rs more : List Placed) → AreToEnd rs → AreToEnd (rs ++ more) → more ≡ []
none_behind [] more e f = absurd e
none_behind (q ∷ []) [] e f = refl
none_behind (q ∷ []) (p ∷ more) e f = absurd (true_is_false (is_end q.says) e f.0)
none_behind (q ∷ p ∷ rs) more e f = none_behind (p ∷ rs) more e.1 f.1

pub ended_before : (rs more : List Placed) → AreToEnd rs → AreBeforeEnd (rs ++ more) → ⊥
ended_before [] more e f = e
ended_before (q ∷ []) more e f = true_is_false (is_end q.says) e f.0
ended_before (q ∷ p ∷ rs) more e f = ended_before (p ∷ rs) more e.1 f.1

-- two ways through the same input, both to the end of the module
pub only_way : (place : ℕ) (rs ss : List Placed) (x y r s : List ℕ) → AreToEnd rs → AreToEnd ss → AreRecords place rs x
    → AreRecords place ss y → x ++ r ≡ y ++ s → (rs ≡ ss) × (x ≡ y) × (r ≡ s)
only_way place rs ss x y r s re se h k e = elim (compare place rs ss x y r s h k e) [
  | inl g ↦ none_more place rs ss x y r s g (none_behind rs g.more re (subst AreToEnd g.records se))
  | inr g ↦
      let p = none_more place ss rs y x s r g (none_behind ss g.more se (subst AreToEnd g.records re)) in
      (sym p.0, sym p.1, sym p.2)
]

-- ---- no fault stands at a record

err_is_not : (f : Frame) (e : FramingFault) → (let r : Result (Option Frame) FramingFault = Err e in r) ≡ found f → ⊥
err_is_not f e h = cc

none_is_not : (f : Frame) → (let r : Result (Option Frame) FramingFault = Ok None in r) ≡ found f → ⊥
none_is_not f h = cc

no_reason : (place : ℕ) (r : Placed) (s : List ℕ) (why : NoRecord) → frame_at place s ≡ found (frame_of_record r)
    → Body r.says r.body → NoRecordAt place s why → ⊥
no_reason place r s (absent.Framing e) is b t = err_is_not (frame_of_record r) e (sym t ∙ is)
no_reason place r s absent.NoEnd is b t = none_is_not (frame_of_record r) (sym t ∙ is)
no_reason place r s absent.Type is b t =
    let same : t.0 ≡ frame_of_record r = found_is _ _ (sym t.1 ∙ is) in
    t.2 (r.says, r.body, (ap (λ (v : Frame). v.kind) (sym same), b))
no_reason place r s (absent.Body at) is b t =
    let same : t.0 ≡ frame_of_record r = found_is _ _ (sym t.1 ∙ is) in
    t.3.none r.says
    (ap (λ (v : Frame). v.kind) (sym same), subst (Body r.says) (ap (λ (v : Frame). v.body) (sym same)) b)

pub record_here : (place : ℕ) (r : Placed) (rs : List Placed) (x s : List ℕ) (why : NoRecord)
    → AreRecords place (r ∷ rs) x → NoRecordAt place (x ++ s) why → ⊥
record_here place r rs x s why (h, says) t =
    let split : x ++ s ≡ h.0 ++ (h.1 ++ s) = ap (λ l. l ++ s) h.2 ∙ append_assoc h.0 h.1 s in
    no_reason place r (x ++ s) why (ap (frame_at place) split ∙ record_at place r h.0 (h.1 ++ s) h.3 h.4 h.5) says.0 t

-- a list goes on by none where no record begins
pub none_on : (place : ℕ) (more : List Placed) (x s t : List ℕ) (why : NoRecord) → AreRecords place more x → s ≡ x ++ t
    → NoRecordAt place s why → more ≡ []
none_on place [] x s t why h e n = refl
none_on place (p ∷ more) x s t why h e n =
    absurd (record_here place p more x t why h (subst (λ l. NoRecordAt place l why) e n))

-- no fault stands before the end of the module
pub no_fault : (place : ℕ) (rs ss : List Placed) (x y r s : List ℕ) (why : NoRecord) → AreToEnd rs → AreBeforeEnd ss
    → AreRecords place rs x → AreRecords place ss y → x ++ r ≡ y ++ s → NoRecordAt (place + length y) s why → ⊥
no_fault place rs ss x y r s why re sb h k e t = elim (compare place rs ss x y r s h k e) [
  | inl g ↦ ended_before rs g.more re (subst AreBeforeEnd g.records sb)
  | inr g ↦
      let none = none_on (place + length y) g.more g.bytes s r why g.there g.rests t in
      ended_before rs [] re (subst AreBeforeEnd ((none_more place ss rs y x s r g none).0 ∙ sym (append-nil rs)) sb)
]

-- ---- one reason why none begins

one_place : (kind : ℕ) (body : List ℕ) (a b : ℕ) → BodyFault kind body a → BodyFault kind body b → a ≡ b
one_place kind body a b h k = elim (cases_lt a b) [
  | inl lt ↦ absurd (h.longest b lt k.within k.front)
  | inr le ↦ elim (cases_lt b a) [ inl lt ↦ absurd (k.longest a lt h.within h.front) | inr ge ↦ omega arith ]
]

found_once : (o : Result (Option Frame) FramingFault) (f g : Frame) → o ≡ found f → o ≡ found g → f ≡ g
found_once o f g a b = found_is f g (sym a ∙ b)

pub one_reason : (place : ℕ) (s : List ℕ) (a b : NoRecord) → NoRecordAt place s a → NoRecordAt place s b → a ≡ b
one_reason place s (absent.Framing e) (absent.Framing f) h k =
    ap (λ v. absent.Framing v)
    (let u : (let r : Result (Option Frame) FramingFault = Err e in r) ≡ Err f = sym h ∙ k in (cc))
one_reason place s (absent.Framing e) absent.NoEnd h k =
    let u : (let r : Result (Option Frame) FramingFault = Err e in r) ≡ Ok None = sym h ∙ k in absurd cc
one_reason place s (absent.Framing e) absent.Type h k = absurd (err_is_not k.0 e (sym h ∙ k.1))
one_reason place s (absent.Framing e) (absent.Body at) h k = absurd (err_is_not k.0 e (sym h ∙ k.1))
one_reason place s absent.NoEnd (absent.Framing f) h k =
    let u : (let r : Result (Option Frame) FramingFault = Err f in r) ≡ Ok None = sym k ∙ h in absurd cc
one_reason place s absent.NoEnd absent.NoEnd h k = refl
one_reason place s absent.NoEnd absent.Type h k = absurd (none_is_not k.0 (sym h ∙ k.1))
one_reason place s absent.NoEnd (absent.Body at) h k = absurd (none_is_not k.0 (sym h ∙ k.1))
one_reason place s absent.Type (absent.Framing f) h k = absurd (err_is_not h.0 f (sym k ∙ h.1))
one_reason place s absent.Type absent.NoEnd h k = absurd (none_is_not h.0 (sym k ∙ h.1))
one_reason place s absent.Type absent.Type h k = refl
one_reason place s absent.Type (absent.Body at) h k =
    absurd (h.2 (subst (λ (f : Frame). IsRecordType f.kind) (found_once _ k.0 h.0 k.1 h.1) k.2))
one_reason place s (absent.Body at) (absent.Framing f) h k = absurd (err_is_not h.0 f (sym k ∙ h.1))
one_reason place s (absent.Body at) absent.NoEnd h k = absurd (none_is_not h.0 (sym k ∙ h.1))
one_reason place s (absent.Body at) absent.Type h k =
    absurd (k.2 (subst (λ (f : Frame). IsRecordType f.kind) (found_once _ h.0 k.0 h.1 k.1) h.2))
one_reason place s (absent.Body at) (absent.Body to) h k =
    ap (λ n. absent.Body n)
    (one_place k.0.kind k.0.body at to
    (subst (λ (f : Frame). BodyFault f.kind f.body at) (found_once _ h.0 k.0 h.1 k.1) h.3) k.3)
