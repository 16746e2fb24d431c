-- The given records that bytes begin with, and what is known behind them, are the only ones.
use Rattle.std.proofs.Common.{◌≡◌, ℕ, Bool, true, false, List, [], ◌∷◌, ◌++◌, refl, sym, ap, subst, ◌∙◌, Result, Ok}
use Rattle.std.proofs.Common.{Err}
use Rattle.std.proofs.Common.{Option, None, Some, drop, append_assoc, append-nil}
use Rattle.omf_frame.specs.Frame.{Frame, frame_at}
use Rattle.omf_frame.specs.declared.reading.FramingFault.{FramingFault}
use Rattle.omf_library.specs.Records.{ends_module, place_behind}
use Rattle.omf_module.specs.Faults.{first_fault}
use Rattle.omf_module.specs.Module.{Module}
use Rattle.omf_module.specs.Tables.{module_of}
use Rattle.omf_module.specs.declared.fault.CheckFault.{CheckFault}
use Rattle.omf_record.specs.Record.{Record}
use Rattle.omf_record.specs.Records.{Placed}
use Rattle.omf_plain.specs.declared.fault.Obstacle.{Obstacle}
use Rattle.omf_plain.specs.declared.fault.RecordObstacle.{RecordObstacle}
use Rattle.omf_plain.specs.declared.fault.RecordObstacle.TheVariants as why
use Rattle.omf_plain.specs.declared.widths.Widths.{Widths}
use Rattle.omf_plain.specs.Comdats.{says_of, seen_behind}
use Rattle.omf_plain.specs.Given.{Given}
use Rattle.omf_plain.specs.Modules.{GivenRecord, StandsAt, Stand, behind, AreOpen, AreToEnd, Known, nothing_known}
use Rattle.omf_plain.specs.Modules.{placed}
use Rattle.omf_plain.specs.Modules.{known_after, known_behind, IsPlainModule, RefusedAt, IsPlainFault}
use Rattle.omf_plain.specs.Plain.{Taking}
use Rattle.omf_plain.specs.Reading.{IsGiven}
use Rattle.omf_plain.specs.Seen.{Seen}
use Rattle.omf_plain.specs.Step.{◌>>=◌}
use Rattle.omf_plain.specs.Widths.{either, record_widths}
use Rattle.omf_plain.proofs.Checks.{fault_stays}
use Rattle.omf_plain.proofs.Once.{Same, one_given, none_given}

-- ---- answers that can't be two

one_frame : (x : Result (Option Frame) FramingFault) (f g : Frame) → x ≡ Ok (Some f) → x ≡ Ok (Some g) → f ≡ g
one_frame x f g d e =
    let s : (let u : Result (Option Frame) FramingFault = Ok (Some f) in u) ≡ Ok (Some g) = sym d ∙ e in (cc)

no_frame : (x : Result (Option Frame) FramingFault) (f : Frame) → x ≡ Ok (Some f) → x ≡ Ok None → ⊥
no_frame x f d e = cc

frame_fault : (x : Result (Option Frame) FramingFault) (f : Frame) (e : FramingFault) → x ≡ Ok (Some f) → x ≡ Err e → ⊥
frame_fault x f e d c = cc

pub one_known : (x : Result Known Obstacle) (k l : Known) → x ≡ Ok k → x ≡ Ok l → k ≡ l
one_known x k l d e =
    let s : (let u : Result Known Obstacle = Ok k in u) ≡ Ok l = sym d ∙ e in (cc)

no_known : (x : Result Known Obstacle) (k : Known) (o : Obstacle) → x ≡ Ok k → x ≡ Err o → ⊥
no_known x k o d e = cc

no_check : (x : Option (ℕ × CheckFault)) (c : ℕ × CheckFault) → x ≡ None → x ≡ Some c → ⊥
no_check x c d e = cc

both_ends : (b : Bool) → b ≡ true → b ≡ false → ⊥
both_ends b d e = cc

-- ---- one record more

-- what is known behind a frame, by what a link takes of it
abbrev next_of : Known → Frame → Result (List Record) Obstacle → Seen → Widths → Result Known Obstacle
next_of k f said seen widths =
    said >>= λ found. Ok (record { seen = seen; says = k.says ++ placed f found; widths = either k.widths widths })

step_same : (t : Taking) (k : Known) (f : Frame) (a b : Given) → Same a b
    → known_after t k (record { frame = f; says = a }) ≡ known_after t k (record { frame = f; says = b })
step_same t k f a b same =
    ap (λ x. next_of k f x (seen_behind t k.seen a) (record_widths t k.seen a)) (same.says t k.seen)
    ∙ ap (λ x. next_of k f (says_of t k.seen b) x (record_widths t k.seen a)) (same.seen t k.seen)
    ∙ ap (λ x. next_of k f (says_of t k.seen b) (seen_behind t k.seen b) x) (same.widths t k.seen)

-- two records at one place
here : (bytes : List ℕ) (place : ℕ) (g h : GivenRecord) → StandsAt bytes place g → StandsAt bytes place h
    → (g.frame ≡ h.frame) × Same g.says h.says
here bytes place g h l m =
    let e = one_frame (frame_at place (drop place bytes)) g.frame h.frame l.0 m.0 in (
      e,
      one_given g.frame.kind g.frame.body g.says h.says l.1
          (subst (λ (f : Frame). IsGiven f.kind f.body h.says) (sym e) m.1),
    )

after_same : (t : Taking) (bytes : List ℕ) (place : ℕ) (k : Known) (g h : GivenRecord) → StandsAt bytes place g
    → StandsAt bytes place h → known_after t k g ≡ known_after t k h
after_same t bytes place k g h l m =
    let (e, same) = here bytes place g h l m in
    step_same t k g.frame g.says h.says same
    ∙ ap (λ (f : Frame). known_after t k (record { frame = f; says = h.says })) e

-- behind one that is known
pub behind_one : (t : Taking) (k n : Known) (g : GivenRecord) (gs : List GivenRecord) → known_after t k g ≡ Ok n
    → known_behind t k (g ∷ gs) ≡ known_behind t n gs
behind_one t k n g gs e = ap (λ r. r >>= λ next. known_behind t next gs) e

-- what is known behind more, is known behind the first
pub first_known : (t : Taking) (k l : Known) (g : GivenRecord) (gs : List GivenRecord)
    → known_behind t k (g ∷ gs) ≡ Ok l → (n : Known) × (known_after t k g ≡ Ok n) × (known_behind t n gs ≡ Ok l)
first_known t k l g gs e = go (known_after t k g) refl
  where
    go : (r : Result Known Obstacle) → known_after t k g ≡ r
        → (n : Known) × (known_after t k g ≡ Ok n) × (known_behind t n gs ≡ Ok l)
    go (Ok n) is = (n, is, sym (behind_one t k n g gs is) ∙ e)
    go (Err o) is = absurd (no_known (known_behind t k (g ∷ gs)) l o e (ap (λ r. r >>= λ next. known_behind t next gs) is))

-- ---- along two ways

-- one way goes on where the other, which is open, ends
goes_on : (t : Taking) (bytes : List ℕ) (place : ℕ) (k n l : Known) (gs hs : List GivenRecord) → Stand bytes place gs
    → AreOpen gs → Stand bytes place hs → AreToEnd hs → known_behind t k gs ≡ Ok n → known_behind t k hs ≡ Ok l
    → (rest : List GivenRecord) × Stand bytes (behind place gs) rest × AreToEnd rest × (known_behind t n rest ≡ Ok l)
goes_on t bytes place k n l [] hs s o r e d c =
    (hs, r, e, subst (λ x. known_behind t x hs ≡ Ok l) (one_known (Ok k) k n refl d) c)
goes_on t bytes place k n l (g ∷ gs) [] s o r e d c = absurd e
goes_on t bytes place k n l (g ∷ gs) (h ∷ []) s o r e d c =
    let (same, says) = here bytes place g h s.0 r.0 in
    absurd (both_ends (ends_module h.frame.kind) e (subst (λ (f : Frame). ends_module f.kind ≡ false) same o.0))
goes_on t bytes place k n l (g ∷ gs) (h ∷ i ∷ hs) s o r e d c =
    let (same, says) = here bytes place g h s.0 r.0 in
    let (x, x-is, xs) = first_known t k n g gs d in
    let (y, y-is, ys) = first_known t k l h (i ∷ hs) c in
    let one = one_known (known_after t k g) x y x-is (after_same t bytes place k g h s.0 r.0 ∙ y-is) in
    goes_on t bytes (place_behind g.frame) x n l gs (i ∷ hs) s.1 o.1
    (subst (λ (f : Frame). Stand bytes (place_behind f) (i ∷ hs)) (sym same) r.1) e.1 xs
    (subst (λ z. known_behind t z (i ∷ hs) ≡ Ok l) (sym one) ys)

-- two ways to the end are one
only_way : (t : Taking) (bytes : List ℕ) (place : ℕ) (k n l : Known) (gs hs : List GivenRecord) → Stand bytes place gs
    → AreToEnd gs → Stand bytes place hs → AreToEnd hs → known_behind t k gs ≡ Ok n → known_behind t k hs ≡ Ok l → n ≡ l
only_way t bytes place k n l [] hs s o r e d c = absurd o
only_way t bytes place k n l (g ∷ gs) [] s o r e d c = absurd e
only_way t bytes place k n l (g ∷ []) (h ∷ []) s o r e d c =
    let (x, x-is, xs) = first_known t k n g [] d in
    let (y, y-is, ys) = first_known t k l h [] c in
    let one = one_known (known_after t k g) x y x-is (after_same t bytes place k g h s.0 r.0 ∙ y-is) in
    one_known (Ok x) n l xs (subst (λ z. (let u : Result Known Obstacle = Ok z in u) ≡ Ok l) (sym one) ys)
only_way t bytes place k n l (g ∷ []) (h ∷ i ∷ hs) s o r e d c =
    let (same, says) = here bytes place g h s.0 r.0 in
    absurd (both_ends (ends_module h.frame.kind) (subst (λ (f : Frame). ends_module f.kind ≡ true) same o) e.0)
only_way t bytes place k n l (g ∷ j ∷ gs) (h ∷ []) s o r e d c =
    let (same, says) = here bytes place g h s.0 r.0 in
    absurd (both_ends (ends_module h.frame.kind) e (subst (λ (f : Frame). ends_module f.kind ≡ false) same o.0))
only_way t bytes place k n l (g ∷ j ∷ gs) (h ∷ i ∷ hs) s o r e d c =
    let (same, says) = here bytes place g h s.0 r.0 in
    let (x, x-is, xs) = first_known t k n g (j ∷ gs) d in
    let (y, y-is, ys) = first_known t k l h (i ∷ hs) c in
    let one = one_known (known_after t k g) x y x-is (after_same t bytes place k g h s.0 r.0 ∙ y-is) in
    only_way t bytes (place_behind g.frame) x n l (j ∷ gs) (i ∷ hs) s.1 o.1
    (subst (λ (f : Frame). Stand bytes (place_behind f) (i ∷ hs)) (sym same) r.1) e.1 xs
    (subst (λ z. known_behind t z (i ∷ hs) ≡ Ok l) (sym one) ys)

-- bytes begin with one module at most
pub one_module : (t : Taking) (bytes : List ℕ) (m n : Module) (v w : Widths) → IsPlainModule t bytes m v
    → IsPlainModule t bytes n w → (m ≡ n) × (v ≡ w)
one_module t bytes m n v w (gs, k, a, e, m-is, v-is) (hs, l, b, d, n-is, w-is) =
    let one = only_way t bytes 0 nothing_known k l gs hs a.stand e b.stand d a.known b.known in (
      m-is ∙ ap (λ (x : Known). module_of x.says) one ∙ sym n-is,
      v-is ∙ ap (λ (x : Known). x.widths) one ∙ sym w-is,
    )

-- ---- behind a record that isn't taken

-- what was said stays
says_more : (t : Taking) (k l : Known) (gs : List GivenRecord) → known_behind t k gs ≡ Ok l
    → (more : List Placed) × (l.says ≡ k.says ++ more)
says_more t k l [] e =
    ([], ap (λ (x : Known). x.says) (sym (one_known (Ok k) k l refl e)) ∙ sym (append-nil k.says))
says_more t k l (g ∷ gs) e =
    let (n, n-is, rest) = first_known t k l g gs e in
    let (more, more-is) = says_more t n l gs rest in
    let (said, said-is) = one_more n n-is in (
      said ++ more,
      more-is ∙ ap (λ xs. xs ++ more) said-is ∙ append_assoc k.says said more,
    )
  where
    one_more : (n : Known) → known_after t k g ≡ Ok n → (said : List Placed) × (n.says ≡ k.says ++ said)
    one_more n is = go (says_of t k.seen g.says) refl
      where
        go : (r : Result (List Record) Obstacle) → says_of t k.seen g.says ≡ r
            → (said : List Placed) × (n.says ≡ k.says ++ said)
        go (Ok found) e =
            let made =
            ap (λ x. next_of k g.frame x (seen_behind t k.seen g.says) (record_widths t k.seen g.says)) e in (
              placed g.frame found,
              ap (λ (x : Known). x.says) (sym (one_known (known_after t k g) _ n made is)),
            )
        go (Err o) e =
            absurd
            (no_known (known_after t k g) n o is
            (ap (λ x. next_of k g.frame x (seen_behind t k.seen g.says) (record_widths t k.seen g.says)) e))

refused_none : (t : Taking) (bytes : List ℕ) (place : ℕ) (k l : Known) (h : GivenRecord) (hs : List GivenRecord)
    (obstacle : RecordObstacle) → RefusedAt t bytes k place obstacle → StandsAt bytes place h
    → known_behind t k (h ∷ hs) ≡ Ok l → first_fault l.says ≡ None → ⊥
refused_none t bytes place k l h hs (why.Framing e) r s d sound =
    frame_fault (frame_at place (drop place bytes)) h.frame e s.0 r
refused_none t bytes place k l h hs why.NoEnd r s d sound = no_frame (frame_at place (drop place bytes)) h.frame s.0 r
refused_none t bytes place k l h hs (why.Body f) (frame, at, stands) s d sound =
    let e = one_frame (frame_at place (drop place bytes)) h.frame frame s.0 at in
    none_given frame.kind frame.body f h.says stands.0 stands.1
    (subst (λ (x : Frame). IsGiven x.kind x.body h.says) e s.1)
refused_none t bytes place k l h hs (why.Obstacle o) (g, at, is) s d sound =
    let (n, n-is, rest) = first_known t k l h hs d in
    let made =
    ap (λ x. next_of k g.frame x (seen_behind t k.seen g.says) (record_widths t k.seen g.says)) is in
    no_known (known_after t k h) n o n-is (sym (after_same t bytes place k g h at s) ∙ made)
refused_none t bytes place k l h hs (why.Check c) (g, at, behind) s d sound =
    let (rs, is, check) = behind in
    let (n, n-is, rest) = first_known t k l h hs d in
    let made =
    ap (λ x. next_of k g.frame x (seen_behind t k.seen g.says) (record_widths t k.seen g.says)) is in
    let n-says : n.says ≡ k.says ++ placed g.frame rs =
    ap (λ (x : Known). x.says)
    (sym (one_known (known_after t k h) _ n (sym (after_same t bytes place k g h at s) ∙ made) n-is)) in
    let (more, more-is) = says_more t n l hs rest in
    let l-says : l.says ≡ (k.says ++ placed g.frame rs) ++ more = more-is ∙ ap (λ xs. xs ++ more) n-says in
    no_check (first_fault l.says) (place, c) sound
    (ap first_fault l-says ∙ fault_stays (k.says ++ placed g.frame rs) more (place, c) check)

-- bytes with a fault begin with no module
pub no_module : (t : Taking) (bytes : List ℕ) (place : ℕ) (obstacle : RecordObstacle) (m : Module) (w : Widths)
    → IsPlainFault t bytes place obstacle → IsPlainModule t bytes m w → ⊥
no_module t bytes place obstacle m w (gs, k, a, o, at, r) (hs, l, b, e, m-is, w-is) =
    go (goes_on t bytes 0 nothing_known k l gs hs a.stand o b.stand e a.known b.known)
  where
    go : (rest : List GivenRecord) × Stand bytes (behind 0 gs) rest × AreToEnd rest × (known_behind t k rest ≡ Ok l) → ⊥
    go ([], stands, ends, known) = ends
    go (h ∷ rest, stands, ends, known) =
        refused_none t bytes place k l h rest obstacle r
        (subst (λ p. StandsAt bytes p h) (sym at) stands.0) known b.sound
