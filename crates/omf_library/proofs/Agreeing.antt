-- Files that begin with the same bytes: a record within these is the same in both.
use Rattle.std.proofs.Common.{◌≡◌, ℕ, zero, suc, ◌+◌, ◌-◌, ◌*◌, ◌<◌, ◌≤◌, inl, inr, Bool, true, false, List, [], ◌∷◌}
use Rattle.std.proofs.Common.{length, get_or, take, drop, Some, None, Ok, Err, refl, sym, ap, ◌∙◌, arith}
use Rattle.std.specs.declared.option.Option.{Option}
use Rattle.std.specs.declared.result.Result.{Result}
use Rattle.std.proofs.lemmas.Bool.{cases_lt}
use Rattle.std.proofs.lemmas.List.{drop-take, get_or-take, length-drop, length-take-le}
use Rattle.omf_frame.specs.Frame.{Frame, closes, frame_of}
use Rattle.omf_frame.specs.declared.reading.FramingFault.{FramingFault}
use Rattle.omf_library.specs.declared.fault.LibraryFault.{LibraryFault}
use Rattle.omf_library.specs.Records.{record_at, record_or_fault}
use Rattle.omf_library.proofs.Splitting.{frame_of-cut, frame_of-short, frame_of-whole, frame_of-zero, frame_with}

-- two files have so many bytes at least, and the same ones up to there
pub record Agree (n : ℕ) (a b : List ℕ) : Type 0 where
  pub left : n ≤ length a
  pub right : n ≤ length b
  pub same : take n a ≡ take n b

take_less : (k n : ℕ) (a b : List ℕ) → k ≤ n → take n a ≡ take n b → take k a ≡ take k b
take_less zero n a b less same = refl
take_less (suc k) zero a b less same = absurd (omega arith)
take_less (suc k) (suc n) [] [] less same = refl
take_less (suc k) (suc n) [] (y ∷ ys) less same = absurd (omega (arith, ap length same))
take_less (suc k) (suc n) (x ∷ xs) [] less same = absurd (omega (arith, ap length same))
take_less (suc k) (suc n) (x ∷ xs) (y ∷ ys) less same =
    let head : x ≡ y = ap (λ (l : List ℕ). get_or l 0 0) same in
    let tail : take n xs ≡ take n ys = ap (drop 1) same in
    ap (λ z. z ∷ take k xs) head ∙ ap (λ zs. y ∷ zs) (take_less k n xs ys (omega arith) tail)

pub agree_less : (k n : ℕ) (a b : List ℕ) → k ≤ n → Agree n a b → Agree k a b
agree_less k n a b less agree = record {
  left = omega (arith, agree.left);
  right = omega (arith, agree.right);
  same = take_less k n a b less agree.same;
}

pub agree_drop : (p m : ℕ) (a b : List ℕ) → Agree (p + m) a b → Agree m (drop p a) (drop p b)
agree_drop p m a b agree = record {
  left = omega (arith, length-drop p a, agree.left);
  right = omega (arith, length-drop p b, agree.right);
  same = sym (drop-take p m a) ∙ ap (drop p) agree.same ∙ drop-take p m b;
}

pub agree_at : (n i : ℕ) (a b : List ℕ) → Agree n a b → i < n → get_or b i 0 ≡ get_or a i 0
agree_at n i a b agree within =
    sym (get_or-take n b i 0 within) ∙ ap (λ l. get_or l i 0) (sym agree.same) ∙ get_or-take n a i 0 within

pub agree_range : (n p e : ℕ) (a b : List ℕ) → Agree n a b → p ≤ e → e ≤ n
    → take (e - p) (drop p a) ≡ take (e - p) (drop p b)
agree_range n p e a b agree order within =
    let parts : p + (e - p) ≤ n = omega arith in
    (agree_drop p (e - p) a b (agree_less (p + (e - p)) n a b parts agree)).same

-- ---- records

abbrev len_of : List ℕ → ℕ
len_of bytes = get_or bytes 1 0 + 256 * get_or bytes 2 0

abbrev is_closed : List ℕ → Bool
is_closed bytes =
    closes (get_or (drop 3 bytes) (len_of bytes - 1) 0)
    (get_or bytes 0 0 ∷ get_or bytes 1 0 ∷ get_or bytes 2 0 ∷ take (len_of bytes) (drop 3 bytes))

abbrev frame_in : ℕ → List ℕ → Frame
frame_in place bytes = frame_with place (get_or bytes 0 0) (take (len_of bytes - 1) (drop 3 bytes))

-- this record stands at the front of bytes
pub record Whole (place : ℕ) (bytes : List ℕ) (f : Frame) : Type 0 where
  pub some : 3 ≤ length bytes
  pub more : 0 < len_of bytes
  pub whole : len_of bytes ≤ length (drop 3 bytes)
  pub closed : is_closed bytes ≡ true
  pub is : frame_in place bytes ≡ f

abbrev has_frame : Result (Option Frame) FramingFault → ℕ
has_frame (Ok (Some f)) = 1
has_frame (Ok None) = 0
has_frame (Err e) = 0

abbrev frame_or : Frame → Result (Option Frame) FramingFault → Frame
frame_or d (Ok (Some f)) = f
frame_or d (Ok None) = d
frame_or d (Err e) = d

whole_by : (place : ℕ) (bytes : List ℕ) (f : Frame) (t : Bool) → frame_of place bytes ≡ Ok (Some f)
    → 3 ≤ length bytes → 0 < len_of bytes → len_of bytes ≤ length (drop 3 bytes) → is_closed bytes ≡ t
    → Whole place bytes f
whole_by place bytes f true is some more whole closed = record {
  some = some;
  more = more;
  whole = whole;
  closed = closed;
  is = ap (frame_or f) (sym (frame_of-whole place bytes true some more whole closed) ∙ is);
}
whole_by place bytes f false is some more whole wrong =
    absurd (omega (arith, ap has_frame (sym (frame_of-whole place bytes false some more whole wrong) ∙ is)))

pub whole_of : (place : ℕ) (bytes : List ℕ) (f : Frame) → frame_of place bytes ≡ Ok (Some f) → Whole place bytes f
whole_of place bytes f is =
    elim (cases_lt (length bytes) 3) [
      | inl few ↦ elim (frame_of-short place bytes few) [
        | inl none ↦ absurd (omega (arith, ap has_frame (sym none ∙ is)))
        | inr cut ↦ absurd (omega (arith, ap has_frame (sym cut ∙ is)))
      ]
      | inr some ↦ elim (cases_lt 0 (len_of bytes)) [
        | inr zero' ↦ absurd
            (omega (arith, ap has_frame (sym (frame_of-zero place bytes some (omega (arith, zero'))) ∙ is)))
        | inl more ↦ elim (cases_lt (length (drop 3 bytes)) (len_of bytes)) [
          | inl cut ↦ absurd (omega (arith, ap has_frame (sym (frame_of-cut place bytes some cut) ∙ is)))
          | inr whole ↦ whole_by place bytes f (is_closed bytes) is some more whole refl
        ]
      ]
    ]

-- where it ends
pub whole_end : (place : ℕ) (bytes : List ℕ) (f : Frame) → Whole place bytes f
    → length f.body + 4 ≡ len_of bytes + 3
whole_end place bytes f w =
    omega (
      arith,
      ap (λ (g : Frame). length g.body) w.is,
      length-take-le (len_of bytes - 1) (drop 3 bytes) (omega (arith, w.whole)),
      w.more,
    )

frame_same : (place n : ℕ) (a b : List ℕ) (f : Frame) → Agree n a b → frame_of place a ≡ Ok (Some f)
    → length f.body + 4 ≤ n → frame_of place b ≡ Ok (Some f)
frame_same place n a b f agree is within =
    let w = whole_of place a f is in
    let len = len_of a in
    let fits : len + 3 ≤ n = omega (arith, within, whole_end place a f w) in
    let at0 : get_or b 0 0 ≡ get_or a 0 0 = agree_at n 0 a b agree (omega (arith, fits, w.more)) in
    let at1 : get_or b 1 0 ≡ get_or a 1 0 = agree_at n 1 a b agree (omega (arith, fits, w.more)) in
    let at2 : get_or b 2 0 ≡ get_or a 2 0 = agree_at n 2 a b agree (omega (arith, fits, w.more)) in
    let len-b : len_of b ≡ len = omega (arith, at1, at2) in
    let rest = agree_drop 3 len a b (agree_less (3 + len) n a b (omega (arith, fits)) agree) in
    let body : take (len - 1) (drop 3 a) ≡ take (len - 1) (drop 3 b) =
    (agree_less (len - 1) len (drop 3 a) (drop 3 b) (omega arith) rest).same in
    let last : get_or (drop 3 b) (len - 1) 0 ≡ get_or (drop 3 a) (len - 1) 0 =
    agree_at len (len - 1) (drop 3 a) (drop 3 b) rest (omega (arith, w.more)) in
    let closed : is_closed b ≡ true =
    ap (λ n. closes (get_or (drop 3 b) (n - 1) 0) (get_or b 0 0 ∷ get_or b 1 0 ∷ get_or b 2 0 ∷ take n (drop 3 b))) len-b
    ∙ ap (λ k. closes k (get_or b 0 0 ∷ get_or b 1 0 ∷ get_or b 2 0 ∷ take len (drop 3 b))) last
    ∙ ap (λ k. closes (get_or (drop 3 a) (len - 1) 0) (k ∷ get_or b 1 0 ∷ get_or b 2 0 ∷ take len (drop 3 b))) at0
    ∙ ap (λ k. closes (get_or (drop 3 a) (len - 1) 0) (get_or a 0 0 ∷ k ∷ get_or b 2 0 ∷ take len (drop 3 b))) at1
    ∙ ap (λ k. closes (get_or (drop 3 a) (len - 1) 0) (get_or a 0 0 ∷ get_or a 1 0 ∷ k ∷ take len (drop 3 b))) at2
    ∙ ap (λ (l : List ℕ). closes (get_or (drop 3 a) (len - 1) 0) (get_or a 0 0 ∷ get_or a 1 0 ∷ get_or a 2 0 ∷ l))
    (sym rest.same)
    ∙ w.closed in
    frame_of-whole place b true (omega (arith, fits, agree.right)) (omega (arith, len-b, w.more))
    (omega (arith, len-b, rest.right)) closed
    ∙ ap (λ (g : Frame). Ok (Some g))
    (ap (λ n. frame_with place (get_or b 0 0) (take (n - 1) (drop 3 b))) len-b
    ∙ ap (λ k. frame_with place k (take (len - 1) (drop 3 b))) at0
    ∙ ap (frame_with place (get_or a 0 0)) (sym body)
    ∙ w.is)

abbrev is_frame : Result Frame LibraryFault → ℕ
is_frame (Ok f) = 1
is_frame (Err e) = 0

abbrev record_or : Frame → Result Frame LibraryFault → Frame
record_or d (Ok f) = f
record_or d (Err e) = d

found : (place : ℕ) (r : Result (Option Frame) FramingFault) (f : Frame) → record_or_fault place r ≡ Ok f
    → r ≡ Ok (Some f)
found place (Ok (Some g)) f is = ap (λ (x : Frame). Ok (Some x)) (ap (record_or g) is)
found place (Ok None) f is = absurd (omega (arith, ap is_frame is))
found place (Err e) f is = absurd (omega (arith, ap is_frame is))

-- the record at a place, by the bytes from there on
pub record_whole : (file : List ℕ) (place : ℕ) (f : Frame) → record_at file place ≡ Ok f
    → Whole place (drop place file) f
unfolding record_at
record_whole file place f is = whole_of place (drop place file) f (found place (frame_of place (drop place file)) f is)

pub record_same : (n : ℕ) (a b : List ℕ) (place : ℕ) (f : Frame) → Agree n a b → record_at a place ≡ Ok f
    → place + (length f.body + 4) ≤ n → record_at b place ≡ Ok f
unfolding record_at
record_same n a b place f agree is within =
    let len = length f.body + 4 in
    ap (record_or_fault place)
    (frame_same place len (drop place a) (drop place b) f
    (agree_drop place len a b (agree_less (place + len) n a b within agree))
    (found place (frame_of place (drop place a)) f is) (omega arith))
