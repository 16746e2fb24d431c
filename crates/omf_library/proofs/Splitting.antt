-- The record at the front of bytes, by its parts.
use Rattle.std.proofs.Common.{◌≡◌, ◌≢◌, ℕ, ◌+◌, ◌-◌, ◌*◌, ◌/◌, ◌%◌, ◌<◌, ◌≤◌, ◌⊎◌, inl, inr, Bool, true, false, ◌||◌}
use Rattle.std.proofs.Common.{List, [], ◌∷◌, ◌++◌, length, get_or, take, drop, sum, cond, eqb, ltb, Some, None, Ok, Err}
use Rattle.std.proofs.Common.{refl, sym, ap, ◌∙◌, arith}
use Rattle.std.specs.declared.option.Option.{Option}
use Rattle.std.specs.declared.result.Result.{Result}
use Rattle.std.proofs.lemmas.List.{length-take-le, take_more}
use Rattle.std.proofs.lemmas.List.Sums.{sum_by-append}
use Rattle.std.proofs.lemmas.Bool.{lt-ltb, le-ltb, eq-eqb, ne_eqb}
use Rattle.omf_frame.specs.Frame.{Frame, closes, header, closing_byte, frame_of}
use Rattle.omf_frame.specs.declared.reading.FramingFault.{FramingFault}
use Rattle.omf_frame.specs.declared.reading.FramingFault.TheVariants as framing
use Rattle.std.specs.Borrow.{Bor}
use Rattle.omf_library.specs.declared.fault.FormatFault.TheVariants.{ZeroLength, Truncated, Closing}
use Rattle.omf_library.specs.Records.{record_or_fault}
use Rattle.omf_library.specs.inside.Views.{IsSplit}

abbrev pub frame_with : ℕ → ℕ → List ℕ → Frame
frame_with place kind body = record { place = place; kind = kind; body = body }

-- what the bytes behind a header make it
abbrev framed : ℕ → ℕ → ℕ → ℕ → List ℕ → Result (Option Frame) FramingFault
framed place kind low high rest =
    let len = low + 256 * high in
    cond (eqb len 0) (Err framing.ZeroLength) (cond (ltb (length rest) len) (Err framing.Truncated)
    (cond (closes (get_or rest (len - 1) 0) (kind ∷ low ∷ high ∷ take len rest))
    (Ok (Some (frame_with place kind (take (len - 1) rest)))) (Err framing.Closing)))

frame_of-framed : (place : ℕ) (bytes : List ℕ) → 3 ≤ length bytes
    → frame_of place bytes ≡ framed place (get_or bytes 0 0) (get_or bytes 1 0) (get_or bytes 2 0) (drop 3 bytes)
unfolding frame_of
frame_of-framed place [] some = absurd (omega arith)
frame_of-framed place (a ∷ []) some = absurd (omega arith)
frame_of-framed place (a ∷ b ∷ []) some = absurd (omega arith)
frame_of-framed place (a ∷ b ∷ c ∷ rest) some = refl

-- no header stands in so few bytes
pub frame_of-short : (place : ℕ) (bytes : List ℕ) → length bytes < 3
    → (frame_of place bytes ≡ Ok None) ⊎ (frame_of place bytes ≡ Err framing.Truncated)
unfolding frame_of
frame_of-short place [] few = inl refl
frame_of-short place (a ∷ []) few = inr refl
frame_of-short place (a ∷ b ∷ []) few = inr refl
frame_of-short place (a ∷ b ∷ c ∷ rest) few = absurd (omega arith)

pub frame_of-zero : (place : ℕ) (bytes : List ℕ) → 3 ≤ length bytes → get_or bytes 1 0 + 256 * get_or bytes 2 0 ≡ 0
    → frame_of place bytes ≡ Err framing.ZeroLength
frame_of-zero place bytes some e =
    let len = get_or bytes 1 0 + 256 * get_or bytes 2 0 in
    frame_of-framed place bytes some ∙ rw (eq-eqb len 0 e) refl

pub frame_of-cut : (place : ℕ) (bytes : List ℕ) → 3 ≤ length bytes
    → length (drop 3 bytes) < get_or bytes 1 0 + 256 * get_or bytes 2 0 → frame_of place bytes ≡ Err framing.Truncated
frame_of-cut place bytes some cut =
    let len = get_or bytes 1 0 + 256 * get_or bytes 2 0 in
    frame_of-framed place bytes some
    ∙ rw (ne_eqb len 0 (λ z. omega (arith, z, cut)), lt-ltb (length (drop 3 bytes)) len cut) refl

pub frame_of-whole : (place : ℕ) (bytes : List ℕ) (t : Bool) → 3 ≤ length bytes
    → 0 < get_or bytes 1 0 + 256 * get_or bytes 2 0
    → get_or bytes 1 0 + 256 * get_or bytes 2 0 ≤ length (drop 3 bytes)
    → closes (get_or (drop 3 bytes) (get_or bytes 1 0 + 256 * get_or bytes 2 0 - 1) 0)
    (get_or bytes 0 0 ∷ get_or bytes 1 0 ∷ get_or bytes 2 0
    ∷ take (get_or bytes 1 0 + 256 * get_or bytes 2 0) (drop 3 bytes)) ≡ t
    → frame_of place bytes
    ≡ cond t
    (Ok (Some
    (frame_with place (get_or bytes 0 0) (take (get_or bytes 1 0 + 256 * get_or bytes 2 0 - 1) (drop 3 bytes)))))
    (Err framing.Closing)
frame_of-whole place bytes t some more whole e =
    let len = get_or bytes 1 0 + 256 * get_or bytes 2 0 in
    frame_of-framed place bytes some
    ∙ rw (ne_eqb len 0 (λ z. omega (arith, z, more)), le-ltb (length (drop 3 bytes)) len whole, e) refl

-- ---- the closing byte

sum-last : (xs : List ℕ) (y : ℕ) → sum (xs ++ y ∷ []) ≡ sum xs + y
sum-last xs y =
    let e : sum (xs ++ y ∷ []) ≡ sum xs + (0 + y) = sum_by-append (λ x. x) xs (y ∷ []) in
    omega (arith, e)

-- the bytes behind the header are the body and the closing byte
block_is : (len : ℕ) (rest : List ℕ) → 0 < len → len ≤ length rest
    → take len rest ≡ take (len - 1) rest ++ get_or rest (len - 1) 0 ∷ []
block_is len rest more whole =
    let n : (len - 1) + 1 ≡ len = omega arith in
    ap (λ k. take k rest) (sym n) ∙ take_more rest (len - 1) 0 (omega arith)

-- a record's bytes, and the sum of those before the closing one
record_is : (kind low high : ℕ) (rest : List ℕ) → low < 256 → 0 < low + 256 * high → low + 256 * high ≤ length rest
    → kind ∷ low ∷ high ∷ take (low + 256 * high) rest
    ≡ (header kind (take (low + 256 * high - 1) rest) ++ take (low + 256 * high - 1) rest)
    ++ get_or rest (low + 256 * high - 1) 0 ∷ []
record_is kind low high rest fits more whole =
    let len = low + 256 * high in
    let body = take (len - 1) rest in
    let body_len : length body + 1 ≡ len =
    ap (λ k. k + 1) (length-take-le (len - 1) rest (omega arith)) ∙ omega arith in
    let low-is : low ≡ (length body + 1) % 256 = omega (arith, body_len) in
    let high-is : high ≡ (length body + 1) / 256 = omega (arith, body_len) in
    ap (λ (l : List ℕ). kind ∷ low ∷ high ∷ l) (block_is len rest more whole)
    ∙ ap (λ k. kind ∷ k ∷ high ∷ (body ++ get_or rest (len - 1) 0 ∷ [])) low-is
    ∙ ap (λ k. kind ∷ (length body + 1) % 256 ∷ k ∷ (body ++ get_or rest (len - 1) 0 ∷ [])) high-is

closes-sum : (front : List ℕ) (last : ℕ)
    → closes last (front ++ last ∷ []) ≡ (eqb last 0 || eqb ((sum front + last) % 256) 0)
closes-sum front last = ap (λ n. eqb last 0 || eqb (n % 256) 0) (sum-last front last)

sums_to : (s last : ℕ) → last < 256 → last ≡ (256 - s % 256) % 256 → (s + last) % 256 ≡ 0
sums_to s last fits e = omega (arith, e)

or-true : (b : Bool) → (b || true) ≡ true
or-true true = refl
or-true false = refl

closed : (s last : ℕ) → last < 256 → (last ≡ 0) ⊎ (last ≡ (256 - s % 256) % 256)
    → (eqb last 0 || eqb ((s + last) % 256) 0) ≡ true
closed s last fits (inl e) = ap (λ t. t || eqb ((s + last) % 256) 0) (eq-eqb last 0 e)
closed s last fits (inr e) =
    ap (λ t. eqb last 0 || t) (eq-eqb ((s + last) % 256) 0 (sums_to s last fits e)) ∙ or-true (eqb last 0)

not_closed : (s last : ℕ) → last < 256 → last ≢ 0 → last ≢ (256 - s % 256) % 256
    → (eqb last 0 || eqb ((s + last) % 256) 0) ≡ false
not_closed s last fits some other =
    let wrong : (s + last) % 256 ≢ 0 = λ z. other (omega (arith, z)) in
    ap (λ t. t || eqb ((s + last) % 256) 0) (ne_eqb last 0 some) ∙ ne_eqb ((s + last) % 256) 0 wrong

-- ---- whole records, closed or not

pub frame_of-closed : (place : ℕ) (bytes : List ℕ) → 3 ≤ length bytes → get_or bytes 1 0 < 256
    → 0 < get_or bytes 1 0 + 256 * get_or bytes 2 0
    → get_or bytes 1 0 + 256 * get_or bytes 2 0 ≤ length (drop 3 bytes)
    → get_or (drop 3 bytes) (get_or bytes 1 0 + 256 * get_or bytes 2 0 - 1) 0 < 256
    → (get_or (drop 3 bytes) (get_or bytes 1 0 + 256 * get_or bytes 2 0 - 1) 0 ≡ 0)
    ⊎ (get_or (drop 3 bytes) (get_or bytes 1 0 + 256 * get_or bytes 2 0 - 1) 0
    ≡ closing_byte (get_or bytes 0 0) (take (get_or bytes 1 0 + 256 * get_or bytes 2 0 - 1) (drop 3 bytes)))
    → frame_of place bytes
    ≡ Ok
    (Some (record {
      place = place;
      kind = get_or bytes 0 0;
      body = take (get_or bytes 1 0 + 256 * get_or bytes 2 0 - 1) (drop 3 bytes);
    }))
frame_of-closed place bytes some low_fits more whole last_fits either =
    let kind = get_or bytes 0 0 in
    let low = get_or bytes 1 0 in
    let high = get_or bytes 2 0 in
    let rest = drop 3 bytes in
    let len = low + 256 * high in
    let body = take (len - 1) rest in
    let last = get_or rest (len - 1) 0 in
    let front = header kind body ++ body in
    frame_of-whole place bytes true some more whole
    (ap (closes last) (record_is kind low high rest low_fits more whole) ∙ closes-sum front last
    ∙ closed (sum front) last last_fits either)

pub frame_of-open : (place : ℕ) (bytes : List ℕ) → 3 ≤ length bytes → get_or bytes 1 0 < 256
    → 0 < get_or bytes 1 0 + 256 * get_or bytes 2 0
    → get_or bytes 1 0 + 256 * get_or bytes 2 0 ≤ length (drop 3 bytes)
    → get_or (drop 3 bytes) (get_or bytes 1 0 + 256 * get_or bytes 2 0 - 1) 0 < 256
    → get_or (drop 3 bytes) (get_or bytes 1 0 + 256 * get_or bytes 2 0 - 1) 0 ≢ 0
    → get_or (drop 3 bytes) (get_or bytes 1 0 + 256 * get_or bytes 2 0 - 1) 0
    ≢ closing_byte (get_or bytes 0 0) (take (get_or bytes 1 0 + 256 * get_or bytes 2 0 - 1) (drop 3 bytes))
    → frame_of place bytes ≡ Err framing.Closing
frame_of-open place bytes some low_fits more whole last_fits nonzero other =
    let kind = get_or bytes 0 0 in
    let low = get_or bytes 1 0 in
    let high = get_or bytes 2 0 in
    let rest = drop 3 bytes in
    let len = low + 256 * high in
    let body = take (len - 1) rest in
    let last = get_or rest (len - 1) 0 in
    let front = header kind body ++ body in
    frame_of-whole place bytes false some more whole
    (ap (closes last) (record_is kind low high rest low_fits more whole) ∙ closes-sum front last
    ∙ not_closed (sum front) last last_fits nonzero other)

-- ---- what the parts of the bytes make them

pub split_short : (bytes : List ℕ) → length bytes < 3 → IsSplit bytes (Err Truncated)
split_short bytes few = record {
  same = λ place. elim (frame_of-short place bytes few) [
    | inl e ↦ sym (ap (record_or_fault place) e)
    | inr e ↦ sym (ap (record_or_fault place) e)
  ];
  fits = tt;
}

pub split_zero : (bytes : List ℕ) → 3 ≤ length bytes → get_or bytes 1 0 + 256 * get_or bytes 2 0 ≡ 0
    → IsSplit bytes (Err ZeroLength)
split_zero bytes some e = record {
  same = λ place. sym (ap (record_or_fault place) (frame_of-zero place bytes some e));
  fits = tt;
}

pub split_cut : (bytes : List ℕ) → 3 ≤ length bytes → length (drop 3 bytes) < get_or bytes 1 0 + 256 * get_or bytes 2 0
    → IsSplit bytes (Err Truncated)
split_cut bytes some cut = record {
  same = λ place. sym (ap (record_or_fault place) (frame_of-cut place bytes some cut));
  fits = tt;
}

pub split_open : (bytes : List ℕ) → 3 ≤ length bytes → get_or bytes 1 0 < 256
    → 0 < get_or bytes 1 0 + 256 * get_or bytes 2 0
    → get_or bytes 1 0 + 256 * get_or bytes 2 0 ≤ length (drop 3 bytes)
    → get_or (drop 3 bytes) (get_or bytes 1 0 + 256 * get_or bytes 2 0 - 1) 0 < 256
    → get_or (drop 3 bytes) (get_or bytes 1 0 + 256 * get_or bytes 2 0 - 1) 0 ≢ 0
    → get_or (drop 3 bytes) (get_or bytes 1 0 + 256 * get_or bytes 2 0 - 1) 0
    ≢ closing_byte (get_or bytes 0 0) (take (get_or bytes 1 0 + 256 * get_or bytes 2 0 - 1) (drop 3 bytes))
    → IsSplit bytes (Err Closing)
split_open bytes some low_fits more whole last_fits nonzero other = record {
  same =
      λ place.
      sym (ap (record_or_fault place) (frame_of-open place bytes some low_fits more whole last_fits nonzero other));
  fits = tt;
}

pub split_whole : (bytes : List ℕ) (kind : ℕ) (body : Bor (List ℕ)) → 3 ≤ length bytes → get_or bytes 1 0 < 256
    → get_or bytes 2 0 < 256 → 0 < get_or bytes 1 0 + 256 * get_or bytes 2 0
    → get_or bytes 1 0 + 256 * get_or bytes 2 0 ≤ length (drop 3 bytes)
    → get_or (drop 3 bytes) (get_or bytes 1 0 + 256 * get_or bytes 2 0 - 1) 0 < 256
    → (get_or (drop 3 bytes) (get_or bytes 1 0 + 256 * get_or bytes 2 0 - 1) 0 ≡ 0)
    ⊎ (get_or (drop 3 bytes) (get_or bytes 1 0 + 256 * get_or bytes 2 0 - 1) 0
    ≡ closing_byte (get_or bytes 0 0) (take (get_or bytes 1 0 + 256 * get_or bytes 2 0 - 1) (drop 3 bytes)))
    → kind ≡ get_or bytes 0 0 → body.now ≡ take (get_or bytes 1 0 + 256 * get_or bytes 2 0 - 1) (drop 3 bytes)
    → IsSplit bytes (Ok (kind, body))
split_whole bytes kind body some low_fits high_fits more whole last_fits either k b = record {
  same =
      λ place.
      rw (k, b)
      (sym (ap (record_or_fault place) (frame_of-closed place bytes some low_fits more whole last_fits either)));
  fits =
      rw b
      (omega (
        arith,
        low_fits,
        high_fits,
        length-take-le (get_or bytes 1 0 + 256 * get_or bytes 2 0 - 1) (drop 3 bytes) (omega (arith, whole)),
      ));
}
