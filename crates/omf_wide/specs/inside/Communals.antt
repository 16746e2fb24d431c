-- What an entry of COMDEF is made of: a number of the first byte and what that says stands behind it, and so a data type.
use Rattle.std.proofs.Common.{◌≡◌, ◌≢◌, ℕ, ◌+◌, ◌*◌, ◌/◌, ◌%◌, ◌<◌, ◌≤◌, ◌⊎◌, inl, inr, cond, eqb, ltb, ◌||◌}
use Rattle.std.proofs.Common.{true, List, [], ◌∷◌, ◌++◌, length, Option, Some, None, refl, sym, ap, subst, ◌∙◌, append-nil, arith}
use Rattle.std.proofs.lemmas.Bool.{cases_lt, lt-ltb, le-ltb, eqb-true, eqb-false}
use Rattle.std.proofs.lemmas.List.{length-append}
use Rattle.omf_codec.specs.Language.{◌⋆◌ as Joined, One, Byte, Little}
use Rattle.omf_codec.specs.inside.Canonical as canon
use Rattle.omf_codec.specs.inside.Format.{join, Format, Lawful, Completes, IsFilled, IsMade, Splits, free}
use Rattle.omf_codec.specs.inside.FormatLaws.{both, both_lawful, both_blank, both_filled, behind, behind_lawful, behind_blank}
use Rattle.omf_codec.specs.inside.FormatLaws.{behind_filled, when, when_lawful, when_blank, bits_at, map_option, map_same}
use Rattle.omf_codec.specs.inside.FormatLaws.{made_lawful, made_blank, made_filled, exact}
use Rattle.omf_codec.specs.inside.Heads.{ByHead, joined, by_head, by_head_lawful, by_head_blank}
use Rattle.omf_codec.specs.inside.Numbers.{double, number_lawful, number_blank}
use Rattle.omf_codec.specs.inside.PrimitiveLaws.{byte, byte_lawful, byte_blank, word, word_lawful, word_blank, index}
use Rattle.omf_codec.specs.inside.PrimitiveLaws.{index_lawful, index_blank, name, name_lawful, name_filled, name_blank}
use Rattle.omf_codec.specs.inside.PrimitiveLaws.{fact_byte, fact_byte_lawful, fact_byte_blank, fact_byte_filled}
use Rattle.omf_wide.specs.Communals.{CountText, ExtentText, CommunalText, Communal, plain_communal}
use Rattle.omf_wide.specs.declared.communals.Communal as lent
use Rattle.omf_wide.specs.declared.communals.Extent.{Extent}
use Rattle.omf_wide.specs.declared.communals.Extent.TheVariants.{Near, Far, Other}

-- ---- numbers

-- the bytes that begin a number
abbrev pub IsCount : ℕ → Type 0
IsCount b = (b ≤ 0x81) ⊎ ((b ≡ 0x84) ⊎ (b ≡ 0x88))

pub count_zero : IsCount 0
count_zero = inl (omega arith)

-- two bytes, three or four behind the first one
abbrev pub CountTail : Type 0
CountTail = Option ℕ × (Option (ℕ × ℕ) × Option ℕ)

abbrev pub CountBehind : ℕ → Format CountTail CountTail
CountBehind b = both (when (bits_at 1 256 b ≡ 0x81) word)
    (both (when (bits_at 1 256 b ≡ 0x84) (both byte word)) (when (bits_at 1 256 b ≡ 0x88) double))

abbrev pub CountParts : Format (ℕ × CountTail) (ℕ × CountTail)
CountParts = behind (fact_byte IsCount) CountBehind (λ rest. Unit {0})

-- the number that its first byte and what stands behind it say
abbrev pub count_of : ℕ → CountTail → ℕ
count_of b (Some n, (x, y)) = n
count_of b (None, (Some (low, high), y)) = low + 256 * high
count_of b (None, (None, Some n)) = n
count_of b (None, (None, None)) = b % 256

-- the first byte of the shortest text
abbrev pub count_head : ℕ → ℕ
count_head n = cond (ltb n 129) n (cond (ltb n 65536) 0x81 (cond (ltb n 16777216) 0x84 0x88))

-- and what stands behind it
abbrev pub count_tail : ℕ → CountTail
count_tail n = cond (ltb n 129) (None, (None, None))
    (cond (ltb n 65536) (Some n, (None, None))
    (cond (ltb n 16777216) (None, (Some (n % 256, n / 256), None)) (None, (None, Some n))))

-- numbers
abbrev pub count : Format ℕ ℕ
count = free (λ n. n) CountText (λ n. CountParts.canonical (count_head n, count_tail n))

only_first : {L M : List ℕ → Type 0} {text : List ℕ} (j : Joined L M text) → j.rest ≡ [] → text ≡ j.front
only_first j e = j.parts ∙ ap (λ (t : List ℕ). j.front ++ t) e ∙ append-nil j.front

only_rest : {L M : List ℕ → Type 0} {text : List ℕ} (j : Joined L M text) → j.front ≡ [] → text ≡ j.rest
only_rest j e = j.parts ∙ ap (λ (t : List ℕ). t ++ j.rest) e

count_to : (x : ℕ × CountTail) (text : List ℕ) → CountParts.Text x text → CountText (count_of x.0 x.1) text
count_to (b, (Some n, (Some m, y))) text j =
    absurd (let a = j.second.first.0 in let k = j.second.second.first.0 in omega (arith, a, k))
count_to (b, (Some n, (None, Some m))) text j =
    absurd (let a = j.second.first.0 in let k = j.second.second.second.0 in omega (arith, a, k))
count_to (b, (Some n, (None, None))) text j =
    let a = j.second.first.0 in
    let lt = j.first.1.0 in
    let is : b ≡ 0x81 = omega (arith, a, lt) in
    let k = j.second in
    let rest-is : j.rest ≡ k.front = only_first k (only_rest k.second k.second.first.1 ∙ k.second.second.1) in
    inr (inl (joined j (subst (λ n. Byte n j.front) is j.first.1) (subst (Little 2 n) (sym rest-is) k.first.1)))
count_to (b, (None, (Some (low, high), Some m))) text j =
    absurd (let a = j.second.second.first.0 in let k = j.second.second.second.0 in omega (arith, a, k))
count_to (b, (None, (Some (low, high), None))) text j =
    let a = j.second.second.first.0 in
    let lt = j.first.1.0 in
    let is : b ≡ 0x84 = omega (arith, a, lt) in
    let k = j.second in
    let m = k.second.first.1 in
    let rest-is : j.rest ≡ k.second.front = only_rest k k.first.1 ∙ only_first k.second k.second.second.1 in
    inr (inr (inl (joined j (subst (λ n. Byte n j.front) is j.first.1)
    (subst (Little 3 (low + 256 * high)) (sym rest-is) (three low high k.second.front m)))))
  where
    three : (low high : ℕ) (text : List ℕ) → (both byte word).Text (low, high) text → Little 3 (low + 256 * high) text
    three low high text j = grind (arith, j)
count_to (b, (None, (None, Some n))) text j =
    let a = j.second.second.second.0 in
    let lt = j.first.1.0 in
    let is : b ≡ 0x88 = omega (arith, a, lt) in
    let k = j.second in
    let rest-is : j.rest ≡ k.second.rest = only_rest k k.first.1 ∙ only_rest k.second k.second.first.1 in
    inr (inr (inr (joined j (subst (λ n. Byte n j.front) is j.first.1)
    (subst (Little 4 n) (sym rest-is) k.second.second.1))))
count_to (b, (None, (None, None))) text j =
    let k = j.second in
    let a = k.first.0 in
    let c = k.second.first.0 in
    let d = k.second.second.0 in
    let lt = j.first.1.0 in
    let h = j.first.0 in
    let le : b ≤ 0x80 = grind (arith, a, c, d, lt, h) in
    let text-is : text ≡ j.front = only_first j (only_rest k k.first.1 ∙ only_rest k.second k.second.first.1
    ∙ k.second.second.1) in
    let is : b ≡ b % 256 = omega (arith, le) in
    inl (omega (arith, le), text-is ∙ j.first.1.1 ∙ ap (λ n. n ∷ []) is)

-- ---- each text by its parts

of_one : (n : ℕ) (text : List ℕ) → n ≤ 0x80 → text ≡ n ∷ [] → CountParts.Text (n, (None, (None, None))) text
of_one n text le is =
    join (n ∷ []) [] is (inl (omega (arith, le)), (omega (arith, le), refl))
    (join [] [] refl ((λ e. omega (arith, le, e)), refl)
    (join [] [] refl ((λ e. omega (arith, le, e)), refl) ((λ e. omega (arith, le, e)), refl)))

of_two : (n : ℕ) (text : List ℕ) → Joined (Byte 0x81) (Little 2 n) text
    → CountParts.Text (0x81, (Some n, (None, None))) text
of_two n text j =
    joined j (inl (omega arith), j.first)
    (join j.rest [] (sym (append-nil j.rest)) (refl, j.second)
    (join [] [] refl ((λ e. omega (arith, e)), refl) ((λ e. omega (arith, e)), refl)))

of_three : (n : ℕ) (text : List ℕ) → Joined (Byte 0x84) (Little 3 n) text
    → CountParts.Text (0x84, (None, (Some (n % 256, n / 256), None))) text
of_three n text j =
    let m = j.second in
    let small = m.0 in
    joined j (inr (inl refl), j.first)
    (join [] j.rest refl ((λ e. omega (arith, e)), refl)
    (join j.rest [] (sym (append-nil j.rest)) (
      refl,
      join (n % 256 ∷ []) (canon.word (n / 256)) m.1 (omega arith, refl) (omega (arith, small), refl),
    ) ((λ e. omega (arith, e)), refl)))

of_four : (n : ℕ) (text : List ℕ) → Joined (Byte 0x88) (Little 4 n) text
    → CountParts.Text (0x88, (None, (None, Some n))) text
of_four n text j =
    joined j (inr (inr refl), j.first)
    (join [] j.rest refl ((λ e. omega (arith, e)), refl)
    (join [] j.rest refl ((λ e. omega (arith, e)), refl) (refl, j.second)))

count_from : (n : ℕ) (text : List ℕ) → CountText n text → (x : ℕ × CountTail) × (count_of x.0 x.1 ≡ n)
    × CountParts.Text x text
count_from n text (inl l) = let le = l.0 in ((n, (None, (None, None))), omega (arith, le), of_one n text l.0 l.1)
count_from n text (inr (inl j)) = ((0x81, (Some n, (None, None))), refl, of_two n text j)
count_from n text (inr (inr (inl j))) =
    ((0x84, (None, (Some (n % 256, n / 256), None))), omega arith, of_three n text j)
count_from n text (inr (inr (inr j))) = ((0x88, (None, (None, Some n))), refl, of_four n text j)

-- ---- the shortest text

count_back : (n : ℕ) → count_of (count_head n) (count_tail n) ≡ n
count_back n =
    elim (cases_lt n 129) [
      | inl lt ↦ rw (lt-ltb n 129 lt) (omega (arith, lt))
      | inr ge ↦ rw (le-ltb n 129 ge) (elim (cases_lt n 65536) [
        | inl lt ↦ rw (lt-ltb n 65536 lt) refl
        | inr ge ↦ rw (le-ltb n 65536 ge) (elim (cases_lt n 16777216) [
          | inl lt ↦ rw (lt-ltb n 16777216 lt) (omega arith)
          | inr ge ↦ rw (le-ltb n 16777216 ge) refl
        ])
      ])
    ]

-- how long a text of the number is at least, and below what the number is
abbrev IsLong : ℕ → List ℕ → Type 0
IsLong n text = (0 < length text) × (129 ≤ n → 3 ≤ length text) × (65536 ≤ n → 4 ≤ length text)
    × (16777216 ≤ n → 5 ≤ length text) × (n < 4294967296)

long : (n : ℕ) (text : List ℕ) → CountText n text → IsLong n text
long n text (inl l) =
    let e = ap length l.1 in let le = l.0 in
    (omega (arith, e), (λ h. omega (arith, h, le)), (λ h. omega (arith, h, le)), (λ h. omega (arith, h, le)), omega (arith, le))
long n text (inr (inl j)) =
    let small = j.second.0 in
    let e = ap length j.parts ∙ length-append j.front j.rest in
    let f = ap length j.first.1 in
    let g = ap length j.second.1 in (
      omega (arith, e, f),
      (λ h. omega (arith, e, f, g)),
      (λ h. omega (arith, h, small)),
      (λ h. omega (arith, h, small)),
      omega (arith, small),
    )
long n text (inr (inr (inl j))) =
    let small = j.second.0 in
    let e = ap length j.parts ∙ length-append j.front j.rest in
    let f = ap length j.first.1 in
    let g = ap length j.second.1 in (
      omega (arith, e, f),
      (λ h. omega (arith, e, f, g)),
      (λ h. omega (arith, e, f, g)),
      (λ h. omega (arith, h, small)),
      omega (arith, small),
    )
long n text (inr (inr (inr j))) =
    let small = j.second.0 in
    let e = ap length j.parts ∙ length-append j.front j.rest in
    let f = ap length j.first.1 in
    let g = ap length j.second.1 in (
      omega (arith, e, f),
      (λ h. omega (arith, e, f, g)),
      (λ h. omega (arith, e, f, g)),
      (λ h. omega (arith, e, f, g)),
      omega (arith, small),
    )

-- these bytes are a text of these parts, and so short
abbrev Short : ℕ × CountTail → ℕ → Type 0
Short x most = (short : List ℕ) × CountParts.Text x short × (length short ≤ most)

behind_byte : (b : ℕ) (rest : List ℕ) {L : List ℕ → Type 0} → b < 256 → L rest → Joined (Byte b) L (b ∷ rest)
behind_byte b rest lt l = join (b ∷ []) rest refl (lt, refl) l

count_best : (n : ℕ) (text : List ℕ) → IsLong n text → Short (count_head n, count_tail n) (length text)
count_best n text h =
    elim (cases_lt n 129) [
      | inl lt ↦ rw (lt-ltb n 129 lt) (n ∷ [], of_one n _ (omega (arith, lt)) refl, omega (arith, h.0))
      | inr ge ↦ rw (le-ltb n 129 ge) (elim (cases_lt n 65536) [
        | inl lt ↦ rw (lt-ltb n 65536 lt) (
          0x81 ∷ n % 256 ∷ n / 256 ∷ [],
          of_two n _ (behind_byte 0x81 _ (omega arith) (omega (arith, lt), refl)),
          omega (arith, h.1 ge),
        )
        | inr ge' ↦ rw (le-ltb n 65536 ge') (elim (cases_lt n 16777216) [
          | inl lt ↦ rw (lt-ltb n 16777216 lt) (
            0x84 ∷ n % 256 ∷ n / 256 % 256 ∷ n / 256 / 256 ∷ [],
            of_three n _ (behind_byte 0x84 _ (omega arith) (omega (arith, lt), refl)),
            omega (arith, h.2 ge'),
          )
          | inr far ↦ rw (le-ltb n 16777216 far) (
            0x88 ∷ n % 256 ∷ n / 256 % 256 ∷ n / 256 / 256 % 256 ∷ n / 256 / 256 / 256 ∷ [],
            of_four n _ (behind_byte 0x88 _ (omega arith) (omega (arith, h.4), refl)),
            omega (arith, h.3 far),
          )
        ])
      ])
    ]

pub count_splits : (n : ℕ) → Splits CountParts count (count_head n, count_tail n) n
count_splits n = record {
  to = λ text l. (subst (λ m. CountText m text) (count_back n) (count_to (count_head n, count_tail n) text l), refl);
  best = λ text l. count_best n text (long n text l);
}

pub count_made : IsMade CountParts count
count_made = record {
  made = λ x. count_of x.0 x.1;
  split = λ n. (count_head n, count_tail n);
  to = count_to;
  from = count_from;
  splits = count_splits;
  free = λ r. tt;
}

count_behind_lawful : (b : ℕ) → Lawful (CountBehind b)
count_behind_lawful b = both_lawful _ (when_lawful (bits_at 1 256 b ≡ 0x81) word word_lawful (λ r. tt)) (λ r. tt) _
    (both_lawful _ (when_lawful (bits_at 1 256 b ≡ 0x84) _ (both_lawful byte byte_lawful (λ r. tt) word word_lawful)
    (λ r. tt)) (λ r. tt) _ (when_lawful (bits_at 1 256 b ≡ 0x88) double (number_lawful true) (λ r. tt)))

count_behind_blank : (b : ℕ) → Completes (CountBehind b) []
count_behind_blank b =
    let two = when (bits_at 1 256 b ≡ 0x81) word in
    let three = when (bits_at 1 256 b ≡ 0x84) (both byte word) in
    let four = when (bits_at 1 256 b ≡ 0x88) double in
    both_blank two (both three four) (when_blank (bits_at 1 256 b) 0x81 word word_blank)
    (both_blank three four (when_blank (bits_at 1 256 b) 0x84 (both byte word) (both_blank byte word byte_blank word_blank))
    (when_blank (bits_at 1 256 b) 0x88 double (number_blank true)))

pub count_lawful : Lawful count
count_lawful = made_lawful CountParts count count_made
    (behind_lawful (fact_byte IsCount) CountBehind (λ rest. Unit {0}) (fact_byte_lawful IsCount) (λ r. tt)
    count_behind_lawful (λ b rest u. tt)) (λ r. tt)

pub count_blank : Completes count []
count_blank = made_blank CountParts count count_made
    (behind_blank (fact_byte IsCount) CountBehind (λ rest. Unit {0}) (fact_byte_blank IsCount count_zero)
    count_behind_blank)

-- the view of the parts is they themselves
pub count_view : (b : ℕ) (x : CountTail) → (CountBehind b).view x ≡ x
count_view b x = rw (
  map_same (λ x. x) (λ x. refl) x.0,
  map_same (λ x. x) (λ x. refl) x.1.0,
  map_same (λ x. x) (λ x. refl) x.1.1,
) refl

pub count_make : (x : ℕ × CountTail) (text : List ℕ) → CountParts.Text (CountParts.view x) text
    → CountText (count_of x.0 x.1) text
count_make (b, x) text l = count_to (b, x) text (subst (λ y. CountParts.Text (b, y) text) (count_view b x) l)

pub count_split : (n : ℕ) → Splits CountParts count (CountParts.view (count_head n, count_tail n)) n
count_split n =
    subst (λ x. Splits CountParts count (count_head n, x) n) (sym (count_view (count_head n) (count_tail n)))
    (count_splits n)

-- ---- data types

-- any byte is one; the code of one that none has begins nothing
abbrev pub IsDataType : ℕ → Type 0
IsDataType b = b < 256

pub data_type_zero : IsDataType 0
data_type_zero = omega arith

-- the numbers behind it: two where it is far, one where it is near
abbrev pub ExtentTail : Type 0
ExtentTail = Option (ℕ × ℕ) × Option ℕ

abbrev pub ExtentBehind : ℕ → Format ExtentTail ExtentTail
ExtentBehind b = both (when (bits_at 1 256 b ≡ 0x61) (both count count)) (when (bits_at 1 256 b ≡ 0x62) count)

-- what a data type and its numbers say
abbrev pub extent_of : ℕ → ExtentTail → Extent
extent_of b (Some (elements, size), x) = Far elements size
extent_of b (None, Some n) = Near n
extent_of b (None, None) = Other (b % 256)

-- its byte
abbrev pub extent_head : Extent → ℕ
extent_head (Near n) = 0x62
extent_head (Far elements size) = 0x61
extent_head (Other b) = cond (eqb b 0x61 || eqb b 0x62) 256 b

abbrev pub extent_tail : Extent → ExtentTail
extent_tail (Near n) = (None, Some n)
extent_tail (Far elements size) = (Some (elements, size), None)
extent_tail (Other b) = (None, None)

-- the shortest text
abbrev pub extent_text : Extent → List ℕ
extent_text (Near n) = 0x62 ∷ count.canonical n
extent_text (Far elements size) = 0x61 ∷ (count.canonical elements ++ count.canonical size)
extent_text (Other b) = b ∷ []

abbrev Bits : Extent → ℕ → Type 0
Bits (Near n) b = b ≡ 0x62
Bits (Far elements size) b = b ≡ 0x61
Bits (Other t) b = (b ≡ t) × (t < 256) × (t ≢ 0x61) × (t ≢ 0x62)

abbrev Tail : Extent → List ℕ → Type 0
Tail (Near n) = CountText n
Tail (Far elements size) = Joined (CountText elements) (CountText size)
Tail (Other t) = λ text. text ≡ []

to : (b : ℕ) (x : ExtentTail) (text : List ℕ) → b < 256 → IsDataType b → (ExtentBehind b).Text x text
    → Bits (extent_of b x) b × Tail (extent_of b x) text
to b (Some (elements, size), Some n) text lt h j =
    absurd (let a = j.first.0 in let k = j.second.0 in omega (arith, a, k))
to b (Some (elements, size), None) text lt h j =
    let a = j.first.0 in (
      omega (arith, a, lt),
      subst (Joined (CountText elements) (CountText size)) (sym (only_first j j.second.1)) j.first.1,
    )
to b (None, Some n) text lt h j =
    let a = j.second.0 in (omega (arith, a, lt), subst (CountText n) (sym (only_rest j j.first.1)) j.second.1)
to b (None, None) text lt h j =
    let a = j.first.0 in let k = j.second.0 in (
      (omega (arith, lt), omega arith, (λ e. a (omega (arith, e, lt))), (λ e. k (omega (arith, e, lt)))),
      only_rest j j.first.1 ∙ j.second.1,
    )

back : (e : Extent) (b : ℕ) → b < 256 → Bits e b → extent_of b (extent_tail e) ≡ e
back (Near n) b lt h = refl
back (Far elements size) b lt h = refl
back (Other t) b lt h = let e : b % 256 ≡ t = omega (arith, h.0, lt) in ap Other e

from : (e : Extent) (b : ℕ) (text : List ℕ) → b < 256 → Bits e b → Tail e text
    → (ExtentBehind b).Text (extent_tail e) text
from (Near n) b text lt h l = join [] text refl ((λ e. omega (arith, h, e)), refl) (omega (arith, h), l)
from (Far elements size) b text lt h l =
    join text [] (sym (append-nil text)) (omega (arith, h), l) ((λ e. omega (arith, h, e)), refl)
from (Other t) b text lt h l =
    join [] [] l ((λ e. h.2 (omega (arith, e, lt, h.0))), refl) ((λ e. h.3 (omega (arith, e, lt, h.0))), refl)

other_bits : (t : ℕ) → IsDataType (extent_head (Other t)) → (extent_head (Other t) ≡ t) × (t ≢ 0x61) × (t ≢ 0x62)
other_bits t h = grind (arith, eqb-true, eqb-false, h)

valid : (e : Extent) → IsDataType (extent_head e) → (extent_head e < 256) × Bits e (extent_head e)
valid (Near n) h = (h, refl)
valid (Far elements size) h = (h, refl)
valid (Other t) h = let (is, k, m) = other_bits t h in (h, (is, omega (arith, h, is), k, m))

other_head : (t : ℕ) → t ≢ 0x61 → t ≢ 0x62 → extent_head (Other t) ≡ t
other_head t h k = grind (arith, eqb-true, eqb-false, h, k)

best : (e : Extent) (b : ℕ) → Bits e b → (extent_head e < 256) × Bits e (extent_head e)
best (Near n) b h = (omega arith, refl)
best (Far elements size) b h = (omega arith, refl)
best (Other t) b h = let is = other_head t h.2 h.3 in (omega (arith, is, h.1), (is, h.1, h.2, h.3))

same : (e : Extent) → IsDataType (extent_head e)
    → extent_head e ∷ (ExtentBehind (extent_head e)).canonical (extent_tail e) ≡ extent_text e
same (Near n) h = refl
same (Far elements size) h = ap (λ t. 0x61 ∷ t) (append-nil (count.canonical elements ++ count.canonical size))
same (Other t) h = ap (λ b. b ∷ []) (other_bits t h).0

texts : (e : Extent) (text : List ℕ) → (Joined (One (Bits e)) (Tail e) text → ExtentText e text)
    × (ExtentText e text → Joined (One (Bits e)) (Tail e) text)
texts (Near _) text = ((λ l. l), (λ l. l))
texts (Far _ _) text = ((λ l. l), (λ l. l))
texts (Other _) text = ((λ l. l), (λ l. l))

pub ByDataType : ByHead IsDataType ExtentBehind Bits Tail ExtentText extent_text extent_of extent_head extent_tail
ByDataType = record {
  to = to;
  begins = λ e b lt h. lt;
  back = back;
  from = from;
  valid = valid;
  best = best;
  same = same;
  view = λ b x. rw (map_same (λ x. x) (λ x. refl) x.0, map_same (λ x. x) (λ x. refl) x.1) refl;
  texts = texts;
}

-- data types and their numbers
abbrev pub extent : Format Extent Extent
extent = free (λ e. e) ExtentText extent_text

pub extent_made : IsMade (behind (fact_byte IsDataType) ExtentBehind (λ rest. Unit {0})) extent
extent_made = by_head ByDataType

extent_behind_lawful : (b : ℕ) → Lawful (ExtentBehind b)
extent_behind_lawful b = both_lawful _
    (when_lawful (bits_at 1 256 b ≡ 0x61) _ (both_lawful count count_lawful (λ r. tt) count count_lawful) (λ r. tt))
    (λ r. tt) _ (when_lawful (bits_at 1 256 b ≡ 0x62) count count_lawful (λ r. tt))

extent_behind_blank : (b : ℕ) → Completes (ExtentBehind b) []
extent_behind_blank b =
    both_blank (when (bits_at 1 256 b ≡ 0x61) (both count count)) (when (bits_at 1 256 b ≡ 0x62) count)
    (when_blank (bits_at 1 256 b) 0x61 (both count count) (both_blank count count count_blank count_blank))
    (when_blank (bits_at 1 256 b) 0x62 count count_blank)

pub extent_lawful : Lawful extent
extent_lawful = by_head_lawful ByDataType extent_behind_lawful (λ b r. tt)

pub extent_blank : Completes extent []
extent_blank = by_head_blank ByDataType data_type_zero extent_behind_blank

-- ---- entries

-- entries
abbrev pub communal : Format lent.Communal Communal
communal = free plain_communal CommunalText
    (λ c. canon.name c.name ++ (canon.index c.type_index ++ extent_text c.extent))

pub communal_made : IsMade (both name (both index extent)) communal
communal_made = exact (both name (both index extent)) communal
    (λ x. record { name = x.0; type_index = x.1.0; extent = x.1.1 }) (λ c. (c.name, (c.type_index, c.extent)))
    (λ y. refl) (λ x text l. l) (λ y text l. l) (λ y. refl) (λ r. tt)
