-- The canonical bodies of records, and that they fit a frame.
use Rattle.std.proofs.Common.{◌≡◌, ℕ, suc, ◌+◌, ◌/◌, ◌%◌, ◌<◌, ◌≤◌, true, false, cond, inl, inr, List, [], ◌∷◌, ◌++◌}
use Rattle.std.proofs.Common.{length, get_or, None, refl, sym, ap, subst, arith, ltb, length-append, lit<, lit≤}
use Rattle.std.proofs.lemmas.Bool.{ltb-true}
use Rattle.std.specs.List.{AllByRecursion, flat_map}
use Rattle.omf_record.specs.Language.{IsBytes, ◌⋆◌ as Joined, each, Index, Name, One, Word}
use Rattle.omf_record.specs.declared.segments.SegmentDefinition.{SegmentDefinition}
use Rattle.omf_record.specs.Record.{Lnames, Modend, Segdef, Theadr}
use Rattle.omf_record.specs.Numbers.{length_code}
use Rattle.omf_record.specs.Body.{Body, AbsoluteText, Acbp}
use Rattle.omf_record.specs.inside.Fields.{SegmentText}
use Rattle.omf_record.specs.Canonical as canon
use Rattle.omf_record.specs.Canonical.{FitsFrame, canonical}
use Rattle.omf_write.specs.inside.Fits.{IsName}

pub IsBytes-from : (bytes : List ℕ) → ((i : ℕ) → get_or bytes i 0 < 256) → IsBytes bytes
IsBytes-from [] h = tt
IsBytes-from (b ∷ bytes) h = (h 0, IsBytes-from bytes (λ i. h (suc i)))

-- ---- fields

pub joined : {L M : List ℕ → Type 0} (a b : List ℕ) → L a → M b → Joined L M (a ++ b)
joined a b l m = record { front = a; rest = b; parts = refl; first = l; second = m }

-- an index in its shortest form is one
pub index_text : (n : ℕ) → n ≤ 32767 → Index n (canon.index n)
index_text n h =
    (elim (ltb n 128) as (λ b. ltb n 128 ≡ b → Index n (canon.index n)) [
      | true ↦ λ e. let small : n ≤ 127 = omega (arith, ltb-true _ _ e) in rw e (inl (small, refl))
      | false ↦ λ e. rw e (inr (h, refl))
    ]) refl

pub index_len : (n : ℕ) → length (canon.index n) ≤ 2
index_len n = elim (ltb n 128) as (λ b. length (cond b (n ∷ []) ((128 + n / 256) ∷ n % 256 ∷ [])) ≤ 2) [
  | true ↦ lit≤ tt
  | false ↦ lit≤ tt
]

pub name_text : (n : List ℕ) → IsName n → Name n (canon.name n)
name_text n h = (h.0, h.1, refl)

pub each_text : {A : Type 0} (L : A → List ℕ → Type 0) (f : A → List ℕ) (xs : List A)
    → AllByRecursion (λ x. L x (f x)) xs → each L xs (flat_map f xs)
each_text L f [] h = refl
each_text L f (x ∷ xs) h = joined (f x) (flat_map f xs) h.0 (each_text L f xs h.1)

-- ---- records

pub header_fits : (n : List ℕ) → IsName n → FitsFrame (Theadr n)
unfolding Body canonical
header_fits n h = record { body = name_text n h; short = omega (arith, h.0) }

pub names_fit : (a b : List ℕ) → IsName a → IsName b → FitsFrame (Lnames (a ∷ b ∷ []))
unfolding Body canonical
names_fit a b h k = record {
  body = each_text Name canon.name (a ∷ b ∷ []) (name_text a h, (name_text b k, tt));
  short =
      omega (
        arith,
        h.0,
        k.0,
        length-append (canon.name a) (flat_map canon.name (b ∷ [])),
        length-append (canon.name b) [],
      );
}

pub end_fits : FitsFrame (Modend false None)
unfolding Body canonical
end_fits = record { body = (0, lit< tt, refl, refl); short = lit≤ tt }

-- a segment that isn't absolute
pub segment_by : (s : SegmentDefinition) → One (Acbp s) (canon.acbp s ∷ []) → AbsoluteText s.alignment [] →
    canon.absolute_text s.alignment ≡ [] →
    Word (length_code s.length).1 (canon.word (length_code s.length).1) → s.name ≤ 32767 → s.class ≤ 32767 →
    s.overlay ≤ 32767 → FitsFrame (Segdef s)
unfolding Body canonical
segment_by s head absolute none len name class overlay =
    let tail = canon.index s.name ++ (canon.index s.class ++ canon.index s.overlay) in
    let w = canon.word (length_code s.length).1 in
    let is : canon.segment s ≡ (canon.acbp s ∷ []) ++ ([] ++ (w ++ tail)) = rw none refl in
    let text : SegmentText s ((canon.acbp s ∷ []) ++ ([] ++ (w ++ tail))) =
    joined _ _ head
    (joined _ _ absolute
    (joined _ _ len
    (joined _ _ (index_text s.name name) (joined _ _ (index_text s.class class) (index_text s.overlay overlay))))) in
    record {
      body = subst (SegmentText s) (sym is) text;
      short = let l = ap length is in
          omega (
            arith,
            l,
            length-append (canon.index s.name) (canon.index s.class ++ canon.index s.overlay),
            length-append (canon.index s.class) (canon.index s.overlay),
            index_len s.name,
            index_len s.class,
            index_len s.overlay,
          );
    }
