-- An image of the program at paragraph 0 serves every paragraph.
use Rattle.std.proofs.Common.{◌≡◌, ℕ, ◌+◌, ◌<◌, ◌≤◌, Bool, true, false, eqb, eq-eqb, cond, fold, max, List, [], ◌∷◌}
use Rattle.std.proofs.Common.{◌++◌, map, length, None, inl, inr, arith, refl, ◌∙◌, sym, subst, get_or}
use Rattle.std.proofs.lemmas.List.{append_assoc, append-nil}
use Rattle.std.proofs.lemmas.List.Elements.{recursion_from_All}
use Rattle.std.proofs.lemmas.Bool.{cond-true, cond-false, ne_eqb, true≢false, cases_lt, cases_eq, eqb-true}
use Rattle.std.specs.List.{AllByRecursion, list_any}
use Rattle.omf_module.specs.Module.{Module}
use Rattle.omf_place.specs.Layout.{Layout}
use Rattle.omf_image.specs.Located.{LocatedBytes, covers}
use Rattle.omf_image.specs.Words.{add_words}
use Rattle.omf_image.specs.Records.{program_byte, bytes_of, entries, entry_start, entry_end, written}
use Rattle.omf_image.specs.inside.Entries.{DataEntry}
use Rattle.omf_image.specs.Records.{patches}
use Rattle.omf_image.specs.Records.{relocations}
use Rattle.omf_image.specs.inside.Leading.{relocated_words}
use Rattle.omf_image.specs.inside.WellPlaced.{WellPlaced, AllWellPlaced, AllInside, IsImage}
use Rattle.omf_image.specs.inside.Whole.{data_fault}
use Rattle.omf_image.specs.inside.Patches.{relocated_places}
use Rattle.omf_image.proofs.Law.{length-patched_all}
use Rattle.omf_image.proofs.Hits.{SpacedBy, spaced_filter}
use Rattle.omf_image.proofs.Moved.{AllApart, AllWordsInside}
use Rattle.omf_image.proofs.Carry.{Piece, addresses, all_addresses, Uncovered, EachApart, covers-from}
use Rattle.omf_image.proofs.Records.{piece, sound_records, program_moves}
use Rattle.omf_image.proofs.Members.{In, In-cases, In-map, any_in, any_from, in_filter, filter_has}

-- each two words of the list are one or apart
abbrev Apart : List ℕ → Type 0
Apart rs = (r s : ℕ) → In r rs → In s rs → r < s → r + 2 ≤ s

apart_pair : (ws : List ℕ) → AllApart ws → Apart ws
apart_pair [] apart r s h k l = absurd h
apart_pair (w ∷ ws) apart r s h k l =
    elim h [
      | inl e ↦ elim k [
        | inl f ↦ omega arith
        | inr k' ↦ elim (apart.0 s k') [ inl q ↦ omega arith | inr q ↦ omega arith ]
      ]
      | inr h' ↦ elim k [
        | inl f ↦ elim (apart.0 r h') [ inl q ↦ omega arith | inr q ↦ omega arith ]
        | inr k' ↦ apart_pair ws apart.1 r s h' k' l
      ]
    ]

-- a word that a datum does not cover, and one inside it
not_next : (d : LocatedBytes) (a : ℕ) → covers a d ≡ false → d.start ≤ a → a < d.start + length d.bytes → ⊥
not_next d a h k l = true≢false (sym (covers-from a d k l) ∙ h)

step_apart : (rs : List ℕ) (p : Piece) → Apart rs → AllApart p.words → AllWordsInside (length p.datum.bytes) p.words
    → ((r : ℕ) → In r rs → (covers r p.datum ≡ false) × (covers (r + 1) p.datum ≡ false)) → Apart (rs ++ addresses p)
step_apart rs p old apart inside free r s h k l =
    elim (In-cases r rs (addresses p) h) [
      | inl h' ↦ elim (In-cases s rs (addresses p) k) [
        | inl k' ↦ old r s h' k' l
        | inr k' ↦
            let g = In-map p.datum.start s p.words k' in
            let room = inside g.0 g.1 in
            elim (cases_lt s (r + 2)) [
              | inl near ↦
                  absurd (not_next p.datum (r + 1) (free r h').1 (omega (arith, g.2)) (omega (arith, g.2, room)))
              | inr past ↦ past
            ]
      ]
      | inr h' ↦
          let g = In-map p.datum.start r p.words h' in
          let room = inside g.0 g.1 in
          elim (In-cases s rs (addresses p) k) [
            | inl k' ↦
                elim (cases_lt s (r + 2)) [
                  | inl near ↦ absurd (not_next p.datum s (free s k').0 (omega (arith, g.2)) (omega (arith, g.2, room)))
                  | inr past ↦ past
                ]
            | inr k' ↦
                let g' = In-map p.datum.start s p.words k' in
                let both : g.0 + 2 ≤ g'.0 = apart_pair p.words apart g.0 g'.0 g.1 g'.1 (omega (arith, g.2, g'.2)) in
                omega (arith, g.2, g'.2, both)
          ]
    ]

all_apart : (rs : List ℕ) (ps : List Piece) → Apart rs → EachApart ps → Uncovered rs ps → Apart (rs ++ all_addresses ps)
all_apart rs [] old each free = subst Apart (sym (append-nil rs)) old
all_apart rs (p ∷ ps) old each free =
    subst Apart (append_assoc rs (addresses p) (all_addresses ps))
    (all_apart (rs ++ addresses p) ps (step_apart rs p old each.0 each.1 free.0) each.2 free.1)

-- the end of data, by its length
pub end_none : (s n : ℕ) → n ≡ 0 → cond (eqb n 0) 0 (s + n) ≡ 0
end_none s n h = cond-true (eqb n 0) 0 (s + n) (eq-eqb n 0 h)

pub end_some : (s n : ℕ) → 0 < n → cond (eqb n 0) 0 (s + n) ≡ s + n
end_some s n h = cond-false (eqb n 0) 0 (s + n) (ne_eqb n 0 (λ x. omega (arith, h, x)))

end_within : (s n size : ℕ) → s + n ≤ size → cond (eqb n 0) 0 (s + n) ≤ size
end_within s n size h = elim (cases_eq n 0) [
  | inl e ↦ omega (arith, end_none s n e)
  | inr ne ↦ omega (arith, end_some s n (omega (arith, ne)), h)
]

-- the greatest end is above each and inside the program
most_begun : (n : ℕ) (xs : List ℕ) → n ≤ fold max n xs
most_begun n [] = omega arith
most_begun n (x ∷ xs) = omega (arith, most_begun (max n x) xs)

most_each : (n : ℕ) (layout : Layout) (es : List DataEntry)
    → AllByRecursion (λ e. entry_end layout e ≤ fold max n (map (entry_end layout) es)) es
most_each n layout [] = tt
most_each n layout (e ∷ es) = (
  omega (arith, most_begun (max n (entry_end layout e)) (map (entry_end layout) es)),
  most_each (max n (entry_end layout e)) layout es,
)

most_within : (n size : ℕ) (layout : Layout) (es : List DataEntry) → n ≤ size
    → AllByRecursion (λ e. entry_start layout e + length (bytes_of e.item) ≤ size) es
    → fold max n (map (entry_end layout) es) ≤ size
most_within n size layout [] h room = h
most_within n size layout (e ∷ es) h room =
    let here : entry_end layout e ≤ size =
    end_within (entry_start layout e) (length (bytes_of e.item)) size room.0 in
    most_within (max n (entry_end layout e)) size layout es (omega (arith, h, here)) room.1

-- each relocated word lies below an address where no data reaches
all_below : (end : ℕ) (layout : Layout) (es : List DataEntry) → AllByRecursion (λ e. entry_end layout e ≤ end) es
    → EachApart (map (piece layout) es) → AllWordsInside end (all_addresses (map (piece layout) es))
all_below end layout [] room each r h = absurd h
all_below end layout (e ∷ es) room each r h =
    elim (In-cases r (addresses (piece layout e)) (all_addresses (map (piece layout) es)) h) [
      | inl k ↦
          let g = In-map (entry_start layout e) r (relocated_places (patches 0 layout e)) k in
          let n = length-patched_all (patches 0 layout e) (bytes_of e.item) in
          let ends =
          end_some (entry_start layout e) (length (bytes_of e.item)) (omega (arith, each.1 g.0 g.1, n)) in
          omega (arith, g.2, each.1 g.0 g.1, n, room.0, ends)
      | inr k ↦ all_below end layout es room.1 each.2 r k
    ]

-- a number that equals one of a list is in it
listed_in : (ws : List ℕ) (a : ℕ) → list_any (λ w. eqb a w) ws ≡ true → In a ws
listed_in ws a h = let g = any_in (λ w. eqb a w) ws h in subst (λ (w : ℕ). In w ws) (sym (eqb-true a g.0 g.2)) g.1

spaced_apart : (rs : List ℕ) → SpacedBy 2 rs → AllApart rs
spaced_apart [] h = tt
spaced_apart (r ∷ rs) h = (λ s k. inl (h.0 s k), spaced_apart rs h.1)

-- what holds of the relocations where no fault of data stands
pub record SoundRelocations (layout : Layout) (modules : List Module) : Type 0 where
  pub spaced : SpacedBy 2 (relocations layout modules)
  pub below : AllWordsInside (written layout modules) (relocations layout modules)
  pub within : written layout modules ≤ layout.size
  pub inside : AllWordsInside layout.size (relocations layout modules)
  pub there : (r : ℕ) → In r (relocations layout modules) → In r (relocated_words layout modules)
  pub back : (r : ℕ) → In r (relocated_words layout modules) → In r (relocations layout modules)

pub sound_relocations : (layout : Layout) (modules : List Module) → AllWellPlaced modules → AllInside layout modules
    → data_fault layout modules ≡ None → SoundRelocations layout modules
sound_relocations layout modules well inside none =
    let es = entries modules in
    let s = sound_records 0 layout [] es (recursion_from_All (λ e. WellPlaced e.item) es well) none in
    let words = relocated_words layout modules in
    let p : ℕ → Bool = λ a. list_any (λ w. eqb a w) words in
    let room = all_below (written layout modules) layout es (most_each 0 layout es) s.apart in
    let within =
    most_within 0 layout.size layout es (omega arith)
    (recursion_from_All (λ e. entry_start layout e + length (bytes_of e.item) ≤ layout.size) es inside) in
    let inner : (r : ℕ) → In r words → In r (all_addresses (map (piece layout) es)) =
    λ r k. subst (λ (l : List ℕ). In r l) (sym s.listed) k in
    let there : (r : ℕ) → In r (relocations layout modules) → In r words =
    λ r k. listed_in words r (in_filter p 0 layout.size r k).2 in
    let apart : Apart words =
    λ r q h k l.
    all_apart [] (map (piece layout) es) (λ x y h. absurd h) s.apart s.free r q (inner r h) (inner q k) l in
    record {
      spaced = spaced_filter p 2 0 layout.size (λ i j s t l m. apart i j (listed_in words i s) (listed_in words j t) l);
      below = λ r k. room r (inner r (there r k));
      within = within;
      inside = λ r k. omega (arith, room r (inner r (there r k)), within);
      there = there;
      back =
          λ r k.
          filter_has p 0 layout.size r (omega arith) (omega (arith, room r (inner r k), within))
          (any_from (λ w. eqb r w) words r k (eq-eqb r r refl));
    }

pub everywhere : (layout : Layout) (modules : List Module) (image : List ℕ) → AllWellPlaced modules
    → AllInside layout modules → data_fault layout modules ≡ None → IsImage layout modules image
    → (P a : ℕ) → a < layout.size
    → get_or (add_words P (relocations layout modules) image) a 0 ≡ program_byte P layout modules a
everywhere layout modules image well inside none is P a h =
    let s = sound_relocations layout modules well inside none in
    program_moves P layout modules image (relocations layout modules) well none is.sized is.bytes
    (spaced_apart (relocations layout modules) s.spaced) s.inside s.there s.back a h
