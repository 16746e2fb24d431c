-- Searches in blocks of which one has more entries than the other.
use Rattle.std.proofs.Common.{◌≡◌, ◌≢◌, ℕ, zero, suc, ◌+◌, ◌-◌, ◌*◌, ◌%◌, ◌<◌, ◌≤◌, ◌⊎◌, inl, inr, Bool, true, false}
use Rattle.std.proofs.Common.{List, [], ◌∷◌, length, get_or, cond, eqb, Some, None, refl, sym, ap, subst, ◌∙◌, arith}
use Rattle.std.specs.declared.option.Option.{Option}
use Rattle.std.specs.Str.{bytes_eq}
use Rattle.std.proofs.lemmas.Bool.{cases_eq}
use Rattle.omf_librarian.specs.Hashing.{Hash}
use Rattle.omf_librarian.specs.Dictionary.{Ending, Found, Empty, Passed, Entry, ending_at, entry_of, in_block}
use Rattle.omf_librarian.specs.Dictionary.{in_buckets}
use Rattle.omf_librarian.specs.Dictionary.{is_full}
use Rattle.omf_librarian.specs.Entering.{empty_bucket, first_empty}
use Rattle.omf_librarian.proofs.Blocks.{Grows, entry-none, entry-some, entry_there}
use Rattle.omf_librarian.proofs.Filling.{empty-first, empty-here, empty-next}

-- a search over so many buckets
in-block : (block : List ℕ) (hash : Hash) (name : List ℕ) (n : ℕ) → n ≡ 37
    → in_buckets n block hash name hash.bucket ≡ in_block block hash name
unfolding in_block
in-block block hash name n e = ap (λ k. in_buckets k block hash name hash.bucket) e

next-bucket : (hash : Hash) (bucket : ℕ) → (bucket + hash.bucket_delta) % 37 < 37
next-bucket hash bucket = omega arith

-- the ending at a bucket whose entry is known
at-entry : (most : ℕ) (block : List ℕ) (hash : Hash) (name : List ℕ) (bucket : ℕ) (o : Option Entry)
    → entry_of block bucket ≡ o
    → in_buckets (suc most) block hash name bucket
    ≡ ending_at name (in_buckets most block hash name ((bucket + hash.bucket_delta) % 37)) o
at-entry most block hash name bucket o is =
    ap (ending_at name (in_buckets most block hash name ((bucket + hash.bucket_delta) % 37))) is

-- ---- a block that has grown

-- a search that ends at no empty bucket ends so still
grown_by : (most : ℕ) (a b : List ℕ) (e : Entry) (hash : Hash) (name : List ℕ) (bucket : ℕ) (z : Ending)
    (o : Option Entry)
    → Grows e a b
    → ((q : ℕ) → q < 37 → in_buckets most a hash name q ≡ z → in_buckets most b hash name q ≡ z)
    → bucket < 37 → entry_of a bucket ≡ o → in_buckets (suc most) a hash name bucket ≡ z → z ≢ Empty
    → in_buckets (suc most) b hash name bucket ≡ z
grown_by most a b e hash name bucket z None g further within at is some =
    absurd (some (sym is ∙ at-entry most a hash name bucket None at))
grown_by most a b e hash name bucket z (Some x) g further within at is some =
    let next = (bucket + hash.bucket_delta) % 37 in
    let old : cond (bytes_eq x.name name) (Found x.page) (in_buckets most a hash name next) ≡ z =
    sym (at-entry most a hash name bucket (Some x) at) ∙ is in
    at-entry most b hash name bucket (Some x) (g.stays bucket x within at)
    ∙ (elim (bytes_eq x.name name) as (λ t.
    cond t (Found x.page) (in_buckets most a hash name next) ≡ z
    → cond t (Found x.page) (in_buckets most b hash name next) ≡ z) [
      | true ↦ λ h. h
      | false ↦ λ h. further next (next-bucket hash bucket) h
    ]) old

pub grown : (most : ℕ) (a b : List ℕ) (e : Entry) (hash : Hash) (name : List ℕ) (bucket : ℕ) (z : Ending)
    → Grows e a b → bucket < 37 → in_buckets most a hash name bucket ≡ z → z ≢ Empty
    → in_buckets most b hash name bucket ≡ z
grown zero a b e hash name bucket z g within is some = is
grown (suc most) a b e hash name bucket z g within is some =
    grown_by most a b e hash name bucket z (entry_of a bucket) g
    (λ q small h. grown most a b e hash name q z g small h some) within refl is some

grown_at : (n : ℕ) (a b : List ℕ) (e : Entry) (hash : Hash) (name : List ℕ) (z : Ending) → n ≡ 37 → hash.bucket < 37
    → Grows e a b → in_block a hash name ≡ z → z ≢ Empty → in_block b hash name ≡ z
grown_at n a b e hash name z count within g is some =
    sym (in-block b hash name n count)
    ∙ grown n a b e hash name hash.bucket z g within (in-block a hash name n count ∙ is) some

pub grown_block : (a b : List ℕ) (e : Entry) (hash : Hash) (name : List ℕ) (z : Ending) → hash.bucket < 37
    → Grows e a b → in_block a hash name ≡ z → z ≢ Empty → in_block b hash name ≡ z
grown_block a b e hash name z = grown_at 37 a b e hash name z refl

-- a search goes on behind the block
pub record Goes (block : List ℕ) (hash : Hash) (name : List ℕ) : Type 0 where
  pub by : (in_block block hash name ≡ Passed) ⊎ ((in_block block hash name ≡ Empty) × (is_full block ≡ true))

goes_by : (a b : List ℕ) (e : Entry) (hash : Hash) (name : List ℕ) → hash.bucket < 37 → Grows e a b
    → (in_block a hash name ≡ Passed) ⊎ ((in_block a hash name ≡ Empty) × (is_full a ≡ true)) → Goes b hash name
goes_by a b e hash name within g (inl is) = record {
  by = inl (grown_block a b e hash name Passed within g is (λ z. cc));
}
goes_by a b e hash name within g (inr is) =
    let same = g.full is.1 in
    record { by = inr (ap (λ l. in_block l hash name) same ∙ is.0, ap is_full same ∙ is.1) }

pub goes_still : (a b : List ℕ) (e : Entry) (hash : Hash) (name : List ℕ) → hash.bucket < 37 → Grows e a b
    → Goes a hash name → Goes b hash name
goes_still a b e hash name within g h = goes_by a b e hash name within g h.by

-- ---- a name that a block hasn't

pub record NoName (block name : List ℕ) : Type 0 where
  pub none : (bucket : ℕ) (x : Entry) → bucket < 37 → entry_of block bucket ≡ Some x → bytes_eq x.name name ≡ false

-- at a bucket that isn't empty the search goes on
on-by : (most : ℕ) (block : List ℕ) (hash : Hash) (name : List ℕ) (bucket : ℕ) (x : Entry)
    → entry_of block bucket ≡ Some x → bytes_eq x.name name ≡ false
    → in_buckets (suc most) block hash name bucket
    ≡ in_buckets most block hash name ((bucket + hash.bucket_delta) % 37)
on-by most block hash name bucket x at other =
    at-entry most block hash name bucket (Some x) at
    ∙ ap (λ t. cond t (Found x.page) (in_buckets most block hash name ((bucket + hash.bucket_delta) % 37))) other

on : (most : ℕ) (block : List ℕ) (hash : Hash) (name : List ℕ) (bucket : ℕ) → NoName block name → bucket < 37
    → get_or block bucket 0 ≢ 0
    → in_buckets (suc most) block hash name bucket
    ≡ in_buckets most block hash name ((bucket + hash.bucket_delta) % 37)
on most block hash name bucket lacks within other =
    on-by most block hash name bucket _ (entry-some block bucket other)
    (lacks.none bucket _ within (entry-some block bucket other))

-- no bucket on the way is empty: all are passed
passed : (most : ℕ) (block : List ℕ) (hash : Hash) (name : List ℕ) (bucket : ℕ) → NoName block name → bucket < 37
    → empty_bucket most block hash bucket ≡ None → in_buckets most block hash name bucket ≡ Passed
passed zero block hash name bucket lacks within is = refl
passed (suc most) block hash name bucket lacks within is =
    elim (cases_eq (get_or block bucket 0) 0) [
      | inl z ↦
          absurd (let e : ◌≡◌ {A = Option ℕ} (Some bucket) None = sym (empty-here most block hash bucket z) ∙ is in cc)
      | inr other ↦
          on most block hash name bucket lacks within other
          ∙ passed most block hash name ((bucket + hash.bucket_delta) % 37) lacks (next-bucket hash bucket)
          (sym (empty-next most block hash bucket other) ∙ is)
    ]

-- the first empty bucket ends the search
ended : (most : ℕ) (block : List ℕ) (hash : Hash) (name : List ℕ) (bucket empty : ℕ) → NoName block name → bucket < 37
    → empty_bucket most block hash bucket ≡ Some empty → in_buckets most block hash name bucket ≡ Empty
ended zero block hash name bucket empty lacks within is =
    absurd (let e : ◌≡◌ {A = Option ℕ} None (Some empty) = is in cc)
ended (suc most) block hash name bucket empty lacks within is =
    elim (cases_eq (get_or block bucket 0) 0) [
      | inl z ↦ at-entry most block hash name bucket None (entry-none block bucket z)
      | inr other ↦
          on most block hash name bucket lacks within other
          ∙ ended most block hash name ((bucket + hash.bucket_delta) % 37) empty lacks (next-bucket hash bucket)
          (sym (empty-next most block hash bucket other) ∙ is)
    ]

-- an entry in that bucket is found
pub record Empties (block : List ℕ) (empty : ℕ) : Type 0 where
  pub within : empty < 37
  pub byte : get_or block empty 0 ≡ 0

abbrev number_or : ℕ → Option ℕ → ℕ
number_or d None = d
number_or d (Some n) = n

pub empties : (most : ℕ) (block : List ℕ) (hash : Hash) (bucket empty : ℕ) → bucket < 37
    → empty_bucket most block hash bucket ≡ Some empty → Empties block empty
empties zero block hash bucket empty within is = absurd (let e : ◌≡◌ {A = Option ℕ} None (Some empty) = is in cc)
empties (suc most) block hash bucket empty within is =
    elim (cases_eq (get_or block bucket 0) 0) [
      | inl z ↦
          let same : bucket ≡ empty = ap (number_or empty) (sym (empty-here most block hash bucket z) ∙ is) in
          record { within = omega (arith, same); byte = ap (λ k. get_or block k 0) (sym same) ∙ z }
      | inr other ↦
          empties most block hash ((bucket + hash.bucket_delta) % 37) empty (next-bucket hash bucket)
          (sym (empty-next most block hash bucket other) ∙ is)
    ]

found_there : (most : ℕ) (a b : List ℕ) (e : Entry) (hash : Hash) (bucket empty : ℕ) → NoName a e.name → bucket < 37
    → Grows e a b → entry_of b empty ≡ Some e → bytes_eq e.name e.name ≡ true
    → empty_bucket most a hash bucket ≡ Some empty → in_buckets most b hash e.name bucket ≡ Found e.page
found_there zero a b e hash bucket empty lacks within g here same is =
    absurd (let z : ◌≡◌ {A = Option ℕ} None (Some empty) = is in cc)
found_there (suc most) a b e hash bucket empty lacks within g here same is =
    let next = (bucket + hash.bucket_delta) % 37 in
    elim (cases_eq (get_or a bucket 0) 0) [
      | inl z ↦
          let at : bucket ≡ empty = ap (number_or empty) (sym (empty-here most a hash bucket z) ∙ is) in
          at-entry most b hash e.name bucket (Some e) (ap (entry_of b) at ∙ here)
          ∙ ap (λ t. cond t (Found e.page) (in_buckets most b hash e.name next)) same
      | inr other ↦
          on-by most b hash e.name bucket _ (g.stays bucket _ within (entry-some a bucket other))
          (lacks.none bucket _ within (entry-some a bucket other))
          ∙ found_there most a b e hash next empty lacks (next-bucket hash bucket) g here same
          (sym (empty-next most a hash bucket other) ∙ is)
    ]

-- ---- the same over all buckets

passed_at : (n : ℕ) (block : List ℕ) (hash : Hash) (name : List ℕ) → n ≡ 37 → NoName block name → hash.bucket < 37
    → first_empty block hash ≡ None → in_block block hash name ≡ Passed
passed_at n block hash name count lacks within is =
    sym (in-block block hash name n count)
    ∙ passed n block hash name hash.bucket lacks within (empty-first block hash n count ∙ is)

pub passed_block : (block : List ℕ) (hash : Hash) (name : List ℕ) → NoName block name → hash.bucket < 37
    → first_empty block hash ≡ None → in_block block hash name ≡ Passed
passed_block block hash name = passed_at 37 block hash name refl

ended_at : (n : ℕ) (block : List ℕ) (hash : Hash) (name : List ℕ) (empty : ℕ) → n ≡ 37 → NoName block name
    → hash.bucket < 37 → first_empty block hash ≡ Some empty → in_block block hash name ≡ Empty
ended_at n block hash name empty count lacks within is =
    sym (in-block block hash name n count)
    ∙ ended n block hash name hash.bucket empty lacks within (empty-first block hash n count ∙ is)

pub ended_block : (block : List ℕ) (hash : Hash) (name : List ℕ) (empty : ℕ) → NoName block name → hash.bucket < 37
    → first_empty block hash ≡ Some empty → in_block block hash name ≡ Empty
ended_block block hash name empty = ended_at 37 block hash name empty refl

empties_at : (n : ℕ) (block : List ℕ) (hash : Hash) (empty : ℕ) → n ≡ 37 → hash.bucket < 37
    → first_empty block hash ≡ Some empty → Empties block empty
empties_at n block hash empty count within is =
    empties n block hash hash.bucket empty within (empty-first block hash n count ∙ is)

pub empties_block : (block : List ℕ) (hash : Hash) (empty : ℕ) → hash.bucket < 37
    → first_empty block hash ≡ Some empty → Empties block empty
empties_block block hash empty = empties_at 37 block hash empty refl

found_at : (n : ℕ) (a b : List ℕ) (e : Entry) (hash : Hash) (empty : ℕ) → n ≡ 37 → NoName a e.name → hash.bucket < 37
    → Grows e a b → entry_of b empty ≡ Some e → bytes_eq e.name e.name ≡ true → first_empty a hash ≡ Some empty
    → in_block b hash e.name ≡ Found e.page
found_at n a b e hash empty count lacks within g here same is =
    sym (in-block b hash e.name n count)
    ∙ found_there n a b e hash hash.bucket empty lacks within g here same (empty-first a hash n count ∙ is)

pub found_block : (a b : List ℕ) (e : Entry) (hash : Hash) (empty : ℕ) → NoName a e.name → hash.bucket < 37
    → Grows e a b → entry_of b empty ≡ Some e → bytes_eq e.name e.name ≡ true → first_empty a hash ≡ Some empty
    → in_block b hash e.name ≡ Found e.page
found_block a b e hash empty = found_at 37 a b e hash empty refl

-- a search for a name that no bucket has finds none
none_by : (most : ℕ) (block : List ℕ) (hash : Hash) (name : List ℕ) (bucket page : ℕ) → NoName block name → bucket < 37
    → in_buckets most block hash name bucket ≢ Found page
none_by zero block hash name bucket page lacks within is = cc
none_by (suc most) block hash name bucket page lacks within is =
    elim (cases_eq (get_or block bucket 0) 0) [
      | inl z ↦
          let e : Empty ≡ Found page =
          sym (at-entry most block hash name bucket None (entry-none block bucket z)) ∙ is in
          cc
      | inr other ↦
          none_by most block hash name ((bucket + hash.bucket_delta) % 37) page lacks (next-bucket hash bucket)
          (sym (on most block hash name bucket lacks within other) ∙ is)
    ]

none_at : (n : ℕ) (block : List ℕ) (hash : Hash) (name : List ℕ) (page : ℕ) → n ≡ 37 → NoName block name
    → hash.bucket < 37 → in_block block hash name ≢ Found page
none_at n block hash name page count lacks within is =
    none_by n block hash name hash.bucket page lacks within (in-block block hash name n count ∙ is)

pub none_block : (block : List ℕ) (hash : Hash) (name : List ℕ) (page : ℕ) → NoName block name
    → hash.bucket < 37 → in_block block hash name ≢ Found page
none_block block hash name page = none_at 37 block hash name page refl

-- ---- a block with the same entries

same_entries : (most : ℕ) (a b : List ℕ) (hash : Hash) (name : List ℕ) (bucket : ℕ)
    → ((q : ℕ) → q < 37 → entry_of b q ≡ entry_of a q) → bucket < 37
    → in_buckets most b hash name bucket ≡ in_buckets most a hash name bucket
same_entries zero a b hash name bucket same within = refl
same_entries (suc most) a b hash name bucket same within =
    ap (ending_at name (in_buckets most b hash name ((bucket + hash.bucket_delta) % 37))) (same bucket within)
    ∙ ap (λ z. ending_at name z (entry_of a bucket))
    (same_entries most a b hash name ((bucket + hash.bucket_delta) % 37) same (next-bucket hash bucket))

same_at : (n : ℕ) (a b : List ℕ) (hash : Hash) (name : List ℕ) → n ≡ 37
    → ((q : ℕ) → q < 37 → entry_of b q ≡ entry_of a q) → hash.bucket < 37
    → in_block b hash name ≡ in_block a hash name
same_at n a b hash name count same within =
    sym (in-block b hash name n count) ∙ same_entries n a b hash name hash.bucket same within
    ∙ in-block a hash name n count

pub same_block : (a b : List ℕ) (hash : Hash) (name : List ℕ) → ((q : ℕ) → q < 37 → entry_of b q ≡ entry_of a q)
    → hash.bucket < 37 → in_block b hash name ≡ in_block a hash name
same_block a b hash name = same_at 37 a b hash name refl
