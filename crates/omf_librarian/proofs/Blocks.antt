-- A block in which a name is entered, and one that is passed.
use Rattle.std.proofs.Common.{◌≡◌, ◌≢◌, ℕ, zero, suc, ◌+◌, ◌-◌, ◌*◌, ◌/◌, ◌%◌, ◌<◌, ◌≤◌, ◌⊎◌, inl, inr, Bool, true}
use Rattle.std.proofs.Common.{false}
use Rattle.std.proofs.Common.{List, [], ◌∷◌, ◌++◌, length, get_or, set, min, cond, eqb, leb, Some, None, refl, sym, ap}
use Rattle.std.proofs.Common.{subst, ◌∙◌, arith}
use Rattle.std.specs.declared.option.Option.{Option}
use Rattle.std.proofs.lemmas.Bool.{cases_eq, cases_lt, eq-eqb, eqb-true, leb-true, ne_eqb}
use Rattle.std.proofs.lemmas.List.{get_or-set_other, get_or-set_same, length-set, set-get_or}
use Rattle.omf_librarian.specs.Hashing.{Hash}
use Rattle.omf_librarian.specs.Dictionary.{Entry, entry_at, entry_of, is_full}
use Rattle.omf_librarian.specs.Entering.{entered_at, entered_in, entry_words, full_block}
use Rattle.omf_librarian.specs.Entering.{with_entry}
use Rattle.omf_librarian.proofs.Bytes.{Put, entry_put, entry_same, put_is}

-- the entries of a block that isn't full stand before its free space
pub record Kept (block : List ℕ) : Type 0 where
  pub size : length block ≡ 512
  pub most : get_or block 37 0 ≤ 255
  pub least : 19 ≤ get_or block 37 0
  pub entries : get_or block 37 0 < 255 → (bucket : ℕ) → bucket < 37 → get_or block bucket 0 ≢ 0
      → (19 ≤ get_or block bucket 0)
      × (2 * get_or block bucket 0 + 3 + get_or block (2 * get_or block bucket 0) 0 ≤ 2 * get_or block 37 0)

-- a block has the entries of another one, and at most this one more; a full one stays as it is
pub record Grows (e : Entry) (old new : List ℕ) : Type 0 where
  pub stays : (bucket : ℕ) (x : Entry) → bucket < 37 → entry_of old bucket ≡ Some x → entry_of new bucket ≡ Some x
  pub added : (bucket : ℕ) (x : Entry) → bucket < 37 → entry_of new bucket ≡ Some x
      → (entry_of old bucket ≡ Some x) ⊎ (x ≡ e)
  pub full : is_full old ≡ true → new ≡ old

pub grows_same : (e : Entry) (block : List ℕ) → Grows e block block
grows_same e block = record {
  stays = λ bucket x within is. is;
  added = λ bucket x within is. inl is;
  full = λ is. refl;
}

added_by : (e x : Entry) (a b : List ℕ) (bucket : ℕ) → Grows e a b → bucket < 37
    → (entry_of b bucket ≡ Some x) ⊎ (x ≡ e) → (entry_of a bucket ≡ Some x) ⊎ (x ≡ e)
added_by e x a b bucket g within (inl is) = g.added bucket x within is
added_by e x a b bucket g within (inr is) = inr is

pub grows_more : (e : Entry) (a b c : List ℕ) → Grows e a b → Grows e b c → Grows e a c
grows_more e a b c g h = record {
  stays = λ bucket x within is. h.stays bucket x within (g.stays bucket x within is);
  added = λ bucket x within is. added_by e x a b bucket g within (h.added bucket x within is);
  full = λ is. let same = g.full is in h.full (ap is_full same ∙ is) ∙ same;
}

-- ---- the entries of buckets

pub entry-none : (block : List ℕ) (bucket : ℕ) → get_or block bucket 0 ≡ 0 → entry_of block bucket ≡ None
unfolding entry_of
entry-none block bucket is = rw (eq-eqb (get_or block bucket 0) 0 is) refl

pub entry-some : (block : List ℕ) (bucket : ℕ) → get_or block bucket 0 ≢ 0
    → entry_of block bucket ≡ Some (entry_at block (2 * get_or block bucket 0))
unfolding entry_of
entry-some block bucket other = rw (ne_eqb (get_or block bucket 0) 0 other) refl

pub entry_there : (block : List ℕ) (bucket : ℕ) (x : Entry) → entry_of block bucket ≡ Some x → get_or block bucket 0 ≢ 0
entry_there block bucket x is none =
    absurd (let e : ◌≡◌ {A = Option Entry} None (Some x) = sym (entry-none block bucket none) ∙ is in cc)

-- a bucket with the same byte has the same entry where all its bytes stay
pub bucket_same : (a b : List ℕ) (bucket : ℕ) → length a ≡ length b → get_or a bucket 0 ≡ get_or b bucket 0
    → (get_or b bucket 0 ≢ 0 → entry_at a (2 * get_or b bucket 0) ≡ entry_at b (2 * get_or b bucket 0))
    → entry_of a bucket ≡ entry_of b bucket
bucket_same a b bucket size same there =
    elim (cases_eq (get_or b bucket 0) 0) [
      | inl none ↦ entry-none a bucket (same ∙ none) ∙ sym (entry-none b bucket none)
      | inr other ↦
          entry-some a bucket (λ e. other (sym same ∙ e))
          ∙ ap (λ w. Some (entry_at a (2 * w))) same
          ∙ ap Some (there other)
          ∙ sym (entry-some b bucket other)
    ]

-- ---- a block that is passed

pub full-is : (block : List ℕ) → get_or block 37 0 ≡ 255 → is_full block ≡ true
unfolding is_full
full-is block is = eq-eqb (get_or block 37 0) 255 is

pub full-byte : (block : List ℕ) → is_full block ≡ true → get_or block 37 0 ≡ 255
unfolding is_full
full-byte block is = eqb-true (get_or block 37 0) 255 is

pub record Marked (block : List ℕ) : Type 0 where
  pub kept : Kept (set block 37 255)
  pub same : (bucket : ℕ) → bucket < 37 → entry_of (set block 37 255) bucket ≡ entry_of block bucket
  pub full : is_full (set block 37 255) ≡ true
  pub stays : is_full block ≡ true → set block 37 255 ≡ block

marked_stays : (block : List ℕ) → get_or block 37 0 ≡ 255 → set block 37 255 ≡ block
marked_stays block is = ap (set block 37) (sym is) ∙ set-get_or block 37 0

marked_same : (block : List ℕ) → Kept block → (bucket : ℕ) → bucket < 37
    → entry_of (set block 37 255) bucket ≡ entry_of block bucket
marked_same block k bucket within =
    elim (cases_lt (get_or block 37 0) 255) [
      | inr full ↦ ap (λ b. entry_of b bucket) (marked_stays block (omega (arith, full, k.most)))
      | inl room ↦
          bucket_same (set block 37 255) block bucket (length-set block 37 255)
          (get_or-set_other block 37 bucket 255 0 (λ e. omega arith))
          (λ other.
          let bounds = k.entries room bucket within other in
          entry_same (set block 37 255) block (2 * get_or block bucket 0) (length-set block 37 255)
          (omega (arith, bounds.1, k.size, k.most))
          (λ i low high. get_or-set_other block 37 i 255 0 (λ e. omega (arith, bounds.0, low, e))))
    ]

pub marked : (block : List ℕ) → Kept block → Marked block
marked block k =
    let byte : get_or (set block 37 255) 37 0 ≡ 255 = get_or-set_same block 37 255 0 (omega (arith, k.size)) in
    record {
      kept = record {
        size = length-set block 37 255 ∙ k.size;
        most = omega (arith, byte);
        least = omega (arith, byte);
        entries = λ room. absurd (omega (arith, byte, room));
      };
      same = marked_same block k;
      full = full-is (set block 37 255) byte;
      stays = λ is. marked_stays block (full-byte block is);
    }

-- a block that is passed has the same entries
pub record Passing (block new : List ℕ) : Type 0 where
  pub kept : Kept new
  pub same : (bucket : ℕ) → bucket < 37 → entry_of new bucket ≡ entry_of block bucket
  pub stays : is_full block ≡ true → new ≡ block

pub passing : (block : List ℕ) → Kept block → Passing block (full_block block)
unfolding full_block
passing block k =
    let m = marked block k in
    record { kept = m.kept; same = m.same; stays = m.stays }

pub passing_grows : (e : Entry) (block new : List ℕ) → Passing block new → Grows e block new
passing_grows e block new p = record {
  stays = λ bucket x within is. p.same bucket within ∙ is;
  added = λ bucket x within is. inl (sym (p.same bucket within) ∙ is);
  full = p.stays;
}

-- ---- a block in which a name is entered

-- an entry that a block has room for, in an empty bucket
pub record HasRoom (block : List ℕ) (bucket : ℕ) (e : Entry) : Type 0 where
  pub within : bucket < 37
  pub empty : get_or block bucket 0 ≡ 0
  pub room : get_or block 37 0 + entry_words e ≤ 256
  pub page : e.page < 65536

pub record Putting (block : List ℕ) (bucket : ℕ) (e : Entry) : Type 0 where
  pub kept : Kept (with_entry block bucket e)
  pub grows : Grows e block (with_entry block bucket e)
  pub here : entry_of (with_entry block bucket e) bucket ≡ Some e

abbrev unwrapped : Entry → Option Entry → Entry
unwrapped d None = d
unwrapped d (Some x) = x

pub putting : (block : List ℕ) (bucket : ℕ) (e : Entry) → Kept block → HasRoom block bucket e → Putting block bucket e
putting block bucket e k r =
    let f = get_or block 37 0 in
    let new = with_entry block bucket e in
    let within : 2 * f + length e.name + 3 ≤ length block = omega (arith, k.size, r.room) in
    let below : f < 255 = omega (arith, r.room) in
    let p = put_is block bucket e r.within k.least within in
    let here : entry_of new bucket ≡ Some e =
    entry-some new bucket (λ z. omega (arith, z, p.here, k.least))
    ∙ ap (λ w. Some (entry_at new (2 * w))) p.here ∙ ap Some (entry_put block bucket e p r.page within) in
    let same : (q : ℕ) → q < 37 → q ≢ bucket → entry_of new q ≡ entry_of block q =
    λ q small off.
    bucket_same new block q p.size (p.below q (λ z. omega arith) off (omega (arith, k.least)))
    (λ other.
    let bounds = k.entries below q small other in
    entry_same new block (2 * get_or block q 0) p.size (omega (arith, bounds.1, within))
    (λ i low high. p.below i (λ z. omega (arith, z, low, bounds.0)) (λ z. omega (arith, z, low, bounds.0, r.within))
    (omega (arith, high, bounds.1)))) in
    record {
      kept = record {
        size = p.size ∙ k.size;
        most = omega (arith, p.free);
        least = omega (arith, p.free, k.least);
        entries = λ room q small other.
            elim (cases_eq q bucket) [
              | inl is ↦
                  let w : get_or new q 0 ≡ f = ap (λ i. get_or new i 0) is ∙ p.here in
                  let len : get_or new (2 * f) 0 ≡ length e.name =
                  ap (λ i. get_or new i 0) (let z : 2 * f ≡ 2 * f + 0 = omega arith in z) ∙ p.there 0 (omega arith) in
                  let len' : get_or new (2 * get_or new q 0) 0 ≡ length e.name =
                  ap (λ i. get_or new (2 * i) 0) w ∙ len in
                  (omega (arith, w, k.least), omega (arith, w, len', p.free, room))
              | inr off ↦
                  let w : get_or new q 0 ≡ get_or block q 0 =
                  p.below q (λ z. omega arith) off (omega (arith, k.least)) in
                  let bounds = k.entries below q small (λ z. other (w ∙ z)) in
                  let len : get_or new (2 * get_or block q 0) 0 ≡ get_or block (2 * get_or block q 0) 0 =
                  p.below (2 * get_or block q 0) (λ z. omega (arith, z, bounds.0))
                  (λ z. omega (arith, z, bounds.0, r.within)) (omega (arith, bounds.1)) in
                  let len' : get_or new (2 * get_or new q 0) 0 ≡ get_or block (2 * get_or block q 0) 0 =
                  ap (λ i. get_or new (2 * i) 0) w ∙ len in
                  (omega (arith, w, bounds.0), omega (arith, w, len', bounds.1, p.free, room))
            ];
      };
      grows = record {
        stays = λ q x small is.
            elim (cases_eq q bucket) [
              | inl z ↦ absurd (entry_there block q x is (ap (λ i. get_or block i 0) z ∙ r.empty))
              | inr off ↦ same q small off ∙ is
            ];
        added = λ q x small is.
            elim (cases_eq q bucket) [
              | inl z ↦
                  let one : ◌≡◌ {A = Option Entry} (Some x) (Some e) =
                  sym is ∙ ap (entry_of new) z ∙ here in
                  inr (ap (unwrapped e) one)
              | inr off ↦ inl (sym (same q small off) ∙ is)
            ];
        full = λ is. absurd (omega (arith, full-byte block is, below));
      };
      here = here;
    }
