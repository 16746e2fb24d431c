-- What loops over buckets, blocks and entries come to.
use Rattle.std.proofs.Common.{◌≡◌, ◌≢◌, ℕ, zero, suc, ◌+◌, ◌-◌, ◌*◌, ◌/◌, ◌%◌, ◌<◌, ◌≤◌, Bool, true, false, List, []}
use Rattle.std.proofs.Common.{◌∷◌, ◌++◌}
use Rattle.std.proofs.Common.{length, get_or, take, drop, cond, eqb, Some, None, refl, sym, ap, subst, ◌∙◌, arith}
use Rattle.std.proofs.Common.{IfSome, Vec}
use Rattle.std.specs.declared.option.Option.{Option}
use Rattle.std.proofs.lemmas.Bool.{eq-eqb, ne_eqb}
use Rattle.std.specs.Option.{option_and_then, option_or}
use Rattle.std.proofs.lemmas.List.{drop_all, drop_more}
use Rattle.omf_librarian.specs.Hashing.{Hash, hash_of}
use Rattle.omf_librarian.specs.Dictionary.{Entry, block_at}
use Rattle.omf_librarian.specs.Entering.{all_entered, dictionary_of, empty_bucket, entered, entered_from, entered_in}
use Rattle.omf_librarian.specs.Entering.{entered_or}
use Rattle.omf_librarian.specs.Entering.{filled, first_filled, primes}
use Rattle.omf_librarian.specs.Entering.{first_empty, full_block, with_block}
use Rattle.omf_librarian.specs.inside.Views.{BlockEntered, IsEntered}

-- a search over so many buckets
pub empty-first : (block : List ℕ) (hash : Hash) (n : ℕ) → n ≡ 37
    → empty_bucket n block hash hash.bucket ≡ first_empty block hash
unfolding first_empty
empty-first block hash n e = ap (λ k. empty_bucket k block hash hash.bucket) e

pub empty-here : (most : ℕ) (block : List ℕ) (hash : Hash) (bucket : ℕ) → get_or block bucket 0 ≡ 0
    → empty_bucket (suc most) block hash bucket ≡ Some bucket
empty-here most block hash bucket e = rw (eq-eqb (get_or block bucket 0) 0 e) refl

pub empty-next : (most : ℕ) (block : List ℕ) (hash : Hash) (bucket : ℕ) → get_or block bucket 0 ≢ 0
    → empty_bucket (suc most) block hash bucket
    ≡ empty_bucket most block hash ((bucket + hash.bucket_delta) % 37)
empty-next most block hash bucket e = rw (ne_eqb (get_or block bucket 0) 0 e) refl

-- the way that is left of a search for an empty bucket
pub record EmptyLeft (block : List ℕ) (hash : Hash) (bucket done : ℕ) : Type 0 where
  pub within : bucket < 37
  pub left : ℕ
  pub all : done + left ≡ 37
  pub same : empty_bucket left block hash bucket ≡ first_empty block hash

pub empty_init : (block : List ℕ) (hash : Hash) → hash.bucket < 37 → EmptyLeft block hash hash.bucket 0
empty_init block hash h = record { within = h; left = 37; all = omega arith; same = empty-first block hash 37 refl }

empty_by : (block : List ℕ) (hash : Hash) (bucket done left : ℕ) → done + left ≡ 37
    → empty_bucket left block hash bucket ≡ first_empty block hash → done < 37
    → get_or block bucket 0 ≢ 0 → EmptyLeft block hash ((bucket + hash.bucket_delta) % 37) (done + 1)
empty_by block hash bucket done zero all same more other = absurd (omega arith)
empty_by block hash bucket done (suc left) all same more other = record {
  within = omega arith;
  left = left;
  all = omega arith;
  same = sym (empty-next left block hash bucket other) ∙ same;
}

pub empty_step : (block : List ℕ) (hash : Hash) (bucket done : ℕ) → EmptyLeft block hash bucket done → done < 37
    → get_or block bucket 0 ≢ 0 → EmptyLeft block hash ((bucket + hash.bucket_delta) % 37) (done + 1)
empty_step block hash bucket done l more other =
    empty_by block hash bucket done l.left l.all l.same more other

found_by : (block : List ℕ) (hash : Hash) (bucket done left : ℕ) → done + left ≡ 37
    → empty_bucket left block hash bucket ≡ first_empty block hash → done < 37
    → get_or block bucket 0 ≡ 0 → Some bucket ≡ first_empty block hash
found_by block hash bucket done zero all same more is = absurd (omega arith)
found_by block hash bucket done (suc left) all same more is = sym (empty-here left block hash bucket is) ∙ same

pub empty_found : (block : List ℕ) (hash : Hash) (bucket done : ℕ) → EmptyLeft block hash bucket done → done < 37
    → get_or block bucket 0 ≡ 0 → Some bucket ≡ first_empty block hash
empty_found block hash bucket done l more is = found_by block hash bucket done l.left l.all l.same more is

pub empty_none : (block : List ℕ) (hash : Hash) (bucket done : ℕ) → EmptyLeft block hash bucket done → 37 ≤ done
    → None ≡ first_empty block hash
empty_none block hash bucket done l past =
    let e : l.left ≡ 0 = omega (arith, l.all) in
    sym (ap (λ k. empty_bucket k block hash bucket) e) ∙ l.same

-- ---- a dictionary

-- an entry stands in a block now, or it doesn't
pub block_hit : (old new : List ℕ) (hash : Hash) (e : Entry) (t : Bool) → BlockEntered old new hash e t → t ≡ true
    → entered_in old hash e ≡ Some new
block_hit old new hash e true h is = h
block_hit old new hash e false h is = absurd (let u : false ≡ true = is in cc)

pub block_miss : (old new : List ℕ) (hash : Hash) (e : Entry) (t : Bool) → BlockEntered old new hash e t → t ≡ false
    → (entered_in old hash e ≡ None) × (new ≡ full_block old)
block_miss old new hash e true h is = absurd (let u : true ≡ false = is in cc)
block_miss old new hash e false h is = h

pub is_entered : (blocks : ℕ) (old new : List ℕ) (e : Entry) (t : Bool) → IsEntered blocks old new e t → t ≡ true
    → entered blocks old e ≡ Some new
is_entered blocks old new e true h is = h
is_entered blocks old new e false h is = absurd (let u : false ≡ true = is in cc)

pub not_entered : (blocks : ℕ) (old new : List ℕ) (e : Entry) (t : Bool) → IsEntered blocks old new e t → t ≡ false
    → entered blocks old e ≡ None
not_entered blocks old new e true h is = absurd (let u : true ≡ false = is in cc)
not_entered blocks old new e false h is = h

pub entered-here : (most blocks : ℕ) (d block : List ℕ) (hash : Hash) (e : Entry) (at : ℕ)
    → entered_in (block_at d at) hash e ≡ Some block
    → entered_from (suc most) blocks d hash e at ≡ Some (with_block d at block)
entered-here most blocks d block hash e at is =
    ap (entered_or d at
    (entered_from most blocks (with_block d at (full_block (block_at d at))) hash e
    ((at + hash.block_delta) % blocks))) is

pub entered-next : (most blocks : ℕ) (d : List ℕ) (hash : Hash) (e : Entry) (at : ℕ)
    → entered_in (block_at d at) hash e ≡ None
    → entered_from (suc most) blocks d hash e at
    ≡ entered_from most blocks (with_block d at (full_block (block_at d at))) hash e
    ((at + hash.block_delta) % blocks)
entered-next most blocks d hash e at is =
    ap (entered_or d at
    (entered_from most blocks (with_block d at (full_block (block_at d at))) hash e
    ((at + hash.block_delta) % blocks))) is

-- the way that is left of an entry
pub record EnterLeft (blocks : ℕ) (start d : List ℕ) (hash : Hash) (e : Entry) (block done : ℕ) : Type 0 where
  pub within : block < blocks
  pub size : length d ≡ 512 * blocks
  pub left : ℕ
  pub all : done + left ≡ blocks
  pub same : entered_from left blocks d hash e block ≡ entered blocks start e

pub enter_init : (blocks : ℕ) (d : List ℕ) (hash : Hash) (e : Entry) → length d ≡ 512 * blocks
    → hash ≡ hash_of blocks e.name → hash.block < blocks → EnterLeft blocks d d hash e hash.block 0
unfolding entered
enter_init blocks d hash e size is within = record {
  within = within;
  size = size;
  left = blocks;
  all = omega arith;
  same = ap (λ (h : Hash). entered_from blocks blocks d h e h.block) is;
}

enter_by : (blocks : ℕ) (start d new : List ℕ) (hash : Hash) (e : Entry) (block done left : ℕ)
    → done + left ≡ blocks → entered_from left blocks d hash e block ≡ entered blocks start e → block < blocks
    → done < blocks → entered_in (block_at d block) hash e ≡ None
    → new ≡ with_block d block (full_block (block_at d block)) → length new ≡ 512 * blocks
    → EnterLeft blocks start new hash e ((block + hash.block_delta) % blocks) (done + 1)
enter_by blocks start d new hash e block done zero all same within more miss is size = absurd (omega arith)
enter_by blocks start d new hash e block done (suc left) all same within more miss is size = record {
  within = omega arith;
  size = size;
  left = left;
  all = omega arith;
  same =
      ap (λ n. entered_from left blocks n hash e ((block + hash.block_delta) % blocks)) is
      ∙ sym (entered-next left blocks d hash e block miss) ∙ same;
}

pub enter_step : (blocks : ℕ) (start d new : List ℕ) (hash : Hash) (e : Entry) (block done : ℕ)
    → EnterLeft blocks start d hash e block done
    → done < blocks → entered_in (block_at d block) hash e ≡ None
    → new ≡ with_block d block (full_block (block_at d block)) → length new ≡ 512 * blocks
    → EnterLeft blocks start new hash e ((block + hash.block_delta) % blocks) (done + 1)
enter_step blocks start d new hash e block done l =
    enter_by blocks start d new hash e block done l.left l.all l.same l.within

here_by : (blocks : ℕ) (start d block : List ℕ) (hash : Hash) (e : Entry) (at done left : ℕ)
    → done + left ≡ blocks → entered_from left blocks d hash e at ≡ entered blocks start e
    → done < blocks → entered_in (block_at d at) hash e ≡ Some block
    → entered blocks start e ≡ Some (with_block d at block)
here_by blocks start d block hash e at done zero all same more hit = absurd (omega arith)
here_by blocks start d block hash e at done (suc left) all same more hit =
    sym same ∙ entered-here left blocks d block hash e at hit

pub enter_here : (blocks : ℕ) (start d block : List ℕ) (hash : Hash) (e : Entry) (at done : ℕ)
    → EnterLeft blocks start d hash e at done → done < blocks → entered_in (block_at d at) hash e ≡ Some block
    → entered blocks start e ≡ Some (with_block d at block)
enter_here blocks start d block hash e at done l = here_by blocks start d block hash e at done l.left l.all l.same

pub enter_none : (blocks : ℕ) (start d : List ℕ) (hash : Hash) (e : Entry) (at done : ℕ)
    → EnterLeft blocks start d hash e at done → blocks ≤ done → entered blocks start e ≡ None
enter_none blocks start d hash e at done l past =
    let none : l.left ≡ 0 = omega (arith, l.all) in
    sym l.same ∙ ap (λ n. entered_from n blocks d hash e at) none

-- ---- all entries

pub all-next : (blocks : ℕ) (d d' : List ℕ) (e : Entry) (es : List Entry) → entered blocks d e ≡ Some d'
    → all_entered blocks d (e ∷ es) ≡ all_entered blocks d' es
all-next blocks d d' e es is = ap (option_and_then (λ x. all_entered blocks x es)) is

pub all-none : (blocks : ℕ) (d : List ℕ) (e : Entry) (es : List Entry) → entered blocks d e ≡ None
    → all_entered blocks d (e ∷ es) ≡ None
all-none blocks d e es is = ap (option_and_then (λ x. all_entered blocks x es)) is

-- ---- the numbers of blocks

primes_size : length primes ≡ 54
unfolding primes
primes_size = refl

primes_next : (i : ℕ) (es : List Entry) → i < 54
    → first_filled (drop i primes) es
    ≡ option_or (filled (get_or primes i 0) es) (first_filled (drop (i + 1) primes) es)
primes_next i es within = ap (λ l. first_filled l es) (drop_more primes i 0 (omega (arith, primes_size)))

pub primes_hit : (i : ℕ) (es : List Entry) (d : List ℕ) → i < 54
    → first_filled (drop i primes) es ≡ dictionary_of es → filled (get_or primes i 0) es ≡ Some d
    → Some d ≡ dictionary_of es
primes_hit i es d within same is =
    sym (ap (λ o. option_or o (first_filled (drop (i + 1) primes) es)) is) ∙ sym (primes_next i es within) ∙ same

pub primes_miss : (i : ℕ) (es : List Entry) → i < 54
    → first_filled (drop i primes) es ≡ dictionary_of es → filled (get_or primes i 0) es ≡ None
    → first_filled (drop (i + 1) primes) es ≡ dictionary_of es
primes_miss i es within same is =
    sym (ap (λ o. option_or o (first_filled (drop (i + 1) primes) es)) is) ∙ sym (primes_next i es within) ∙ same

pub primes_none : (i : ℕ) (es : List Entry) → 54 ≤ i → first_filled (drop i primes) es ≡ dictionary_of es
    → None ≡ dictionary_of es
primes_none i es past same =
    sym (ap (λ l. first_filled l es) (drop_all i primes (omega (arith, primes_size)))) ∙ same

pub size_in : {A : Type 0} (n : ℕ) (o : Option (Vec ℕ A)) (v : Vec ℕ A) → IfSome o (λ w. length w.items ≡ n)
    → o ≡ Some v
    → length v.items ≡ n
size_in n o v h is = let P : Option (Vec ℕ _) → Type 0 = λ x. IfSome x (λ w. length w.items ≡ n) in subst P is h
