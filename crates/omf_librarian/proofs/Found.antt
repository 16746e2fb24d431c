-- What is found in a dictionary that is filled: the names that were entered, each at the page of the first that has it.
use Rattle.std.proofs.Common.{◌≡◌, ◌≢◌, ℕ, zero, suc, ◌+◌, ◌-◌, ◌*◌, ◌/◌, ◌%◌, ◌<◌, ◌≤◌, ◌⊎◌, inl, inr, Bool, true}
use Rattle.std.proofs.Common.{false}
use Rattle.std.proofs.Common.{List, [], ◌∷◌, ◌++◌, length, get_or, take, drop, replicate, cond, ltb, leb, ◌&&◌, Some}
use Rattle.std.proofs.Common.{None}
use Rattle.std.proofs.Common.{is_some, refl, sym, ap, subst, ◌∙◌, arith, append_assoc, length-append}
use Rattle.std.specs.declared.option.Option.{Option}
use Rattle.std.specs.List.{find, list_all, repeat}
use Rattle.std.specs.Option.{option_and_then, option_map, option_or}
use Rattle.std.specs.Str.{bytes_eq}
use Rattle.std.specs.Cmp.Lexicographic.{bytes_decides}
use Rattle.std.proofs.lemmas.Bool.{and_parts, leb-true, ltb-true}
use Rattle.std.proofs.lemmas.List.{append-nil, drop-drop, drop_at, get_or-replicate, get_or_append_left, take_at}
use Rattle.omf_librarian.specs.Hashing.{Hash, hash_of}
use Rattle.omf_librarian.specs.Dictionary.{Entry, block_at, entry_of, in_blocks, looked_up_in}
use Rattle.omf_librarian.specs.Entering.{all_entered, dictionary_of, empty_block, entered, filled, first_filled, primes}
use Rattle.omf_librarian.specs.Naming.{Named, entries_behind, entry_for, first_of}
use Rattle.omf_librarian.proofs.Blocks.{Grows, Kept, entry-none}
use Rattle.omf_librarian.proofs.Entered.{AllGrow, AllKept, Entered, NoneHas, entered_law, found_still, none_found}
use Rattle.omf_librarian.proofs.Lists.{block_size, repeat_size}
use Rattle.omf_librarian.proofs.Searching.{NoName}

-- ---- hashes

pub bucket-within : (blocks : ℕ) (name : List ℕ) → (hash_of blocks name).bucket < 37
unfolding hash_of
bucket-within blocks name = omega arith

pub block-within : (blocks : ℕ) (name : List ℕ) → 0 < blocks → (hash_of blocks name).block < blocks
unfolding hash_of
block-within blocks name some = omega (arith, some)

-- ---- an empty dictionary

empty-byte : (bucket : ℕ) → bucket < 37 → get_or empty_block bucket 0 ≡ 0
unfolding empty_block
empty-byte bucket within =
    get_or_append_left (replicate 37 0) (19 ∷ replicate 474 0) 0 bucket within ∙ get_or-replicate 37 bucket 0 0 within

empty-free : get_or empty_block 37 0 ≡ 19
unfolding empty_block
empty-free = refl

empty_kept : Kept empty_block
empty_kept = record {
  size = block_size;
  most = omega (arith, empty-free);
  least = omega (arith, empty-free);
  entries = λ room bucket within other. absurd (other (empty-byte bucket within));
}

empty_none : (name : List ℕ) → NoName empty_block name
empty_none name = record {
  none = λ bucket x within is.
      absurd
      (let z : ◌≡◌ {A = Option Entry} None (Some x) =
      sym (entry-none empty_block bucket (empty-byte bucket within)) ∙ is in cc);
}

repeat-block : (n k : ℕ) → k < n → block_at (repeat n empty_block) k ≡ empty_block
repeat-block zero k within = absurd (omega arith)
repeat-block (suc n) zero within = take_at empty_block (repeat n empty_block) 512 block_size
repeat-block (suc n) (suc k) within =
    let e : 512 * suc k ≡ 512 + 512 * k = omega arith in
    ap (λ m. take 512 (drop m (empty_block ++ repeat n empty_block))) e
    ∙ ap (take 512) (sym (drop-drop (512 * k) 512 (empty_block ++ repeat n empty_block)))
    ∙ ap (λ l. take 512 (drop (512 * k) l)) (drop_at empty_block (repeat n empty_block) 512 block_size)
    ∙ repeat-block n k (omega arith)

-- ---- the names that were entered

-- a dictionary has these names
record Holds (blocks : ℕ) (d : List ℕ) (before : List Named) : Type 0 where
  pub kept : AllKept blocks d
  pub found : (name : List ℕ) (n : Named) → first_of before name ≡ Some n → looked_up_in blocks d name ≡ Some n.page
  pub none : (name : List ℕ) → first_of before name ≡ None → NoneHas blocks d name

empty_holds : (blocks : ℕ) → Holds blocks (repeat blocks empty_block) []
empty_holds blocks = record {
  kept = record {
    size = repeat_size blocks;
    kept = λ k within. subst Kept (sym (repeat-block blocks k within)) empty_kept;
  };
  found = λ name n is. absurd (let z : ◌≡◌ {A = Option Named} None (Some n) = is in cc);
  none = λ name _. record {
    none = λ k within.
        let P : List ℕ → Type 0 = λ b. NoName b name in
        subst P (sym (repeat-block blocks k within)) (empty_none name);
  };
}

pub find_push : {A : Type 0} (test : A → Bool) (xs : List A) (y : A)
    → find test (xs ++ y ∷ []) ≡ option_or (find test xs) (cond (test y) (Some y) None)
find_push test [] y = refl
find_push test (x ∷ xs) y =
    elim (test x) as (λ t. cond t (Some x) (find test (xs ++ y ∷ []))
    ≡ option_or (cond t (Some x) (find test xs)) (cond (test y) (Some y) None)) [
      | true ↦ refl
      | false ↦ find_push test xs y
    ]

abbrev named_or : Named → Option Named → Named
named_or d None = d
named_or d (Some n) = n

-- what is first among names and one more
data Among (before : List Named) (n : Named) (name : List ℕ) (m : Named) : Type 0 where
  Before : first_of before name ≡ Some m → Among before n name m
  Here : first_of before name ≡ None → n ≡ m → n.name ≡ name → Among before n name m

among_by : (before : List Named) (n : Named) (name : List ℕ) (m : Named) (o : Option Named) (t : Bool)
    → first_of before name ≡ o → bytes_eq n.name name ≡ t → option_or o (cond t (Some n) None) ≡ Some m
    → Among before n name m
among_by before n name m (Some x) t at same is = Before (at ∙ is)
among_by before n name m None true at same is = Here at (ap (named_or n) is) ((bytes_decides n.name name).0 same)
among_by before n name m None false at same is = absurd (let z : ◌≡◌ {A = Option Named} None (Some m) = is in cc)

among : (before : List Named) (n : Named) (name : List ℕ) (m : Named) → first_of (before ++ n ∷ []) name ≡ Some m
    → Among before n name m
among before n name m is =
    among_by before n name m (first_of before name) (bytes_eq n.name name) refl refl
    (sym (find_push (λ (x : Named). bytes_eq x.name name) before n) ∙ is)

record Neither (before : List Named) (n : Named) (name : List ℕ) : Type 0 where
  pub none : first_of before name ≡ None
  pub other : bytes_eq n.name name ≡ false

neither_by : (before : List Named) (n : Named) (name : List ℕ) (o : Option Named) (t : Bool)
    → first_of before name ≡ o → bytes_eq n.name name ≡ t → option_or o (cond t (Some n) None) ≡ None
    → Neither before n name
neither_by before n name (Some x) t at same is = absurd (let z : ◌≡◌ {A = Option Named} (Some x) None = is in cc)
neither_by before n name None true at same is = absurd (let z : ◌≡◌ {A = Option Named} (Some n) None = is in cc)
neither_by before n name None false at same is = record { none = at; other = same }

neither : (before : List Named) (n : Named) (name : List ℕ) → first_of (before ++ n ∷ []) name ≡ None
    → Neither before n name
neither before n name is =
    neither_by before n name (first_of before name) (bytes_eq n.name name) refl refl
    (sym (find_push (λ (x : Named). bytes_eq x.name name) before n) ∙ is)

-- a name that is there already changes nothing
found_old : (blocks : ℕ) (d : List ℕ) (before : List Named) (n : Named) (name : List ℕ) (m : Named)
    → Holds blocks d before → is_some (first_of before n.name) ≡ true → Among before n name m
    → looked_up_in blocks d name ≡ Some m.page
found_old blocks d before n name m h there (Before is) = h.found name m is
found_old blocks d before n name m h there (Here none is same) =
    absurd (let z : true ≡ false = sym there ∙ ap (λ l. is_some (first_of before l)) same ∙ ap is_some none in cc)

holds_old : (blocks : ℕ) (d : List ℕ) (before : List Named) (n : Named) → Holds blocks d before
    → is_some (first_of before n.name) ≡ true → Holds blocks d (before ++ n ∷ [])
holds_old blocks d before n h there = record {
  kept = h.kept;
  found = λ name m is. found_old blocks d before n name m h there (among before n name m is);
  none = λ name is. h.none name (neither before n name is).none;
}

-- a new name
entered_holds : (blocks : ℕ) (d new : List ℕ) (n : Named) → 0 < blocks → AllKept blocks d → n.page < 65536
    → entered blocks d (entry_for n) ≡ Some new
    → Entered blocks blocks d new (hash_of blocks n.name) (entry_for n) (hash_of blocks n.name).block
unfolding entered
entered_holds blocks d new n some kept page is =
    entered_law blocks blocks d new (hash_of blocks n.name) (entry_for n) (hash_of blocks n.name).block
    (bucket-within blocks n.name) page kept (block-within blocks n.name some) is

found_new : (blocks : ℕ) (d new : List ℕ) (before : List Named) (n : Named) (name : List ℕ) (m : Named)
    → 0 < blocks → Holds blocks d before
    → Entered blocks blocks d new (hash_of blocks n.name) (entry_for n) (hash_of blocks n.name).block
    → Among before n name m → looked_up_in blocks new name ≡ Some m.page
unfolding looked_up_in
found_new blocks d new before n name m some h e (Before is) =
    found_still blocks blocks (entry_for n) d new (hash_of blocks name) name (hash_of blocks name).block m.page e.grows
    (block-within blocks name some) (bucket-within blocks name) (h.found name m is)
found_new blocks d new before n name m some h e (Here none is same) =
    let P : List ℕ → Type 0 =
    λ l. in_blocks blocks blocks new (hash_of blocks l) l (hash_of blocks l).block ≡ Some n.page in
    subst P same (e.found (h.none n.name (ap (first_of before) same ∙ none)))
    ∙ ap (λ (x : Named). Some x.page) is

none_new : (blocks : ℕ) (d new : List ℕ) (before : List Named) (n : Named) (name : List ℕ) → Holds blocks d before
    → AllGrow blocks (entry_for n) d new → Neither before n name → NoneHas blocks new name
none_new blocks d new before n name h g lacks = record {
  none = λ k within. record {
    none = λ bucket x small is.
        elim ((g.grows k within).added bucket x small is) [
          | inl old ↦ ((h.none name lacks.none).none k within).none bucket x small old
          | inr same ↦ ap (λ (y : Entry). bytes_eq y.name name) same ∙ lacks.other
        ];
  };
}

holds_new : (blocks : ℕ) (d new : List ℕ) (before : List Named) (n : Named) → 0 < blocks → Holds blocks d before
    → n.page < 65536 → entered blocks d (entry_for n) ≡ Some new → Holds blocks new (before ++ n ∷ [])
holds_new blocks d new before n some h page is =
    let e = entered_holds blocks d new n some h.kept page is in
    record {
      kept = e.kept;
      found = λ name m at. found_new blocks d new before n name m some h e (among before n name m at);
      none = λ name at. none_new blocks d new before n name h e.grows (neither before n name at);
    }

-- ---- all names

-- the pages of names have numbers of 16 bits
pub record PagesFit (names : List Named) : Type 0 where
  pub fits : (i : ℕ) (d : Named) → i < length names → (get_or names i d).page < 65536

fits_first : (n : Named) (ns : List Named) → PagesFit (n ∷ ns) → n.page < 65536
fits_first n ns f = f.fits 0 n (omega arith)

fits_rest : (n : Named) (ns : List Named) → PagesFit (n ∷ ns) → PagesFit ns
fits_rest n ns f = record { fits = λ i d within. f.fits (suc i) d (omega arith) }

all_by : (blocks : ℕ) (d new : List ℕ) (before ns : List Named) (n : Named) (t : Bool) (o : Option (List ℕ))
    → ((x : List ℕ) → Holds blocks x (before ++ n ∷ [])
    → all_entered blocks x (entries_behind (before ++ n ∷ []) ns) ≡ Some new
    → Holds blocks new ((before ++ n ∷ []) ++ ns))
    → 0 < blocks → Holds blocks d before → n.page < 65536
    → is_some (first_of before n.name) ≡ t → entered blocks d (entry_for n) ≡ o
    → all_entered blocks d (cond t [] (entry_for n ∷ []) ++ entries_behind (before ++ n ∷ []) ns) ≡ Some new
    → Holds blocks new ((before ++ n ∷ []) ++ ns)
all_by blocks d new before ns n true o further some h page there at is =
    further d (holds_old blocks d before n h there) is
all_by blocks d new before ns n false None further some h page there at is =
    absurd (let z : ◌≡◌ {A = Option (List ℕ)} None (Some new) =
    sym (ap (option_and_then (λ x. all_entered blocks x (entries_behind (before ++ n ∷ []) ns))) at) ∙ is in cc)
all_by blocks d new before ns n false (Some x) further some h page there at is =
    further x (holds_new blocks d x before n some h page at)
    (sym (ap (option_and_then (λ y. all_entered blocks y (entries_behind (before ++ n ∷ []) ns))) at) ∙ is)

all_hold : (blocks : ℕ) (d new : List ℕ) (before ns : List Named) → 0 < blocks → PagesFit ns → Holds blocks d before
    → all_entered blocks d (entries_behind before ns) ≡ Some new → Holds blocks new (before ++ ns)
all_hold blocks d new before [] some fit h is =
    let P : List Named → Type 0 = λ l. Holds blocks new l in
    let Q : List ℕ → Type 0 = λ x. Holds blocks x before in
    let same : d ≡ new = ap (λ o. elim o [ None ↦ d | Some x ↦ x ]) is in
    subst P (sym (append-nil before)) (subst Q same h)
all_hold blocks d new before (n ∷ ns) some fit h is =
    let P : List Named → Type 0 = λ l. Holds blocks new l in
    subst P (append_assoc before (n ∷ []) ns)
    (all_by blocks d new before ns n (is_some (first_of before n.name)) (entered blocks d (entry_for n))
    (λ x g at. all_hold blocks x new (before ++ n ∷ []) ns some (fits_rest n ns fit) g at) some h
    (fits_first n ns fit) refl refl is)

-- what is found in a dictionary with names
pub record Finds (blocks : ℕ) (d : List ℕ) (names : List Named) : Type 0 where
  pub size : length d ≡ 512 * blocks
  pub found : (name : List ℕ) → looked_up_in blocks d name ≡ option_map (λ (n : Named). n.page) (first_of names name)

finds_by : (blocks : ℕ) (d : List ℕ) (names : List Named) (name : List ℕ) (o : Option Named) → 0 < blocks
    → Holds blocks d names → first_of names name ≡ o
    → looked_up_in blocks d name ≡ option_map (λ (n : Named). n.page) o
unfolding looked_up_in
finds_by blocks d names name (Some n) some h is = h.found name n is
finds_by blocks d names name None some h is =
    none_found blocks blocks d (hash_of blocks name) name (hash_of blocks name).block (h.none name is)
    (block-within blocks name some) (bucket-within blocks name)

pub filled_finds : (blocks : ℕ) (d : List ℕ) (names : List Named) → 0 < blocks → PagesFit names
    → filled blocks (entries_behind [] names) ≡ Some d → Finds blocks d names
unfolding filled
filled_finds blocks d names some fit is =
    let h = all_hold blocks (repeat blocks empty_block) d [] names some fit (empty_holds blocks) is in
    record {
      size = h.kept.size;
      found = λ name. finds_by blocks d names name (first_of names name) some h refl;
    }

-- ---- the number of blocks

-- a dictionary of so many blocks, of which there are at most 251
pub record Filled (es : List Entry) (d : List ℕ) : Type 0 where
  pub blocks : ℕ
  pub some : 0 < blocks
  pub few : blocks ≤ 251
  pub is : filled blocks es ≡ Some d

abbrev few_blocks : ℕ → Bool
few_blocks blocks = ltb 0 blocks && leb blocks 251

filled_by : (numbers : List ℕ) (blocks : ℕ) (es : List Entry) (d : List ℕ) (o : Option (List ℕ))
    → (first_filled numbers es ≡ Some d → Filled es d) → few_blocks blocks ≡ true → filled blocks es ≡ o
    → option_or o (first_filled numbers es) ≡ Some d → Filled es d
filled_by numbers blocks es d None further few at is = further is
filled_by numbers blocks es d (Some x) further few at is =
    let both = and_parts (ltb 0 blocks) (leb blocks 251) few in
    record {
      blocks = blocks;
      some = ltb-true 0 blocks both.0;
      few = leb-true blocks 251 both.1;
      is = at ∙ is;
    }

filled_among : (numbers : List ℕ) (es : List Entry) (d : List ℕ) → list_all few_blocks numbers ≡ true
    → first_filled numbers es ≡ Some d → Filled es d
filled_among [] es d all is = absurd (let z : ◌≡◌ {A = Option (List ℕ)} None (Some d) = is in cc)
filled_among (blocks ∷ numbers) es d all is =
    let both = and_parts (few_blocks blocks) (list_all few_blocks numbers) all in
    filled_by numbers blocks es d (filled blocks es) (filled_among numbers es d both.1) both.0 refl is

few_primes : list_all few_blocks primes ≡ true
unfolding primes
few_primes = refl

pub filled_of : (es : List Entry) (d : List ℕ) → dictionary_of es ≡ Some d → Filled es d
unfolding dictionary_of
filled_of es d is = filled_among primes es d few_primes is
