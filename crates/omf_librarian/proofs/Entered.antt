-- A dictionary in which a name is entered.
use Rattle.std.proofs.Common.{◌≡◌, ◌≢◌, ℕ, zero, suc, ◌+◌, ◌-◌, ◌*◌, ◌%◌, ◌<◌, ◌≤◌, ◌⊎◌, inl, inr, Bool, true, false}
use Rattle.std.proofs.Common.{leb}
use Rattle.std.proofs.Common.{List, [], ◌∷◌, ◌++◌, length, get_or, take, drop, cond, Some, None, refl, sym, ap, subst}
use Rattle.std.proofs.Common.{◌∙◌, arith}
use Rattle.std.specs.declared.option.Option.{Option}
use Rattle.std.specs.Str.{bytes_eq}
use Rattle.std.specs.Cmp.Lexicographic.{bytes_decides}
use Rattle.std.proofs.lemmas.Bool.{cases_lt, cases_eq, leb-true}
use Rattle.std.proofs.lemmas.List.{drop-take, drop_at, length-drop, length-take-le, take-append-drop, take_at}
use Rattle.std.proofs.lemmas.Slice.{drop-put_mid, take-put_mid_below}
use Rattle.omf_librarian.specs.Hashing.{Hash}
use Rattle.omf_librarian.specs.Dictionary.{Ending, Found, Empty, Passed, Entry, block_at, entry_of, in_block, in_blocks}
use Rattle.omf_librarian.specs.Dictionary.{is_full, page_by}
use Rattle.omf_librarian.specs.Entering.{entered_at, entered_from, entered_in, entered_or, entry_words, first_empty}
use Rattle.omf_librarian.specs.Entering.{full_block, with_block, with_entry}
use Rattle.omf_librarian.proofs.Blocks.{Grows, HasRoom, Kept, Marked, Passing, Putting, grows_more, grows_same, marked}
use Rattle.omf_librarian.proofs.Blocks.{passing, passing_grows, putting}
use Rattle.omf_librarian.proofs.Filling.{entered-here, entered-next}
use Rattle.omf_librarian.proofs.Lists.{mid_size}
use Rattle.omf_librarian.proofs.Searching.{Goes, NoName, empties_block, ended_block, found_block, goes_still}
use Rattle.omf_librarian.proofs.Searching.{grown_block}
use Rattle.omf_librarian.proofs.Searching.{none_block, passed_block, same_block}

pub same-bytes : (xs : List ℕ) → bytes_eq xs xs ≡ true
same-bytes xs = (bytes_decides xs xs).1 refl

-- ---- in a block

-- a block with an entry more
pub record Hit (e : Entry) (hash : Hash) (old new : List ℕ) : Type 0 where
  pub kept : Kept new
  pub grows : Grows e old new
  pub found : NoName old e.name → in_block new hash e.name ≡ Found e.page

abbrev block_or : List ℕ → Option (List ℕ) → List ℕ
block_or d None = d
block_or d (Some b) = b

hit_by : (e : Entry) (hash : Hash) (old new : List ℕ) (o : Option ℕ) → Kept old → hash.bucket < 37 → e.page < 65536
    → first_empty old hash ≡ o → entered_at old e o ≡ Some new → Hit e hash old new
hit_by e hash old new None kept within page at is =
    absurd (let z : ◌≡◌ {A = Option (List ℕ)} None (Some new) = is in cc)
hit_by e hash old new (Some bucket) kept within page at is =
    let free = get_or old 37 0 + entry_words e in
    (elim (leb free 256) as (λ t.
    leb free 256 ≡ t → cond t (Some (with_entry old bucket e)) None ≡ Some new → Hit e hash old new) [
      | false ↦ λ _ z. absurd (let z' : ◌≡◌ {A = Option (List ℕ)} None (Some new) = z in cc)
      | true ↦ λ room z.
          let same : with_entry old bucket e ≡ new = ap (block_or new) z in
          let empty = empties_block old hash bucket within at in
          let r : HasRoom old bucket e = record {
            within = empty.within;
            empty = empty.byte;
            room = leb-true free 256 room;
            page = page;
          } in
          let p = putting old bucket e kept r in
          let P : List ℕ → Type 0 = λ b. Hit e hash old b in
          subst P same (record {
            kept = p.kept;
            grows = p.grows;
            found =
                λ lacks.
                found_block old (with_entry old bucket e) e hash bucket lacks within p.grows p.here (same-bytes e.name)
                at;
          })
    ]) refl is

pub hit : (e : Entry) (hash : Hash) (old new : List ℕ) → Kept old → hash.bucket < 37 → e.page < 65536
    → entered_in old hash e ≡ Some new → Hit e hash old new
unfolding entered_in
hit e hash old new kept within page is = hit_by e hash old new (first_empty old hash) kept within page refl is

-- behind a block that is passed the search goes on
goes_at : (hash : Hash) (old name : List ℕ) (o : Option ℕ) → Kept old → hash.bucket < 37 → NoName old name
    → first_empty old hash ≡ o → Goes (full_block old) hash name
unfolding full_block
goes_at hash old name None kept within lacks at =
    let m = marked old kept in
    record { by = inl (same_block old _ hash name m.same within ∙ passed_block old hash name lacks within at) }
goes_at hash old name (Some bucket) kept within lacks at =
    let m = marked old kept in
    record {
      by = inr (same_block old _ hash name m.same within ∙ ended_block old hash name bucket lacks within at, m.full);
    }

pub goes : (hash : Hash) (old name : List ℕ) → Kept old → hash.bucket < 37 → NoName old name
    → Goes (full_block old) hash name
goes hash old name kept within lacks = goes_at hash old name (first_empty old hash) kept within lacks refl

-- ---- a dictionary with another block

pub block-there : (d block : List ℕ) (at blocks : ℕ) → length d ≡ 512 * blocks → at < blocks → length block ≡ 512
    → block_at (with_block d at block) at ≡ block
block-there d block at blocks size within whole =
    ap (take 512) (drop_at (take (512 * at) d) (block ++ drop 512 (drop (512 * at) d)) (512 * at)
    (length-take-le (512 * at) d (omega (arith, size, within))))
    ∙ take_at block (drop 512 (drop (512 * at) d)) 512 whole

pub block-other : (d block : List ℕ) (at other blocks : ℕ) → length d ≡ 512 * blocks → at < blocks
    → length block ≡ 512 → other ≢ at → block_at (with_block d at block) other ≡ block_at d other
block-other d block at other blocks size within whole off =
    elim (cases_lt other at) [
      | inl before ↦
          sym (drop-take (512 * other) 512 (with_block d at block))
          ∙ ap (drop (512 * other))
          (take-put_mid_below (512 * at) 512 d block (512 * other + 512) (omega (arith, before))
          (omega (arith, size, within)))
          ∙ drop-take (512 * other) 512 d
      | inr behind ↦
          ap (take 512)
          (drop-put_mid (512 * at) 512 d block (512 * other) (omega (arith, behind, off)) (omega (arith, size, within))
          whole)
    ]

pub dictionary-size : (d block : List ℕ) (at blocks : ℕ) → length d ≡ 512 * blocks → at < blocks
    → length block ≡ 512 → length (with_block d at block) ≡ 512 * blocks
dictionary-size d block at blocks size within whole =
    mid_size d block (512 * at) 512 (omega (arith, size, within)) whole ∙ size

-- a dictionary of so many blocks, each with its entries where they can stand
pub record AllKept (blocks : ℕ) (d : List ℕ) : Type 0 where
  pub size : length d ≡ 512 * blocks
  pub kept : (k : ℕ) → k < blocks → Kept (block_at d k)

-- no block has the name
pub record NoneHas (blocks : ℕ) (d name : List ℕ) : Type 0 where
  pub none : (k : ℕ) → k < blocks → NoName (block_at d k) name

-- each block has grown
pub record AllGrow (blocks : ℕ) (e : Entry) (old new : List ℕ) : Type 0 where
  pub grows : (k : ℕ) → k < blocks → Grows e (block_at old k) (block_at new k)

pub all_grow : (blocks : ℕ) (e : Entry) (a b c : List ℕ) → AllGrow blocks e a b → AllGrow blocks e b c
    → AllGrow blocks e a c
all_grow blocks e a b c g h = record {
  grows = λ k within. grows_more e (block_at a k) (block_at b k) (block_at c k) (g.grows k within) (h.grows k within);
}

-- one block changes
pub one_kept : (blocks : ℕ) (d block : List ℕ) (at : ℕ) → AllKept blocks d → at < blocks → Kept block
    → AllKept blocks (with_block d at block)
one_kept blocks d block at all within kept = record {
  size = dictionary-size d block at blocks all.size within kept.size;
  kept = λ k small.
      elim (cases_eq k at) [
        | inl is ↦
            let same : block_at (with_block d at block) k ≡ block =
            ap (block_at (with_block d at block)) is ∙ block-there d block at blocks all.size within kept.size in
            subst Kept (sym same) kept
        | inr off ↦
            subst Kept (sym (block-other d block at k blocks all.size within kept.size off)) (all.kept k small)
      ];
}

pub one_grows : (blocks : ℕ) (e : Entry) (d block : List ℕ) (at : ℕ) → AllKept blocks d → at < blocks → Kept block
    → Grows e (block_at d at) block → AllGrow blocks e d (with_block d at block)
one_grows blocks e d block at all within kept grows = record {
  grows = λ k small.
      let P : List ℕ → Type 0 = λ b. Grows e (block_at d k) b in
      elim (cases_eq k at) [
        | inl is ↦
            let same : block_at (with_block d at block) k ≡ block =
            ap (block_at (with_block d at block)) is ∙ block-there d block at blocks all.size within kept.size in
            let Q : ℕ → Type 0 = λ n. Grows e (block_at d n) block in
            subst P (sym same) (subst Q (sym is) grows)
        | inr off ↦
            subst P (sym (block-other d block at k blocks all.size within kept.size off)) (grows_same e (block_at d k))
      ];
}

-- a block that is passed has no name more
no_name_by : (old new name : List ℕ) → Passing old new → NoName old name → NoName new name
no_name_by old new name p lacks = record {
  none = λ bucket x within is. lacks.none bucket x within (sym (p.same bucket within) ∙ is);
}

one_none : (blocks : ℕ) (d block name : List ℕ) (at : ℕ) → AllKept blocks d → at < blocks → Kept block
    → Passing (block_at d at) block → NoneHas blocks d name → NoneHas blocks (with_block d at block) name
one_none blocks d block name at all within kept p lacks = record {
  none = λ k small.
      let P : List ℕ → Type 0 = λ b. NoName b name in
      elim (cases_eq k at) [
        | inl is ↦
            let same : block_at (with_block d at block) k ≡ block =
            ap (block_at (with_block d at block)) is ∙ block-there d block at blocks all.size within kept.size in
            subst P (sym same) (no_name_by (block_at d at) block name p (lacks.none at within))
        | inr off ↦
            subst P (sym (block-other d block at k blocks all.size within kept.size off)) (lacks.none k small)
      ];
}

-- ---- the search in a dictionary

-- behind a block from which the search goes on
page-on : (further : Option ℕ) (block : List ℕ) (hash : Hash) (name : List ℕ)
    → (in_block block hash name ≡ Passed) ⊎ ((in_block block hash name ≡ Empty) × (is_full block ≡ true))
    → page_by further (is_full block) (in_block block hash name) ≡ further
page-on further block hash name (inl is) = ap (page_by further (is_full block)) is
page-on further block hash name (inr is) =
    ap (page_by further (is_full block)) is.0 ∙ ap (λ t. cond t further None) is.1

-- what is entered
pub record Entered (most blocks : ℕ) (old new : List ℕ) (hash : Hash) (e : Entry) (at : ℕ) : Type 0 where
  pub kept : AllKept blocks new
  pub grows : AllGrow blocks e old new
  pub found : NoneHas blocks old e.name → in_blocks most blocks new hash e.name at ≡ Some e.page

entered_here : (most blocks : ℕ) (d block new : List ℕ) (hash : Hash) (e : Entry) (at : ℕ) → AllKept blocks d
    → at < blocks → Hit e hash (block_at d at) block → with_block d at block ≡ new
    → Entered (suc most) blocks d new hash e at
entered_here most blocks d block new hash e at all within h same =
    let P : List ℕ → Type 0 = λ n. Entered (suc most) blocks d n hash e at in
    let w = with_block d at block in
    let there : block_at w at ≡ block = block-there d block at blocks all.size within h.kept.size in
    subst P same (record {
      kept = one_kept blocks d block at all within h.kept;
      grows = one_grows blocks e d block at all within h.kept h.grows;
      found = λ lacks.
          let further = in_blocks most blocks w hash e.name ((at + hash.block_delta) % blocks) in
          ap (λ b. page_by further (is_full b) (in_block b hash e.name)) there
          ∙ ap (page_by further (is_full block)) (h.found (lacks.none at within));
    })

entered_behind : (most blocks : ℕ) (d new : List ℕ) (hash : Hash) (e : Entry) (at : ℕ) → AllKept blocks d
    → at < blocks → hash.bucket < 37
    → Entered most blocks (with_block d at (full_block (block_at d at))) new hash e
    ((at + hash.block_delta) % blocks)
    → Entered (suc most) blocks d new hash e at
entered_behind most blocks d new hash e at all within first h =
    let old = block_at d at in
    let block = full_block old in
    let w = with_block d at block in
    let kept = all.kept at within in
    let p = passing old kept in
    let there : block_at w at ≡ block = block-there d block at blocks all.size within p.kept.size in
    record {
      kept = h.kept;
      grows =
          all_grow blocks e d w new (one_grows blocks e d block at all within p.kept (passing_grows e old block p))
          h.grows;
      found = λ lacks.
          let further = in_blocks most blocks new hash e.name ((at + hash.block_delta) % blocks) in
          let on = goes hash old e.name kept first (lacks.none at within) in
          let Q : List ℕ → Type 0 = λ b. Goes b hash e.name in
          let still =
          goes_still (block_at w at) (block_at new at) e hash e.name first (h.grows.grows at within)
          (subst Q (sym there) on) in
          page-on further (block_at new at) hash e.name still.by
          ∙ h.found (one_none blocks d block e.name at all within p.kept p lacks);
    }

dictionary_or : List ℕ → Option (List ℕ) → List ℕ
dictionary_or d None = d
dictionary_or d (Some x) = x

entered_by : (most blocks : ℕ) (d new : List ℕ) (hash : Hash) (e : Entry) (at : ℕ) (o : Option (List ℕ))
    → ((n : List ℕ) (k : ℕ) → AllKept blocks n → k < blocks → entered_from most blocks n hash e k ≡ Some new
    → Entered most blocks n new hash e k)
    → AllKept blocks d → at < blocks → hash.bucket < 37 → e.page < 65536
    → entered_in (block_at d at) hash e ≡ o → entered_from (suc most) blocks d hash e at ≡ Some new
    → Entered (suc most) blocks d new hash e at
unfolding dictionary_or
entered_by most blocks d new hash e at None further all within first page miss is =
    let p = passing (block_at d at) (all.kept at within) in
    entered_behind most blocks d new hash e at all within first
    (further (with_block d at (full_block (block_at d at))) ((at + hash.block_delta) % blocks)
    (one_kept blocks d (full_block (block_at d at)) at all within p.kept) (omega (arith, within))
    (sym (entered-next most blocks d hash e at miss) ∙ is))
entered_by most blocks d new hash e at (Some block) further all within first page is' is =
    entered_here most blocks d block new hash e at all within
    (hit e hash (block_at d at) block (all.kept at within) first page is')
    (ap (dictionary_or new) (sym (entered-here most blocks d block hash e at is') ∙ is))

pub entered_law : (most blocks : ℕ) (d new : List ℕ) (hash : Hash) (e : Entry) (at : ℕ) → hash.bucket < 37
    → e.page < 65536 → AllKept blocks d → at < blocks → entered_from most blocks d hash e at ≡ Some new
    → Entered most blocks d new hash e at
entered_law zero blocks d new hash e at first page all within is =
    absurd (let z : ◌≡◌ {A = Option (List ℕ)} None (Some new) = is in cc)
entered_law (suc most) blocks d new hash e at first page all within is =
    entered_by most blocks d new hash e at (entered_in (block_at d at) hash e)
    (λ n k kept small. entered_law most blocks n new hash e k first page kept small) all within first page refl is

-- ---- other names

still_by : (most blocks : ℕ) (e : Entry) (old new : List ℕ) (hash : Hash) (name : List ℕ) (at page : ℕ) (z : Ending)
    (t : Bool)
    → ((k : ℕ) → k < blocks → in_blocks most blocks old hash name k ≡ Some page
    → in_blocks most blocks new hash name k ≡ Some page)
    → Grows e (block_at old at) (block_at new at) → at < blocks → hash.bucket < 37
    → in_block (block_at old at) hash name ≡ z → is_full (block_at old at) ≡ t
    → page_by (in_blocks most blocks old hash name ((at + hash.block_delta) % blocks)) t z ≡ Some page
    → in_blocks (suc most) blocks new hash name at ≡ Some page
still_by most blocks e old new hash name at page (Found p) t further g within first is full h =
    ap (page_by (in_blocks most blocks new hash name ((at + hash.block_delta) % blocks)) (is_full (block_at new at)))
    (grown_block (block_at old at) (block_at new at) e hash name (Found p) first g is (λ z. cc))
    ∙ h
still_by most blocks e old new hash name at page Passed t further g within first is full h =
    ap (page_by (in_blocks most blocks new hash name ((at + hash.block_delta) % blocks)) (is_full (block_at new at)))
    (grown_block (block_at old at) (block_at new at) e hash name Passed first g is (λ z. cc))
    ∙ further ((at + hash.block_delta) % blocks) (omega (arith, within)) h
still_by most blocks e old new hash name at page Empty false further g within first is full h =
    absurd (let z : ◌≡◌ {A = Option ℕ} None (Some page) = h in cc)
still_by most blocks e old new hash name at page Empty true further g within first is full h =
    let same = g.full full in
    page-on (in_blocks most blocks new hash name ((at + hash.block_delta) % blocks)) (block_at new at) hash name
    (inr (ap (λ b. in_block b hash name) same ∙ is, ap is_full same ∙ full))
    ∙ further ((at + hash.block_delta) % blocks) (omega (arith, within)) h

-- a name that was found is found still
pub found_still : (most blocks : ℕ) (e : Entry) (old new : List ℕ) (hash : Hash) (name : List ℕ) (at page : ℕ)
    → AllGrow blocks e old new → at < blocks → hash.bucket < 37 → in_blocks most blocks old hash name at ≡ Some page
    → in_blocks most blocks new hash name at ≡ Some page
found_still zero blocks e old new hash name at page g within first is =
    absurd (let z : ◌≡◌ {A = Option ℕ} None (Some page) = is in cc)
found_still (suc most) blocks e old new hash name at page g within first is =
    still_by most blocks e old new hash name at page (in_block (block_at old at) hash name) (is_full (block_at old at))
    (λ k small h. found_still most blocks e old new hash name k page g small first h) (g.grows at within) within first
    refl refl is

-- a name that no block has isn't found
none_by : (most blocks : ℕ) (d : List ℕ) (hash : Hash) (name : List ℕ) (at : ℕ) (z : Ending) (t : Bool)
    → in_blocks most blocks d hash name ((at + hash.block_delta) % blocks) ≡ None
    → ((page : ℕ) → z ≡ Found page → ⊥)
    → page_by (in_blocks most blocks d hash name ((at + hash.block_delta) % blocks)) t z ≡ None
none_by most blocks d hash name at (Found page) t further lacks = absurd (lacks page refl)
none_by most blocks d hash name at Passed t further lacks = further
none_by most blocks d hash name at Empty true further lacks = further
none_by most blocks d hash name at Empty false further lacks = refl

pub none_found : (most blocks : ℕ) (d : List ℕ) (hash : Hash) (name : List ℕ) (at : ℕ) → NoneHas blocks d name
    → at < blocks → hash.bucket < 37 → in_blocks most blocks d hash name at ≡ None
none_found zero blocks d hash name at lacks within first = refl
none_found (suc most) blocks d hash name at lacks within first =
    none_by most blocks d hash name at (in_block (block_at d at) hash name) (is_full (block_at d at))
    (none_found most blocks d hash name ((at + hash.block_delta) % blocks) lacks (omega (arith, within)) first)
    (λ page. none_block (block_at d at) hash name page (lacks.none at within) first)
