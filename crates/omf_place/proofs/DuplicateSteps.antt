-- The first public whose name an earlier one of its owner has, one public after the other.
use Rattle.std.proofs.Common.{◌≡◌, ℕ, ◌+◌, ◌<◌, ◌≤◌, true, false, cond, ◌&&◌, ◌||◌, List, [], ◌∷◌, ◌++◌, map, length}
use Rattle.std.proofs.Common.{take, replicate, get_or, find, Option, Some, None, IfSome, is_some, slice_get, refl, ap}
use Rattle.std.proofs.Common.{sym, ◌∙◌, arith}
use Rattle.std.proofs.lemmas.List.{ext_get_or, take_more, map-append, length-map, get_or-replicate, length-replicate}
use Rattle.std.proofs.lemmas.List.FromFn.{length-enumerate_from, get_or-enumerate_from, get_or-map-range_with_len}
use Rattle.std.proofs.lemmas.List.FromFn.{length-map-range_with_len}
use Rattle.std.proofs.lemmas.Option.{slice_get-map, slice_get-get_or, get_or_from_slice_get, slice_get_within}
use Rattle.std.specs.Cmp.{nat_eq_equiv}
use Rattle.std.specs.Cmp.Lexicographic.{nat_list_eq_equiv}
use Rattle.std.specs.List.{AllByRecursion, enumerate_from, list_any}
use Rattle.std.specs.Option.{option_map}
use Rattle.omf_place.specs.declared.layout.Position.{Position}
use Rattle.omf_place.specs.declared.names.Names.{Names}
use Rattle.omf_place.specs.declared.names.Names.TheVariants.{Exact}
use Rattle.omf_place.specs.declared.scopes.Entry as held
use Rattle.omf_place.specs.Faults.{DuplicatePublic, duplicate_in}
use Rattle.omf_place.specs.inside.HeldNames.{HoldsAll, IsOwner, Scopes, entry_view, scopes_of, table_of, with_entry}
use Rattle.omf_place.specs.inside.Named.{value_where}
use Rattle.omf_place.specs.Names.{Table, agrees, means, spelled}
use Rattle.omf_place.specs.inside.Steps.{empty}
use Rattle.omf_place.specs.Scopes.{ScopedName, clashes, table}
use Rattle.omf_place.specs.inside.HeldNames.{local_tables}
use Rattle.omf_place.specs.inside.Steps.{owned_by, repeats, same_owner}
use Rattle.omf_place.proofs.Finds.{find-here, find-more}
use Rattle.omf_place.proofs.GreatestAt.{All-at}
use Rattle.omf_place.proofs.InputLists.{map_take}
use Rattle.omf_place.proofs.Numbering.{numbered-all}
use Rattle.omf_place.proofs.SiteLists.{take-all}

agrees-sym : (names : Names) (n m : List ℕ) → agrees names n m ≡ agrees names m n
agrees-sym names n m = nat_list_eq_equiv.symm (spelled names n) (spelled names m)

same_owner-sym : (p q : Option ℕ) → same_owner p q ≡ same_owner q p
same_owner-sym None None = refl
same_owner-sym None (Some n) = refl
same_owner-sym (Some m) None = refl
same_owner-sym (Some m) (Some n) = nat_eq_equiv.symm m n

module _ {V : Type 0} (names : Names) where
  abbrev pairs : List (ScopedName V) → List (List ℕ × V)
  pairs es = map (λ d. (d.name, d.value)) es

  any-means : (x : ScopedName V) (es : List (ScopedName V))
      → list_any (λ e. clashes names e x) es ≡ is_some (means (table names x.owner es) x.name)
  any-means x [] = refl
  any-means x (e ∷ es) =
      ap (λ b. (b && agrees names e.name x.name) || list_any (λ y. clashes names y x) es)
      (same_owner-sym e.owner x.owner)
      ∙ ap (λ b. (same_owner x.owner e.owner && b) || list_any (λ y. clashes names y x) es)
      (agrees-sym names e.name x.name)
      ∙ (elim (same_owner x.owner e.owner) as (λ b.
      ((b && agrees names x.name e.name) || list_any (λ y. clashes names y x) es)
      ≡ is_some (value_where (agrees names x.name) (pairs (cond b (e ∷ owned_by x.owner es) (owned_by x.owner es))))) [
        | true ↦ (elim (agrees names x.name e.name) as (λ b. (b || list_any (λ y. clashes names y x) es)
            ≡ is_some (option_map (λ (p : List ℕ × V). p.1) (cond b (Some (e.name, e.value))
            (find (λ p. agrees names x.name p.0) (pairs (owned_by x.owner es)))))) [
              | true ↦ refl
              | false ↦ any-means x es
            ])
        | false ↦ any-means x es
      ])

  pairs-more : (q : Option ℕ) (es : List (ScopedName V)) (x : ScopedName V) →
      pairs (owned_by q (es ++ x ∷ []))
      ≡ cond (same_owner q x.owner) (pairs (owned_by q es) ++ (x.name, x.value) ∷ []) (pairs (owned_by q es))
  pairs-more q [] x =
      elim (same_owner q x.owner) as (λ b. pairs (cond b (x ∷ []) []) ≡ cond b ((x.name, x.value) ∷ []) []) [
        | true ↦ refl
        | false ↦ refl
      ]
  pairs-more q (e ∷ es) x =
      (elim (same_owner q e.owner) as (λ b. pairs (cond b (e ∷ owned_by q (es ++ x ∷ [])) (owned_by q (es ++ x ∷ [])))
      ≡ cond (same_owner q x.owner) (pairs (cond b (e ∷ owned_by q es) (owned_by q es)) ++ (x.name, x.value) ∷ [])
      (pairs (cond b (e ∷ owned_by q es) (owned_by q es)))) [
        | true ↦ ap (λ ps. (e.name, e.value) ∷ ps) (pairs-more q es x)
            ∙ (elim (same_owner q x.owner) as (λ b.
            (e.name, e.value) ∷ cond b (pairs (owned_by q es) ++ (x.name, x.value) ∷ []) (pairs (owned_by q es))
            ≡ cond b ((e.name, e.value) ∷ (pairs (owned_by q es) ++ (x.name, x.value) ∷ []))
            ((e.name, e.value) ∷ pairs (owned_by q es))) [ true ↦ refl | false ↦ refl ])
        | false ↦ pairs-more q es x
      ])

  abbrev with_pairs : List (List ℕ × V) → Table V
  with_pairs ps = record { names = names; entries = ps }

  table-more : (q : Option ℕ) (es : List (ScopedName V)) (x : ScopedName V) →
      cond (same_owner q x.owner) (with_entry (table names q es) x.name x.value) (table names q es)
      ≡ table names q (es ++ x ∷ [])
  table-more q es x =
      (elim (same_owner q x.owner) as (λ b. cond b (with_entry (table names q es) x.name x.value) (table names q es)
      ≡ with_pairs (cond b (pairs (owned_by q es) ++ (x.name, x.value) ∷ []) (pairs (owned_by q es)))) [
        | true ↦ refl
        | false ↦ refl
      ])
      ∙ ap with_pairs (sym (pairs-more q es x))

numbered-at : {X : Type 0} (xs : List X) (k : ℕ) (x : X) → slice_get xs k ≡ Some x
    → slice_get (enumerate_from 0 xs) k ≡ Some (k, x)
numbered-at xs k x at =
    let w = slice_get_within xs k x at in
    let z : 0 + k ≡ k = omega arith in
    slice_get-get_or (enumerate_from 0 xs) k (k, x) (let e = length-enumerate_from 0 xs in omega (arith, w, e))
    ∙ ap (λ y. Some y)
    (get_or-enumerate_from 0 xs k (k, x) w ∙ ap (λ n. (n, get_or xs k x)) z
    ∙ ap (λ y. (k, y)) (get_or_from_slice_get xs k x x at))

pub starts : {V : Type 0} (names : Names) (count : ℕ) (s : Scopes V)
    → s ≡ record { shared = empty names; locals = replicate count (empty names) } → HoldsAll names count [] s
starts {V} names count s e =
    let none : Scopes V = record { shared = empty names; locals = replicate count (empty names) } in
    record {
      modules = ap (λ (x : Scopes V). length x.locals) e ∙ length-replicate count (empty {V = V} names);
      tables = λ owner within. ap (λ (x : Scopes V). table_of x owner) e
          ∙ (elim owner as (λ o. IsOwner count o → table_of none o ≡ table names o []) [
            | None ↦ λ w. refl
            | Some m ↦ λ w. get_or-replicate count m (empty {V = V} names) (empty {V = V} Exact) w
          ]) within;
    }

module _ (names : Names) (count : ℕ) (given : List (held.Entry Position)) (i : ℕ) (d : held.Entry Position)
    (s : Scopes Position) (h : i < length given)
    (owned : AllByRecursion (λ e. IsOwner count e.owner) given)
    (holds : HoldsAll names count (map entry_view (take i given)) s)
    (apart : find (repeats names (map entry_view given)) (take i (enumerate_from 0 (map entry_view given)))
    ≡ None) where
  abbrev all : List (ScopedName Position)
  all = map entry_view given

  abbrev next : ScopedName Position
  next = entry_view (get_or given i d)

  next_at : slice_get all i ≡ Some next
  next_at = slice_get-map entry_view given i ∙ ap (option_map entry_view) (slice_get-get_or given i d h)

  within : IsOwner count next.owner
  within = All-at (λ (e : held.Entry Position). IsOwner count e.owner) given i d owned h

  pub owner-within : IfSome next.owner (λ m. m < length s.locals)
  owner-within = rw holds.modules within

  test_is : repeats names all (i, next) ≡ is_some (means (table_of s next.owner) next.name)
  test_is = ap (λ xs. list_any (λ e. clashes names e next) xs) (sym (map_take entry_view i given))
      ∙ any-means names next (map entry_view (take i given))
      ∙ ap (λ t. is_some (means t next.name)) (sym (holds.tables next.owner within))

  pub repeated : is_some (means (table_of s next.owner) next.name) ≡ true
      → duplicate_in names all ≡ Some (DuplicatePublic next.name)
  repeated t = ap (λ (o : Option (ℕ × ScopedName Position)). option_map (λ p. DuplicatePublic p.1.name) o)
      (find-here (repeats names all) (enumerate_from 0 all) i (i, next) (numbered-at all i next next_at) apart
      (test_is ∙ t))

  pub apart-more : means (table_of s next.owner) next.name ≡ None
      → find (repeats names all) (take (i + 1) (enumerate_from 0 all)) ≡ None
  apart-more none =
      find-more (repeats names all) (enumerate_from 0 all) i (i, next) (numbered-at all i next next_at) apart
      (test_is ∙ ap is_some none)

  more_is : map entry_view (take i given) ++ next ∷ [] ≡ map entry_view (take (i + 1) given)
  more_is = rw (take_more given i d h, map-append) refl

  pub holds-more : (new : Scopes Position) → length new.locals ≡ length s.locals
      → ((q : Option ℕ)
      → table_of new q ≡ cond (same_owner q next.owner) (with_entry (table_of s q) next.name next.value) (table_of s q))
      → HoldsAll names count (map entry_view (take (i + 1) given)) new
  holds-more new long each = record {
    modules = long ∙ holds.modules;
    tables =
        λ q w.
        each q ∙ ap (λ t. cond (same_owner q next.owner) (with_entry t next.name next.value) t) (holds.tables q w)
        ∙ table-more names q (map entry_view (take i given)) next ∙ ap (λ es. table names q es) more_is;
  }

pub no-duplicate : (names : Names) (given : List (held.Entry Position)) (i : ℕ) → length given ≤ i →
    find (repeats names (map entry_view given)) (take i (enumerate_from 0 (map entry_view given))) ≡ None →
    duplicate_in names (map entry_view given) ≡ None
no-duplicate names given i h apart =
    let all = map entry_view given in
    ap (λ (o : Option (ℕ × ScopedName Position)). option_map (λ p. DuplicatePublic p.1.name) o)
    (ap (λ es. find (repeats names all) es)
    (sym (numbered-all all i (let e = length-map given entry_view in omega (arith, h, e)))) ∙ apart)

-- what holds all is the tables of all
pub holds-all : {V : Type 0} (names : Names) (count : ℕ) (given : List (held.Entry V)) (i : ℕ) (s : Scopes V) →
    length given ≤ i → HoldsAll names count (map entry_view (take i given)) s →
    s ≡ scopes_of names count (map entry_view given)
holds-all {V} names count given i s h holds =
    let es : List (ScopedName V) = map entry_view given in
    let all : HoldsAll names count es s = rw (sym (take-all i given h)) holds in
    let locals : s.locals ≡ local_tables names count es =
    ext_get_or (empty {V = V} Exact) s.locals (local_tables names count es)
    (all.modules ∙ sym (length-map-range_with_len (λ m. table names (Some m) es) 0 count))
    (λ m w.
    let within : m < count = let e = all.modules in omega (arith, w, e) in
    let same : 0 + m ≡ m = omega arith in
    all.tables (Some m) within
    ∙ sym (get_or-map-range_with_len (λ k. table names (Some k) es) 0 count m m (empty {V = V} Exact) within same)) in
    λ j. record { shared = all.tables None tt j; locals = locals j }
