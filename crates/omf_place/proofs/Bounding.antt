-- The bounds of a layout in which no fault stands.
use Rattle.std.proofs.Common.{◌≡◌, ℕ, zero, suc, ◌+◌, ◌*◌, ◌/◌, ◌≤◌, Bool, true, false, cond, nat_lt, ◌++◌, List, []}
use Rattle.std.proofs.Common.{◌∷◌, length, map, find, Option, Some, None, slice_get, inl, inr}
use Rattle.std.proofs.Common.{refl, ap, sym, ◌∙◌, subst, arith}
use Rattle.std.proofs.lemmas.Bool.{cases_lt, lt-ltb}
use Rattle.std.proofs.lemmas.List.{length-map}
use Rattle.std.proofs.lemmas.List.FromFn.{length-map-range_with_len}
use Rattle.std.proofs.lemmas.Option.{slice_get-map, get_or_from_slice_get}
use Rattle.std.specs.List.{AllByRecursion}
use Rattle.std.specs.Option.{option_map}
use Rattle.omf_module.specs.declared.Standing.{Standing}
use Rattle.omf_module.specs.declared.Standing.TheVariants.{Absolute, Relocatable}
use Rattle.omf_module.specs.Module.{Module, Segment, Group}
use Rattle.omf_place.specs.Bounded.{LiesInside, ArePlacesOf, IsBounded}
use Rattle.omf_place.specs.declared.layout.Combined.{Combined}
use Rattle.omf_place.specs.declared.layout.Position.TheVariants as position
use Rattle.omf_place.specs.declared.names.Names.{Names}
use Rattle.omf_place.specs.Faults.{segment_fault}
use Rattle.omf_place.specs.inside.Steps.{is_long_segment}
use Rattle.omf_place.specs.Parts.{Input, inputs_from, inputs}
use Rattle.omf_place.specs.Layout.{Layout, layout_at, module_places, places_of, segment_in}
use Rattle.omf_place.specs.Parts.{Site, module_sites, sites, is_part}
use Rattle.omf_place.specs.inside.Placing.{sites_from, is_relocatable}
use Rattle.omf_place.specs.Placed.{IsPlaced, address_of}
use Rattle.omf_place.specs.Scopes.{table}
use Rattle.omf_place.specs.Tables.{segment_start, segment_end, leaders, combined_segment, frame_of_group}
use Rattle.omf_place.specs.Tables.{placed_publics}
use Rattle.omf_place.proofs.LinkProgram.{inputs-length}
use Rattle.omf_place.proofs.LinkRows.{input_rows, placed, row_at}
use Rattle.omf_place.specs.inside.Program.{RowIs}
use Rattle.omf_place.proofs.SiteLists.{length-module_sites, numbered_sites}
use Rattle.omf_place.proofs.Walks.{All-get, numbered_found}
use Rattle.omf_place.proofs.Within.{part-within}

All-front : {X : Type 0} (P : X → Type 0) (xs ys : List X) → AllByRecursion P (xs ++ ys) → AllByRecursion P xs
All-front P [] ys ps = tt
All-front P (x ∷ xs) ys ps = (ps.0, All-front P xs ys ps.1)

All-back : {X : Type 0} (P : X → Type 0) (xs ys : List X) → AllByRecursion P (xs ++ ys) → AllByRecursion P ys
All-back P [] ys ps = ps
All-back P (x ∷ xs) ys ps = All-back P xs ys ps.1

-- what holds of each site holds of those of each module
sites-of : (P : Site → Type 0) (p i : ℕ) (ms : List Module) → AllByRecursion P (sites_from p i ms)
    → AllByRecursion (λ n. AllByRecursion P n.sites) (inputs_from p i ms)
sites-of P p i [] ps = tt
sites-of P p i (m ∷ ms) ps = (
  All-front P (module_sites p i 0 m.segments) (sites_from (p + length m.segments) (i + 1) ms) ps,
  sites-of P (p + length m.segments) (i + 1) ms
      (All-back P (module_sites p i 0 m.segments) (sites_from (p + length m.segments) (i + 1) ms) ps),
)

input_at : (p i k : ℕ) (ms : List Module) (m : Module) → slice_get ms k ≡ Some m
    → (n : Input) × (slice_get (inputs_from p i ms) k ≡ Some n) × (n.says ≡ m) × (length n.sites ≡ length m.segments)
input_at p i k [] m e = cc
input_at p i zero (x ∷ xs) m e =
    let f : x ≡ m = cc in (
      record { input = i; says = x; sites = module_sites p i 0 x.segments },
      refl,
      f,
      length-module_sites p i 0 x.segments ∙ ap (λ (y : Module). length y.segments) f,
    )
input_at p i (suc k) (x ∷ xs) m e = input_at (p + length x.segments) (i + 1) k xs m e

find-none : {X : Type 0} (p : X → Bool) (xs : List X) → find p xs ≡ None → AllByRecursion (λ x. p x ≡ false) xs
find-none p [] e = tt
find-none p (x ∷ xs) e =
    (elim (p x) as (λ b.
    p x ≡ b → cond b (Some x) (find p xs) ≡ None → (p x ≡ false) × AllByRecursion (λ y. p y ≡ false) xs)
    [ true ↦ λ t f. cc | false ↦ λ t f. (t, find-none p xs f) ]) refl e

none-mapped : {X Y : Type 0} (f : X → Y) (o : Option X) → option_map f o ≡ None → o ≡ None
none-mapped f None e = refl
none-mapped f (Some x) e = cc

All-turned : {X Y : Type 0} (f : X → Y) (P : Y → Type 0) (Q : X → Type 0) (xs : List X) → ((x : X) → Q x → P (f x))
    → AllByRecursion Q xs → AllByRecursion P (map f xs)
All-turned f P Q [] h qs = tt
All-turned f P Q (x ∷ xs) h qs = (h x qs.0, All-turned f P Q xs h qs.1)

not-less : (a b : ℕ) → nat_lt a b ≡ false → b ≤ a
not-less a b e = elim (cases_lt a b) [
  | inl h ↦ absurd (let t : nat_lt a b ≡ true = lt-ltb a b h in let v : true ≡ false = sym t ∙ e in cc)
  | inr h ↦ omega arith
]

module _ (names : Names) (program : List Module) (A : List ℕ) (size : ℕ)
    (placing : IsPlaced (sites program) A size) where
  abbrev ss : List Site
  ss = sites program

  place-of : (a : Site) (s : Segment) → slice_get ss a.position ≡ Some a → a.segment ≡ s
      → LiesInside size s.length s.standing (placed ss A a)
  place-of a s at is =
      subst (λ (t : Segment). LiesInside size t.length t.standing (placed ss A a)) is (by a.segment.standing refl)
    where
      within : is_part a ≡ true → address_of A a + a.segment.length ≤ size
      within part = part-within ss A size (numbered_sites program) placing a at part

      by : (st : Standing) → a.segment.standing ≡ st
          → LiesInside size a.segment.length a.segment.standing (placed ss A a)
      by (Absolute frame offset) e = rw e tt
      by (Relocatable alignment kind) e = rw e (within (ap is_relocatable e))

  places : (i : ℕ) (m : Module) → slice_get program i ≡ Some m
      → ArePlacesOf size m (places_of (layout_at names program A size) i)
  places i m e =
      let at = input_at 0 0 i program m e in
      let n = at.0 in
      let here : places_of (layout_at names program A size) i ≡ module_places program A n =
      get_or_from_slice_get (map (module_places program A) (inputs program)) i (module_places program A n)
      (record { segments = []; groups = [] })
      (slice_get-map (module_places program A) (inputs program) i ∙ ap (option_map (module_places program A)) at.1) in
      let row : RowIs n = All-get RowIs (inputs program) i n (input_rows program) at.1 in
      let own =
      All-get (λ (x : Input). AllByRecursion (λ a. slice_get ss a.position ≡ Some a) x.sites) (inputs program) i n
      (sites-of (λ a. slice_get ss a.position ≡ Some a) 0 0 program (numbered_found ss (numbered_sites program)))
      at.1 in
      subst (λ ps. ArePlacesOf size m ps) (sym here) (record {
        segments = length-map n.sites (placed ss A) ∙ at.3;
        groups =
            length-map n.says.groups (λ (g : Group). frame_of_group program A g.name)
            ∙ ap (λ (x : Module). length x.groups) at.2;
        each = λ k s f.
            let r = row_at n row k s (ap (λ (x : Module). slice_get x.segments k) at.2 ∙ f) in
            let there : segment_in (module_places program A n) k ≡ placed ss A r.0 =
            get_or_from_slice_get (map (placed ss A) n.sites) k (placed ss A r.0) (position.Absolute 0 0)
            (slice_get-map (placed ss A) n.sites k ∙ ap (option_map (placed ss A)) r.1) in
            subst (λ p. LiesInside size s.length s.standing p) (sym there)
            (place-of r.0 s (All-get (λ a. slice_get ss a.position ≡ Some a) n.sites k r.0 own r.1) r.2);
      })

  short : segment_fault ss A ≡ None
      → AllByRecursion (λ (c : Combined). c.end ≤ 16 * (c.start / 16) + 65536)
      (map (combined_segment ss A) (leaders ss))
  short none =
      All-turned (combined_segment ss A) (λ (c : Combined). c.end ≤ 16 * (c.start / 16) + 65536)
      (λ a. is_long_segment ss A a ≡ false) (leaders ss)
      (λ a e. not-less (16 * (segment_start ss A a / 16) + 65536) (segment_end ss A a) e)
      (find-none (is_long_segment ss A) (leaders ss) (none-mapped _ (find (is_long_segment ss A) (leaders ss)) none))

  pub bounded : segment_fault ss A ≡ None → size ≤ 1048560 → (l : Layout) → l ≡ layout_at names program A size
      → IsBounded program l
  bounded none fits l is = subst (λ k. IsBounded program k) (sym is) (record {
    size = fits;
    modules = length-map (inputs program) (module_places program A) ∙ inputs-length 0 0 program;
    each = places;
    combined =
        λ i c e.
        All-get (λ (d : Combined). d.end ≤ 16 * (d.start / 16) + 65536) (map (combined_segment ss A) (leaders ss)) i c
        (short none) e;
    scopes = length-map-range_with_len (λ m. table names (Some m) (placed_publics program A)) 0 (length program);
  })
