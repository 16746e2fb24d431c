-- What the GRPDEFs of a module reach is what the definitions say.
use Rattle.std.proofs.Common.{◌≡◌, false, ℕ, ◌+◌, ◌/◌, min, max, List, [], ◌∷◌, ◌++◌, map, fold, Some, None, Option}
use Rattle.std.proofs.Common.{slice_get, get_or, refl, ap, sym, ◌∙◌, arith, All}
use Rattle.std.proofs.lemmas.List.Sums.{fold-append}
use Rattle.std.proofs.lemmas.Option.{slice_get-map, get_or_from_slice_get}
use Rattle.std.proofs.Common.{suc}
use Rattle.std.specs.List.{AllByRecursion, enumerate_from}
use Rattle.std.specs.Option.{option_map, option_to_list}
use Rattle.omf_module.specs.declared.Standing.{Standing}
use Rattle.omf_module.specs.declared.Standing.TheVariants.{Absolute, Relocatable}
use Rattle.omf_module.specs.Faults.{is_absolute}
use Rattle.omf_module.specs.Module.{Segment, Group}
use Rattle.omf_module.specs.Sound.{IsMember, GroupFits}
use Rattle.omf_place.specs.declared.groups.Reach.{Reach}
use Rattle.omf_place.specs.declared.inputs.Input as held
use Rattle.omf_place.specs.declared.stands.Stand.{Stand}
use Rattle.omf_place.specs.Parts.{Input}
use Rattle.omf_place.specs.inside.Program.{IsPlacedInput, RowIs, input_view}
use Rattle.omf_place.specs.Parts.{Site}
use Rattle.omf_place.specs.inside.Groups.{GroupReach, widened, no_stand, reach_in, join, reach_of_span, reached}
use Rattle.omf_place.specs.inside.Stands.{stand_of}
use Rattle.omf_place.specs.Tables.{Grpdef, grpdefs_of, span, widen, segment_start, segment_end}
use Rattle.omf_place.specs.inside.Steps.{components}
use Rattle.omf_place.proofs.KeyPlaces.{map_congr, map_two}
use Rattle.omf_place.proofs.Walks.{All-map}
use Rattle.omf_place.proofs.LinkRows.{row_at}

min_div : (a b : ℕ) → min a b / 16 ≡ min (a / 16) (b / 16)
min_div a b = omega arith

abbrev reach_at : ℕ → ℕ → Reach
reach_at f e = record { frame = f; end = e }

-- the spans of two lists, together
abbrev pub together : Option (ℕ × ℕ) → Option (ℕ × ℕ) → Option (ℕ × ℕ)
together None t = t
together (Some s) None = Some s
together (Some s) (Some t) = Some (min s.0 t.0, max s.1 t.1)

abbrev span_at : ℕ → ℕ → ℕ × ℕ
span_at s e = (s, e)

spans_eq : (a b c d : ℕ) → a ≡ c → b ≡ d → Some (span_at a b) ≡ Some (span_at c d)
spans_eq a b c d p q = rw (p, q)

reaches_eq : (a b c d : ℕ) → a ≡ c → b ≡ d → Some (reach_at a b) ≡ Some (reach_at c d)
reaches_eq a b c d p q = cc

together-widen : (s t : Option (ℕ × ℕ)) (a b : ℕ) → widen (together s t) a b ≡ together s (widen t a b)
together-widen None t a b = refl
together-widen (Some s) None a b = refl
together-widen (Some s) (Some t) a b = spans_eq _ _ _ _ (omega arith) (omega arith)

together-none : (s : Option (ℕ × ℕ)) → together s None ≡ s
together-none None = refl
together-none (Some s) = refl

pub join_reaches : (s t : Option (ℕ × ℕ))
    → join (option_map reach_of_span s) (option_map reach_of_span t) ≡ option_map reach_of_span (together s t)
join_reaches None t = refl
join_reaches (Some s) None = refl
join_reaches (Some s) (Some t) = reaches_eq _ _ _ _ (sym (min_div s.0 t.0)) refl

widen_reach : (s : Option (ℕ × ℕ)) (t : Stand) (start end : ℕ) → t.frame ≡ start / 16 → t.end ≡ end
    → Some (widened (option_map reach_of_span s) t) ≡ option_map reach_of_span (widen s start end)
widen_reach None t start end f e = reaches_eq _ _ _ _ f e
widen_reach (Some s) t start end f e = reaches_eq _ _ _ _ (omega (arith, f, min_div s.0 start)) (omega (arith, e))

module _ (ss : List Site) (A : List ℕ) where
  abbrev step : Option (ℕ × ℕ) → Site → Option (ℕ × ℕ)
  step s a = widen s (segment_start ss A a) (segment_end ss A a)

  fold-together : (s t : Option (ℕ × ℕ)) (xs : List Site) → together s (fold step t xs) ≡ fold step (together s t) xs
  fold-together s t [] = refl
  fold-together s t (x ∷ xs) =
      fold-together s (step t x) xs
      ∙ ap (λ o. fold step o xs) (sym (together-widen s t (segment_start ss A x) (segment_end ss A x)))

  pub span-append : (xs ys : List Site) → span ss A (xs ++ ys) ≡ together (span ss A xs) (span ss A ys)
  span-append xs ys =
      fold-append step None xs ys ∙ ap (λ s. fold step s ys) (sym (together-none (span ss A xs)))
      ∙ sym (fold-together (span ss A xs) None ys)

  -- a relocatable segment's stand has the frame of its combined segment
  stand_frame : (a : Site) (st : Standing) → is_absolute st ≡ false → a.segment.standing ≡ st
      → (stand_of ss A a).frame ≡ segment_start ss A a / 16
  stand_frame a (Absolute frame offset) r e = cc
  stand_frame a (Relocatable alignment kind) r e = rw e refl

  stand_end : (a : Site) (st : Standing) → a.segment.standing ≡ st → (stand_of ss A a).end ≡ segment_end ss A a
  stand_end a (Absolute frame offset) e = rw e refl
  stand_end a (Relocatable alignment kind) e = rw e refl

  get_stand : (xs : List Site) (k : ℕ) (a : Site) (d : Stand) → slice_get xs k ≡ Some a
      → get_or (map (stand_of ss A) xs) k d ≡ stand_of ss A a
  get_stand xs k a d e =
      get_or_from_slice_get (map (stand_of ss A) xs) k (stand_of ss A a) d
      (slice_get-map (stand_of ss A) xs k ∙ ap (option_map (stand_of ss A)) e)

  reach_span : (n : Input) → RowIs n → (stands : List Stand) → stands ≡ map (stand_of ss A) n.sites →
      (members : List ℕ) → AllByRecursion (IsMember n.says.segments n.says.groups n.says.externals) members →
      (s : Option (ℕ × ℕ)) →
      fold (λ r k. Some (widened r (get_or stands k no_stand))) (option_map reach_of_span s) members
      ≡ option_map reach_of_span (fold step s (components n.sites members))
  reach_span n row stands own [] all s = refl
  reach_span n row stands own (k ∷ ks) all s =
      let c = all.0 in
      let at = row_at n row k c.0 c.1.0 in
      let a = at.0 in
      let st = c.0.standing in
      let standing : a.segment.standing ≡ st = ap (λ (g : Segment). g.standing) at.2 in
      let here : get_or stands k no_stand ≡ stand_of ss A a =
      ap (λ ts. get_or ts k no_stand) own ∙ get_stand n.sites k a no_stand at.1 in
      let f : (get_or stands k no_stand).frame ≡ segment_start ss A a / 16 =
      ap (λ (t : Stand). t.frame) here ∙ stand_frame a st c.1.1 standing in
      let e : (get_or stands k no_stand).end ≡ segment_end ss A a =
      ap (λ (t : Stand). t.end) here ∙ stand_end a st standing in
      let more : components n.sites (k ∷ ks) ≡ a ∷ components n.sites ks =
      ap (λ o. option_to_list o ++ components n.sites ks) at.1 in
      ap (λ r. fold (λ q j. Some (widened q (get_or stands j no_stand))) r ks)
      (widen_reach s (get_or stands k no_stand) (segment_start ss A a) (segment_end ss A a) f e)
      ∙ reach_span n row stands own ks all.1 (step s a)
      ∙ ap (λ xs. option_map reach_of_span (fold step s xs)) (sym more)

pub to_recursion : {X : Type 0} (P : X → Type 0) (xs : List X) → All P xs → AllByRecursion P xs
to_recursion P [] all = tt
to_recursion P (x ∷ xs) all = (all 0 x (omega arith), to_recursion P xs (λ i d h. all (suc i) d (omega arith)))

All-numbered : {X : Type 0} (P : X → Type 0) (n : ℕ) (xs : List X) → AllByRecursion P xs
    → AllByRecursion (λ (e : ℕ × X). P e.1) (enumerate_from n xs)
All-numbered P n [] ps = tt
All-numbered P n (x ∷ xs) ps = (ps.0, All-numbered P (n + 1) xs ps.1)

module _ {H : Type 0} (ss : List Site) (A : List ℕ) (x : held.Input H) (placed : IsPlacedInput ss A x) where
  abbrev groups : List Group
  groups = x.says.now.groups

  abbrev named : ℕ × Group → GroupReach
  named e = record { input = x.input; group = e.0; name = e.1.name; reach = reach_in x.stands.now e.1.members }

  abbrev defs : ℕ × Group → Grpdef
  defs e = record { input = x.input; group = e.0; name = e.1.name; sites = components (input_view x).sites e.1.members }

  abbrev fits : Group → Type 0
  fits = GroupFits x.says.now.segments groups x.says.now.externals

  pub grpdefs_here : map named (enumerate_from 0 groups) ≡ map (reached ss A) (grpdefs_of (input_view x))
  grpdefs_here =
      map_congr named (λ e. reached ss A (defs e)) (enumerate_from 0 groups)
      (All-map (λ (e : ℕ × Group). fits e.1) (λ e. named e ≡ reached ss A (defs e)) (enumerate_from 0 groups)
      (λ e own_fits. ap (λ r. record { input = x.input; group = e.0; name = e.1.name; reach = r })
      (reach_span ss A (input_view x) placed.row x.stands.now placed.own e.1.members
      (to_recursion (IsMember x.says.now.segments groups x.says.now.externals) e.1.members own_fits.members) None))
      (All-numbered fits 0 groups (to_recursion fits groups placed.sound.groups)))
      ∙ sym (map_two defs (reached ss A) (enumerate_from 0 groups))
