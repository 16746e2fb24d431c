-- The bytes of an order module are those of a whole module that no check refuses.
use Rattle.std.proofs.Common.{◌≡◌, ℕ, zero, suc, append_assoc, ◌+◌, ◌*◌, ◌<◌, ◌≤◌, Bool, true, false, eqb, ltb, List, [], ◌∷◌, ◌++◌, length, map}
use Rattle.std.proofs.Common.{Option}
use Rattle.std.proofs.Common.{Some, None, IfSome, refl, ap, sym, ◌∙◌, subst, arith, add-one, length-append, lit<, lit≤}
use Rattle.std.specs.Prelude.{codes}
use Rattle.std.proofs.lemmas.Bool.{eqb-true}
use Rattle.std.specs.List.{AllByRecursion}
use Rattle.std.specs.Option.{option_to_list}
use Rattle.omf_record.specs.declared.externals.PublicBase.TheVariants.{InSegment}
use Rattle.omf_record.specs.Record.{Record, Theadr, Modend, Pubdef, Lnames, Grpdef}
use Rattle.omf_record.specs.Canonical.{FitsFrame, canonical}
use Rattle.std.specs.Option.{option_or}
use Rattle.omf_record.specs.Records.{AreToEnd, Placed, is_end}
use Rattle.omf_module.specs.declared.fault.CheckFault.TheVariants.{DataInAbsolute, GroupIndex, NameIndex}
use Rattle.omf_module.specs.declared.fault.CheckFault.TheVariants.{SegmentIndex}
use Rattle.omf_module.specs.Before.{entry, first}
use Rattle.omf_module.specs.Bytes.{ModuleBytes}
use Rattle.omf_module.specs.Faults.{component_fault, data_fault, fault, is_absolute, is_beyond}
use Rattle.omf_module.specs.inside.Checking.{begun, when}
use Rattle.omf_module.specs.Module.{Segment}
use Rattle.omf_module.specs.Tables.{names, standing_of}
use Rattle.omf_module.specs.inside.Said.{groups, segments}
use Rattle.omf_module.specs.inside.Entries.{segment_of}
use Rattle.omf_write.specs.Records.{record_bytes, records_bytes}
use Rattle.omf_write.proofs.Bodies.{end_fits, header_fits, names_fit}
use Rattle.omf_write.proofs.Clean.{All-append, Clean, Ready, are_bodies, are_frames, both_false, clean_by, clean_end}
use Rattle.omf_write.proofs.Clean.{clean_first, component_ok, ended, length-record, nones, not_below, place_all}
use Rattle.omf_write.proofs.Clean.{ready-as, ready-more, segments-push}
use Rattle.omf_order.specs.Parts.{Part}
use Rattle.omf_order.specs.Plan.{Plan}
use Rattle.omf_order.specs.Records.{combination_of, definition, group_records, has_nulls, last_records, length_of}
use Rattle.omf_order.specs.Records.{mark_records, mark_segments, module_bytes, null_record, null_records}
use Rattle.omf_order.specs.Records.{part_records, public_of, records, segment_index}
use Rattle.omf_order.specs.Records.{segment_record}
use Rattle.omf_order.specs.Segments.{dgroup}
use Rattle.omf_order.specs.inside.Fits.{Fits, IsNamedPart}
use Rattle.omf_write.specs.inside.Fits.{IsName}
use Rattle.omf_order.proofs.Bodies.{few_marks, group_fits, name_fits, nulls_fit, plain, publics_fit, segment_fits}
use Rattle.omf_order.proofs.Bodies.{small_marks}

-- ---- the end

open_nulls : (place : ℕ) (has : Bool) → AllByRecursion (λ r. is_end r ≡ false) (null_records place has)
open_nulls place true = (refl, tt)
open_nulls place false = tt

open_parts : (nulls : Bool) (place : ℕ) (ps : List Part)
    → AllByRecursion (λ r. is_end r ≡ false) (part_records nulls place ps)
open_parts nulls place [] = tt
open_parts nulls place (p ∷ ps) = (
  refl,
  (
    refl,
    All-append (λ r. is_end r ≡ false) (null_records place (has_nulls nulls p)) (part_records nulls (place + 1) ps)
        (open_nulls place (has_nulls nulls p)) (open_parts nulls (place + 1) ps),
  ),
)

open_group : (ns : List ℕ) → AllByRecursion (λ r. is_end r ≡ false) (group_records ns)
open_group [] = tt
open_group (n ∷ ns) = (refl, tt)

open_mark : (ns : List (List ℕ)) (o : Option ℕ) → AllByRecursion (λ r. is_end r ≡ false) (mark_records ns o)
open_mark ns None = tt
open_mark ns (Some place) = (refl, tt)

to_end : (p : Plan) → AreToEnd (place_all 0 (records p))
to_end p =
    ended (Theadr (codes "doslink") ∷ Lnames (dgroup ∷ []) ∷ []) (refl, (refl, tt))
    (part_records p.null_bytes 0 p.parts ++ last_records p)
    (ended (part_records p.null_bytes 0 p.parts) (open_parts p.null_bytes 0 p.parts) (last_records p)
    (ended (group_records (mark_segments p)) (open_group (mark_segments p)) _
    (ended (mark_records p.data_end.names p.data_end.part) (open_mark p.data_end.names p.data_end.part) _
    (ended (mark_records p.bss_end.names p.bss_end.part) (open_mark p.bss_end.names p.bss_end.part)
    (Modend false None ∷ []) (λ at. refl))))) 0

-- ---- each fits its frame

fit_nulls : (place : ℕ) (has : Bool) → place < 16383 → AllByRecursion FitsFrame (null_records place has)
fit_nulls place true h = (nulls_fit place h, tt)
fit_nulls place false h = tt

fit_parts : (nulls : Bool) (place : ℕ) (ps : List Part) → place + length ps ≤ 16383 → AllByRecursion IsNamedPart ps
    → AllByRecursion FitsFrame (part_records nulls place ps)
fit_parts nulls place [] h ns = tt
fit_parts nulls place (p ∷ ps) h ns = (
  names_fit p.name p.class ns.0.name ns.0.class,
  (
    segment_fits place (has_nulls nulls p) p (omega (arith, h)),
    All-append FitsFrame (null_records place (has_nulls nulls p)) (part_records nulls (place + 1) ps)
        (fit_nulls place (has_nulls nulls p) (omega (arith, h)))
        (fit_parts nulls (place + 1) ps (omega (arith, h)) ns.1),
  ),
)

fit_mark : (names : List (List ℕ)) (o : Option ℕ) → IfSome o (λ k. k < 16383) → length names ≤ 2
    → AllByRecursion IsName names → AllByRecursion FitsFrame (mark_records names o)
fit_mark names None h few ns = tt
fit_mark names (Some place) h few ns = (publics_fit (place + 1) names (omega arith) (omega (arith, h)) few ns, tt)

fit_group : (ns : List ℕ) → length ns ≤ 2 → AllByRecursion (λ n. n ≤ 16383) ns
    → AllByRecursion FitsFrame (group_records ns)
fit_group [] few small = tt
fit_group (n ∷ ns) few small = (group_fits (n ∷ ns) few small, tt)

fit_all : (p : Plan) → Fits p → AllByRecursion IsNamedPart p.parts → AllByRecursion FitsFrame (records p)
fit_all p f named = (
  header_fits (codes "doslink")
      (lit≤ tt, (lit< tt, (lit< tt, (lit< tt, (lit< tt, (lit< tt, (lit< tt, (lit< tt, tt)))))))),
  (
    name_fits dgroup (lit≤ tt, (lit< tt, (lit< tt, (lit< tt, (lit< tt, (lit< tt, (lit< tt, tt))))))),
    All-append FitsFrame (part_records p.null_bytes 0 p.parts) (last_records p)
        (fit_parts p.null_bytes 0 p.parts (omega (arith, f.count)) named)
        (All-append FitsFrame (group_records (mark_segments p)) _
        (fit_group (mark_segments p) (few_marks p.data_end.part p.bss_end.part)
        (small_marks p.data_end.part p.bss_end.part f.data_end.part f.bss_end.part))
        (All-append FitsFrame (mark_records p.data_end.names p.data_end.part) _
        (fit_mark p.data_end.names p.data_end.part f.data_end.part f.data_end.few f.data_end.names)
        (All-append FitsFrame (mark_records p.bss_end.names p.bss_end.part) _
        (fit_mark p.bss_end.names p.bss_end.part f.bss_end.part f.bss_end.few f.bss_end.names)
        (end_fits, tt)))),
  ),
)

-- ---- the length

length-bytes : (rs : List Record) → AllByRecursion FitsFrame rs → length (records_bytes rs) ≤ length rs * 65538
length-bytes [] fits = lit≤ tt
length-bytes (r ∷ rs) fits =
    omega (
      arith,
      length-append (record_bytes r) (records_bytes rs),
      length-record r,
      fits.0.short,
      length-bytes rs fits.1,
    )

count_nulls : (place : ℕ) (has : Bool) → length (null_records place has) ≤ 1
count_nulls place true = lit≤ tt
count_nulls place false = lit≤ tt

count_parts : (nulls : Bool) (place : ℕ) (ps : List Part) → length (part_records nulls place ps) ≤ 3 * length ps
count_parts nulls place [] = lit≤ tt
count_parts nulls place (p ∷ ps) =
    omega (
      arith,
      length-append (null_records place (has_nulls nulls p)) (part_records nulls (place + 1) ps),
      count_nulls place (has_nulls nulls p),
      count_parts nulls (place + 1) ps,
    )

count_group : (ns : List ℕ) → length (group_records ns) ≤ 1
count_group [] = lit≤ tt
count_group (n ∷ ns) = lit≤ tt

count_mark : (ns : List (List ℕ)) (o : Option ℕ) → length (mark_records ns o) ≤ 1
count_mark ns None = lit≤ tt
count_mark ns (Some place) = lit≤ tt

count_all : (p : Plan) → length p.parts ≤ 16383 → length (records p) ≤ 49155
count_all p h =
    omega (
      arith,
      h,
      count_parts p.null_bytes 0 p.parts,
      count_group (mark_segments p),
      count_mark p.data_end.names p.data_end.part,
      count_mark p.bss_end.names p.bss_end.part,
      length-append (part_records p.null_bytes 0 p.parts) (last_records p),
      length-append (group_records (mark_segments p))
          (mark_records p.data_end.names p.data_end.part
          ++ (mark_records p.bss_end.names p.bss_end.part ++ Modend false None ∷ [])),
      length-append (mark_records p.data_end.names p.data_end.part)
          (mark_records p.bss_end.names p.bss_end.part ++ Modend false None ∷ []),
      length-append (mark_records p.bss_end.names p.bss_end.part) (Modend false None ∷ []),
    )

-- ---- no check refuses it

not_zero : (a : ℕ) → eqb (a + 1) 0 ≡ false
not_zero a = (elim (eqb (a + 1) 0) as (λ t. eqb (a + 1) 0 ≡ t → t ≡ false) [
  | true ↦ λ e. absurd (let l = eqb-true _ _ e in omega (arith, l))
  | false ↦ λ e. refl
]) refl

-- ---- the records of the parts

definition_ok : (n s g place : ℕ) (has : Bool) (p : Part) (before : List Placed) → Ready n s g before →
    2 * place + 3 ≤ n → fault before (segment_record place has p) ≡ None
definition_ok n s g place has p before r h =
    clean_by before (segment_record place has p) r.is_begun
    (ap (λ t. first (when t NameIndex ∷ []))
    (both_false _ _ (not_below (length (names before)) (2 * place + 2) (omega (arith, r.name_count, h)))
    (not_below (length (names before)) (2 * place + 3) (omega (arith, r.name_count, h)))))

relocatable_part : (ns : List (List ℕ)) (place : ℕ) (has : Bool) (p : Part)
    → is_absolute (segment_of ns (definition place has p)).standing ≡ false
relocatable_part ns place has p =
    plain (λ a. is_absolute (standing_of a (combination_of p.kind)) ≡ false) refl refl refl refl refl p.alignment

-- the segment that was defined last
entry_last : {X : Type 0} (xs : List X) (x : X) (n : ℕ) → length xs ≡ n → entry (xs ++ x ∷ []) (suc n) ≡ Some x
entry_last [] x n e = ap (λ m. entry (x ∷ []) (suc m)) (sym e)
entry_last (y ∷ ys) x zero e = cc
entry_last (y ∷ ys) x (suc n) e = entry_last ys x n (omega (arith, e))

-- so many bytes fit the part
part_holds : (ns : List (List ℕ)) (place : ℕ) (has : Bool) (p : Part)
    → data_fault (Some (segment_of ns (definition place has p))) 0 (length_of has) ≡ None
part_holds ns place true p = ap (λ b. when b DataInAbsolute) (relocatable_part ns place true p)
part_holds ns place false p = ap (λ b. when b DataInAbsolute) (relocatable_part ns place false p)

nulls_ok : (place : ℕ) (before : List Placed) → begun before ≡ true →
    data_fault (entry (segments before) (segment_index place)) 0 16 ≡ None → fault before (null_record place) ≡ None
nulls_ok place before b h = clean_by before (null_record place) b (ap (λ o. first (o ∷ [])) h)

clean_nulls : (n s place : ℕ) (has : Bool) (rest : List Record) →
    ((before : List Placed) (at : ℕ) → Ready n s 0 before → Clean before (place_all at rest)) →
    (before : List Placed) (at : ℕ) → Ready n s 0 before →
    data_fault (entry (segments before) (segment_index place)) 0 (length_of has) ≡ None →
    Clean before (place_all at (null_records place has ++ rest))
clean_nulls n s place false rest k before at r h = k before at r
clean_nulls n s place true rest k before at r h = (
  nulls_ok place before r.is_begun h,
  k _ _ (ready-as (n + 0) (s + 0) (0 + 0) n s 0 _ (omega arith) (omega arith) refl
      (ready-more n s 0 before
      (record { place = at; body = canonical (null_record place); says = null_record place }) r tt)),
)

clean_parts : (nulls : Bool) (place total : ℕ) (ps : List Part) (rest : List Record) → total ≡ place + length ps →
    ((before : List Placed) (at : ℕ) → Ready (1 + 2 * total) total 0 before → Clean before (place_all at rest)) →
    (before : List Placed) (at : ℕ) → Ready (1 + 2 * place) place 0 before →
    Clean before (place_all at (part_records nulls place ps ++ rest))
clean_parts nulls place total [] rest e k before at r =
    k before at (ready-as (1 + 2 * place) place 0 _ _ 0 before (omega (arith, e)) (omega (arith, e)) refl r)
clean_parts nulls place total (p ∷ ps) rest e k before at r =
    let has = has_nulls nulls p in
    let named : Placed =
    record { place = at; body = canonical (Lnames (p.name ∷ p.class ∷ [])); says = Lnames (p.name ∷ p.class ∷ []) } in
    let next = at + length (record_bytes (Lnames (p.name ∷ p.class ∷ []))) in
    let two = before ++ named ∷ [] in
    let r2 : Ready (1 + 2 * place + 2) (place + 0) (0 + 0) two =
    ready-more (1 + 2 * place) place 0 before named r tt in
    let defined : Placed = record {
      place = next;
      body = canonical (segment_record place has p);
      says = segment_record place has p;
    } in
    let three = two ++ defined ∷ [] in
    let r3 : Ready (1 + 2 * place + 2 + 0) (place + 0 + 1) (0 + 0 + 0) three =
    ready-more (1 + 2 * place + 2) (place + 0) (0 + 0) two defined r2
    (relocatable_part (names two) place has p, tt) in
    let last : entry (segments three) (segment_index place) ≡ Some (segment_of (names two) (definition place has p)) =
    ap (λ ss. entry ss (segment_index place)) (segments-push two defined)
    ∙ ap (λ k. entry (segments two ++ segment_of (names two) (definition place has p) ∷ []) k) (add-one place)
    ∙ entry_last (segments two) (segment_of (names two) (definition place has p)) place
    (let l = r2.segment_count in omega (arith, l)) in (
      clean_by before (Lnames (p.name ∷ p.class ∷ [])) r.is_begun refl,
      (
        definition_ok (1 + 2 * place + 2) (place + 0) (0 + 0) place has p two r2 (omega arith),
        subst (λ rs. Clean three (place_all (next + length (record_bytes (segment_record place has p))) rs))
            (sym (append_assoc (null_records place has) (part_records nulls (place + 1) ps) rest))
            (clean_nulls (1 + 2 * (place + 1)) (place + 1) place has (part_records nulls (place + 1) ps ++ rest)
            (λ front at2 ready. clean_parts nulls (place + 1) total ps rest (omega (arith, e)) k front at2 ready) three
            (next + length (record_bytes (segment_record place has p)))
            (ready-as _ _ _ (1 + 2 * (place + 1)) (place + 1) 0 three (omega arith) (omega arith) refl r3)
            (ap (λ o. data_fault o 0 (length_of has)) last ∙ part_holds (names two) place has p)),
      ),
    )

-- ---- what stands behind them

component_at : (ss : List Segment) (k : ℕ) → AllByRecursion (λ (x : Segment). is_absolute x.standing ≡ false) ss
    → k < length ss → component_fault (entry ss (segment_index k)) ≡ None
component_at ss k all h = ap (λ n. component_fault (entry ss n)) (add-one k) ∙ component_ok ss k all h

components_ok : (ss : List Segment) (ks : List ℕ) →
    AllByRecursion (λ (x : Segment). is_absolute x.standing ≡ false) ss → AllByRecursion (λ k. k < length ss) ks →
    AllByRecursion (λ o. o ≡ None) (map (λ index. component_fault (entry ss index)) (map segment_index ks))
components_ok ss [] all h = tt
components_ok ss (k ∷ ks) all h = (component_at ss k all h.0, components_ok ss ks all h.1)

group_ok : (n s : ℕ) (before : List Placed) (ks : List ℕ) → Ready n s 0 before → 1 ≤ n → AllByRecursion (λ k. k < s) ks
    → fault before (Grpdef 1 (map segment_index ks)) ≡ None
group_ok n s before ks r h small =
    clean_by before (Grpdef 1 (map segment_index ks)) r.is_begun
    (nones
    (when (ltb (length (names before)) 1) NameIndex
    ∷ map (λ index. component_fault (entry (segments before) index)) (map segment_index ks)) (
      ap (λ t. when t NameIndex) (not_below (length (names before)) 1 (omega (arith, r.name_count, h))),
      components_ok (segments before) ks r.relocatable
          (subst (λ m. AllByRecursion (λ k. k < m) ks) (sym r.segment_count) small),
    ))

mark_ok : (n s : ℕ) (before : List Placed) (names' : List (List ℕ)) (place : ℕ) → Ready n s 1 before → place < s
    → fault before (Pubdef false (InSegment 1 (segment_index place)) (map public_of names')) ≡ None
mark_ok n s before names' place r h =
    clean_by before (Pubdef false (InSegment 1 (segment_index place)) (map public_of names')) r.is_begun
    (ap (λ t. first (option_or (when t SegmentIndex) (when (is_beyond (groups before) 1) GroupIndex) ∷ []))
    (both_false _ _ (not_zero place)
    (not_below (length (segments before)) (place + 1) (omega (arith, r.segment_count, h))))
    ∙ ap (λ t. first (when t GroupIndex ∷ [])) (not_below (length (groups before)) 1 (omega (arith, r.group_count))))

clean_mark : (n s : ℕ) (names' : List (List ℕ)) (o : Option ℕ) (rest : List Record) → IfSome o (λ k. k < s) →
    ((before : List Placed) (at : ℕ) → Ready n s 1 before → Clean before (place_all at rest)) →
    (before : List Placed) (at : ℕ) → Ready n s 1 before → Clean before (place_all at (mark_records names' o ++ rest))
clean_mark n s names' None rest h k before at r = k before at r
clean_mark n s names' (Some place) rest h k before at r = (
  mark_ok n s before names' place r h,
  k _ _ (ready-as (n + 0) (s + 0) (1 + 0) n s 1 _ (omega arith) (omega arith) refl
      (ready-more n s 1 before (record {
        place = at;
        body = canonical (Pubdef false (InSegment 1 (segment_index place)) (map public_of names'));
        says = Pubdef false (InSegment 1 (segment_index place)) (map public_of names');
      }) r tt)),
)

with_group : (n s : ℕ) (ks : List ℕ) (rest : List Record) → 1 ≤ n → AllByRecursion (λ k. k < s) ks →
    ((before : List Placed) (at : ℕ) → Ready n s 1 before → Clean before (place_all at rest)) →
    (before : List Placed) (at : ℕ) → Ready n s 0 before →
    Clean before (place_all at (Grpdef 1 (map segment_index ks) ∷ rest))
with_group n s ks rest h small k before at r = (
  group_ok n s before ks r h small,
  k _ _ (ready-as (n + 0) (s + 0) (0 + 1) n s 1 _ (omega arith) (omega arith) refl
      (ready-more n s 0 before (record {
        place = at;
        body = canonical (Grpdef 1 (map segment_index ks));
        says = Grpdef 1 (map segment_index ks);
      }) r tt)),
)

clean_last : (n s : ℕ) (ns ms : List (List ℕ)) (a b : Option ℕ) → 1 ≤ n → IfSome a (λ k. k < s) →
    IfSome b (λ k. k < s) → (before : List Placed) (at : ℕ) → Ready n s 0 before →
    Clean before
    (place_all at
    (group_records (map segment_index (option_to_list a ++ option_to_list b))
    ++ (mark_records ns a ++ (mark_records ms b ++ Modend false None ∷ []))))
clean_last n s ns ms None None h ha hb before at r = clean_end before at r.is_begun
clean_last n s ns ms (Some j) None h ha hb before at r =
    with_group n s (j ∷ []) (mark_records ns (Some j) ++ Modend false None ∷ []) h (ha, tt)
    (clean_mark n s ns (Some j) (Modend false None ∷ []) ha (λ front place ready. clean_end front place ready.is_begun))
    before at r
clean_last n s ns ms None (Some k) h ha hb before at r =
    with_group n s (k ∷ []) (mark_records ms (Some k) ++ Modend false None ∷ []) h (hb, tt)
    (clean_mark n s ms (Some k) (Modend false None ∷ []) hb (λ front place ready. clean_end front place ready.is_begun))
    before at r
clean_last n s ns ms (Some j) (Some k) h ha hb before at r =
    with_group n s (j ∷ k ∷ []) (mark_records ns (Some j) ++ (mark_records ms (Some k) ++ Modend false None ∷ [])) h
    (ha, (hb, tt))
    (clean_mark n s ns (Some j) (mark_records ms (Some k) ++ Modend false None ∷ []) ha
    (clean_mark n s ms (Some k) (Modend false None ∷ []) hb
    (λ front place ready. clean_end front place ready.is_begun))) before at r

clean_all : (p : Plan) → IfSome p.data_end.part (λ k. k < length p.parts)
    → IfSome p.bss_end.part (λ k. k < length p.parts) → Clean [] (place_all 0 (records p))
clean_all p ha hb = (
  refl,
  (
    refl,
    clean_parts p.null_bytes 0 (length p.parts) p.parts (last_records p) (omega arith)
        (λ before at r.
        clean_last (1 + 2 * length p.parts) (length p.parts) p.data_end.names p.bss_end.names p.data_end.part
        p.bss_end.part (omega arith) ha hb before at r) _ _
        (record { is_begun = refl; name_count = refl; segment_count = refl; group_count = refl; relocatable = tt }),
  ),
)

-- ---- the whole

pub module_sound : (p : Plan) → Fits p → AllByRecursion IsNamedPart p.parts →
    IfSome p.data_end.part (λ k. k < length p.parts) → IfSome p.bss_end.part (λ k. k < length p.parts) →
    ModuleBytes (place_all 0 (records p)) (module_bytes p)
module_sound p f named ha hb =
    let fits = fit_all p f named in
    let small = length-bytes (records p) fits in
    let count = count_all p f.count in
    record {
      records = (are_frames 0 (records p) fits (omega (arith, small, count)), are_bodies 0 (records p) fits);
      ended = to_end p;
      sound = clean_first [] (place_all 0 (records p)) (clean_all p ha hb);
    }
