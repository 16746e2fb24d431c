use Rattle.std.proofs.Common.{◌≡◌, ℕ, zero, suc, ◌<◌, ◌-◌, ◌^◌, List, [], ◌∷◌, length, map, get_or, slice_get, Some}
use Rattle.std.proofs.Common.{refl, sym, ap, ◌∙◌, arith}
use Rattle.std.specs.Option.{option_map}
use Rattle.std.proofs.lemmas.Option.{slice_get-map, slice_get-get_or}
use Rattle.omf_module.specs.declared.Standing.{Standing}
use Rattle.omf_module.specs.declared.Standing.TheVariants.{Absolute, Relocatable}
use Rattle.omf_place.specs.declared.sites.Site as stored
use Rattle.omf_place.specs.declared.stands.Stand.{Stand}
use Rattle.omf_place.specs.Parts.{Site, sites}
use Rattle.omf_place.specs.Tables.{in_segment}
use Rattle.omf_place.specs.inside.Program.{addresses_of}
use Rattle.omf_place.specs.inside.Sites.{site, sites_view}
use Rattle.omf_place.specs.inside.Spans.{span_of}
use Rattle.omf_place.specs.inside.Stands.{stand_by, stand_of}
use Rattle.omf_place.proofs.GreatestAt.{All-at}
use Rattle.omf_place.proofs.publics.public_in_segment.Goals as goal

-- what is said of a site of a known standing
said-at : {X : Type 0} (f : Site → Standing → X) (ss : List stored.Site) (i : ℕ) (d : stored.Site) (s : Standing)
    → i < length ss → (get_or ss i d).segment.standing ≡ s
    → option_map (λ a. f a a.segment.standing) (slice_get (sites_view ss) i) ≡ Some (f (site (get_or ss i d)) s)
said-at f ss i d s h is =
    ap (option_map (λ a. f a a.segment.standing))
    (slice_get-map site ss i ∙ ap (option_map site) (slice_get-get_or ss i d h))
    ∙ ap (λ t. Some (f (site (get_or ss i d)) t)) is

get_map : {X : Type 0} (f : Site → X) (ss : List stored.Site) (i : ℕ) (d : stored.Site) (e : X) → i < length ss
    → get_or (map f (sites_view ss)) i e ≡ f (site (get_or ss i d))
get_map f [] i d e h = absurd (omega arith)
get_map f (x ∷ xs) zero d e h = refl
get_map f (x ∷ xs) (suc i) d e h = get_map f xs i d e (omega arith)

pub bounds-input-segment : goal.bounds-input-segment
bounds-input-segment g c =
    omega (arith, c.from-segment.ensures, c.requires.segment, c.requires.placed.sites, c.requires.placed.stands)

pub bounds : goal.bounds
bounds g c = omega (arith, c.from-segment.ensures, c.requires.segment, c.requires.placed.sites)

pub overflow_add-result-in-Relocatable : goal.overflow_add-result-in-Relocatable
overflow_add-result-in-Relocatable g c =
    let stands = c.args.input.now.stands.now in
    let within : c.from-segment.result - 1 < length stands =
    omega (arith, c.from-segment.ensures, c.requires.segment, c.requires.placed.sites, c.requires.placed.stands) in
    let low =
    All-at (λ s. s.address < 2 ^ 21) stands (c.from-segment.result - 1) record { address = 0; frame = 0; end = 0 }
    c.requires.placed.low within in
    omega (arith, low)

pub frame_of_public-requires : goal.frame_of_public-requires
frame_of_public-requires g c = c.requires.group

pub returns-in-Absolute : goal.returns-in-Absolute
returns-in-Absolute g c =
    let p = c.args.groups.now.program.now in
    let n = c.args.input.now in
    let within : c.from-segment.result - 1 < length n.sites.now =
    omega (arith, c.from-segment.ensures, c.requires.segment, c.requires.placed.sites) in
    let at =
    said-at (λ a s. in_segment p.modules.now (addresses_of p.stands.now) n.says.now c.args.group c.args.offset a s)
    n.sites.now (c.from-segment.result - 1) _ (Absolute c.in-Absolute.frame c.in-Absolute.at) within c.in-Absolute.is in
    rw (c.from.ensures, c.from-in-Absolute.ensures, c.from-in-Absolute-2.ensures, ← c.from-segment.ensures) (sym at)

pub returns-in-Relocatable : goal.returns-in-Relocatable
returns-in-Relocatable g c =
    let p = c.args.groups.now.program.now in
    let n = c.args.input.now in
    let ss = sites p.modules.now in
    let A = addresses_of p.stands.now in
    let i = c.from-segment.result - 1 in
    let within : c.from-segment.result - 1 < length n.sites.now =
    omega (arith, c.from-segment.ensures, c.requires.segment, c.requires.placed.sites) in
    let standing = Relocatable c.in-Relocatable.alignment c.in-Relocatable.kind in
    let at =
    said-at (λ a s. in_segment p.modules.now A n.says.now c.args.group c.args.offset a s) n.sites.now i _ standing
    within c.in-Relocatable.is in
    let d : stored.Site = record {
      position = 0;
      input = 0;
      number = 0;
      segment = record {
        name = record { ref_ptr = (0, 0); now = [] };
        class = record { ref_ptr = (0, 0); now = [] };
        length = 0;
        standing = Absolute 0 0;
      };
    } in
    let a = site (get_or n.sites.now i d) in
    let stand =
    ap (λ (xs : List Stand). get_or xs i (record { address = 0; frame = 0; end = 0 })) c.requires.placed.own
    ∙ get_map (stand_of ss A) n.sites.now i d (record { address = 0; frame = 0; end = 0 }) within
    ∙ ap (λ s. stand_by s (span_of ss A a)) c.in-Relocatable.is in
    rw (
      ap (λ (s : Stand). s.address) stand,
      c.from-in-Relocatable.ensures,
      c.frame_of_public.ensures a (ap (λ (s : Stand). s.frame) stand),
      ← c.from-segment.ensures,
    )
    (sym at)
