-- A row of placed segments, one more at a time.
use Rattle.std.proofs.Common.{◌≡◌, ℕ, ◌+◌, ◌<◌, List, [], ◌∷◌, ◌++◌, length, take, get_or, refl, ap, sym, ◌∙◌, arith}
use Rattle.std.proofs.lemmas.List.{take_more, map-append, length-map}
use Rattle.std.proofs.Common.{length-take}
use Rattle.omf_place.specs.declared.layout.Position.{Position}
use Rattle.omf_place.specs.declared.sites.Site as stored
use Rattle.omf_place.specs.declared.stands.Stand.{Stand}
use Rattle.omf_place.specs.Parts.{Site}
use Rattle.omf_place.specs.inside.Rows.{placed_row}
use Rattle.omf_place.specs.inside.Sites.{site, sites_view}
use Rattle.omf_place.specs.inside.Stands.{placed_by}

row-push : (xs : List Site) (ss : List Stand) (a : Site) (s : Stand) → length ss ≡ length xs
    → placed_row (xs ++ a ∷ []) (ss ++ s ∷ []) ≡ placed_row xs ss ++ placed_by a.segment.standing s ∷ []
row-push [] [] a s e = refl
row-push [] (t ∷ ts) a s e = absurd (omega arith)
row-push (x ∷ xs) [] a s e = absurd (omega arith)
row-push (x ∷ xs) (t ∷ ts) a s e = ap (λ ys. placed_by x.segment.standing t ∷ ys) (row-push xs ts a s (omega arith))

pub row-more : (sites : List stored.Site) (stands : List Stand) (i : ℕ) (ds : stored.Site) (dt : Stand)
    (done : List Position) (y : Position) → length stands ≡ length sites → i < length sites →
    y ≡ placed_by (get_or sites i ds).segment.standing (get_or stands i dt) →
    done ≡ placed_row (sites_view (take i sites)) (take i stands) →
    done ++ y ∷ [] ≡ placed_row (sites_view (take (i + 1) sites)) (take (i + 1) stands)
row-more sites stands i ds dt done y same h is was =
    let hs : i < length stands = omega arith in
    let e : sites_view (take (i + 1) sites) ≡ sites_view (take i sites) ++ site (get_or sites i ds) ∷ [] =
    ap sites_view (take_more sites i ds h) ∙ map-append site (take i sites) (get_or sites i ds ∷ []) in
    let f : take (i + 1) stands ≡ take i stands ++ get_or stands i dt ∷ [] = take_more stands i dt hs in
    let n : length (take i stands) ≡ length (sites_view (take i sites)) =
    omega (arith, length-take i stands, length-take i sites, length-map (take i sites) site) in
    rw (e, f, was, is)
    (sym (row-push (sites_view (take i sites)) (take i stands) (site (get_or sites i ds)) (get_or stands i dt) n))
