use Rattle.std.proofs.Common.{◌≡◌, ◌∙◌, ap, sym, refl, Some, cond, is_some, true, false}
use Rattle.std.specs.Cmp.Lexicographic.{nat_list_eq_equiv, texts_ties}
use Rattle.std.specs.Str.{bytes_eq}
use Rattle.omf_library.specs.Wanting.{place_of}
use Rattle.omf_library.proofs.Wanted.{inserted, same_place}
use Rattle.omf_library.proofs.wanting.WantingPlaces.add.Goals as goal

pub returns-then-contains : goal.returns-then-contains
returns-then-contains g c = λ q.
    let p = c.args.self.now in
    let name = c.args.name in
    let had : is_some (place_of p name) ≡ true = sym c.contains.ensures ∙ c.if-contains.true in
    inserted c.args.place (bytes_eq q.now name.now) true (place_of p q) (place_of p q) (λ t. refl)
    (λ t. absurd (let u : true ≡ false = t in cc)) (λ t. ap is_some (same_place p q name t) ∙ had)

pub returns : goal.returns
unfolding place_of
returns g c = λ q.
    let p = c.args.self.now in
    let name = c.args.name in
    let had : is_some (place_of p name) ≡ false = sym c.contains.ensures ∙ c.if-contains.false in
    inserted c.args.place (bytes_eq q.now name.now) false (place_of p q) _
    (λ t. absurd (let u : false ≡ true = t in cc))
    (λ t.
    c.in_ok-insert.ensures.updates.0 q
    ∙ ap (λ b. cond b (Some c.args.place) (place_of p q))
    (sym (texts_ties name.now q.now) ∙ nat_list_eq_equiv.symm name.now q.now))
    (λ t. ap is_some (same_place p q name t) ∙ had)
