use Rattle.std.proofs.Common.{◌≡◌, ℕ, ◌+◌, ◌&&◌, ◌||◌, Bool, true, false, not, leb, List, [], ◌∷◌, map, refl, ap, ap₂}
use Rattle.std.proofs.Common.{sym, ◌∙◌, arith}
use Rattle.std.proofs.lemmas.Bool.{le-leb}
use Rattle.omf_module.specs.declared.contents.Content.{Content}
use Rattle.omf_module.specs.declared.fault.CheckFault.TheVariants.{FixupPlace}
use Rattle.omf_module.specs.inside.Checking.{when}
use Rattle.omf_module.specs.inside.Contents.{pair, lies_in}
use Rattle.omf_module.proofs.builder.LastData.place_fault.Goals as goal
use Rattle.omf_module.proofs.builder.LastData.place_fault.Goals.{in-Stored, in-Repeated}

or_none : (b : Bool) → (b || false) ≡ b
or_none true = refl
or_none false = refl

-- in data that is one content
lies_in_one : (at width len : ℕ) → leb (at + width) len ≡ lies_in ((0, len) ∷ []) at width
lies_in_one at width len =
    let e : 0 + len ≡ len = omega arith in
    let ends = leb (at + width) (0 + len) in
    sym (or_none (leb 0 at && ends) ∙ ap (λ b. b && ends) (le-leb 0 at (omega arith)) ∙ ap (leb (at + width)) e)

pub returns : goal.returns
returns g c = elim c.match-self.branch [
  | in-Stored w ↦
      let len = w.in-Stored.len in
      rw w.in-Stored.is
      (c.when.ensures ∙ ap (λ b. when (not b) FixupPlace)
      (w.lies-is ∙ ap₂ (λ o v. leb (o + v) len) w.from.ensures (c.from-width.ensures ∙ c.width.ensures)
      ∙ lies_in_one _ _ len))
  | in-Repeated w ↦
      rw w.in-Repeated.is
      (c.when.ensures ∙ ap (λ b. when (not b) FixupPlace)
      (w.lies-is ∙ w.lies_in-lies.ensures
      ∙ ap (λ (cs : List Content). lies_in (map pair cs) w.from-in-Repeated.result c.from-width.result)
      w.deref.ensures.value
      ∙ ap₂ (λ o v. lies_in (map pair w.in-Repeated.contents.items) o v) w.from-in-Repeated.ensures
      (c.from-width.ensures ∙ c.width.ensures)))
]
