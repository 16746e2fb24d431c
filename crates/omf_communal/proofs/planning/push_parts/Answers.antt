use Rattle.std.proofs.Common.{◌≡◌, ℕ, ◌-◌, ◌*◌, ◌++◌, [], ◌∷◌, ◌∙◌, min, ap, sym, append_assoc, arith}
use Rattle.std.proofs.lemmas.List.{map-append}
use Rattle.std.proofs.lemmas.List.FromFn.{map-range_with_len_more}
use Rattle.omf_communal.specs.declared.places.Part.{Part}
use Rattle.omf_communal.specs.inside.Planned.{parts_said}
use Rattle.omf_communal.proofs.planning.push_parts.Goals as goal

pub loop-part-preserved : goal.loop-part-preserved
loop-part-preserved g c =
    let f = λ (k : ℕ). min 65536 (c.args.bytes - 65536 * k) in
    let p = c.loop-part.part in
    let start = parts_said c.args.parts.now.items in
    let value : c.min-length.result ≡ min 65536 (c.args.bytes - 65536 * p) =
    omega (arith, c.min-length.ensures, c.saturating_sub.ensures) in
    ap parts_said c.in_ok-push.ensures.items ∙ map-append (λ (q : Part). q.length) c.loop-part.parts.items (_ ∷ [])
    ∙ ap (λ n. parts_said c.loop-part.parts.items ++ n ∷ []) value ∙ ap (λ ns. ns ++ f p ∷ []) c.loop-part.invariant
    ∙ append_assoc start _ (f p ∷ []) ∙ ap (λ ns. start ++ ns) (sym (map-range_with_len_more f 0 p p (omega arith)))
