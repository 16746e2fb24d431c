use Rattle.std.proofs.Common.{codes, ◌+◌, arith, ◌∙◌}
use Rattle.std.proofs.lemmas.List.{length-map}
use Rattle.std.specs.Str.{bytes_eq}
use Rattle.omf_plain.proofs.Positions.{position_push}
use Rattle.omf_plain.proofs.listed.Listed.push.Goals as goal

pub invariant_of-self-2 : goal.invariant_of-self-2
invariant_of-self-2 g c =
    let old = c.args.self.now in
    record {
      code_is = c.first_of-self.ensures
          ∙ position_push (λ name. bytes_eq name (codes "CODE")) old.listed.items c.push.new.self.items c.args.name
          old.code c.eq.result (c.len-index.result + 1) c.in_ok-push.ensures.items old.code_is (rw c.as_slice.ensures at c.eq.ensures)
          (omega (arith, c.len-index.ensures, length-map old.listed.items (λ x. x.now)));
      far_data_is = c.first_of-self-2.ensures
          ∙ position_push (λ name. bytes_eq name (codes "FAR_DATA")) old.listed.items c.push.new.self.items c.args.name
          old.far_data c.eq-2.result (c.len-index.result + 1) c.in_ok-push.ensures.items old.far_data_is (rw c.as_slice-2.ensures at c.eq-2.ensures)
          (omega (arith, c.len-index.ensures, length-map old.listed.items (λ x. x.now)));
    }
