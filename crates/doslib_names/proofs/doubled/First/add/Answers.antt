use Rattle.std.proofs.Common.{◌∙◌, Some, ap, cond}
use Rattle.std.specs.Ordering.{is_eq}
use Rattle.omf_keys.specs.Keys.{key_of, key_order}
use Rattle.omf_keys.proofs.Agreeing.{keys_stand}
use Rattle.doslib_names.specs.inside.First.{first_by}
use Rattle.omf_keys.proofs.Agreeing.{names_agree}
use Rattle.doslib_names.proofs.doubled.First.add.Goals as goal

pub returns : goal.returns
unfolding first_by
returns g c = λ q.
    let names = c.args.names in
    let o = c.args.offer in
    let m = c.args.self.now in
    c.in_ok-insert.ensures.updates.0 (key_of names q)
    ∙ ap (λ k. cond (is_eq (key_order k (key_of names q))) (Some o.offered_by) (first_by names m q)) c.new.ensures
    ∙ ap (λ b. cond b (Some o.offered_by) (first_by names m q))
    (keys_stand names o.name q ∙ (names_agree names).symm o.name.now q.now)
