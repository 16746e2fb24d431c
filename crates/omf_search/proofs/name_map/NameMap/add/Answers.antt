use Rattle.std.proofs.Common.{◌≡◌, ◌+◌, ◌∙◌, ap, sym, refl, Some, cond, is_some, not, true, false}
use Rattle.std.specs.BTreeMap.{get}
use Rattle.std.specs.Ordering.{is_eq}
use Rattle.omf_place.specs.Names.{agrees}
use Rattle.omf_keys.specs.Keys.{key_of, key_order}
use Rattle.omf_keys.proofs.Agreeing.{keys_stand, names_agree}
use Rattle.omf_search.specs.Keys.{size, value_of}
use Rattle.omf_search.proofs.Agreeing.{inserted, same_value}
use Rattle.omf_search.proofs.name_map.NameMap.add.Goals as goal

pub returns-then-contains-clause-values : goal.returns-then-contains-clause-values
returns-then-contains-clause-values g c = λ q.
    let m = c.args.self.now in
    let had : is_some (value_of c.args.names m c.args.name) ≡ true = sym c.contains.ensures ∙ c.if-contains.true in
    inserted c.args.value (agrees c.args.names q.now c.args.name.now) true (value_of c.args.names m q)
    (value_of c.args.names m q) (λ t. refl) (λ t. absurd (let u : true ≡ false = t in cc))
    (λ t. ap is_some (same_value c.args.names m q c.args.name t) ∙ had)

pub returns : goal.returns
unfolding value_of size
returns g c =
    let names = c.args.names in
    let m = c.args.self.now in
    let name = c.args.name in
    let had : is_some (value_of names m name) ≡ false = sym c.contains.ensures ∙ c.if-contains.false in
    record {
      fresh = sym (ap not had);
      kept = λ e. absurd (let u : true ≡ false = e in cc);
      values = λ q.
          inserted c.args.value (agrees names q.now name.now) false (value_of names m q) _
          (λ t. absurd (let u : false ≡ true = t in cc))
          (λ t.
          c.in_ok-insert.ensures.updates.0 (key_of names q)
          ∙ ap (λ k. cond (is_eq (key_order k (key_of names q))) (Some c.args.value) (value_of names m q)) c.new.ensures
          ∙ ap (λ b. cond b (Some c.args.value) (value_of names m q))
          (keys_stand names name q ∙ (names_agree names).symm name.now q.now))
          (λ t. ap is_some (same_value names m q name t) ∙ had);
      size =
          c.in_ok-insert.ensures.len
          ∙ ap (λ b. size m + cond b 0 1) (ap is_some c.in_ok-insert.ensures.old ∙ ap (λ k. is_some (get key_order m.entries k)) c.new.ensures ∙ had);
    }
