use Rattle.std.proofs.Common.{◌∙◌, ℕ, List, Bool, [], ap, sym, subst, arith, length, get_or, false}
use Rattle.std.proofs.lemmas.List.{length-replicate}
use Rattle.omf_image.specs.inside.States.{state, Holds}
use Rattle.omf_image.proofs.Copying.{get_or-blank}
use Rattle.omf_image.proofs.Twins.{stored_first}
use Rattle.omf_image.proofs.repeated.stored_work.Goals as goal

pub stored_bytes-requires-clause-lengths : goal.stored_bytes-requires-clause-lengths
stored_bytes-requires-clause-lengths g c = c.requires.lengths

pub stored_bytes-requires-clause-end : goal.stored_bytes-requires-clause-end
stored_bytes-requires-clause-end g c = c.end_of-end.ensures.above

pub stored_bytes-requires-clause-copies : goal.stored_bytes-requires-clause-copies
stored_bytes-requires-clause-copies g c = c.requires.copies

pub new-requires : goal.new-requires
new-requires g c = omega (arith, c.end_of-end.ensures.small)

pub lay-requires-clause-inside : goal.lay-requires-clause-inside
lay-requires-clause-inside g c =
    omega (
      arith,
      ap length c.deref.ensures.value,
      c.in_ok-contents.ensures.sized,
      ap length c.in_ok-stored.ensures.pages.bytes,
      length-replicate {A = ℕ} c.end_of-end.result 0,
    )

pub lay-requires-clause-words : goal.lay-requires-clause-words
lay-requires-clause-words g c =
    let n = c.end_of-end.result in
    ap length c.in_ok-stored.ensures.words ∙ length-replicate {A = Bool} n false
    ∙ sym (ap length c.in_ok-stored.ensures.pages.bytes ∙ length-replicate {A = ℕ} n 0)

pub returns-clause-room : goal.returns-clause-room
returns-clause-room g c = c.in_ok-lay.ensures.room

pub returns-clause-ends : goal.returns-clause-ends
returns-clause-ends g c k d h =
    let above = c.end_of-end.ensures.above k d h in
    omega (
      arith,
      above,
      c.in_ok-lay.ensures.sized,
      ap length c.deref.ensures.value,
      c.in_ok-contents.ensures.sized,
    )

pub returns-clause-stored : goal.returns-clause-stored
returns-clause-stored g c =
    let base = state c.in_ok-stored.stored in
    let n = c.in_ok-contents.ensures.sized in
    stored_first c.args.places.now c.args.bytes.now c.in_ok-contents.contents.items base _ c.requires.lengths
    (λ k h. let above = c.end_of-end.ensures.above k 0 h in omega (arith, above, n))
    (λ k.
    ap (λ (flags : List Bool). get_or flags k false) c.in_ok-stored.ensures.words
    ∙ get_or-blank false c.end_of-end.result k)
    c.in_ok-contents.ensures.copied
    (subst (λ (xs : List ℕ). Holds 0 xs base (state c.lay.new.self) []) c.deref.ensures.value c.in_ok-lay.ensures.holds)
