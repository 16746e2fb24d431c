-- What is linked with its stack, step by step.
use Rattle.std.proofs.Common.{◌≡◌, ℕ, Bool, true, false, List, ◌++◌, [], Some, None, Ok, Err, inl, inr, ap, sym, subst}
use Rattle.std.proofs.Common.{◌∙◌, MatchResult, OnOk, Result, append-nil, refl}
use Rattle.std.specs.declared.option.Option.{Option}
use Rattle.omf_module.specs.Module.{Module}
use Rattle.omf_stack.specs.Answer.{Answer, TooLong, answer, answer_said}
use Rattle.omf_stack.specs.declared.stack.Stack as lent
use Rattle.doslink_words.specs.declared.job.Stack.{Stack}
use Rattle.doslink_passes.specs.Linked.{Linked, behind, behind_first}
use Rattle.doslink_passes.specs.Orders.{Asking, HaveNoOrder, IsOrdered}
use Rattle.doslink_passes.specs.Stacks.{AreStacked, IsStacked, IsUnstacked, NotStackedInOrder, StackedInOrder}
use Rattle.doslink_passes.specs.Stops.{OnInput}
use Rattle.doslink_passes.specs.declared.stop.Stop.{Stop}
use Rattle.doslink_passes.specs.inside.CutStacks.{AreCutTold, cut_warning}
use Rattle.doslink_passes.proofs.Refused.{steps-weaker}

-- behind its order module stands what it was put in front of
pub behind-ordered : (asking : Asking) (l : Linked) (has_order : Bool) (front : Linked)
    → IsOrdered asking l has_order front → behind has_order front ≡ l
behind-ordered asking l true front (bytes, is, put) = ap behind_first put.2
behind-ordered asking l false front (is, all) = all

-- what is answered for modules, seen
pub answered : {A : Type 0} (x y : lent.Stack A) (ms ns : List Module) (bytes : ℕ) → x ≡ y → ms ≡ ns
    → answer_said x ≡ answer ms bytes → answer_said y ≡ answer ns bytes
answered x y ms ns bytes is same told = ap answer_said (sym is) ∙ told ∙ ap (λ l. answer l bytes) same

-- what is linked is stacked, by what its answer is
pub stacked-as : (asking : Asking) (asked : Stack) (l stacked : Linked) (has_order : Bool) (front : Linked) (a : Answer)
    → IsOrdered asking l has_order front → a ≡ answer front.modules asked.bytes
    → IsStacked asked has_order l front stacked a → AreStacked asking (Some asked) l stacked
stacked-as asking asked l stacked has_order front a ordered is by =
    (has_order, front, ordered, subst (IsStacked asked has_order l front stacked) is by)

-- it is not, by what its answer is
pub unstacked-as : (asking : Asking) (asked : Stack) (l : Linked) (has_order : Bool) (front : Linked) (a : Answer)
    → IsOrdered asking l has_order front → a ≡ answer front.modules asked.bytes
    → IsUnstacked asked front a → NotStackedInOrder asking (Some asked) l
unstacked-as asking asked l has_order front a ordered is by =
    inl (inr (has_order, front, ordered, subst (IsUnstacked asked front) is by))

-- what is stacked has its order module in front of it then, or that can't be made
pub in-order-again : {T : Type 0} (said : T → Linked) (r : Result T Stop) (asking : Asking) (stack : Option Stack)
    (l stacked : Linked) → AreStacked asking stack l stacked
    → MatchResult r (λ all. (has_order : Bool) × IsOrdered asking stacked has_order (said all))
    (λ stop. OnInput stop (HaveNoOrder asking stacked.modules))
    → MatchResult r (λ all. StackedInOrder asking stack l (said all))
    (λ stop. OnInput stop (NotStackedInOrder asking stack l))
in-order-again said r asking stack l stacked are done =
    steps-weaker r (λ all o. (stacked, are, o.0, o.1)) (λ none. inr (stacked, are, none)) done

-- what is told where all went well
pub told-where : {T E : Type 0} {P Q : Type 0} (r : Result T E) → (P → Q) → OnOk r P → OnOk r Q
told-where (Ok v) weaker p = weaker p
told-where (Err e) weaker p = tt

-- the warning of a stack that is cut, where its lines are told by steps
pub cut-told : (asked : Stack) (old between behind new : List ℕ) (a : Answer) → TooLong ≡ a → new ≡ behind
    → behind ≡ between → between ≡ old ++ cut_warning asked TooLong → new ≡ old ++ cut_warning asked a
cut-told asked old between behind new a is last kept told =
    last ∙ kept ∙ told ∙ ap (λ x. old ++ cut_warning asked x) is

-- where the first order module can't be made, neither can what is asked for
pub unordered-first : (asking : Asking) (stack : Option Stack) (l : Linked) → HaveNoOrder asking l.modules
    → NotStackedInOrder asking stack l
unordered-first asking None l none = inr (l, refl, none)
unordered-first asking (Some asked) l none = inl (inl none)

-- where a length is asked for, it is the stack of that length
pub asked-stack : {T : Type 0} (said : T → Linked) (r : Result T Stop) (asking : Asking) (stack : Option Stack)
    (asked : Stack) (l : Linked) → stack ≡ Some asked
    → MatchResult r (λ all. StackedInOrder asking (Some asked) l (said all))
    (λ stop. OnInput stop (NotStackedInOrder asking (Some asked) l))
    → MatchResult r (λ all. StackedInOrder asking stack l (said all))
    (λ stop. OnInput stop (NotStackedInOrder asking stack l))
asked-stack said r asking stack asked l is done =
    subst
    (λ s. MatchResult r (λ all. StackedInOrder asking s l (said all))
    (λ stop. OnInput stop (NotStackedInOrder asking s l)))
    (sym is) done

-- where none is, it is what it was
pub unasked-stack : (asking : Asking) (stack : Option Stack) (l front : Linked) (has_order : Bool) → stack ≡ None
    → IsOrdered asking l has_order front → StackedInOrder asking stack l front
unasked-stack asking stack l front has_order is ordered =
    subst (λ s. StackedInOrder asking s l front) (sym is) (l, refl, has_order, ordered)

-- the warning of a stack that is cut
pub asked-told : (asking : Asking) (stack : Option Stack) (asked : Stack) (l front : Linked) (has_order : Bool)
    (old between new : List ℕ) → stack ≡ Some asked → IsOrdered asking l has_order front → between ≡ old
    → new ≡ between ++ cut_warning asked (answer front.modules asked.bytes) → AreCutTold asking stack l old new
asked-told asking stack asked l front has_order old between new is ordered same told =
    let w = cut_warning asked (answer front.modules asked.bytes) in
    subst (λ s. AreCutTold asking s l old new) (sym is)
    (w, (has_order, front, ordered, refl), told ∙ ap (λ x. x ++ w) same)

-- none where no length is asked for
pub unasked-told : (asking : Asking) (stack : Option Stack) (l : Linked) (old new : List ℕ) → stack ≡ None → new ≡ old
    → AreCutTold asking stack l old new
unasked-told asking stack l old new is same =
    subst (λ s. AreCutTold asking s l old new) (sym is) ([], refl, same ∙ sym (append-nil old))
