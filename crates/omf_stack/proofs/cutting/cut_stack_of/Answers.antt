use Rattle.std.proofs.Common.{◌≡◌, ◌∙◌, List, Some, Ok, MatchResult, ap, length, subst, sym}
use Rattle.std.proofs.lemmas.List.{length-map}
use Rattle.std.specs.Option.{option_map}
use Rattle.std.specs.declared.result.Result.{Result}
use Rattle.omf_module.specs.Module.{Module}
use Rattle.omf_stack.specs.declared.fault.CutFault.{CutFault}
use Rattle.omf_stack.specs.CutModules.{IsCutFault}
use Rattle.omf_stack.specs.inside.Cutting.{lengthened, lengths_in, lists}
use Rattle.omf_stack.proofs.EachModule.{count-some, cut-some}
use Rattle.omf_stack.proofs.cutting.cut_stack_of.Goals as goal

pub all_lengthened-requires : goal.all_lengthened-requires
all_lengthened-requires g c =
    let program = c.args.modules.items in
    let ls = lists c.in-Some.lengths.items in
    let is : lengths_in program c.args.bytes ≡ Some ls =
    sym (ap (λ ms. lengths_in ms c.args.bytes) c.deref.ensures.value) ∙ sym c.in_ok-lengths.ensures
    ∙ ap (option_map (λ v. lists v.items)) c.in-Some.is in
    sym (count-some program c.args.bytes ls is) ∙ length-map c.in-Some.lengths.items (λ v. v.items)
    ∙ ap length (sym c.deref-in-Some.ensures.value)

pub returns-in-Some : goal.returns-in-Some
returns-in-Some g c =
    let program = c.args.modules.items in
    let ls = lists c.in-Some.lengths.items in
    let is : lengths_in program c.args.bytes ≡ Some ls =
    sym (ap (λ ms. lengths_in ms c.args.bytes) c.deref.ensures.value) ∙ sym c.in_ok-lengths.ensures
    ∙ ap (option_map (λ v. lists v.items)) c.in-Some.is in
    let same = ap (λ vs. lengthened 0 (lists vs) program) c.deref-in-Some.ensures.value
    ∙ sym (cut-some program c.args.bytes ls is) in
    subst (λ (stands : Result (List Module) CutFault).
    MatchResult c.all_lengthened.result (λ v. stands ≡ Ok v.items) (λ e. IsCutFault e stands)) same
    c.all_lengthened.ensures
