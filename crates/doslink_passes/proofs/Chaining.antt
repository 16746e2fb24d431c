-- Modules that are chained, and why they aren't.
use Rattle.std.proofs.Common.{◌≡◌, ℕ, Bool, List, map, inl, inr, subst, sym, Vec}
use Rattle.omf_communal.specs.Deciding.{Variable}
use Rattle.omf_module.specs.Module as omf
use Rattle.omf_plain.specs.declared.widths.Widths.{Widths}
use Rattle.omf_search.specs.Results.{module_said}
use Rattle.omf_search.specs.Said.{Module}
use Rattle.doslink_stock.specs.Files.{Held}
use Rattle.doslink_words.specs.declared.job.Job.{Job}
use Rattle.doslink_passes.specs.Chain.{AreChained, AreModulesOf, HaveNoModules}
use Rattle.doslink_passes.specs.Joined.{AreJoined, AreNotJoined}
use Rattle.doslink_passes.specs.Linked.{Linked}
use Rattle.doslink_passes.specs.Locals.{HaveLocals, SomeHasNoLocals}
use Rattle.doslink_passes.specs.Meant.{AreMeant, taking_for}
use Rattle.doslink_passes.specs.Orders.{asking_of}
use Rattle.doslink_passes.specs.Plain.{AreNotTaken, AreTakenFor}
use Rattle.doslink_passes.specs.Request.{bytes_in, names_of}
use Rattle.doslink_passes.specs.Sums.{AllFit, SomeOverflows}
use Rattle.doslink_passes.specs.declared.meanings.Meanings.{Meanings}
use Rattle.doslink_passes.specs.declared.origin.Linked as held
use Rattle.doslink_passes.specs.declared.origin.Source.{Source}
use Rattle.doslink_passes.specs.inside.Passing.{taking_of}
use Rattle.doslink_passes.specs.Meanings.{AreMeaningsFor}
use Rattle.doslink_passes.specs.Sources.{linked_said, source_bytes}

-- modules with the bytes that they are given as
abbrev pub from : List (List ℕ) → List omf.Module → Linked
from given modules = record { sources = given; modules = modules }

module _ (job : Job) (says : List Module) (marks : Bool) (modules : List Held) (vs : List Variable)
    (given : List (List ℕ)) (is : given ≡ bytes_in modules) where
  -- they are
  pub chained : (widths : List Widths) (taken placed : List omf.Module) (linked : Linked)
      → AreTakenFor job says given taken widths → HaveLocals (names_of job.ignore_case) given taken placed
      → AreJoined (asking_of job marks modules) job.stack (from given placed) vs linked
      → AreChained job says marks modules vs widths linked
  chained widths taken placed linked are have joined = record {
    taken = taken;
    placed = placed;
    are_taken = subst (λ l. AreTakenFor job says l taken widths) is are;
    have_locals = subst (λ l. HaveLocals (names_of job.ignore_case) l taken placed) is have;
    joined = subst (λ l. AreJoined (asking_of job marks modules) job.stack (from l placed) vs linked) is joined;
  }

  -- they aren't taken
  pub none-taken : AreNotTaken job says given → HaveNoModules job says marks modules vs
  none-taken none = inl (subst (AreNotTaken job says) is none)

  -- one has no place for what is local to it
  pub none-local : (widths : List Widths) (taken : List omf.Module) → AreTakenFor job says given taken widths
      → SomeHasNoLocals (names_of job.ignore_case) taken given taken → HaveNoModules job says marks modules vs
  none-local widths taken are some =
      inr (
        taken,
        widths,
        subst (λ l. AreTakenFor job says l taken widths) is are,
        inl (subst (λ l. SomeHasNoLocals (names_of job.ignore_case) taken l taken) is some),
      )

  -- nothing can be joined to them
  pub none-joined : (widths : List Widths) (taken placed : List omf.Module) → AreTakenFor job says given taken widths
      → HaveLocals (names_of job.ignore_case) given taken placed
      → AreNotJoined (asking_of job marks modules) job.stack (from given placed) vs
      → HaveNoModules job says marks modules vs
  none-joined widths taken placed are have none =
      inr (
        taken,
        widths,
        subst (λ l. AreTakenFor job says l taken widths) is are,
        inr (
          placed,
          subst (λ l. HaveLocals (names_of job.ignore_case) l taken placed) is have,
          inl (subst (λ l. AreNotJoined (asking_of job marks modules) job.stack (from l placed) vs) is none),
        ),
      )

-- a sum is too great
pub none-fits : (job : Job) (says : List Module) (marks : Bool) (modules : List Held) (vs : List Variable)
    (widths : List Widths) (linked : Linked) (meant : List omf.Module)
    → AreChained job says marks modules vs widths linked → AreMeant (taking_for job says) linked meant
    → SomeOverflows widths (names_of job.ignore_case) meant → HaveNoModules job says marks modules vs
none-fits job says marks modules vs widths linked meant chain are over =
    inr (
      chain.taken,
      widths,
      chain.are_taken,
      inr (chain.placed, chain.have_locals, inr (linked, chain.joined, meant, are, over)),
    )

module _ {A : Type 0} (job : Job) (says : List Module) (given : List (List ℕ)) (m : Meanings A) where
  -- what names mean as it is held is what they mean in the modules of a job
  pub meant-for : (linked : Linked) (meant : List omf.Module) → AreMeaningsFor job says given m
      → AreMeant (taking_of job.packs_far_data m) linked meant → AreMeant (taking_for job says) linked meant
  meant-for linked meant are is =
      subst (λ s. AreMeant (record { names = names_of job.ignore_case; says = s; packs = job.packs_far_data }) linked meant)
      are.says_so
      (subst (λ n. AreMeant (record { names = n; says = map module_said m.says.now; packs = job.packs_far_data }) linked
      meant) are.names is)

-- modules are linked for those that a link takes
pub modules-of : {A : Type 0} (job : Job) (says : List Module) (marks : Bool) (modules : List Held) (vs : List Variable)
    (given : List (List ℕ)) (m : Meanings A) (widths : List Widths) (linked : held.Linked A) (sources : Vec (Source A) A)
    (meant : List omf.Module) → AreMeaningsFor job says given m
    → AreChained job says marks modules vs widths (linked_said linked) → sources ≡ linked.sources
    → AreMeant (taking_of job.packs_far_data m) (linked_said linked) meant
    → AllFit widths (names_of job.ignore_case) meant
    → (widths : List Widths) × AreModulesOf job says marks modules vs widths (map source_bytes sources.items) meant
modules-of job says marks modules vs given m widths linked sources meant are chain same is fit = (
  widths,
  subst (λ l. AreModulesOf job says marks modules vs widths (map source_bytes l.items) meant) (sym same)
      record {
        linked = linked.modules.items;
        chained = chain;
        are_meant = meant-for job says given m (linked_said linked) meant are is;
        fit = fit;
      },
)
