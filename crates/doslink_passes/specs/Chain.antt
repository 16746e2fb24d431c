-- The modules that are linked for those that a link takes, pass by pass, and why there are none.
use Rattle.std.specs.Prelude.{◌⊎◌, ℕ, Bool, List}
use Rattle.omf_communal.specs.Deciding.{Variable}
use Rattle.omf_module.specs.Module as omf
use Rattle.omf_plain.specs.declared.widths.Widths.{Widths}
use Rattle.omf_search.specs.Said.{Module}
use Rattle.doslink_stock.specs.Files.{Held}
use Rattle.doslink_words.specs.declared.job.Job.{Job}
use Rattle.doslink_passes.specs.Joined.{AreJoined, AreNotJoined}
use Rattle.doslink_passes.specs.Linked.{Linked}
use Rattle.doslink_passes.specs.Locals.{HaveLocals, SomeHasNoLocals}
use Rattle.doslink_passes.specs.Meant.{AreMeant, taking_for}
use Rattle.doslink_passes.specs.Orders.{asking_of}
use Rattle.doslink_passes.specs.Plain.{AreNotTaken, AreTakenFor}
use Rattle.doslink_passes.specs.Request.{bytes_in, names_of}
use Rattle.doslink_passes.specs.Sums.{AllFit, SomeOverflows}

-- Modules that a link takes, which say so of names, as they are taken, each with the variables that are local to it, and
-- what is joined to them.
pub record AreChained (job : Job) (says : List Module) (marks : Bool) (modules : List Held) (vs : List Variable)
    (widths : List Widths) (linked : Linked) : Type 0 where
  pub taken : List omf.Module
  pub placed : List omf.Module
  pub are_taken : AreTakenFor job says (bytes_in modules) taken widths
  pub have_locals : HaveLocals (names_of job.ignore_case) (bytes_in modules) taken placed
  pub joined : AreJoined (asking_of job marks modules) job.stack
      (record { sources = bytes_in modules; modules = placed }) vs linked

-- These modules are linked for the modules that a link takes, of the sources that these come from: what is chained to
-- them means these. Where fix-ups of 32 bits or a start became ones of 16, none of their sums has more than 16 bits.
pub record AreModulesOf (job : Job) (says : List Module) (marks : Bool) (modules : List Held) (vs : List Variable)
    (widths : List Widths) (sources : List (List ℕ)) (meant : List omf.Module) : Type 0 where
  pub linked : List omf.Module
  pub chained : AreChained job says marks modules vs widths (record { sources = sources; modules = linked })
  pub are_meant : AreMeant (taking_for job says) (record { sources = sources; modules = linked }) meant
  pub fit : AllFit widths (names_of job.ignore_case) meant

-- Nothing is linked for the modules that a link takes, which say so of names with these communal variables: they aren't
-- taken, one has no place for variables that are local to it, nothing can be joined to them, or a fix-up or start of
-- 32 bits that became one of 16 doesn't fit.
abbrev pub HaveNoModules : Job → (says : List Module) → (marks : Bool) → (modules : List Held) → List Variable
    → Type 0
HaveNoModules job says marks modules vs =
    AreNotTaken job says (bytes_in modules)
    ⊎ ((taken : List omf.Module) × (widths : List Widths) × AreTakenFor job says (bytes_in modules) taken widths
    × (SomeHasNoLocals (names_of job.ignore_case) taken (bytes_in modules) taken
    ⊎ ((placed : List omf.Module) × HaveLocals (names_of job.ignore_case) (bytes_in modules) taken placed
    × (AreNotJoined (asking_of job marks modules) job.stack (record { sources = bytes_in modules; modules = placed }) vs
    ⊎ ((linked : Linked) × AreJoined (asking_of job marks modules) job.stack
    (record { sources = bytes_in modules; modules = placed }) vs linked
    × (meant : List omf.Module) × AreMeant (taking_for job says) linked meant
    × SomeOverflows widths (names_of job.ignore_case) meant)))))
