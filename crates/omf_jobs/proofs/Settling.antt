-- What an answer becomes where an input lacked memory, or what is held back isn't handed on.
use Rattle.std.proofs.Common.{◌≡◌, ◌⊎◌, ℕ, Bool, true, false, Result, Ok, Err, inl, inr, if◌then◌else◌, subst, sym}
use Rattle.std.proofs.lemmas.Bool.Decides.{eqb_tells}
use Rattle.omf_faults.specs.declared.fault.LinkFault.{LinkFault}
use Rattle.omf_faults.specs.declared.fault.LinkFault.TheVariants.{Memory, Output, Device, Record, Program, File}
use Rattle.omf_jobs.specs.Jobs.{Settled}

pub settled : {T A : Type 0} (P : Result T (LinkFault A) → Type 0) (r : Result T (LinkFault A)) → P r → Settled P r
settled P (Ok done) p = p
settled P (Err Memory) p = tt
settled P (Err Output) p = tt
settled P (Err (Record input place fault)) p = p
settled P (Err (Device input place)) p = p
settled P (Err (Program fault)) p = p
settled P (Err (File fault)) p = p

pub settled-flushed : {T A : Type 0} (P : Result T (LinkFault A) → Type 0) (before after : ℕ)
    (answer r : Result T (LinkFault A)) → (after ≡ before → r ≡ answer)
    → ((after ≡ before → ⊥) → r ≡ Err Output) → P answer → Settled P r
settled-flushed P before after answer r kept failed p = elim (eqb_tells after before) [
  | inl same ↦ subst (Settled P) (sym (kept same.1)) (settled P answer p)
  | inr other ↦ subst (Settled P) (sym (failed other.1)) tt
]

pub settled-weaker : {T A : Type 0} (P Q : Result T (LinkFault A) → Type 0)
    → ((a : Result T (LinkFault A)) → P a → Q a) → (r : Result T (LinkFault A)) → Settled P r → Settled Q r
settled-weaker P Q weaker (Ok done) s = weaker _ s
settled-weaker P Q weaker (Err Memory) s = tt
settled-weaker P Q weaker (Err Output) s = tt
settled-weaker P Q weaker (Err (Record input place fault)) s = weaker _ s
settled-weaker P Q weaker (Err (Device input place)) s = weaker _ s
settled-weaker P Q weaker (Err (Program fault)) s = weaker _ s
settled-weaker P Q weaker (Err (File fault)) s = weaker _ s

pub settled-by_memory : {T A : Type 0} (P Q : Result T (LinkFault A) → Type 0)
    → ((a : Result T (LinkFault A)) → P a → Q a) → (lacks : Bool) (answer r : Result T (LinkFault A))
    → r ≡ (if lacks then Err Memory else answer) → Settled P answer → Settled Q r
settled-by_memory P Q weaker true answer r is s = subst (Settled Q) (sym is) tt
settled-by_memory P Q weaker false answer r is s = subst (Settled Q) (sym is) (settled-weaker P Q weaker answer s)

pub settled-handed_on : {T A : Type 0} (P : Result T (LinkFault A) → Type 0) (lacks : Bool) (before after : ℕ)
    (answer told r : Result T (LinkFault A)) → told ≡ (if lacks then Err Memory else answer)
    → (after ≡ before → r ≡ told) → ((after ≡ before → ⊥) → r ≡ Err Output) → P answer → Settled P r
settled-handed_on P lacks before after answer told r is kept failed p = elim (eqb_tells after before) [
  | inl same ↦ subst (Settled P) (sym (kept same.1))
      (settled-by_memory P P (λ a x. x) lacks answer told is (settled P answer p))
  | inr other ↦ subst (Settled P) (sym (failed other.1)) tt
]

pub settled-kept : {T A : Type 0} (P : Result T (LinkFault A) → Type 0) (answer r : Result T (LinkFault A))
    → (r ≡ answer) ⊎ (r ≡ Err Output) → Settled P answer → Settled P r
settled-kept P answer r (inl same) s = subst (Settled P) (sym same) s
settled-kept P answer r (inr failed) s = subst (Settled P) (sym failed) tt
