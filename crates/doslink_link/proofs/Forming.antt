-- What bringing a program into a form answers.
use Rattle.std.proofs.Common.{◌≡◌, ◌⊎◌, ℕ, Bool, true, false, inl, inr, max, List, [], Ok, Err, Some, None}
use Rattle.std.proofs.Common.{refl, sym, subst}
use Rattle.std.specs.declared.option.Option.{Option}
use Rattle.std.specs.declared.result.Result.{Result}
use Rattle.std.specs.Io.KnownBytes.{Appends}
use Rattle.omf_module.specs.Module.{Module}
use Rattle.omf_place.specs.declared.names.Names.{Names}
use Rattle.omf_image.specs.Program.{IsProgram}
use Rattle.omf_image.specs.Words.{word_at}
use Rattle.omf_commands.specs.Linking.{HoldsAtEachParagraph}
use Rattle.omf_commands.specs.declared.linking.Report.{Report}
use Rattle.flat_file.specs.Forms.{bin_bytes, com_bytes, com_fault, from_start_bytes, from_start_fault, raw_fault}
use Rattle.flat_file.specs.Forms.{starts_at_0, sys_bytes}
use Rattle.flat_file.specs.Laws.{BinIsLocated, ComLoadsAsWritten, FromStartIsLocated, FromStartLoadsAsWritten}
use Rattle.flat_file.specs.Laws.{IsLocatedCom, IsLocatedFrom, RawIsWhole, SysIsLocated}
use Rattle.flat_file.specs.Com.{LoadedCom, loading}
use Rattle.flat_file.specs.Writing.{WritesForm}
use Rattle.flat_file.specs.declared.fault.FlatFault.{FlatFault}
use Rattle.flat_file.specs.declared.fault.FlatFault.TheVariants as flat
use Rattle.flat_file.specs.declared.fault.FormFault.{FormFault}
use Rattle.doslink_words.specs.declared.job.Form.{Form}
use Rattle.doslink_words.specs.declared.job.Form.TheVariants.{Exe, LimitedExe, Com, Raw, Driver, FromStart}
use Rattle.doslink_link.specs.Forms.{BeginsAtStart, Forms, HasForm, IsFormed, form_fault, limited}
use Rattle.doslink_link.specs.inside.Making.{Makes}
use Rattle.doslink_link.specs.Linking.{IsLinkedAs}
use Rattle.doslink_link.proofs.Limiting.{limited_holds}

-- ---- what was written to a page that was empty

-- it is all that the page has
pub wrote_all : (old new : Option (List ℕ)) (file items : List ℕ) → old ≡ Some [] → new ≡ Some items
    → Appends old new file → items ≡ file
wrote_all old new file items none all wrote =
    subst (λ (o : Option (List ℕ)). Appends (Some []) o file) all
    (subst (λ (o : Option (List ℕ)). Appends o new file) none wrote)

module _ {K V : Type 0} (X : Type 0) (written : K → Option (List ℕ)) (failures : K → ℕ) (old new : K) (file : List ℕ)
    (items : V → List ℕ) where
  pub made_ok : (fault : Option FormFault) (made : V) (done : X) → written old ≡ Some []
      → written new ≡ Some (items made) → WritesForm {K = K} {X = X} written failures old new fault file (Ok done)
      → Makes items fault file (Ok made)
  made_ok (Some f) made done none all (is, wrote, failed) = cc
  made_ok None made done none all (fine, wrote) =
      (refl, wrote_all (written old) (written new) file (items made) none all wrote.0)

-- nothing was made, since a fault stands, or for want of memory
abbrev pub IsUnmade : Option FormFault → FlatFault → Type 0
IsUnmade fault (flat.Form first) = fault ≡ Some first
IsUnmade fault flat.Device = Unit {0}

module _ {K : Type 0} (X : Type 0) (written : K → Option (List ℕ)) (failures : K → ℕ) (old new : K) (file : List ℕ) where
  pub made_err : (fault : Option FormFault) (e : FlatFault)
      → WritesForm {K = K} {X = X} written failures old new fault file (Err e) → IsUnmade fault e
  made_err (Some f) (flat.Form g) (is, wrote, failed) = cc
  made_err (Some f) flat.Device writes = tt
  made_err None (flat.Form g) (fine, wrote) = cc
  made_err None flat.Device writes = tt

-- ---- the file of linked modules

module _ {A : Type 0} (names : Names) (modules : List Module) (report : Report A) (exe : List ℕ)
    (linked : IsLinkedAs names modules report exe) where
  -- what keeps the program from a form does so of the modules
  of_modules : (form : Option Form) (o : Option FormFault)
      → form_fault form report.layout report.modules.items report.program ≡ o
      → form_fault form report.layout modules report.program ≡ o
  of_modules form o is =
      subst (λ ms. form_fault form report.layout ms report.program ≡ o) linked.reported.read is

  is_formed : (form : Option Form) (file : List ℕ)
      → form_fault form report.layout report.modules.items report.program ≡ None
      → HasForm form names modules report file → IsFormed form names modules report file
  is_formed form file none has =
      record { reported = linked.reported; allowed = of_modules form None none; formed = has }

  pub as_linked : IsFormed None names modules report exe
  as_linked = is_formed None exe refl linked

  pub as_exe : IsFormed (Some Exe) names modules report exe
  as_exe = is_formed (Some Exe) exe refl linked

  pub as_limited : (paragraphs : ℕ) (file : List ℕ) → file ≡ limited paragraphs exe
      → IsFormed (Some (LimitedExe paragraphs)) names modules report file
  as_limited paragraphs file same =
      let holds : HoldsAtEachParagraph names modules (limited paragraphs exe) =
      limited_holds names modules report.program exe (max paragraphs (word_at exe 10)) linked.format linked.holds in
      is_formed (Some (LimitedExe paragraphs)) file refl
      (exe, linked, same, subst (HoldsAtEachParagraph names modules) (sym same) holds)

  is_refused : {V : Type 0} (items : V → List ℕ) (form : Option Form) (bytes : List ℕ) (e : FlatFault)
      → Makes items (form_fault form report.layout report.modules.items report.program) bytes (Err e)
      → Forms items form names modules report (Err e)
  is_refused items form bytes (flat.Form g) is =
      (report.layout, report.program, linked.reported.linked, of_modules form (Some g) is)
  is_refused items form bytes flat.Device is = tt

  module _ (is : IsProgram report.program) {V : Type 0} (items : V → List ℕ) where
    pub as_com : ComLoadsAsWritten → (r : Result V FlatFault)
        → Makes items (form_fault (Some Com) report.layout report.modules.items report.program)
        (com_bytes report.program) r → Forms items (Some Com) names modules report r
    as_com law (Ok made) (none, same) =
        is_formed (Some Com) (items made) none
        (λ psp fits. subst (λ (f : List ℕ). (memory : LoadedCom) × (loading psp f ≡ Ok memory)
        × IsLocatedCom psp report.layout modules memory) (sym same)
        (law report.layout modules report.program linked.reported.linked.program is
        (of_modules (Some Com) None none) psp fits))
    as_com law (Err e) wrong = is_refused items (Some Com) (com_bytes report.program) e wrong

    pub formed_com : (form : Form) → form ≡ Com → ComLoadsAsWritten → (r : Result V FlatFault)
        → Makes items (com_fault report.layout report.modules.items report.program) (com_bytes report.program) r
        → Forms items (Some form) names modules report r
    formed_com form same law r made =
        subst (λ f. Forms items (Some f) names modules report r) (sym same) (as_com law r made)

    pub as_raw : (paragraph from : ℕ) → BinIsLocated → RawIsWhole → (r : Result V FlatFault)
        → Makes items (raw_fault from report.layout report.modules.items) (bin_bytes paragraph from report.program) r
        → Forms items (Some (Raw paragraph from)) names modules report r
    as_raw paragraph from law whole (Ok made) (none, same) =
        let of = linked.reported.linked.program in
        is_formed (Some (Raw paragraph from)) (items made) none (
          subst (IsLocatedFrom paragraph from report.layout modules) (sym same)
              (law report.layout modules report.program of is paragraph from),
          whole report.layout modules report.program of is from (of_modules (Some (Raw paragraph from)) None none),
        )
    as_raw paragraph from law whole (Err e) wrong =
        is_refused items (Some (Raw paragraph from)) (bin_bytes paragraph from report.program) e wrong

    pub as_driver : SysIsLocated → (r : Result V FlatFault)
        → Makes items (form_fault (Some Driver) report.layout report.modules.items report.program)
        (sys_bytes report.program) r → Forms items (Some Driver) names modules report r
    as_driver law (Ok made) (none, same) =
        is_formed (Some Driver) (items made) none
        (λ paragraph. subst (IsLocatedFrom paragraph 0 report.layout modules) (sym same)
        (law report.layout modules report.program linked.reported.linked.program is
        (of_modules (Some Driver) None none) paragraph))
    as_driver law (Err e) wrong = is_refused items (Some Driver) (sys_bytes report.program) e wrong

    either : (b : Bool) → (b ≡ true) ⊎ (b ≡ false)
    either true = inl refl
    either false = inr refl

    pub as_from_start : FromStartIsLocated → FromStartLoadsAsWritten → (r : Result V FlatFault)
        → Makes items (from_start_fault report.layout report.modules.items report.program)
        (from_start_bytes report.program) r → Forms items (Some FromStart) names modules report r
    as_from_start located loads (Ok made) (none, same) =
        let of = linked.reported.linked.program in
        let without = of_modules (Some FromStart) None none in
        let begins : BeginsAtStart report.layout modules (from_start_bytes report.program) =
        elim (either (starts_at_0 report.program)) [
          | inl at_0 ↦ inl (located report.layout modules report.program of is without at_0)
          | inr at_100h ↦ inr (loads report.layout modules report.program of is without at_100h)
        ] in
        is_formed (Some FromStart) (items made) none (subst (BeginsAtStart report.layout modules) (sym same) begins)
    as_from_start located loads (Err e) wrong =
        is_refused items (Some FromStart) (from_start_bytes report.program) e wrong
