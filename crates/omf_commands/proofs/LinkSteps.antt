-- The steps of a link, put together from what each of them answers.
use Rattle.std.proofs.Common.{◌≡◌, ℕ, ◌+◌, ◌*◌, ◌≤◌, List, [], ◌∷◌, length, map, None, Some, IfSome, Ok, Err, refl, sym}
use Rattle.std.proofs.Common.{subst, ◌∙◌, append-nil, inl, inr, arith, OnOk, Result}
use Rattle.std.proofs.lemmas.List.{length-set, length-take-le, get_or-take}
use Rattle.std.specs.declared.option.Option.{Option}
use Rattle.std.specs.Io.KnownBytes.{Keeps}
use Rattle.omf_module.specs.Module.{Module}
use Rattle.omf_module.specs.Tables.{module_of}
use Rattle.omf_record.specs.Records.{Placed}
use Rattle.omf_place.specs.inside.Placing.{IsOnlyLayout, IsFirstFault}
use Rattle.omf_place.specs.Layout.{Layout}
use Rattle.omf_place.specs.declared.names.Names.{Names}
use Rattle.omf_place.specs.Said.{said}
use Rattle.omf_place.specs.declared.faults.PlaceFault.{PlaceFault}
use Rattle.omf_place.specs.declared.faults.PlaceFault.TheVariants as place
use Rattle.omf_image.specs.Building.{Builds}
use Rattle.omf_image.specs.Program.{Program, IsProgram}
use Rattle.omf_image.specs.Records.{written}
use Rattle.omf_image.specs.Words.{put_word, add_word, add_words}
use Rattle.omf_image.specs.declared.faults.FixFault.{FixFault}
use Rattle.omf_image.specs.declared.faults.FixFault.TheVariants as build
use Rattle.mz.specs.File.{Mz, MzFile}
use Rattle.mz.specs.Laws.{HoldsTheProgram, ReadsAsWritten, LoadsAsWritten, memory, moved, as_file}
use Rattle.mz.specs.Loading.{Loaded, loading}
use Rattle.mz.specs.Reading.{reading}
use Rattle.omf_faults.specs.declared.fault.LinkFault.{LinkFault}
use Rattle.omf_faults.specs.declared.fault.LinkFault.TheVariants as link
use Rattle.omf_commands.specs.Inputs.{AreInputs, ReadsFront}
use Rattle.omf_commands.specs.inside.Inputs.{IsInputFault}
use Rattle.omf_commands.specs.Reading.{sink_failures}
use Rattle.omf_commands.specs.Linking.{IsFileOf, IsLinked, IsModulesFault, IsReport, Links, HoldsProgram}
use Rattle.omf_commands.specs.Linking.{HoldsAtEachParagraph, WritesProgram}
use Rattle.omf_commands.specs.declared.linking.Report.{Report}
use Rattle.omf_commands.specs.Modules.{LinksModules}
use Rattle.omf_commands.specs.inside.Linking.{BuildsModules}
use Rattle.omf_commands.specs.inside.Faults.{place_fault, fix_fault}

-- ---- the modules

pub place_refused : {A : Type 0} (names : Names) (modules : List Module) (e : PlaceFault A)
    → IfSome (said e) (IsFirstFault names modules) → BuildsModules names modules (Err (place_fault e))
place_refused names modules place.Memory h = tt
place_refused names modules (place.SegmentTooLong name) h = h
place_refused names modules place.ProgramTooLarge h = h
place_refused names modules (place.GroupTooLong name) h = h
place_refused names modules (place.DuplicatePublic name) h = h

pub build_refused : (A : Type 0) (names : Names) (modules : List Module) (layout : Layout) (e : FixFault)
    → IsOnlyLayout names modules layout → Builds layout modules (Err e)
    → BuildsModules {A = A} names modules (Err (fix_fault e))
build_refused A names modules layout (build.At k input place) only h = (layout, only, h)
build_refused A names modules layout build.TooManyRelocations only h = (layout, only, h)
build_refused A names modules layout build.Memory only h = tt

-- ---- the file

length-add_word : (value i : ℕ) (bytes : List ℕ) → length (add_word value i bytes) ≡ length bytes
unfolding add_word put_word
length-add_word value i bytes = length-set _ (i + 1) _ ∙ length-set bytes i _

length-add_words : (value : ℕ) (places bytes : List ℕ) → length (add_words value places bytes) ≡ length bytes
length-add_words value [] bytes = refl
length-add_words value (i ∷ is) bytes =
    length-add_words value is (add_word value i bytes) ∙ length-add_word value i bytes

holds_moved : (names : Names) (modules : List Module) (layout : Layout) (p : Program) (P : ℕ) → IsProgram p
    → IsLinked names modules layout p → HoldsProgram P layout modules (moved P p)
holds_moved names modules layout p P limits linked =
    let whole = add_words P p.relocations p.image in
    let long : p.written ≤ length whole = omega (arith, length-add_words P p.relocations p.image, limits.written) in
    let same : p.written ≡ written layout modules = linked.program.written in
    record {
      size = length-take-le p.written whole long ∙ same;
      bytes =
          λ a h.
          get_or-take p.written whole a 0 (omega (arith, h, same))
          ∙ linked.program.everywhere P a (omega (arith, h, same, limits.written, linked.program.sized));
      registers = linked.program.at_each P;
    }

pub holds_program : (names : Names) (modules : List Module) (layout : Layout) (p : Program) (file : List ℕ)
    → ReadsAsWritten → HoldsTheProgram → LoadsAsWritten → IsLinked names modules layout p → Mz p file
    → HoldsAtEachParagraph names modules file
holds_program names modules layout p file reads holds loads linked mz = (layout, linked.is_layout, at)
  where
    at : (P : ℕ)
        → HoldsProgram P layout modules (memory P file)
        × (16 * P + layout.size ≤ 1048576
        → (mz : MzFile) × (l : Loaded) × (reading file ≡ Ok mz) × (loading P mz ≡ Ok l)
        × HoldsProgram P layout modules l)
    at P =
        let same : length p.image ≡ layout.size = linked.program.sized in
        let whole = append-nil file in
        let loaded : memory P file ≡ moved P p = subst (λ b. memory P b ≡ moved P p) whole (holds p file [] mz P) in
        let read = subst (λ b. reading b ≡ Ok (as_file p)) whole (reads p file [] mz) in
        let here = holds_moved names modules layout p P mz.0 linked in (
          subst (HoldsProgram P layout modules) (sym loaded) here,
          λ fits.
              (as_file p, moved P p, read, loads p mz.0 P (subst (λ n. 16 * P + n ≤ 1048576) (sym same) fits), here),
        )

-- ---- what a link answers

kept : (w : Option (List ℕ)) → Keeps w w
kept None = tt
kept (Some x) = refl

module _ {S : Type 0} (told : S → Option (List ℕ)) (failures : S → ℕ) where
  pub not_read : {A : Type 0} (names : Names) (olds news : List S) (w : Option (List ℕ)) (e : LinkFault A)
      → IsInputFault told failures olds news e
      → Links told failures names olds news w w (Err e)
  not_read names olds news w link.Memory h = (h, kept w)
  not_read names olds news w (link.Device input place) h = (inl h, kept w)
  not_read names olds news w (link.Record input place f) h = (inl h, kept w)
  not_read names olds news w link.Output h = absurd h
  not_read names olds news w (link.Program f) h = absurd h
  not_read names olds news w (link.File f) h = absurd h

  all_front : (lists : List (List Placed)) (olds news : List S) → AreInputs told failures lists olds news
      → ReadsFront told failures lists olds news [] []
  all_front lists olds news inputs = (olds, news, inputs, sym (append-nil olds), sym (append-nil news))

  -- the modules that were read were linked
  pub linked : {A : Type 0} (names : Names) (olds news : List S) (wold wnew : Option (List ℕ))
      (lists : List (List Placed)) (modules : List Module) (r : Result (Report A) (LinkFault A))
      → AreInputs told failures lists olds news → modules ≡ map module_of lists
      → LinksModules names modules wold wnew r → Links told failures names olds news wold wnew r
  linked names olds news wold wnew lists modules (Ok report) inputs is h =
      (lists, inputs, (subst (λ ms. IsReport names ms report) is h.0, (h.1.0, h.1.1, h.1.2)))
  linked names olds news wold wnew lists modules (Err link.Memory) inputs is h =
      (inr (lists, [], all_front lists olds news inputs), h)
  linked names olds news wold wnew lists modules (Err (link.Device input place)) inputs is h = absurd h.0
  linked {A} names olds news wold wnew lists modules (Err (link.Record input place f)) inputs is h =
      (inr (lists, inputs, subst (λ ms. IsModulesFault {A = A} names ms (link.Record input place f)) is h.0), h.1)
  linked names olds news wold wnew lists modules (Err link.Output) inputs is h =
      (lists, inputs, (h.0, subst (λ ms. IsFileOf names ms h.0) is h.1, h.2))
  linked {A} names olds news wold wnew lists modules (Err (link.Program f)) inputs is h =
      (inr (lists, inputs, subst (λ ms. IsModulesFault {A = A} names ms (link.Program f)) is h.0), h.1)
  linked names olds news wold wnew lists modules (Err (link.File f)) inputs is h = absurd h.0

  -- and the file that was written holds their program
  pub holds_linked : {A : Type 0} (names : Names) (olds news : List S) (wold wnew : Option (List ℕ))
      (lists : List (List Placed)) (modules : List Module) (r : Result (Report A) (LinkFault A))
      → AreInputs told failures lists olds news → modules ≡ map module_of lists
      → LinksModules names modules wold wnew r
      → OnOk r (WritesProgram told failures names olds news wold wnew)
  holds_linked names olds news wold wnew lists modules (Ok report) inputs is h =
      (lists, inputs, (h.1.0, h.1.2, subst (λ ms. HoldsAtEachParagraph names ms h.1.0) is h.1.3))
  holds_linked names olds news wold wnew lists modules (Err fault) inputs is h = tt

  -- reading writes nothing
  pub unread : (T : Type 0) {A : Type 0} (olds news : List S) (n : ℕ) (e : LinkFault A)
      → IsInputFault told failures olds news e → n ≡ n + sink_failures {T = T} (Err e)
  unread T olds news n link.Memory h = omega arith
  unread T olds news n (link.Device input place) h = omega arith
  unread T olds news n (link.Record input place f) h = omega arith
  unread T olds news n link.Output h = absurd h
  unread T olds news n (link.Program f) h = absurd h
  unread T olds news n (link.File f) h = absurd h

-- placing and building write nothing
pub unwritten : (T : Type 0) {A : Type 0} (names : Names) (modules : List Module) (n : ℕ) (e : LinkFault A)
    → BuildsModules {A = A} names modules (Err e) → n ≡ n + sink_failures {T = T} (Err e)
unwritten T names modules n link.Memory h = omega arith
unwritten T names modules n (link.Device input place) h = absurd h
unwritten T names modules n (link.Record input place f) h = omega arith
unwritten T names modules n link.Output h = absurd h
unwritten T names modules n (link.Program f) h = omega arith
unwritten T names modules n (link.File f) h = absurd h

pub not_built : {A : Type 0} (names : Names) (modules : List Module) (w : Option (List ℕ)) (e : LinkFault A)
    → BuildsModules {A = A} names modules (Err e) → LinksModules {A = A} names modules w w (Err e)
not_built names modules w link.Memory h = kept w
not_built names modules w (link.Device input place) h = absurd h
not_built names modules w (link.Record input place f) h = (h, kept w)
not_built names modules w link.Output h = absurd h
not_built names modules w (link.Program f) h = (h, kept w)
not_built names modules w (link.File f) h = absurd h
