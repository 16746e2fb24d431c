-- Bytes that were read of a file, one piece behind the other, up to the end of its modules.
use Rattle.std.proofs.Common.{◌≡◌, ℕ, List, ◌++◌, length, take, drop, Some, None, refl, ap, sym, subst, ◌∙◌}
use Rattle.std.proofs.Common.{◌≤◌, ◌∷◌, [], ◌&&◌, Bool, true, false, true≢false, not, append_assoc, arith}
use Rattle.std.proofs.lemmas.Bool.{cond-false, cond-true}
use Rattle.std.proofs.lemmas.List.{append-nil, take-append-drop, take-append-le}
use Rattle.std.proofs.Math.Seq.{take-length}
use Rattle.std.specs.declared.option.Option.{Option}
use Rattle.std.specs.Prelude.{unwrap_or}
use Rattle.std.specs.Io.KnownBytes.{Consumes, IsAtEnd}
use Rattle.omf_library.specs.Ending.{EndsThere, modules_end, modules_part}
use Rattle.omf_library.specs.Files.{file_kind}
use Rattle.doslink_files.specs.Files.{IsModulesPart, has_header, is_foreign, is_object, longest_record}
use Rattle.doslink_files.specs.inside.Fronts.{IsFront}

-- before a byte is read
pub unread : (told : Option (List ℕ)) → Consumes told told []
unread None = tt
unread (Some file) = refl

-- what was read of a file, of which that is left: all, where there is no more
abbrev pub IsRead : (told left : Option (List ℕ)) → (bytes : List ℕ) → (more : Bool) → Type 0
IsRead told left bytes more = Consumes told left bytes × (more ≡ false → IsAtEnd left)

pub read-so : (told left : Option (List ℕ)) (bytes : List ℕ) (more : Bool) (least : ℕ) → Consumes told left bytes
    → IsFront more least left bytes → IsRead told left bytes more
read-so told left bytes true least so-far front = (so-far, λ is. absurd (true≢false is))
read-so told left bytes false least so-far end = (so-far, λ is. end)

-- eight bytes tell what a file begins as
same-kind : (bytes rest : List ℕ) → 8 ≤ length bytes → file_kind (bytes ++ rest) ≡ file_kind bytes
unfolding file_kind
same-kind (a ∷ b ∷ c ∷ d ∷ e ∷ f ∷ g ∷ h ∷ bytes) rest long = refl
same-kind [] rest long = absurd (omega (arith, long))
same-kind (a ∷ []) rest long = absurd (omega (arith, long))
same-kind (a ∷ b ∷ []) rest long = absurd (omega (arith, long))
same-kind (a ∷ b ∷ c ∷ []) rest long = absurd (omega (arith, long))
same-kind (a ∷ b ∷ c ∷ d ∷ []) rest long = absurd (omega (arith, long))
same-kind (a ∷ b ∷ c ∷ d ∷ e ∷ []) rest long = absurd (omega (arith, long))
same-kind (a ∷ b ∷ c ∷ d ∷ e ∷ f ∷ []) rest long = absurd (omega (arith, long))
same-kind (a ∷ b ∷ c ∷ d ∷ e ∷ f ∷ g ∷ []) rest long = absurd (omega (arith, long))

same-header : (bytes rest : List ℕ) → 8 ≤ length bytes → has_header (bytes ++ rest) ≡ has_header bytes
same-header [] rest long = absurd (omega (arith, long))
same-header (first ∷ bytes) rest long = refl

same-foreign : (bytes rest : List ℕ) → 8 ≤ length bytes → is_foreign (bytes ++ rest) ≡ is_foreign bytes
same-foreign bytes rest long =
    ap (λ kind. is_object kind && not (has_header (bytes ++ rest))) (same-kind bytes rest long)
    ∙ ap (λ header. is_object (file_kind bytes) && not header) (same-header bytes rest long)

-- what was read of a file that is told begins as the file does, and has as much of the longest record
abbrev pub BeginsSo : (told : Option (List ℕ)) → (bytes : List ℕ) → Type 0
BeginsSo None bytes = Unit {0}
BeginsSo (Some file) bytes =
    (is_foreign file ≡ is_foreign bytes) × (take longest_record file ≡ take longest_record bytes)

begins-before : (file bytes rest : List ℕ) → file ≡ bytes ++ rest → longest_record ≤ length bytes
    → BeginsSo (Some file) bytes
begins-before file bytes rest is long = (
  ap is_foreign is ∙ same-foreign bytes rest (omega (arith, long)),
  ap (take longest_record) is ∙ take-append-le longest_record bytes rest long,
)

begins-all : (file bytes rest : List ℕ) → file ≡ bytes ++ rest → rest ≡ [] → BeginsSo (Some file) bytes
begins-all file bytes rest is none =
    let whole : file ≡ bytes = is ∙ ap (λ l. bytes ++ l) none ∙ append-nil bytes in
    (ap is_foreign whole, ap (take longest_record) whole)

pub begins-so : (told left : Option (List ℕ)) (bytes : List ℕ) (more : Bool) → Consumes told left bytes
    → IsFront more longest_record left bytes → BeginsSo told bytes
begins-so None left bytes more so-far front = tt
begins-so (Some file) None bytes more so-far front = absurd so-far
begins-so (Some file) (Some rest) bytes true so-far front = begins-before file bytes rest so-far front
begins-so (Some file) (Some rest) bytes false so-far front = begins-all file bytes rest so-far front

-- a file that begins as none with modules does
pub part-foreign : (told : Option (List ℕ)) (bytes part : List ℕ) → BeginsSo told bytes → is_foreign bytes ≡ true
    → part ≡ take longest_record bytes → IsModulesPart told part
part-foreign None bytes part so foreign is = tt
part-foreign (Some file) bytes part (same, front) foreign is =
    is ∙ sym front ∙ sym (cond-true _ _ _ (same ∙ foreign))

-- one that begins otherwise
abbrev pub IsKnown : (told : Option (List ℕ)) → Type 0
IsKnown None = Unit {0}
IsKnown (Some file) = is_foreign file ≡ false

pub known : (told : Option (List ℕ)) (bytes : List ℕ) → BeginsSo told bytes → is_foreign bytes ≡ false → IsKnown told
known None bytes so is = tt
known (Some file) bytes (same, front) is = same ∙ is

-- the modules end within what was read
part-of : (file bytes left : List ℕ) (end : ℕ) → file ≡ bytes ++ left → EndsThere bytes end
    → take end bytes ≡ modules_part file
part-of file bytes left end is there =
    let behind = drop end bytes ++ left in
    let whole : take end bytes ++ behind ≡ file =
    sym (append_assoc (take end bytes) (drop end bytes) left) ∙ ap (λ l. l ++ left) (take-append-drop end bytes)
    ∙ sym is in
    let same : modules_end file ≡ Some end =
    subst (λ l. modules_end l ≡ Some end) whole (there.same_end behind) in
    sym (ap (λ n. take (unwrap_or n (length file)) file) same ∙ ap (take end) is
    ∙ take-append-le end bytes left there.within)

pub part-ends : (told left : Option (List ℕ)) (bytes part : List ℕ) (end : ℕ) → IsKnown told → Consumes told left bytes
    → EndsThere bytes end → part ≡ take end bytes → IsModulesPart told part
part-ends None left bytes part end begins so-far there is = tt
part-ends (Some file) None bytes part end begins so-far there is = absurd so-far
part-ends (Some file) (Some rest) bytes part end begins so-far there is =
    is ∙ part-of file bytes rest end so-far there ∙ sym (cond-false _ _ _ begins)

-- the file has ended
pub part-all : (told left : Option (List ℕ)) (bytes : List ℕ) → IsKnown told → Consumes told left bytes → IsAtEnd left
    → None ≡ modules_end bytes → IsModulesPart told bytes
part-all None left bytes begins so-far end none = tt
part-all (Some file) None bytes begins so-far end none = absurd so-far
part-all (Some file) (Some rest) bytes begins so-far end none =
    let whole : file ≡ bytes = so-far ∙ ap (λ l. bytes ++ l) end ∙ append-nil bytes in
    subst (λ l. bytes ≡ modules_part l) (sym whole)
    (sym (ap (λ n. take (unwrap_or n (length bytes)) bytes) (sym none) ∙ take-length bytes))
    ∙ sym (cond-false _ _ _ begins)

pub none-but : (found : Option ℕ) → ((end : ℕ) → found ≡ Some end → ⊥) → None ≡ found
none-but None not-some = refl
none-but (Some end) not-some = absurd (not-some end refl)
