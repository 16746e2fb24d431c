-- Files that are wanted, of which some are left out.
use Rattle.std.proofs.Common.{◌≡◌, ℕ, ◌<◌, Bool, true, false, cond, List, [], ◌∷◌, ◌++◌, inl, inr, length}
use Rattle.std.proofs.Common.{IfSome, Option, Some, ◌⊎◌, append-nil, arith, append_assoc, get_or, true≢false}
use Rattle.std.proofs.Common.{refl, sym, subst, ap, ◌∙◌}
use Rattle.std.proofs.lemmas.List.{get_or-map, length-map, map-append}
use Rattle.std.proofs.lemmas.List.Elements.{Contains-append_left, Contains-push}
use Rattle.std.proofs.lemmas.Slice.Eq.{bytes_eq-Decides}
use Rattle.std.proofs.lemmas.Map.Lookups.{exact_pairs, exact_unsigned}
use Rattle.std.specs.BTreeSet.{BTreeSet, contains}
use Rattle.std.specs.Cmp.{Equal-is}
use Rattle.std.specs.Cmp.Lexicographic.{slice_cmp, texts_ties}
use Rattle.std.specs.List.{Contains, list_any}
use Rattle.std.specs.Ordering.{is_eq, nat_cmp}
use Rattle.omf_files.specs.declared.world.FileId.{FileId}
use Rattle.doslink_files.specs.declared.fault.Unread.{Unread}
use Rattle.doslink_files.specs.declared.reading.InputFile.{InputFile}
use Rattle.doslink_files.specs.declared.reading.Reading.{Reading}
use Rattle.doslink_files.specs.declared.reading.Sought.{Sought}
use Rattle.doslink_files.specs.declared.reading.Sought.TheVariants.{File, Library}
use Rattle.doslink_files.specs.Files.{AreSoughtBehind, IsFileOf, IsFound, IsLeftOut, IsModulesPart, IsSought}
use Rattle.doslink_files.specs.Files.{contents, is_library}
use Rattle.doslink_files.specs.inside.Reading.{AreKnown, IsReading, sought_cmp}
use Rattle.doslink_files.specs.Standing.{file_order, has_file}
use Rattle.doslink_files.proofs.Looking.{never-empty}

-- files that compare as equal are one
same-file : (one other : FileId) → is_eq (file_order one other) ≡ true → one ≡ other
same-file one other equal =
    ap (λ (p : ℕ × ℕ). record { device = p.0; number = p.1 })
    (exact_pairs nat_cmp nat_cmp exact_unsigned exact_unsigned (one.device, one.number) (other.device, other.number)
    ((Equal-is (file_order one other)).0 equal))

either-one : (id q : FileId) (equal was : Bool) → (equal ≡ true → id ≡ q) → cond equal true was ≡ true
    → (was ≡ true) ⊎ (Some id ≡ Some q)
either-one id q true was same has = inr (ap Some (same refl))
either-one id q false was same has = inl has

-- a set that has one more file has those of before and that one
pub one-known : (id : FileId) (old new : BTreeSet FileId)
    → ((q : FileId) → has_file new q ≡ cond (is_eq (file_order id q)) true (has_file old q)) → (q : FileId)
    → has_file new q ≡ true → (has_file old q ≡ true) ⊎ (Some id ≡ Some q)
one-known id old new updates q has =
    either-one id q (is_eq (file_order id q)) (has_file old q) (same-file id q) (sym (updates q) ∙ has)

-- a file at a place is one of them
pub bytes-at : {A : Type 0} (files : List (InputFile A)) (k : ℕ) (file : InputFile A) (bytes : List ℕ)
    → k < length files → file ≡ get_or files k file → file.bytes.items ≡ bytes → Contains (contents files) bytes
bytes-at files k file bytes within is same =
    let there : k < length (contents files) = omega (arith, within, length-map files (λ f. f.bytes.items)) in
    (k, there, get_or-map (λ f. f.bytes.items) files k file bytes within ∙ ap (λ f. f.bytes.items) (sym is) ∙ same)

module _ (told : List ℕ → Option (List ℕ)) (holds : FileId → Option (List ℕ)) (objects libraries : List (List ℕ)) where
  -- one more that was read
  pub behind-read : (before : List (List ℕ)) (sought : List Sought) (files : List (List ℕ)) (one : Sought)
      (bytes : List ℕ) → AreSoughtBehind told objects libraries before sought files
      → IsSought told objects libraries one bytes
      → AreSoughtBehind told objects libraries before (sought ++ one ∷ []) (files ++ bytes ∷ [])
  behind-read before [] [] one bytes are is = inl (is, tt)
  behind-read before [] (x ∷ xs) one bytes are is = absurd are
  behind-read before (s ∷ ss) [] one bytes are is = inr (are.0, behind-read before ss [] one bytes are.1 is)
  behind-read before (s ∷ ss) (x ∷ xs) one bytes (inl next) is =
      inl (next.0, behind-read (before ++ x ∷ []) ss xs one bytes next.1 is)
  behind-read before (s ∷ ss) (x ∷ xs) one bytes (inr left) is =
      inr (left.0, behind-read before ss (x ∷ xs) one bytes left.1 is)

  -- one more that is left out
  pub behind-left : (before : List (List ℕ)) (sought : List Sought) (files : List (List ℕ)) (one : Sought)
      → AreSoughtBehind told objects libraries before sought files
      → IsLeftOut told objects libraries (before ++ files) one
      → AreSoughtBehind told objects libraries before (sought ++ one ∷ []) files
  behind-left before [] [] one are left =
      (subst (λ fs. IsLeftOut told objects libraries fs one) (append-nil before) left, tt)
  behind-left before [] (x ∷ xs) one are left = absurd are
  behind-left before (s ∷ ss) [] one are left = (are.0, behind-left before ss [] one are.1 left)
  behind-left before (s ∷ ss) (x ∷ xs) one (inl next) left =
      inl (
        next.0,
        behind-left (before ++ x ∷ []) ss xs one next.1
            (subst (λ fs. IsLeftOut told objects libraries fs one) (sym (append_assoc before (x ∷ []) xs)) left),
      )
  behind-left before (s ∷ ss) (x ∷ xs) one (inr over) left =
      inr (over.0, behind-left before ss (x ∷ xs) one over.1 left)

  -- what is left out stays so
  pub left-more : (files : List (List ℕ)) (bytes : List ℕ) (one : Sought) → IsLeftOut told objects libraries files one
      → IsLeftOut told objects libraries (files ++ bytes ∷ []) one
  left-more files bytes one left =
      (left.0, left.1, left.2, Contains-append_left files (bytes ∷ []) left.0 left.3)

  -- texts that compare as equal are the same
  same-text : (xs ys : List ℕ) → is_eq (slice_cmp nat_cmp xs ys) ≡ true → xs ≡ ys
  same-text xs ys equal = (bytes_eq-Decides xs ys).0 (texts_ties xs ys ∙ equal)

  -- so is what is spelled as one that is left out
  pub left-as : (files : List (List ℕ)) (one other : Sought) → is_eq (sought_cmp one other) ≡ true
      → IsLeftOut told objects libraries files one → IsLeftOut told objects libraries files other
  left-as files (File a) (File b) equal left =
      (left.0, subst (λ p. IsFileOf told objects p left.0) (same-text a.now b.now equal) left.1, left.2, left.3)
  left-as files (File a) (Library b) equal left = absurd (true≢false (sym equal))
  left-as files (Library a) (File b) equal left = absurd (true≢false (sym equal))
  left-as files (Library a) (Library b) equal left = (
    left.0,
    subst (λ n. (path : List ℕ) × IsFound told libraries n path left.0) (same-text a.now b.now equal)
        left.1,
    left.2,
    left.3,
  )

  either-left : (files : List (List ℕ)) (one other : Sought) (equal was : Bool)
      → (equal ≡ true → IsLeftOut told objects libraries files other)
      → (was ≡ true → IsLeftOut told objects libraries files other)
      → cond equal true was ≡ true → IsLeftOut told objects libraries files other
  either-left files one other true was if-equal if-was is = if-equal refl
  either-left files one other false was if-equal if-was is = if-was is

  -- one more that is known as a library
  pub known-more : (files : List (List ℕ)) (one : Sought) (old new : BTreeSet Sought)
      → ((q : Sought) → contains sought_cmp new q ≡ cond (is_eq (sought_cmp one q)) true (contains sought_cmp old q))
      → IsLeftOut told objects libraries files one
      → ((q : Sought) → contains sought_cmp old q ≡ true → IsLeftOut told objects libraries files q)
      → (q : Sought) → contains sought_cmp new q ≡ true → IsLeftOut told objects libraries files q
  known-more files one old new updates left known q has =
      either-left files one q (is_eq (sought_cmp one q)) (contains sought_cmp old q)
      (λ equal. left-as files one q equal left) (known q) (sym (updates q) ∙ has)

  -- what is known stays so behind one more file
  known-still : (files : List (List ℕ)) (bytes : List ℕ) (known : BTreeSet FileId) → AreKnown holds files known
      → AreKnown holds (files ++ bytes ∷ []) known
  known-still files bytes known are id has =
      let is = are id has in
      (is.0, is.1, is.2, Contains-append_left files (bytes ∷ []) is.0 is.3)

  either-known : (files : List (List ℕ)) (bytes : List ℕ) (old : BTreeSet FileId) (regular : Option FileId)
      (id : FileId) → (has_file old id ≡ true) ⊎ (regular ≡ Some id)
      → IfSome regular (λ q. IsModulesPart (holds q) bytes) → is_library bytes ≡ true → AreKnown holds files old
      → (part : List ℕ) × IsModulesPart (holds id) part × (is_library part ≡ true) × Contains (files ++ bytes ∷ []) part
  either-known files bytes old regular id (inl was) part library are =
      known-still files bytes old are id was
  either-known files bytes old regular id (inr is) part library are = (
    bytes,
    subst (λ r. IfSome r (λ q. IsModulesPart (holds q) bytes)) is part,
    library,
    Contains-push files bytes,
  )

  -- one more file is known, which is a library
  file-known : (files : List (List ℕ)) (bytes : List ℕ) (old new : BTreeSet FileId) (regular : Option FileId)
      → ((q : FileId) → has_file new q ≡ true → (has_file old q ≡ true) ⊎ (regular ≡ Some q))
      → IfSome regular (λ id. IsModulesPart (holds id) bytes) → is_library bytes ≡ true → AreKnown holds files old
      → AreKnown holds (files ++ bytes ∷ []) new
  file-known files bytes old new regular more part library are id has =
      either-known files bytes old regular id (more id has) part library are

  -- nothing was wanted so far
  pub reading-none : {A : Type 0} (reading : Reading A) → reading.files.items ≡ [] → reading.libraries.keys ≡ []
      → reading.known.keys ≡ [] → IsReading told holds objects libraries [] reading
  reading-none reading no-files no-keys none-known = (
    λ none. subst (λ fs. AreSoughtBehind told objects libraries [] [] (contents fs)) (sym no-files) tt,
    λ one has. absurd (true≢false (sym (sym (ap (list_any (λ k. is_eq (sought_cmp one k))) no-keys) ∙ has))),
    λ id has. absurd (true≢false (sym (sym (ap (list_any (λ k. is_eq (file_order id k))) none-known) ∙ has))),
  )

  -- one more library that is left out, and known from now on
  pub reading-known : {A : Type 0} (sought : List Sought) (one : Sought) (bytes : List ℕ) (old new : Reading A)
      → new.files.items ≡ old.files.items → new.unread.items ≡ old.unread.items
      → ((q : Sought) → contains sought_cmp new.libraries q
      ≡ cond (is_eq (sought_cmp one q)) true (contains sought_cmp old.libraries q))
      → new.known ≡ old.known → is_library bytes ≡ true → Contains (contents old.files.items) bytes
      → IsSought told objects libraries one bytes → IsReading told holds objects libraries sought old
      → IsReading told holds objects libraries (sought ++ one ∷ []) new
  reading-known sought one bytes old new same-files same-unread updates same-known library there is before =
      let left : IsLeftOut told objects libraries (contents old.files.items) one = (bytes, is, library, there) in
      let known = known-more (contents old.files.items) one old.libraries new.libraries updates left before.1 in (
        λ none. rw same-files (behind-left [] sought (contents old.files.items) one
            (before.0 (sym same-unread ∙ none)) left),
        rw same-files known,
        rw (same-files, same-known) before.2,
      )

  -- one more library that is read
  pub reading-library : {A : Type 0} (sought : List Sought) (one : Sought) (file : InputFile A) (old new : Reading A)
      → new.files.items ≡ old.files.items ++ file ∷ [] → new.unread.items ≡ old.unread.items
      → ((q : Sought) → contains sought_cmp new.libraries q
      ≡ cond (is_eq (sought_cmp one q)) true (contains sought_cmp old.libraries q))
      → (regular : Option FileId)
      → ((q : FileId) → has_file new.known q ≡ true → (has_file old.known q ≡ true) ⊎ (regular ≡ Some q))
      → is_library file.bytes.items ≡ true → IsSought told objects libraries one file.bytes.items
      → IfSome regular (λ id. IsModulesPart (holds id) file.bytes.items)
      → IsReading told holds objects libraries sought old
      → IsReading told holds objects libraries (sought ++ one ∷ []) new
  reading-library sought one file old new pushed same-unread updates regular more library is part before =
      let bytes = file.bytes.items in
      let files = contents old.files.items in
      let grown : contents new.files.items ≡ files ++ bytes ∷ [] =
      ap contents pushed ∙ map-append (λ f. f.bytes.items) old.files.items (file ∷ []) in (
        λ none. rw grown (behind-read [] sought files one bytes (before.0 (sym same-unread ∙ none)) is),
        rw grown (known-more (files ++ bytes ∷ []) one old.libraries new.libraries updates
            (bytes, is, library, Contains-push files bytes) (λ q has. left-more files bytes q (before.1 q has))),
        rw grown (file-known files bytes old.known new.known regular more part library before.2),
      )

  -- one more module
  pub reading-module : {A : Type 0} (sought : List Sought) (one : Sought) (file : InputFile A) (old new : Reading A)
      → new.files.items ≡ old.files.items ++ file ∷ [] → new.unread.items ≡ old.unread.items
      → new.libraries ≡ old.libraries → new.known ≡ old.known
      → IsSought told objects libraries one file.bytes.items → IsReading told holds objects libraries sought old
      → IsReading told holds objects libraries (sought ++ one ∷ []) new
  reading-module sought one file old new pushed same-unread same-libraries same-known is before =
      let bytes = file.bytes.items in
      let files = contents old.files.items in
      let grown : contents new.files.items ≡ files ++ bytes ∷ [] =
      ap contents pushed ∙ map-append (λ f. f.bytes.items) old.files.items (file ∷ []) in (
        λ none. rw grown (behind-read [] sought files one bytes (before.0 (sym same-unread ∙ none)) is),
        λ q has. rw grown (left-more files bytes q
            (before.1 q (ap (λ s. contains sought_cmp s q) (sym same-libraries) ∙ has))),
        rw (grown, same-known) (known-still files bytes old.known before.2),
      )

  -- one more that is known
  pub reading-left : {A : Type 0} (sought : List Sought) (one : Sought) (reading : Reading A)
      → contains sought_cmp reading.libraries one ≡ true → IsReading told holds objects libraries sought reading
      → IsReading told holds objects libraries (sought ++ one ∷ []) reading
  reading-left sought one reading has before = (
    λ none. behind-left [] sought (contents reading.files.items) one (before.0 none) (before.1 one has),
    before.1,
    before.2,
  )

  -- one more that isn't read
  pub reading-unread : {A : Type 0} (sought : List Sought) (one : Sought) (unread : Unread) (old new : Reading A)
      → new.files ≡ old.files → new.libraries ≡ old.libraries → new.known ≡ old.known
      → new.unread.items ≡ old.unread.items ++ unread ∷ [] → IsReading told holds objects libraries sought old
      → IsReading told holds objects libraries (sought ++ one ∷ []) new
  reading-unread sought one unread old new same-files same-libraries same-known pushed before = (
    λ none. absurd (never-empty old.unread.items unread (sym pushed ∙ none)),
    λ q has. rw same-files (before.1 q (ap (λ s. contains sought_cmp s q) (sym same-libraries) ∙ has)),
    rw (same-files, same-known) before.2,
  )
