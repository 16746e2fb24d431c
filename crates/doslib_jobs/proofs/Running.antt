-- Files that were told of one after the other.
use Rattle.std.proofs.Common.{◌≡◌, ℕ, ◌+◌, ◌<◌, ◌≤◌, List, [], ◌∷◌, ◌++◌, length, map, take, get_or, max, refl, sym, ap}
use Rattle.std.proofs.Common.{ap₂}
use Rattle.std.proofs.Common.{subst, ◌∙◌, append-nil, arith, rules, Bor}
use Rattle.std.specs.declared.option.Option.{Option}
use Rattle.std.specs.Io.KnownBytes.{Appends, Keeps}
use Rattle.std.specs.List.{flat_map}
use Rattle.std.proofs.lemmas.Grind.{flat_map-append}
use Rattle.std.proofs.lemmas.List.{map-append, take_all, take_more}
use Rattle.std.proofs.lemmas.List.Elements.{All-push}
use Rattle.omf_frame.proofs.Told.{Appends-kept, Appends-nil, Appends-trans}
use Rattle.omf_library.specs.declared.fault.FormatFault.{FormatFault}
use Rattle.omf_library.specs.declared.files.FileKind.{FileKind}
use Rattle.omf_library.specs.Files.{file_kind}
use Rattle.omf_library.specs.Members.{PlainMember}
use Rattle.doslib_show.specs.Show.{IsShow, Shown}
use Rattle.doslib_text.specs.Faults.{faults_text, list_faults}
use Rattle.doslib_text.specs.Listing.{list_text, listing}
use Rattle.doslib_text.specs.Parts.{fault_in, members_in, whole_members}
use Rattle.doslib_words.specs.Words.{texts}
use Rattle.doslib_jobs.specs.declared.outcome.Outcome.{Outcome}
use Rattle.doslib_jobs.specs.Jobs.{IsRead, Ran, Read, read_status}
use Rattle.doslib_jobs.specs.Reading.{greatest}
use Rattle.doslib_jobs.specs.inside.Running.{Adds}

pub greatest-push : (ns : List ℕ) (n : ℕ) → greatest (ns ++ n ∷ []) ≡ max (greatest ns) n
greatest-push [] n = omega arith
greatest-push (m ∷ ns) n = omega (arith, greatest-push ns n)

pub flat_map-push : {X Z : Type 0} (f : X → List Z) (xs : List X) (x : X)
    → flat_map f (xs ++ x ∷ []) ≡ flat_map f xs ++ f x
flat_map-push f xs x = flat_map-append f xs (x ∷ []) ∙ ap (λ l. flat_map f xs ++ l) (append-nil (f x))

-- no file was told of
pub ran-none : (tells : List ℕ → List ℕ → List ℕ → List ℕ → Type 0) (told : List ℕ → Option (List ℕ))
    (old : Option (List ℕ)) (lines : List ℕ) (status : ℕ) → lines ≡ [] → status ≡ 0
    → Ran tells told [] old old lines status
ran-none tells told old lines status none zero = record {
  reads = [];
  these = refl;
  are = search rules;
  text = Appends-nil old;
  faults = none;
  greatest_is = zero;
}

-- one file more
abbrev pub ran-more : {A : Type 0} (tells : List ℕ → List ℕ → List ℕ → List ℕ → Type 0)
    (told : List ℕ → Option (List ℕ))
    (files : List (Bor (List ℕ))) (i : ℕ) (d : Bor (List ℕ)) (old mid new : Option (List ℕ)) (before after : Outcome A)
    → i < length files → Ran tells told (texts (take i files)) old mid before.lines.items before.status
    → Adds tells told (get_or files i d).now mid new before after
    → Ran tells told (texts (take (i + 1) files)) old new after.lines.items after.status
ran-more tells told files i d old mid new before after h ran adds =
    let path = (get_or files i d).now in
    let one : Read = record { path = path; bytes = adds.bytes; text = adds.text; faults = adds.faults } in
    record {
      reads = ran.reads ++ one ∷ [];
      these =
          map-append (λ (r : Read). r.path) ran.reads (one ∷ []) ∙ ap (λ l. l ++ path ∷ []) ran.these
          ∙ sym (map-append (λ (x : Bor (List ℕ)). x.now) (take i files) (get_or files i d ∷ []))
          ∙ ap texts (sym (take_more files i d h));
      are = All-push (IsRead tells told) ran.reads one ran.are adds.is;
      text =
          subst (Appends old new) (sym (flat_map-push (λ (r : Read). r.text) ran.reads one))
          (Appends-trans old mid new (flat_map (λ (r : Read). r.text) ran.reads) adds.text ran.text adds.appended);
      faults =
          adds.lines ∙ ap (λ l. l ++ adds.faults) ran.faults
          ∙ sym (flat_map-push (λ (r : Read). r.faults) ran.reads one);
      greatest_is =
          adds.greatest_is ∙ ap (λ n. max n (read_status one)) ran.greatest_is
          ∙ sym (greatest-push (map read_status ran.reads) (read_status one))
          ∙ ap greatest (sym (map-append read_status ran.reads (one ∷ [])));
    }

-- all of them, and what was held back was handed on
pub ran-all : (tells : List ℕ → List ℕ → List ℕ → List ℕ → Type 0) (told : List ℕ → Option (List ℕ))
    (files : List (Bor (List ℕ))) (i : ℕ) (old mid new : Option (List ℕ)) (lines : List ℕ) (status : ℕ)
    → length files ≤ i → Ran tells told (texts (take i files)) old mid lines status → Keeps mid new
    → Ran tells told (texts files) old new lines status
ran-all tells told files i old mid new lines status h ran kept = record {
  reads = ran.reads;
  these = ran.these ∙ ap texts (take_all i files h);
  are = ran.are;
  text = Appends-kept old mid new (flat_map (λ (r : Read). r.text) ran.reads) ran.text kept;
  faults = ran.faults;
  greatest_is = ran.greatest_is;
}

-- what `list` prints of a file, by what was read of it
pub listed : (path file : List ℕ) (kind : FileKind) (members : List PlainMember) (text : List ℕ)
    → kind ≡ file_kind file → members ≡ whole_members file → text ≡ [] ++ listing kind path members
    → text ≡ list_text path file
unfolding list_text
listed path file kind members text k m t = t ∙ ap₂ (λ k' m'. listing k' path m') k m

-- what `show` prints of it
pub shown : (path file : List ℕ) (kind : FileKind) (members : List PlainMember) (text faults : List ℕ)
    → kind ≡ file_kind file → members ≡ whole_members file → Shown kind path members text faults
    → IsShow path file text faults
unfolding IsShow
shown path file kind members text faults k m s =
    subst (λ k'. Shown k' path (whole_members file) text faults) k (subst (λ m'. Shown kind path m' text faults) m s)

-- the lines of its faults
pub faulted : (path file : List ℕ) (members : List PlainMember) (fault : Option (ℕ × FormatFault))
    → members ≡ whole_members file → fault ≡ fault_in (members_in file)
    → faults_text path members fault ≡ list_faults path file
unfolding list_faults
faulted path file members fault m f = ap₂ (faults_text path) m f
