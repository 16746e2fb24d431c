-- Records that were read one after the other, and members.
use Rattle.std.proofs.Common.{◌≡◌, ℕ, ◌+◌, ◌<◌, ◌≤◌, List, [], ◌∷◌, ◌++◌, length, map, take, get_or, refl, sym, ap, ◌∙◌}
use Rattle.std.proofs.Common.{append_assoc, append-nil, All, rules}
use Rattle.std.specs.List.{flat_map}
use Rattle.std.proofs.lemmas.Grind.{flat_map-append}
use Rattle.std.proofs.lemmas.List.{length-map, map-append, take_all, take_more}
use Rattle.std.proofs.lemmas.List.Elements.{All-push}
use Rattle.omf_frame.specs.declared.frame.Frame.{Frame}
use Rattle.omf_frame.specs.Frame.{Frame as PlainFrame}
use Rattle.omf_frame.specs.Lending.{plain_frame}
use Rattle.omf_library.specs.declared.files.FileKind.{FileKind}
use Rattle.omf_library.specs.declared.files.Member.{Member}
use Rattle.omf_library.specs.Members.{PlainMember, plain_member}
use Rattle.omf_library.specs.Records.{module_records}
use Rattle.doslib_text.specs.Listing.{member_line, title}
use Rattle.doslib_show.specs.declared.names.Names.{Names}
use Rattle.doslib_show.specs.declared.showing.Shown.{Shown}
use Rattle.doslib_show.specs.Meaning.{names_after}
use Rattle.doslib_show.specs.Names.{Names as PlainNames, no_names}
use Rattle.doslib_show.specs.Show.{IsRead, IsReadMember, Read, ReadMember, member_faults, member_text, read_fault}
use Rattle.doslib_show.specs.Show.{Shown as FileShown, read_text, reads_text}
use Rattle.doslib_show.specs.inside.Adding.{AddsMember, AddsRead, AddsReads, read_of}
use Rattle.doslib_show.specs.inside.Parts.{plain_names}

flat_map-push : {X : Type 0} (f : X → List ℕ) (xs : List X) (x : X) → flat_map f (xs ++ x ∷ []) ≡ flat_map f xs ++ f x
flat_map-push f xs x = flat_map-append f xs (x ∷ []) ∙ ap (λ l. flat_map f xs ++ l) (append-nil (f x))

-- a list of texts that grew by one
grows : {X : Type 0} (f : X → List ℕ) (first before after : List ℕ) (xs : List X) (x : X)
    → before ≡ first ++ flat_map f xs → after ≡ before ++ f x → after ≡ first ++ flat_map f (xs ++ x ∷ [])
grows f first before after xs x p q =
    q ∙ ap (λ l. l ++ f x) p ∙ append_assoc first (flat_map f xs) (f x)
    ∙ ap (λ l. first ++ l) (sym (flat_map-push f xs x))

-- ---- records

-- the names behind records
abbrev pub names_over : PlainNames → List Read → PlainNames
names_over names [] = names
names_over names (r ∷ rs) = names_over (names_after names r.means) rs

over-push : (names : PlainNames) (rs : List Read) (r : Read)
    → names_over names (rs ++ r ∷ []) ≡ names_after (names_over names rs) r.means
over-push names [] r = refl
over-push names (s ∷ rs) r = over-push (names_after names s.means) rs r

text-push : (begin : ℕ) (names : PlainNames) (rs : List Read) (r : Read)
    → reads_text begin names (rs ++ r ∷ []) ≡ reads_text begin names rs ++ read_text begin (names_over names rs) r
text-push begin names [] r = append-nil (read_text begin names r)
text-push begin names (s ∷ rs) r =
    ap (λ l. read_text begin names s ++ l) (text-push begin (names_after names s.means) rs r)
    ∙ sym (append_assoc (read_text begin names s) (reads_text begin (names_after names s.means) rs)
    (read_text begin (names_over (names_after names s.means) rs) r))

-- these records were added, and these are the names behind them
pub record ReadSoFar {A : Type 0} (path : List ℕ) (begin : ℕ) (frames : List PlainFrame) (names : Names A)
    (old new : Shown A) : Type 0 where
  pub reads : List Read
  pub these : map (λ (r : Read). r.frame) reads ≡ frames
  pub are : All IsRead reads
  pub named : plain_names names ≡ names_over no_names reads
  pub text_is : new.text.items ≡ old.text.items ++ reads_text begin no_names reads
  pub faults_are : new.faults.items ≡ old.faults.items ++ flat_map (read_fault path begin) reads

pub reads-none : {A : Type 0} (path : List ℕ) (begin : ℕ) (names : Names A) (old : Shown A)
    → plain_names names ≡ no_names → ReadSoFar path begin [] names old old
reads-none path begin names old named = record {
  reads = [];
  these = refl;
  are = search rules;
  named = named;
  text_is = sym (append-nil old.text.items);
  faults_are = sym (append-nil old.faults.items);
}

pub reads-more : {A : Type 0} (path : List ℕ) (begin : ℕ) (frames : List Frame) (i : ℕ) (d : Frame)
    (names names' : Names A) (old mid new : Shown A) → i < length frames
    → ReadSoFar path begin (map plain_frame (take i frames)) names old mid
    → AddsRead path begin (plain_frame (get_or frames i d)) names names' mid new
    → ReadSoFar path begin (map plain_frame (take (i + 1) frames)) names' old new
reads-more path begin frames i d names names' old mid new h so adds =
    let one = read_of (plain_frame (get_or frames i d)) adds.type adds.means in
    record {
      reads = so.reads ++ one ∷ [];
      these =
          map-append (λ (r : Read). r.frame) so.reads (one ∷ [])
          ∙ ap (λ l. l ++ plain_frame (get_or frames i d) ∷ []) so.these
          ∙ sym (map-append plain_frame (take i frames) (get_or frames i d ∷ []))
          ∙ ap (map plain_frame) (sym (take_more frames i d h));
      are = All-push IsRead so.reads one so.are adds.is;
      named =
          adds.named ∙ ap (λ n. names_after n adds.means) so.named ∙ sym (over-push no_names so.reads one);
      text_is =
          adds.text_is ∙ ap (λ n. mid.text.items ++ read_text begin n one) so.named
          ∙ ap (λ l. l ++ read_text begin (names_over no_names so.reads) one) so.text_is
          ∙ append_assoc old.text.items (reads_text begin no_names so.reads)
          (read_text begin (names_over no_names so.reads) one)
          ∙ ap (λ l. old.text.items ++ l) (sym (text-push begin no_names so.reads one));
      faults_are =
          grows (read_fault path begin) old.faults.items mid.faults.items new.faults.items so.reads one so.faults_are
          adds.faults_are;
    }

pub reads-all : {A : Type 0} (path : List ℕ) (begin : ℕ) (frames : List Frame) (i : ℕ) (names : Names A)
    (old new : Shown A) → length frames ≤ i → ReadSoFar path begin (map plain_frame (take i frames)) names old new
    → AddsReads path begin (map plain_frame frames) old new
reads-all path begin frames i names old new h so = record {
  reads = so.reads;
  these = so.these ∙ ap (map plain_frame) (take_all i frames h);
  are = so.are;
  text_is = so.text_is;
  faults_are = so.faults_are;
}

-- ---- members

-- a member, by its line and its records
pub member-adds : {A : Type 0} (path : List ℕ) (m : PlainMember) (frames : List PlainFrame) (old mid new : Shown A)
    → frames ≡ module_records m.bytes 0 → mid.text.items ≡ old.text.items ++ member_line m
    → mid.faults.items ≡ old.faults.items → AddsReads path m.place frames mid new → AddsMember path m old new
member-adds path m frames old mid new these text faults adds = record {
  read = record { member = m; reads = adds.reads };
  this = refl;
  is = (adds.these ∙ these, adds.are);
  text_is =
      adds.text_is ∙ ap (λ l. l ++ reads_text m.place no_names adds.reads) text
      ∙ append_assoc old.text.items (member_line m) (reads_text m.place no_names adds.reads);
  faults_are = adds.faults_are ∙ ap (λ l. l ++ flat_map (read_fault path m.place) adds.reads) faults;
}

-- these members were added behind a first text
pub record MembersSoFar {A : Type 0} (path first : List ℕ) (members : List PlainMember) (new : Shown A) : Type 0 where
  pub all : List ReadMember
  pub these : map (λ (m : ReadMember). m.member) all ≡ members
  pub are : All IsReadMember all
  pub text_is : new.text.items ≡ first ++ flat_map member_text all
  pub faults_are : new.faults.items ≡ flat_map (member_faults path) all

pub members-none : {A : Type 0} (path first : List ℕ) (new : Shown A) → new.text.items ≡ first
    → new.faults.items ≡ [] → MembersSoFar path first [] new
members-none path first new text faults = record {
  all = [];
  these = refl;
  are = search rules;
  text_is = text ∙ sym (append-nil first);
  faults_are = faults;
}

pub members-more : {A : Type 0} (path first : List ℕ) (members : List Member) (i : ℕ) (d : Member) (mid new : Shown A)
    → i < length members → MembersSoFar path first (map plain_member (take i members)) mid
    → AddsMember path (plain_member (get_or members i d)) mid new
    → MembersSoFar path first (map plain_member (take (i + 1) members)) new
members-more path first members i d mid new h so adds = record {
  all = so.all ++ adds.read ∷ [];
  these =
      map-append (λ (m : ReadMember). m.member) so.all (adds.read ∷ [])
      ∙ ap (λ l. l ++ adds.read.member ∷ []) so.these
      ∙ ap (λ m. map plain_member (take i members) ++ m ∷ []) adds.this
      ∙ sym (map-append plain_member (take i members) (get_or members i d ∷ []))
      ∙ ap (map plain_member) (sym (take_more members i d h));
  are = All-push IsReadMember so.all adds.read so.are adds.is;
  text_is = grows member_text first mid.text.items new.text.items so.all adds.read so.text_is adds.text_is;
  faults_are =
      grows (member_faults path) [] mid.faults.items new.faults.items so.all adds.read so.faults_are adds.faults_are;
}

pub members-all : {A : Type 0} (kind : FileKind) (path : List ℕ) (members : List Member) (i : ℕ) (new : Shown A)
    → length members ≤ i → MembersSoFar path (title kind path (length members)) (map plain_member (take i members)) new
    → FileShown kind path (map plain_member members) new.text.items new.faults.items
members-all kind path members i new h so = record {
  all = so.all;
  these = so.these ∙ ap (map plain_member) (take_all i members h);
  are = so.are;
  text_is =
      so.text_is
      ∙ ap (λ n. title kind path n ++ flat_map member_text so.all) (sym (length-map members plain_member));
  faults_are = so.faults_are;
}
