-- What is told of members, one more behind those before.
use Rattle.std.proofs.Common.{◌≡◌, ◌∙◌, ℕ, ◌+◌, ◌<◌, ◌≤◌, List, [], ◌∷◌, ◌++◌, length, map, take, get_or, refl, sym, ap}
use Rattle.std.proofs.Common.{OnOk, Ok, Err, Result, ap₂, append_assoc, append-nil, rules}
use Rattle.std.specs.declared.option.Option.{Option}
use Rattle.std.specs.List.{flat_map}
use Rattle.std.proofs.lemmas.Grind.{flat_map-append}
use Rattle.std.proofs.lemmas.List.{map-append, take_all, take_more}
use Rattle.std.proofs.lemmas.List.Elements.{All-push}
use Rattle.omf_library.specs.declared.fault.FormatFault.{FormatFault}
use Rattle.omf_library.specs.Members.{PlainMember}
use Rattle.omf_module.specs.Module.{Module}
use Rattle.omf_plain.specs.declared.fault.RecordObstacle.{RecordObstacle}
use Rattle.doslib_text.specs.Faults.{faults_text, file_fault}
use Rattle.doslib_text.specs.Listing.{shown_name}
use Rattle.doslib_text.specs.Parts.{fault_in, members_in, whole_members}
use Rattle.doslib_match.specs.declared.matching.Told.{Told}
use Rattle.doslib_match.specs.declared.matching.Wanted.{Wanted}
use Rattle.doslib_match.specs.Matching.{IsMatch, Tried, fault_line, module_text, tried_fault, tried_spans}
use Rattle.doslib_match.specs.Matching.{tried_text, wanted_spans}
use Rattle.doslib_match.specs.Reading.{IsReadAs}
use Rattle.doslib_match.specs.inside.Telling.{AddsMember, AddsMembers}

-- items that were appended, and those of one more
pushed : {X Z : Type 0} (f : X → List Z) (xs : List X) (x : X) (old mid new : List Z) → mid ≡ old ++ flat_map f xs
    → new ≡ mid ++ f x → new ≡ old ++ flat_map f (xs ++ x ∷ [])
pushed f xs x old mid new before added =
    added ∙ ap (λ l. l ++ f x) before ∙ append_assoc old (flat_map f xs) (f x)
    ∙ ap (λ l. old ++ (flat_map f xs ++ l)) (sym (append-nil (f x)))
    ∙ ap (λ l. old ++ l) (sym (flat_map-append f xs (x ∷ [])))

-- nothing was added
pub adds-none : {A : Type 0} (wanted : Wanted) (image path : List ℕ) (told : Told A) → AddsMembers wanted image path [] told told
adds-none wanted image path told = record {
  tried = [];
  are = (refl, search rules);
  text = sym (append-nil _);
  spans = sym (append-nil _);
  faults = sym (append-nil _);
}

-- one more was
pub adds-more : {A X : Type 0} (wanted : Wanted) (image path : List ℕ) (says : X → PlainMember) (members : List X) (i : ℕ) (d : X)
    (old mid new : Told A) → i < length members → AddsMembers wanted image path (map says (take i members)) old mid
    → AddsMember wanted image path (says (get_or members i d)) mid new
    → AddsMembers wanted image path (map says (take (i + 1) members)) old new
adds-more wanted image path says members i d old mid new h before (one, is, read, text, spans, faults) = record {
  tried = before.tried ++ one ∷ [];
  are = (
    map-append (λ (t : Tried). t.member) before.tried (one ∷ []) ∙ ap₂ (λ l m. l ++ m ∷ []) before.are.0 is
        ∙ sym (map-append says (take i members) (get_or members i d ∷ []))
        ∙ ap (map says) (sym (take_more members i d h)),
    All-push (λ (t : Tried). IsReadAs t.member.bytes t.read) before.tried one before.are.1 read,
  );
  text = pushed (tried_text wanted image path) before.tried one _ _ _ before.text text;
  spans = pushed (tried_spans wanted image) before.tried one _ _ _ before.spans spans;
  faults = pushed (tried_fault path) before.tried one _ _ _ before.faults faults;
}

-- all of them were
pub adds-all : {A X : Type 0} (wanted : Wanted) (image path : List ℕ) (says : X → PlainMember) (members : List X) (i : ℕ)
    (old new : Told A) → length members ≤ i → AddsMembers wanted image path (map says (take i members)) old new
    → AddsMembers wanted image path (map says members) old new
adds-all wanted image path says members i old new h adds = record {
  tried = adds.tried;
  are = (adds.are.0 ∙ ap (map says) (take_all i members h), adds.are.1);
  text = adds.text;
  spans = adds.spans;
  faults = adds.faults;
}

-- ---- a member

-- one that is read as a module
pub adds-module : {A X E : Type 0} (r : Result X E) (wanted : Wanted) (image path : List ℕ) (m : PlainMember) (one : Module)
    (before after : Told A) → IsReadAs m.bytes (Ok one)
    → OnOk r (after.text.items ≡ before.text.items ++ module_text wanted image path (shown_name m) one)
    → OnOk r (after.spans.items ≡ before.spans.items ++ wanted_spans wanted image one)
    → OnOk r (after.faults ≡ before.faults) → OnOk r (AddsMember wanted image path m before after)
adds-module (Ok x) wanted image path m one before after reads text spans faults = (
  record { member = m; read = Ok one },
  refl,
  reads,
  text,
  spans,
  ap (λ v. v.items) faults ∙ sym (append-nil _),
)
adds-module (Err e) wanted image path m one before after reads text spans faults = tt

-- one that isn't
pub adds-fault : {A X E : Type 0} (r : Result X E) (wanted : Wanted) (image path : List ℕ) (m : PlainMember) (place : ℕ)
    (why : RecordObstacle) (before after : Told A) → IsReadAs m.bytes (Err (place, why))
    → OnOk r (after.text ≡ before.text) → OnOk r (after.spans ≡ before.spans)
    → OnOk r (after.faults.items ≡ before.faults.items ++ fault_line path m place why)
    → OnOk r (AddsMember wanted image path m before after)
adds-fault (Ok x) wanted image path m place why before after reads text spans faults = (
  record { member = m; read = Err (place, why) },
  refl,
  reads,
  ap (λ v. v.items) text ∙ sym (append-nil _),
  ap (λ v. v.items) spans ∙ sym (append-nil _),
  faults,
)
adds-fault (Err e) wanted image path m place why before after reads text spans faults = tt

-- ---- a file

-- what is told of its members behind nothing, and then of itself
pub matched : {A : Type 0} (wanted : Wanted) (image path file : List ℕ) (members : List PlainMember) (fault : Option (ℕ × FormatFault))
    (none told : Told A) (faults : List ℕ) → members ≡ whole_members file → fault ≡ fault_in (members_in file)
    → none.text.items ≡ [] → none.spans.items ≡ [] → none.faults.items ≡ []
    → AddsMembers wanted image path members none told → faults ≡ told.faults.items ++ faults_text path [] fault
    → IsMatch wanted image path file told.text.items told.spans.items faults
matched wanted image path file members fault none told faults whole own text spans lines adds all = (
  adds.tried,
  (adds.are.0 ∙ whole, adds.are.1),
  adds.text ∙ ap (λ l. l ++ flat_map (tried_text wanted image path) adds.tried) text,
  adds.spans ∙ ap (λ l. l ++ flat_map (tried_spans wanted image) adds.tried) spans,
  all
      ∙ ap₂ (λ l f. l ++ file_fault path f) (adds.faults ∙ ap (λ l. l ++ flat_map (tried_fault path) adds.tried) lines)
      own,
)
