-- The names that a module says, record by record.
use Rattle.std.proofs.Common.{◌≡◌, ℕ, ◌+◌, ◌<◌, ◌≤◌, Bool, true, false, ◌||◌, List, [], ◌++◌, length, map, drop}
use Rattle.std.proofs.Common.{get_or, is_some, refl, sym, ap, ◌∙◌, append_assoc}
use Rattle.std.proofs.Math.ListN.{drop_of_length-le}
use Rattle.std.proofs.lemmas.List.{append-nil}
use Rattle.std.specs.Borrow.{Bor}
use Rattle.std.specs.List.{flat_map, list_any}
use Rattle.omf_frame.specs.Frame.{Frame}
use Rattle.omf_frame.specs.Lending.{plain_frame}
use Rattle.omf_frame.specs.declared.frame.Frame.{Frame as LentFrame}
use Rattle.omf_library.specs.Listed.{listed_in, said_by}
use Rattle.omf_library.specs.declared.aliases.Alias as lent
use Rattle.omf_library.specs.Aliases.{Alias, aliases_in, aliases_of}
use Rattle.omf_library.specs.Names.{texts, wanted_in, offered_in, communals_in, library_in, external_names}
use Rattle.omf_library.specs.Names.{offered_names, communal_names, library_names, asks_dosseg}
use Rattle.omf_library.specs.Said.{aliases_said}
use Rattle.omf_library.specs.Records.{comment_text}
use Rattle.omf_library.proofs.Gathering.{drop-one, said-end, said-turn}

abbrev asks : Frame → Bool
asks f = is_some (comment_text 0x9E f)

-- what the records from one on say
abbrev left : List LentFrame → ℕ → List Frame
left frames i = map plain_frame (drop i frames)

-- what a module says, as far as it is told
pub record Telling : Type 0 where
  pub listed : List (List ℕ)
  pub externals : List (List ℕ)
  pub offered : List (List ℕ)
  pub communals : List (List ℕ)
  pub aliases : List Alias
  pub libraries : List (List ℕ)
  pub dosseg : Bool

-- what was told, and what the records that are left say, make all that the module says
pub record NamesLeft (frames : List LentFrame) (i : ℕ) (t : Telling) : Type 0 where
  pub more_externals : t.externals ++ said_by wanted_in t.listed (left frames i) ≡ external_names (map plain_frame frames)
  pub more_offered : t.offered ++ said_by offered_in t.listed (left frames i) ≡ offered_names (map plain_frame frames)
  pub more_communals : t.communals ++ flat_map communals_in (left frames i) ≡ communal_names (map plain_frame frames)
  pub more_aliases : t.aliases ++ flat_map aliases_in (left frames i) ≡ aliases_of (map plain_frame frames)
  pub more_libraries : t.libraries ++ flat_map library_in (left frames i) ≡ library_names (map plain_frame frames)
  pub asked : (t.dosseg || list_any asks (left frames i)) ≡ asks_dosseg (map plain_frame frames)

-- before the first record
pub names_first : (frames : List LentFrame) (listed externals offered communals libraries : List (Bor (List ℕ)))
    (aliases : List lent.Alias) → listed ≡ []
    → externals ≡ [] → offered ≡ [] → communals ≡ [] → aliases ≡ [] → libraries ≡ []
    → NamesLeft frames 0 (record {
      listed = texts listed;
      externals = texts externals;
      offered = texts offered;
      communals = texts communals;
      aliases = aliases_said aliases;
      libraries = texts libraries;
      dosseg = false;
    })
unfolding external_names offered_names communal_names aliases_of library_names asks_dosseg
names_first frames listed externals offered communals libraries aliases p q r s t u =
    rw (p, q, r, s, t, u)
    (record {
      more_externals = refl;
      more_offered = refl;
      more_communals = refl;
      more_aliases = refl;
      more_libraries = refl;
      asked = refl;
    })

-- what a record adds
pub record Noted (f : Frame) (old new : Telling) : Type 0 where
  pub listed_more : new.listed ≡ old.listed ++ listed_in f
  pub externals_more : new.externals ≡ old.externals ++ wanted_in old.listed f
  pub offered_more : new.offered ≡ old.offered ++ offered_in old.listed f
  pub communals_more : new.communals ≡ old.communals ++ communals_in f
  pub aliases_more : new.aliases ≡ old.aliases ++ aliases_in f
  pub libraries_more : new.libraries ≡ old.libraries ++ library_in f
  pub asked_more : new.dosseg ≡ (old.dosseg || asks f)

flat-turn : {Y : Type 0} (says : Frame → List Y) (frames : List LentFrame) (i : ℕ) (f : LentFrame) (old new all : List Y)
    → i < length frames
    → f ≡ get_or frames i f → old ++ flat_map says (left frames i) ≡ all
    → new ≡ old ++ says (plain_frame f) → new ++ flat_map says (left frames (i + 1)) ≡ all
flat-turn says frames i f old new all within is now added =
    ap (λ l. l ++ flat_map says (left frames (i + 1))) added ∙ append_assoc old (says (plain_frame f)) _
    ∙ ap (λ fs. old ++ flat_map says (map plain_frame fs)) (sym (drop-one frames i f within is)) ∙ now

flat-end : {Y : Type 0} (says : Frame → List Y) (frames : List LentFrame) (i : ℕ) (told all : List Y)
    → length frames ≤ i → told ++ flat_map says (left frames i) ≡ all → told ≡ all
flat-end says frames i told all past now =
    sym (append-nil told) ∙ ap (λ fs. told ++ flat_map says (map plain_frame fs)) (sym (drop_of_length-le frames past))
    ∙ now

or_assoc : (a b c : Bool) → ((a || b) || c) ≡ (a || (b || c))
or_assoc true b c = refl
or_assoc false b c = refl

or_false : (a : Bool) → (a || false) ≡ a
or_false true = refl
or_false false = refl

any-turn : (frames : List LentFrame) (i : ℕ) (f : LentFrame) (old new all : Bool) → i < length frames
    → f ≡ get_or frames i f → (old || list_any asks (left frames i)) ≡ all → new ≡ (old || asks (plain_frame f))
    → (new || list_any asks (left frames (i + 1))) ≡ all
any-turn frames i f old new all within is now added =
    ap (λ b. b || list_any asks (left frames (i + 1))) added ∙ or_assoc old (asks (plain_frame f)) _
    ∙ ap (λ fs. old || list_any asks (map plain_frame fs)) (sym (drop-one frames i f within is)) ∙ now

-- one record more
pub names_turn : (frames : List LentFrame) (i : ℕ) (f : LentFrame) (old new : Telling)
    → i < length frames → f ≡ get_or frames i f → NamesLeft frames i old → Noted (plain_frame f) old new
    → NamesLeft frames (i + 1) new
names_turn frames i f old new within is now noted = record {
  more_externals =
      said-turn wanted_in plain_frame frames i f old.listed new.listed old.externals new.externals _ within is
      now.more_externals noted.externals_more noted.listed_more;
  more_offered =
      said-turn offered_in plain_frame frames i f old.listed new.listed old.offered new.offered _ within is
      now.more_offered noted.offered_more noted.listed_more;
  more_communals =
      flat-turn communals_in frames i f old.communals new.communals _ within is now.more_communals noted.communals_more;
  more_aliases = flat-turn aliases_in frames i f old.aliases new.aliases _ within is now.more_aliases noted.aliases_more;
  more_libraries =
      flat-turn library_in frames i f old.libraries new.libraries _ within is now.more_libraries noted.libraries_more;
  asked = any-turn frames i f old.dosseg new.dosseg _ within is now.asked noted.asked_more;
}

-- all that the module says was told
pub record NamesTold (frames : List LentFrame) (t : Telling) : Type 0 where
  pub all_externals : t.externals ≡ external_names (map plain_frame frames)
  pub all_offered : t.offered ≡ offered_names (map plain_frame frames)
  pub all_communals : t.communals ≡ communal_names (map plain_frame frames)
  pub all_aliases : t.aliases ≡ aliases_of (map plain_frame frames)
  pub all_libraries : t.libraries ≡ library_names (map plain_frame frames)
  pub asked : t.dosseg ≡ asks_dosseg (map plain_frame frames)

-- no record is left
pub names_told : (frames : List LentFrame) (i : ℕ) (t : Telling) → length frames ≤ i → NamesLeft frames i t
    → NamesTold frames t
names_told frames i t past now = record {
  all_externals = said-end wanted_in plain_frame frames i t.listed t.externals _ past now.more_externals;
  all_offered = said-end offered_in plain_frame frames i t.listed t.offered _ past now.more_offered;
  all_communals = flat-end communals_in frames i t.communals _ past now.more_communals;
  all_aliases = flat-end aliases_in frames i t.aliases _ past now.more_aliases;
  all_libraries = flat-end library_in frames i t.libraries _ past now.more_libraries;
  asked =
      sym (or_false t.dosseg)
      ∙ ap (λ fs. t.dosseg || list_any asks (map plain_frame fs)) (sym (drop_of_length-le frames past)) ∙ now.asked;
}
