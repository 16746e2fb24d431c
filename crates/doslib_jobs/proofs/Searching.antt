-- Files that were searched one after the other.
use Rattle.std.proofs.Common.{◌≡◌, ◌∙◌, ℕ, ◌+◌, ◌<◌, List, [], ◌∷◌, ◌++◌, Bor, length, map, take, get_or, max}
use Rattle.std.proofs.Common.{refl, sym, ap, ap₂, subst, rules}
use Rattle.std.specs.declared.option.Option.{Option}
use Rattle.std.specs.Io.KnownBytes.{Appends, Keeps}
use Rattle.std.specs.List.{flat_map}
use Rattle.std.proofs.lemmas.List.{map-append, take_more}
use Rattle.std.proofs.lemmas.List.Elements.{All-push}
use Rattle.doslib_match.specs.declared.matching.Wanted.{Wanted}
use Rattle.doslib_match.specs.declared.matching.Wanted.TheVariants.{Byte}
use Rattle.omf_frame.proofs.Told.{Appends-kept, Appends-nil, Appends-trans}
use Rattle.doslib_words.specs.Words.{texts}
use Rattle.doslib_jobs.specs.declared.comparing.Compared.{Compared}
use Rattle.doslib_jobs.specs.declared.matching.Matched.{Matched}
use Rattle.doslib_jobs.specs.declared.outcome.Outcome.{Outcome}
use Rattle.doslib_jobs.specs.Comparing.{difference_line}
use Rattle.doslib_jobs.specs.Matching.{IsSearched, Searched, searched_status}
use Rattle.doslib_jobs.specs.Reading.{greatest}
use Rattle.doslib_jobs.specs.inside.Comparing.{PrintsDifference, TellsDifference}
use Rattle.doslib_jobs.specs.inside.Matching.{Added, AddsSearched}
use Rattle.doslib_jobs.proofs.Running.{flat_map-push, greatest-push}

-- no file was searched
pub added-none : {A : Type 0} (wanted : Wanted) (told : List ℕ → Option (List ℕ)) (image : List ℕ) (old : Option (List ℕ))
    (matched : Matched A) → matched.spans.items ≡ [] → matched.outcome.lines.items ≡ [] → matched.outcome.status ≡ 0
    → Added wanted told image [] old old matched
added-none wanted told image old matched spans lines zero = record {
  files = [];
  these = refl;
  are = search rules;
  text = Appends-nil old;
  spans = spans;
  faults = lines;
  greatest_is = zero;
}

-- one file more
pub added-more : {A : Type 0} (wanted : Wanted) (told : List ℕ → Option (List ℕ)) (image : List ℕ) (files : List (Bor (List ℕ))) (i : ℕ)
    (d : Bor (List ℕ)) (old mid new : Option (List ℕ)) (before after : Matched A) → i < length files
    → Added wanted told image (texts (take i files)) old mid before
    → AddsSearched wanted told image (get_or files i d).now mid new before after
    → Added wanted told image (texts (take (i + 1) files)) old new after
added-more wanted told image files i d old mid new before after h added adds =
    let one = adds.one in
    record {
      files = added.files ++ one ∷ [];
      these =
          map-append (λ (s : Searched). s.path) added.files (one ∷ []) ∙ ap₂ (λ l p. l ++ p ∷ []) added.these adds.here
          ∙ sym (map-append (λ (x : Bor (List ℕ)). x.now) (take i files) (get_or files i d ∷ []))
          ∙ ap texts (sym (take_more files i d h));
      are = All-push (IsSearched wanted told image) added.files one added.are adds.is;
      text =
          subst (Appends old new) (sym (flat_map-push (λ (s : Searched). s.text) added.files one))
          (Appends-trans old mid new (flat_map (λ (s : Searched). s.text) added.files) one.text added.text
          adds.appended);
      spans =
          adds.spans ∙ ap (λ l. l ++ one.spans) added.spans
          ∙ sym (flat_map-push (λ (s : Searched). s.spans) added.files one);
      faults =
          adds.lines ∙ ap (λ l. l ++ one.faults) added.faults
          ∙ sym (flat_map-push (λ (s : Searched). s.faults) added.files one);
      greatest_is =
          adds.greatest_is ∙ ap (λ n. max n (searched_status one)) added.greatest_is
          ∙ sym (greatest-push (map searched_status added.files) (searched_status one))
          ∙ ap greatest (sym (map-append searched_status added.files (one ∷ [])));
    }

-- that images differ was told, and then the files were searched
pub told-difference : {A : Type 0} (told : List ℕ → Option (List ℕ)) (compared : Compared) (place : ℕ)
    (old mid end new : Option (List ℕ)) (matched : Matched A) (after : Outcome A)
    → PrintsDifference compared.first.now compared.second.now place old mid
    → Added (Byte place) told compared.first.now (texts compared.files.now) mid end matched → Keeps end new
    → after.lines.items ≡ matched.outcome.lines.items → after.status ≡ max matched.outcome.status 1
    → TellsDifference told compared place old new after
told-difference told compared place old mid end new matched after prints added kept lines status =
    let files = added.files in
    let line = difference_line compared.first.now compared.second.now place in
    record {
      files = files;
      these = added.these;
      are = added.are;
      text =
          Appends-kept old end new (line ++ flat_map (λ (s : Searched). s.text) files)
          (Appends-trans old mid end line (flat_map (λ (s : Searched). s.text) files) prints added.text) kept;
      faults = lines ∙ added.faults;
      greatest_is = status ∙ ap (λ n. max n 1) added.greatest_is;
    }
