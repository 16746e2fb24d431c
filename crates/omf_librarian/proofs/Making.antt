-- What the steps of making a library come to.
use Rattle.std.proofs.Common.{◌≡◌, ℕ, List, [], Some, None, Ok, Err, refl, ap, ◌∙◌, sym}
use Rattle.std.specs.declared.option.Option.{Option}
use Rattle.std.specs.declared.result.Result.{Result}
use Rattle.std.specs.Option.{ok_or}
use Rattle.omf_library.specs.Records.{result_and_then}
use Rattle.omf_librarian.specs.Answers.{Answers}
use Rattle.omf_librarian.specs.Entering.{dictionary_of}
use Rattle.omf_librarian.specs.Library.{PlainLibrary, library_of, library_with, names_in}
use Rattle.omf_librarian.specs.Modules.{modules_from}
use Rattle.omf_librarian.specs.Naming.{Doubled, Named, doubled_behind, entries_behind}
use Rattle.omf_librarian.specs.Pages.{asked_size, page_size_for}
use Rattle.omf_librarian.specs.Writing.{library_bytes}
use Rattle.omf_librarian.specs.declared.fault.LibrarianFault.{LibrarianFault}
use Rattle.omf_librarian.specs.declared.fault.LibrarianFault.TheVariants.{PageSize, Header, Malformed, LongName, Pages}
use Rattle.omf_librarian.specs.declared.fault.LibrarianFault.TheVariants.{Names, Memory}

-- a fault goes through, where what stands has it then
pub fault_through : {X Y Z W : Type 0} (v : X → Y) (w : Z → W) (e : LibrarianFault) (s : Result Y LibrarianFault)
    (t : Result W LibrarianFault) → Answers v (Err e) s → (s ≡ Err e → t ≡ Err e) → Answers w (Err e) t
fault_through v w PageSize s t h go = go h
fault_through v w (Header m) s t h go = go h
fault_through v w (Malformed m p f) s t h go = go h
fault_through v w (LongName m) s t h go = go h
fault_through v w Pages s t h go = go h
fault_through v w Names s t h go = go h
fault_through v w Memory s t h go = tt

pub fault_stands : {Z W : Type 0} (w : Z → W) (e : LibrarianFault) (t : Result W LibrarianFault) → t ≡ Err e
    → Answers w (Err e) t
fault_stands w PageSize t h = h
fault_stands w (Header m) t h = h
fault_stands w (Malformed m p f) t h = h
fault_stands w (LongName m) t h = h
fault_stands w Pages t h = h
fault_stands w Names t h = h
fault_stands w Memory t h = tt

pub made-asked : (asked : Option ℕ) (members : List (List ℕ)) (e : LibrarianFault) → asked_size asked ≡ Err e
    → library_of asked members ≡ Err e
unfolding library_of
made-asked asked members e is =
    ap (result_and_then (λ size. result_and_then (λ modules.
    result_and_then (library_with modules) (page_size_for size modules)) (modules_from 0 members))) is

pub made-modules : (asked : Option ℕ) (members : List (List ℕ)) (a : Option ℕ) (e : LibrarianFault)
    → asked_size asked ≡ Ok a → modules_from 0 members ≡ Err e → library_of asked members ≡ Err e
unfolding library_of
made-modules asked members a e is fault =
    ap (result_and_then (λ size. result_and_then (λ modules.
    result_and_then (library_with modules) (page_size_for size modules)) (modules_from 0 members))) is
    ∙ ap (result_and_then (λ modules. result_and_then (library_with modules) (page_size_for a modules))) fault

pub made-size : (asked : Option ℕ) (members : List (List ℕ)) (a : Option ℕ) (ms : List (List ℕ)) (e : LibrarianFault)
    → asked_size asked ≡ Ok a → modules_from 0 members ≡ Ok ms → page_size_for a ms ≡ Err e
    → library_of asked members ≡ Err e
unfolding library_of
made-size asked members a ms e is are fault =
    ap (result_and_then (λ size. result_and_then (λ modules.
    result_and_then (library_with modules) (page_size_for size modules)) (modules_from 0 members))) is
    ∙ ap (result_and_then (λ modules. result_and_then (library_with modules) (page_size_for a modules))) are
    ∙ ap (result_and_then (library_with ms)) fault

pub made-with : (asked : Option ℕ) (members : List (List ℕ)) (a : Option ℕ) (ms : List (List ℕ)) (size : ℕ)
    → asked_size asked ≡ Ok a → modules_from 0 members ≡ Ok ms → page_size_for a ms ≡ Ok size
    → library_of asked members ≡ library_with ms size
unfolding library_of
made-with asked members a ms size is are fits =
    ap (result_and_then (λ size. result_and_then (λ modules.
    result_and_then (library_with modules) (page_size_for size modules)) (modules_from 0 members))) is
    ∙ ap (result_and_then (λ modules. result_and_then (library_with modules) (page_size_for a modules))) are
    ∙ ap (result_and_then (library_with ms)) fits

-- ---- of modules

pub with-names : (ms : List (List ℕ)) (size : ℕ) → dictionary_of (entries_behind [] (names_in size ms)) ≡ None
    → library_with ms size ≡ Err Names
with-names ms size none =
    ap (λ o. result_and_then (λ (dictionary : List ℕ). Ok (record {
      bytes = library_bytes size ms dictionary;
      doubled = doubled_behind [] (names_in size ms);
    })) (ok_or o Names)) none

pub with-all : (ms : List (List ℕ)) (size : ℕ) (d : List ℕ)
    → dictionary_of (entries_behind [] (names_in size ms)) ≡ Some d
    → library_with ms size
    ≡ Ok (record { bytes = library_bytes size ms d; doubled = doubled_behind [] (names_in size ms) })
with-all ms size d is =
    ap (λ o. result_and_then (λ (dictionary : List ℕ). Ok (record {
      bytes = library_bytes size ms dictionary;
      doubled = doubled_behind [] (names_in size ms);
    })) (ok_or o Names)) is
