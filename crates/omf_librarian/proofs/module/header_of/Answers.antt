use Rattle.std.proofs.Common.{◌≡◌, ℕ, List, [], sym, ap, ◌∙◌, unwrap_or}
use Rattle.std.specs.declared.result.Result.{Result}
use Rattle.std.specs.Option.{option_and_then}
use Rattle.std.specs.Result.{result_ok}
use Rattle.omf_frame.specs.Frame.{Frame}
use Rattle.omf_library.specs.Records.{header_name}
use Rattle.omf_library.specs.declared.fault.LibraryFault.{LibraryFault}
use Rattle.omf_library.specs.Said.{bytes_said}
use Rattle.omf_librarian.proofs.module.header_of.Goals as goal

pub returns-in-Some : goal.returns-in-Some
returns-in-Some c =
    ap (λ o. unwrap_or o [])
    (ap bytes_said (sym c.in-Some.is) ∙ c.header_name.ensures)
    ∙ ap (λ (r : Result Frame LibraryFault). unwrap_or (option_and_then header_name (result_ok r)) [])
    c.in-Ok.ensures.said

pub returns-in-None : goal.returns-in-None
returns-in-None c =
    ap (λ o. unwrap_or o [])
    (ap bytes_said (sym c.in-None.is) ∙ c.header_name.ensures)
    ∙ ap (λ (r : Result Frame LibraryFault). unwrap_or (option_and_then header_name (result_ok r)) [])
    c.in-Ok.ensures.said
