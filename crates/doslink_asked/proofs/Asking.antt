-- Words in front of which `--as NAME` may stand.
use Rattle.std.proofs.Common.{◌≡◌, ℕ, List, Some, None, sym, subst}
use Rattle.std.specs.declared.option.Option.{Option}
use Rattle.std.specs.Option.{option_map_or, unwrap_or}
use Rattle.clap.specs.Words.{Text}
use Rattle.doslink_words.specs.declared.job.Job.{Job}
use Rattle.makefile_words.specs.declared.tokens.Language.{Language as Linker}
use Rattle.doslink_asked.specs.declared.languages.Language.{Language}
use Rattle.doslink_asked.specs.Asked.{Ask, AskIn}
use Rattle.doslink_asked.specs.Languages.{as_asked, language_named}

-- which words are read, and how
abbrev spoken-by : Language → List Text → Option (Text × List Text) → Language × List Text
spoken-by language words asked =
    option_map_or (λ a. (unwrap_or (language_named a.0) language, a.1)) asked (language, words)

module _ (told : Text → Option (List ℕ)) (IsFront : Linker → Text → Type 0) (language : Language) (words : List Text)
    (job : Option Job) where
  -- where it doesn't, they are read as they stand
  pub ask-plain : as_asked words ≡ None → AskIn told IsFront language words job → Ask told IsFront language words job
  ask-plain none ask =
      subst (λ o. AskIn told IsFront (spoken-by language words o).0 (spoken-by language words o).1 job) (sym none) ask

  -- where it does, those behind it are read as the name says
  pub ask-named : (name : Text) (rest : List Text) (named : Language) → as_asked words ≡ Some (name, rest)
      → language_named name ≡ Some named → AskIn told IsFront named rest job → Ask told IsFront language words job
  ask-named name rest named asked is ask =
      subst (λ o. AskIn told IsFront (spoken-by language words o).0 (spoken-by language words o).1 job) (sym asked)
      (subst (λ l. AskIn told IsFront (unwrap_or l language) rest job) (sym is) ask)
