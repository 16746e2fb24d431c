-- The warning of an EXE file to which a line of LINK or TLINK, or a directive, gives the name of another form
-- (docs/DOSLINK.md, "Faults and statuses").
use Rattle.std.specs.Prelude.{ℕ, Bool, if◌then◌else◌, is_none, List, [], ◌++◌, ◌&&◌, codes}
use Rattle.std.specs.Option.{option_map_or}
use Rattle.doslink_words.specs.declared.job.Job.{Job}
use Rattle.doslink_words.specs.Keywords.{is_keyword}
use Rattle.doslink_words.specs.Said.{has_header}
use Rattle.makefile_words.specs.declared.tokens.Language.{Language as Linker}
use Rattle.makefile_words.specs.declared.tokens.Language.TheVariants.{Link, Tlink}
use Rattle.doslink_asked.specs.Paths.{extension_of, is_other_form}
use Rattle.doslink_asked.specs.declared.form_names.FormWords.{FormWords}

-- what makes files of other forms: a .COM file, and a raw image
pub record FormHelps : Type 0 where
  pub com_file : List ℕ
  pub raw_image : List ℕ

-- in a line
abbrev pub linker_words : Linker → FormHelps
linker_words Link =
    record { com_file = codes "/T makes a .COM file"; raw_image = codes "doslink --form bin makes a raw image" }
linker_words Tlink =
    record { com_file = codes "/t makes a .COM file"; raw_image = codes "doslink --form bin makes a raw image" }

-- in directives
abbrev pub directive_words : FormHelps
directive_words =
    record { com_file = codes "format dos com makes a .COM file"; raw_image = codes "output raw makes a raw image" }

-- what makes a file of the form that an extension is of
abbrev pub form_help : FormHelps → (extension : List ℕ) → List ℕ
form_help helps extension =
    if is_keyword extension (codes "com") then helps.com_file
    else (if is_keyword extension (codes "sys") then codes "doslink --form sys makes a device driver"
    else helps.raw_image)

-- the line of a name
abbrev pub form_line : FormHelps → (out : List ℕ) → List ℕ
form_line helps out =
    codes "doslink: warning: " ++ (out ++ (codes ": an EXE file is written: "
    ++ (form_help helps (extension_of out) ++ codes "\n")))

-- a file with a header, whose name has the extension of one without
abbrev pub is_misnamed : Job → (out : List ℕ) → Bool
is_misnamed job out = has_header job.form && is_other_form (extension_of out)

-- that of a name, and that of the one that a job gives
abbrev pub misnamed_warning : Job → FormHelps → (out : List ℕ) → List ℕ
misnamed_warning job helps out = if is_misnamed job out then form_line helps out else []

abbrev pub form_warning : Job → FormHelps → List ℕ
form_warning job helps = option_map_or (λ out. misnamed_warning job helps out.now) job.out []

-- that of the one that directives give, where they say no form
abbrev pub unsaid_warning : Job → List ℕ
unsaid_warning job = if is_none job.form then form_warning job directive_words else []

-- what makes files of other forms, as the code has it
abbrev pub said_words : FormWords → FormHelps
said_words words = record { com_file = words.com_file.now; raw_image = words.raw_image.now }
