-- The lines of faults and warnings. A word stands in a line for a file or a module: it is a path, and of a member its
-- name in parentheses behind that of its library. A label is the number and the name of a fault.
use Rattle.std.specs.Prelude.{◌≡◌, ℕ, ◌==◌, if◌then◌else◌, List, [], ◌∷◌, ◌++◌, codes, decimal}
use Rattle.std.specs.Prelude.{take, slice_get, Some, None, Vec}
use Rattle.std.specs.declared.option.Option.{Option}
use Rattle.std.specs.declared.io.ErrorKind.{ErrorKind}
use Rattle.std.specs.declared.io.ErrorKind.TheVariants as error
use Rattle.std.specs.Borrow.{Bor}
use Rattle.std.specs.List.{concat, enumerate_from, flat_map}
use Rattle.std.specs.Option.{option_map_or}
use Rattle.std.specs.Str.Lossy.{utf8_lossy}
use Rattle.omf_communal.specs.declared.declarations.Declaring.{Declaring}
use Rattle.omf_communal.specs.declared.declarations.Variable.{Variable}
use Rattle.omf_communal.specs.declared.declarations.Whose.{Whose}
use Rattle.omf_communal.specs.declared.fault.ClashFault.{ClashFault}
use Rattle.omf_communal.specs.declared.fault.ClashFault.TheVariants as clash
use Rattle.omf_communal.specs.declared.fault.EntryFault.{EntryFault}
use Rattle.omf_communal.specs.declared.fault.EntryFault.TheVariants as entry
use Rattle.omf_communal.specs.declared.fault.PlanFault.{PlanFault}
use Rattle.omf_communal.specs.declared.fault.PlanFault.TheVariants as plan
use Rattle.omf_library.specs.declared.fault.FormatFault.{FormatFault}
use Rattle.omf_library.specs.declared.fault.FormatFault.TheVariants as format
use Rattle.omf_plain.specs.declared.fault.Obstacle.{Obstacle}
use Rattle.omf_plain.specs.declared.fault.Obstacle.TheVariants as obstacle
use Rattle.omf_faults.specs.declared.fault.LinkFault.{LinkFault}
use Rattle.omf_faults.specs.FaultLines as told
use Rattle.omf_text.specs.Printing.{printed_name}
use Rattle.doslink_files.specs.declared.fault.ReadFault.{ReadFault}
use Rattle.doslink_files.specs.declared.fault.ReadFault.TheVariants as read
use Rattle.doslink_stock.specs.declared.fault.StockFault.{StockFault}
use Rattle.doslink_stock.specs.declared.fault.StockFault.TheVariants as stock
use Rattle.doslink_telling.specs.Words.{cut_end, most_bytes, path_of, word_at}

-- a line was appended, of what has one: want of memory has none
abbrev pub IsTold : (line : Option (List ℕ)) → (old new : List ℕ) → Type 0
IsTold None old new = ⊥
IsTold (Some line) old new = new ≡ old ++ line

-- ---- faults of the link

-- the line of a fault of the link, as this program tells it
abbrev pub fault_line : {A : Type 0} → LinkFault A → (word : List ℕ) → List ℕ
fault_line fault word = told.fault_line (codes "doslink") fault (utf8_lossy word)

-- ---- faults at a place

-- the line of a fault at a place of what the word stands for; `at` says what is counted up to the place
abbrev pub located : (word : List ℕ) (label : ℕ × List ℕ) (at : List ℕ) (place : ℕ) → List ℕ
located word label at place =
    concat (codes "doslink: " ∷ word ∷ codes ": " ∷ decimal label.0 ∷ codes " " ∷ label.1 ∷ at ∷ decimal place
    ∷ codes "\n" ∷ [])

-- what the system says of an error of this kind; else another text
abbrev pub system_text : ErrorKind → (other : List ℕ) → List ℕ
system_text error.WouldBlock other = codes "resource temporarily unavailable"
system_text error.ReadOnlyFilesystem other = codes "read-only file system"
system_text error.FilesystemLoop other = codes "too many levels of symbolic links"
system_text error.StaleNetworkFileHandle other = codes "stale file handle"
system_text error.InvalidInput other = codes "invalid argument"
system_text error.TimedOut other = codes "connection timed out"
system_text error.FileTooLarge other = codes "file too large"
system_text error.ResourceBusy other = codes "device or resource busy"
system_text error.ExecutableFileBusy other = codes "text file busy"
system_text error.InvalidFilename other = codes "file name too long"
system_text error.Interrupted other = codes "interrupted system call"
system_text error.Unsupported other = codes "operation not supported"
system_text kind other = other

-- why a file isn't read
abbrev pub unread_text : ReadFault → List ℕ
unread_text read.Memory = codes "out of memory"
unread_text read.Absent = codes "no such file"
unread_text read.Folder = codes "it is a folder"
unread_text read.Forbidden = codes "no permission"
unread_text read.NoDrive = codes "there is no such drive"
unread_text read.Special = codes "it is no regular file"
unread_text (read.Unopened error.InvalidData) = codes "two names there differ by case alone"
unread_text (read.Unopened kind) = system_text kind (codes "it can't be opened")
unread_text (read.Device kind) = system_text kind (codes "it can't be read")

-- the line of a file or a library of this name that isn't read
abbrev pub unread_line : (name : List ℕ) → ReadFault → List ℕ
unread_line name fault = concat (codes "doslink: " ∷ name ∷ codes ": 1 Device at record 0: " ∷ unread_text fault
    ∷ codes "\n" ∷ [])

-- why a file isn't written
abbrev pub unwritten_text : ErrorKind → List ℕ
unwritten_text error.NotFound = codes "no such folder"
unwritten_text error.NotADirectory = codes "no such folder"
unwritten_text error.PermissionDenied = codes "no permission"
unwritten_text error.IsADirectory = codes "it is a folder"
unwritten_text error.AlreadyExists = codes "it was just written"
unwritten_text error.StorageFull = codes "no space is left"
unwritten_text error.QuotaExceeded = codes "no space is left"
unwritten_text error.BrokenPipe = codes "nobody reads it any more"
unwritten_text error.AddrNotAvailable = codes "there is no such drive"
unwritten_text error.InvalidData = codes "two names there differ by case alone"
unwritten_text error.OutOfMemory = codes "out of memory"
unwritten_text kind = system_text kind (codes "it can't be written")

-- the line of a file at a path that can't be written
abbrev pub unwritten_line : (path : List ℕ) → ErrorKind → List ℕ
unwritten_line path kind = concat (codes "doslink: " ∷ path ∷ codes ": 40 Device: " ∷ unwritten_text kind
    ∷ codes "\n" ∷ [])

-- the label of a fault of a library
abbrev pub format_label : FormatFault → ℕ × List ℕ
format_label format.PageSize = (42, codes "PageSize")
format_label format.ZeroLength = (43, codes "ZeroLength")
format_label format.Truncated = (44, codes "Truncated")
format_label format.Closing = (45, codes "Closing")
format_label format.Header = (46, codes "Header")
format_label format.TooLong = (47, codes "TooLong")

-- the line of a library at fault, by the place of the byte
abbrev pub stock_line : (paths : List (Bor (List ℕ))) → StockFault → Option (List ℕ)
stock_line paths stock.Memory = None
stock_line paths (stock.Library file place fault) =
    Some (located (path_of paths file) (format_label fault) (codes " at place ") place)

-- the label of what keeps a record from being one of the fourteen
abbrev pub obstacle_label : Obstacle → ℕ × List ℕ
obstacle_label obstacle.OtherType = (5, codes "Type")
obstacle_label obstacle.DataType = (48, codes "DataType")
obstacle_label obstacle.Above16Bits = (49, codes "Above16Bits")
obstacle_label obstacle.OutsideData = (50, codes "Location")
obstacle_label obstacle.Body = (51, codes "Body")
obstacle_label obstacle.TooLong = (52, codes "TooLong")
obstacle_label obstacle.EasyOmf = (63, codes "EasyOmf")
obstacle_label obstacle.ImportedName = (64, codes "ImportedName")
obstacle_label obstacle.FlatFrame = (65, codes "FlatFrame")
obstacle_label obstacle.LateSegment = (80, codes "LateSegment")

-- the line of a record that is none of the fourteen, by its place in its module
abbrev pub obstacle_line : (word : List ℕ) (place : ℕ) → Obstacle → List ℕ
obstacle_line word place fault = located word (obstacle_label fault) (codes " at record ") place

-- the line of a fix-up of 32 bits whose sum has more than 16, by the place of its record in its module
abbrev pub overflow_line : (word : List ℕ) (place : ℕ) → List ℕ
overflow_line word place = located word (61, codes "SumAbove16Bits") (codes " at record ") place

-- the line of an alias that goes round for ever, by the place of its record in its module
abbrev pub endless_line : (word : List ℕ) (place : ℕ) (name : List ℕ) → List ℕ
endless_line word place name = concat (codes "doslink: " ∷ word ∷ codes ": 60 EndlessAlias " ∷ printed_name name
    ∷ codes " at record " ∷ decimal place ∷ codes "\n" ∷ [])

-- the label of what is wrong with a record that declares communal variables
abbrev pub entry_label : EntryFault → ℕ × List ℕ
entry_label entry.Body = (53, codes "Body")
entry_label entry.DataType = (54, codes "DataType")

-- the line of such a record, by its place in its module
abbrev pub entry_line : (word : List ℕ) (place : ℕ) → EntryFault → List ℕ
entry_line word place fault = located word (entry_label fault) (codes " at record ") place

-- ---- faults of names

-- what stands before a word in a list of words, by its index
abbrev pub word_joint : ℕ → List ℕ
word_joint index = if index == 0 then codes " in " else codes " and "

-- words, each behind what joins it to those before it
abbrev pub listed : List (List ℕ) → List ℕ
listed words = flat_map (λ p. word_joint p.0 ++ p.1) (enumerate_from 0 words)

-- the line of a fault of a name, with the words for the modules that it stands in
abbrev pub named : (label : ℕ × List ℕ) (name : List ℕ) (words : List (List ℕ)) → List ℕ
named label name words =
    concat (codes "doslink: link: " ∷ decimal label.0 ∷ codes " " ∷ label.1 ∷ codes " " ∷ printed_name name
    ∷ listed words ∷ codes "\n" ∷ [])

-- the name of a communal variable, by the module that declares it and its index there
abbrev pub name_at : List Declaring → Whose → List ℕ
name_at modules whose =
    option_map_or (λ m. option_map_or (λ c. c.name.now) (slice_get m.communals.now whose.communal) [])
    (slice_get modules whose.module) []

-- the line of a name that two modules declare
abbrev pub clashing : {A : Type 0} → (label : ℕ × List ℕ) → (first other : Whose) → List Declaring → List (Vec ℕ A)
    → List ℕ
clashing label first other modules words =
    named label (name_at modules first) (word_at words first.module ∷ word_at words other.module ∷ [])

-- the line of a name whose declarations clash
abbrev pub clash_line : {A : Type 0} → ClashFault → List Declaring → List (Vec ℕ A) → Option (List ℕ)
clash_line (clash.NearAndFar first other) modules words =
    Some (clashing (55, codes "NearAndFar") first other modules words)
clash_line (clash.ElementSizes first other) modules words =
    Some (clashing (56, codes "ElementSizes") first other modules words)
clash_line clash.Memory modules words = None

-- the line of a variable, by its index, with the first module that declares it
abbrev pub declared : {A : Type 0} → (label : ℕ × List ℕ) → (variable : ℕ) → List Variable → List (Vec ℕ A) → List ℕ
declared label variable variables words = option_map_or
    (λ v. named label v.name.now (word_at words v.first.module ∷ [])) (slice_get variables variable) []

-- the line of a variable that has no place
abbrev pub unplaced_line : {A : Type 0} → PlanFault → List Variable → List (Vec ℕ A) → Option (List ℕ)
unplaced_line (plan.NearTooLong variable) variables words =
    Some (declared (57, codes "NearTooLong") variable variables words)
unplaced_line (plan.CutElement variable) variables words =
    Some (declared (58, codes "CutElement") variable variables words)
unplaced_line (plan.TooManySegments variable) variables words =
    Some (declared (59, codes "TooManySegments") variable variables words)
unplaced_line plan.Memory variables words = None

-- ---- other lines

-- the warning that a default library wasn't found, with the first module that names it
abbrev pub absent_line : (library word : List ℕ) → List ℕ
absent_line library word = concat (codes "doslink: warning: library " ∷ printed_name (take most_bytes library)
    ∷ cut_end library ∷ codes " of " ∷ word ∷ codes " was not found\n" ∷ [])

-- the warning that a module has segments of 32 bits
abbrev pub wide_line : (word : List ℕ) → List ℕ
wide_line word = concat (codes "doslink: warning: 32-bit segments of " ∷ word ∷ codes " are linked as 16-bit ones\n"
    ∷ [])

-- the line of a path that can't be used, and why
abbrev pub path_line : (path why : List ℕ) → List ℕ
path_line path why = concat (codes "doslink: " ∷ path ∷ codes ": " ∷ why ∷ codes "\n" ∷ [])

-- the line of an order that would have too many parts
abbrev pub order_line : List ℕ
order_line = codes "doslink: order: TooManySegments: there are more than 16,383 to order\n"
