-- What directives ask for, by its texts.
use Rattle.std.specs.Prelude.{Bool, true, false, List, [], Option, None, Some, map}
use Rattle.std.specs.Option.{option_map}
use Rattle.clap.specs.Words.{Text}
use Rattle.doslink_words.specs.Tokens.{texts}
use Rattle.doslink_words.specs.declared.job.Alias.{Alias}
use Rattle.doslink_words.specs.declared.job.Directives.{Directives}
use Rattle.doslink_words.specs.declared.job.Form.{Form}
use Rattle.doslink_words.specs.declared.job.Form.TheVariants as form
use Rattle.doslink_words.specs.declared.job.Input.{Input}
use Rattle.doslink_words.specs.declared.job.Input.TheVariants as input
use Rattle.doslink_words.specs.declared.job.MapFile.{MapFile}
use Rattle.doslink_words.specs.declared.job.MapFile.TheVariants as map_file
use Rattle.doslink_words.specs.declared.job.MapForm.{MapForm}
use Rattle.doslink_words.specs.declared.job.MapForm.TheVariants as map_form
use Rattle.doslink_words.specs.declared.job.Order.{Order}
use Rattle.doslink_words.specs.declared.job.Order.TheVariants as order
use Rattle.doslink_words.specs.declared.job.OrderItem.{OrderItem}
use Rattle.doslink_words.specs.declared.job.OrderItem.TheVariants as order_item
use Rattle.doslink_words.specs.declared.job.Stack.{Stack}
use Rattle.doslink_words.specs.declared.job.Warning.{Warning}

-- a file, or a library that is looked up
pub data SaidInput : Type 0 where
  File : Text → SaidInput
  Library : Text → SaidInput

-- a map beside the program, or at a path
pub data SaidMap : Type 0 where
  Beside : SaidMap
  At : Text → SaidMap

-- a class or a segment of an order
pub data SaidItem : Type 0 where
  Class : Text → SaidItem
  Segment : Text → SaidItem

-- the order of meeting, DOSSEG, or a list
pub data SaidOrder : Type 0 where
  Meeting : SaidOrder
  Dosseg : SaidOrder
  Listed : List SaidItem → SaidOrder

-- the file of a program has a header, which says where the program starts and where its stack is
abbrev pub has_header : Option Form → Bool
has_header None = true
has_header (Some form.Exe) = true
has_header (Some (form.LimitedExe paragraphs)) = true
has_header (Some other) = false

-- a job and its warnings
pub record Said : Type 0 where
  pub inputs : List SaidInput
  pub out : Option Text
  pub map : Option SaidMap
  pub map_form : MapForm
  pub folders : List Text
  pub object_folders : List Text
  pub ignore_case : Bool
  pub order : SaidOrder
  pub null_bytes : Bool
  pub stack : Option Stack
  pub form : Option Form
  pub default_libraries : Bool
  pub left_out : List Text
  pub keep_debug : Bool
  pub packs_far_data : Bool
  pub verbose : Bool
  pub quiet : Bool
  pub start : Option Text
  pub references : List Text
  pub aliases : List (Text × Text)
  pub warnings : List Warning

-- what no directive asks for
abbrev pub nothing : Said
nothing = record {
  inputs = [];
  out = None;
  map = None;
  map_form = map_form.Omf;
  folders = [];
  object_folders = [];
  ignore_case = false;
  order = Meeting;
  null_bytes = false;
  stack = None;
  form = None;
  default_libraries = true;
  left_out = [];
  keep_debug = false;
  packs_far_data = true;
  verbose = false;
  quiet = false;
  start = None;
  references = [];
  aliases = [];
  warnings = [];
}

-- what the values of the code say
abbrev pub input_of : Input → SaidInput
input_of (input.File path) = File path.now
input_of (input.Library name) = Library name.now

abbrev pub inputs_of : List Input → List SaidInput
inputs_of = map input_of

abbrev pub map_of : MapFile → SaidMap
map_of map_file.Beside = Beside
map_of (map_file.At path) = At path.now

abbrev pub item_of : OrderItem → SaidItem
item_of (order_item.Class name) = Class name.now
item_of (order_item.Segment name) = Segment name.now

abbrev pub items_of : List OrderItem → List SaidItem
items_of = map item_of

abbrev pub order_of : Order → SaidOrder
order_of order.Meeting = Meeting
order_of order.Dosseg = Dosseg
order_of (order.Listed items) = Listed (items_of items.items)

-- a name, and what it means
abbrev pub alias_of : Alias → Text × Text
alias_of alias = (alias.name.now, alias.means.now)

abbrev pub aliases_of : List Alias → List (Text × Text)
aliases_of = map alias_of

abbrev pub said_of : Directives → Said
said_of directives = record {
  inputs = inputs_of directives.job.inputs.items;
  out = option_map (λ path. path.now) directives.job.out;
  map = option_map map_of directives.job.map;
  map_form = directives.job.map_form;
  folders = texts directives.job.folders.items;
  object_folders = texts directives.job.object_folders.items;
  ignore_case = directives.job.ignore_case;
  order = order_of directives.job.order;
  null_bytes = directives.job.null_bytes;
  stack = directives.job.stack;
  form = directives.job.form;
  default_libraries = directives.job.default_libraries;
  left_out = texts directives.job.left_out.items;
  keep_debug = directives.job.keep_debug;
  packs_far_data = directives.job.packs_far_data;
  verbose = directives.job.verbose;
  quiet = directives.job.quiet;
  start = option_map (λ name. name.now) directives.job.start;
  references = texts directives.job.references.items;
  aliases = aliases_of directives.job.aliases.items;
  warnings = directives.warnings.items;
}
