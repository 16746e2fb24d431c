-- What the code's comments say, and what reading one answers.
use Rattle.std.specs.Prelude.{ℕ, List, Some, None}
use Rattle.std.specs.declared.option.Option.{Option}
use Rattle.omf_comments.specs.Comments as says
use Rattle.omf_comments.specs.declared.comments.Comment.{Comment}
use Rattle.omf_comments.specs.declared.comments.Comment.TheVariants as code
use Rattle.omf_comments.specs.declared.extensions.Extension.{Extension}
use Rattle.omf_comments.specs.declared.extensions.Extension.TheVariants as extended
use Rattle.omf_comments.specs.declared.extensions.ImportEntry.{ImportEntry}
use Rattle.omf_comments.specs.declared.extensions.ImportEntry.TheVariants as entry

abbrev pub entry_view : ImportEntry → says.Entry
entry_view (entry.Name name) = says.ByName name.now
entry_view (entry.Ordinal ordinal) = says.ByOrdinal ordinal

-- without where names lie in memory
abbrev pub extension_view : Extension → says.Extension
extension_view (extended.Import internal module' entry) =
    says.Import internal.now module'.now (entry_view entry)
extension_view (extended.Export exported internal ordinal resident no_data parameters) =
    says.Export exported.now internal.now ordinal resident no_data parameters
extension_view (extended.Increment externals lines padding) = says.Increment externals lines padding.now
extension_view extended.ProtectedLibrary = says.ProtectedLibrary
extension_view (extended.Directive flags pseudo_code debug) = says.Directive flags pseudo_code debug
extension_view extended.BigEndian = says.BigEndian
extension_view extended.Precompiled = says.Precompiled

-- without where slices lie in memory
unfoldable pub comment_view : {A : Type 0} → Comment A → says.Comment
comment_view (code.Text class text) = says.Text class text.now
comment_view (code.Bare class) = says.Bare class
comment_view (code.Extension extension) = says.Extended (extension_view extension)
comment_view (code.DebugStyle version style) = says.DebugStyle version style.now
comment_view code.PassSeparator = says.PassSeparator
comment_view (code.Libmod name) = says.Libmod name.now
comment_view (code.Nopad segments) = says.Nopad segments.items
comment_view (code.Wkext externals) = says.Wkext externals.items
comment_view (code.Lzext externals) = says.Lzext externals.items
comment_view (code.Dependency time date name) = says.Dependency time date name.now
comment_view code.DependencyEnd = says.DependencyEnd

-- what the bytes behind the class say; none, where no comment of the class has them
abbrev pub TellsComment : {A : Type 0} → ℕ → List ℕ → Option (Comment A) → Type 0
TellsComment class bytes (Some c) = says.CommentOf class (comment_view c) bytes
TellsComment class bytes None = (c : says.Comment) → says.CommentOf class c bytes → ⊥
