-- What comments say, by their class (TIS OMF 1.1, "COMENT: Comment Record"; class E9H is Borland's), and the bytes
-- behind the class that say it.
use Rattle.std.specs.Prelude.{◌≡◌, ℕ, ◌==◌, ◌||◌, Bool, IsTrue, List, is_some}
use Rattle.std.specs.declared.option.Option.{Option}
use Rattle.omf_codec.specs.Language.{◌⋆◌, Empty, Where, each, optional, One, Byte, Word, Index, Name, Bytes}
use Rattle.omf_record.specs.Body.{bits}
use Rattle.omf_record.specs.Numbers.{bit}
use Rattle.omf_comments.specs.declared.comments.WeakExternal.{WeakExternal}

-- ---- class A0H, OMF extensions

-- IMPDEF: an entry of the other module, by its name or by its ordinal
pub data Entry : Type 0 where
  ByName : (name : List ℕ) → Entry
  ByOrdinal : (ordinal : ℕ) → Entry

pub data Extension : Type 0 where
  Import : (internal module' : List ℕ) (entry : Entry) → Extension
  Export : (exported internal : List ℕ) (ordinal : Option ℕ) (resident no_data : Bool) (parameters : ℕ) → Extension
  Increment : (externals lines : ℕ) (padding : List ℕ) → Extension
  ProtectedLibrary : Extension
  Directive : (flags pseudo_code debug : ℕ) → Extension
  BigEndian : Extension
  Precompiled : Extension

-- the subtype
abbrev pub subtype : Extension → ℕ
subtype (Import internal module' entry) = 1
subtype (Export exported internal ordinal resident no_data parameters) = 2
subtype (Increment externals lines padding) = 3
subtype ProtectedLibrary = 4
subtype (Directive flags pseudo_code debug) = 5
subtype BigEndian = 6
subtype Precompiled = 7

-- the bytes behind the subtype
abbrev pub ExtensionText : Extension → List ℕ → Type 0
-- IMPDEF: a flag that says whether the entry is an ordinal
ExtensionText (Import internal module' (ByName name)) = Byte 0 ⋆ Name internal ⋆ Name module' ⋆ Name name
ExtensionText (Import internal module' (ByOrdinal ordinal)) = Byte 1 ⋆ Name internal ⋆ Name module' ⋆ Word ordinal
-- EXPDEF: whether there is an ordinal, the name stays resident and the entry has no data, and how many words its
-- parameters have
ExtensionText (Export exported internal ordinal resident no_data parameters) =
    One (λ b. (bits 7 7 b ≡ bit (is_some ordinal)) × (bits 6 6 b ≡ bit resident) × (bits 5 5 b ≡ bit no_data)
    × (bits 4 0 b ≡ parameters))
    ⋆ Name exported ⋆ Name internal ⋆ optional Word ordinal
-- INCDEF
ExtensionText (Increment externals lines padding) = Word externals ⋆ Word lines ⋆ Bytes padding
-- LNKDIR
ExtensionText (Directive flags pseudo_code debug) = Byte flags ⋆ Byte pseudo_code ⋆ Byte debug
ExtensionText _ = Empty

-- ---- classes

-- the classes whose comments are texts: the translator, a copyright, default libraries, the version of DOS, the memory
-- model, EXESTR, and what the classes DAH to DDH, DFH and FFH say
abbrev pub is_text_class : ℕ → Bool
is_text_class n =
    (n == 0x00) || ((n == 0x01) || ((n == 0x81) || ((n == 0x9C) || ((n == 0x9D) || ((n == 0x9F) || ((n == 0xA4)
    || ((n == 0xDA) || ((n == 0xDB) || ((n == 0xDC) || ((n == 0xDD) || ((n == 0xDF) || (n == 0xFF))))))))))))

-- the classes that say all by themselves: DOSSEG and INCERR
abbrev pub is_bare_class : ℕ → Bool
is_bare_class n = (n == 0x9E) || (n == 0xA6)

pub data Comment : Type 0 where
  Text : (class : ℕ) (text : List ℕ) → Comment
  Bare : (class : ℕ) → Comment
  Extended : (extension : Extension) → Comment
  DebugStyle : (version : ℕ) (style : List ℕ) → Comment
  PassSeparator : Comment
  Libmod : (name : List ℕ) → Comment
  Nopad : (segments : List ℕ) → Comment
  Wkext : (externals : List WeakExternal) → Comment
  Lzext : (externals : List WeakExternal) → Comment
  Dependency : (time date : ℕ) (name : List ℕ) → Comment
  DependencyEnd : Comment

-- the class
abbrev pub class_of : Comment → ℕ
class_of (Text class text) = class
class_of (Bare class) = class
class_of (Extended extension) = 0xA0
class_of (DebugStyle version style) = 0xA1
class_of PassSeparator = 0xA2
class_of (Libmod name) = 0xA3
class_of (Nopad segments) = 0xA7
class_of (Wkext externals) = 0xA8
class_of (Lzext externals) = 0xA9
class_of (Dependency time date name) = 0xE9
class_of DependencyEnd = 0xE9

-- a weak or lazy external, and the external that it is by default
abbrev pub WeakText : WeakExternal → List ℕ → Type 0
WeakText w = Index w.external ⋆ Index w.default

-- the bytes behind the class
abbrev pub CommentText : Comment → List ℕ → Type 0
CommentText (Text class text) = Where (IsTrue (is_text_class class)) (Bytes text)
CommentText (Bare class) = Where (IsTrue (is_bare_class class)) Empty
CommentText (Extended extension) = Byte (subtype extension) ⋆ ExtensionText extension
CommentText (DebugStyle version style) = Byte version ⋆ Bytes style
CommentText PassSeparator = Byte 1
CommentText (Libmod name) = Name name
CommentText (Nopad segments) = each Index segments
CommentText (Wkext externals) = each WeakText externals
CommentText (Lzext externals) = each WeakText externals
-- a file's time and date as DOS has them, and its name; nothing behind the last file
CommentText (Dependency time date name) = Word time ⋆ Word date ⋆ Name name
CommentText DependencyEnd = Empty

-- of this class, and spelled so
abbrev pub CommentOf : ℕ → Comment → List ℕ → Type 0
CommentOf class c text = (class_of c ≡ class) × CommentText c text
