-- What is added to what is printed of a file.
use Rattle.std.specs.Prelude.{◌≡◌, ℕ, List, ◌++◌, All, map}
use Rattle.std.specs.declared.option.Option.{Option}
use Rattle.std.specs.List.{flat_map}
use Rattle.omf_frame.specs.Frame.{Frame}
use Rattle.omf_types.specs.declared.types.RecordType.{RecordType}
use Rattle.omf_library.specs.Members.{PlainMember}
use Rattle.doslib_show.specs.declared.names.Names.{Names}
use Rattle.doslib_show.specs.declared.showing.Shown.{Shown}
use Rattle.doslib_show.specs.Meaning.{Meaning, names_after}
use Rattle.doslib_show.specs.Names.{no_names}
use Rattle.doslib_show.specs.Show.{IsRead, IsReadMember, Read, ReadMember, member_faults, member_text, read_fault}
use Rattle.doslib_show.specs.Show.{read_text, reads_text}
use Rattle.doslib_show.specs.inside.Parts.{plain_names}

-- a record with its type and what it means
abbrev pub read_of : Frame → Option RecordType → Meaning → Read
read_of frame type means = record { frame = frame; type = type; means = means }

-- a record of a module that begins at a place of the file
pub record AddsRead {A : Type 0} (path : List ℕ) (begin : ℕ) (frame : Frame) (names names' : Names A)
    (old new : Shown A) : Type 0 where
  pub type : Option RecordType
  pub means : Meaning
  pub is : IsRead (read_of frame type means)
  pub named : plain_names names' ≡ names_after (plain_names names) means
  pub text_is : new.text.items ≡ old.text.items ++ read_text begin (plain_names names) (read_of frame type means)
  pub faults_are : new.faults.items ≡ old.faults.items ++ read_fault path begin (read_of frame type means)

-- all records of such a module
pub record AddsReads {A : Type 0} (path : List ℕ) (begin : ℕ) (frames : List Frame) (old new : Shown A) : Type 0 where
  pub reads : List Read
  pub these : map (λ (r : Read). r.frame) reads ≡ frames
  pub are : All IsRead reads
  pub text_is : new.text.items ≡ old.text.items ++ reads_text begin no_names reads
  pub faults_are : new.faults.items ≡ old.faults.items ++ flat_map (read_fault path begin) reads

-- a member
pub record AddsMember {A : Type 0} (path : List ℕ) (member : PlainMember) (old new : Shown A) : Type 0 where
  pub read : ReadMember
  pub this : read.member ≡ member
  pub is : IsReadMember read
  pub text_is : new.text.items ≡ old.text.items ++ member_text read
  pub faults_are : new.faults.items ≡ old.faults.items ++ member_faults path read
