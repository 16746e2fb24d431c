-- What is left of a module's records while they are gone through.
use Rattle.std.proofs.Common.{◌≡◌, ℕ, zero, suc, ◌+◌, ◌<◌, ◌≤◌, Bool, true, false, List, [], ◌∷◌, ◌++◌, length}
use Rattle.std.proofs.Common.{drop, map, slice_range, cond, Some, None, Ok, Err, refl, sym, ap, ◌∙◌}
use Rattle.std.proofs.Common.{append_assoc, arith}
use Rattle.std.specs.declared.option.Option.{Option}
use Rattle.std.specs.declared.result.Result.{Result}
use Rattle.std.specs.Option.{option_map_or, option_or}
use Rattle.std.specs.Result.{result_ok}
use Rattle.std.proofs.lemmas.List.{append-nil, map-append}
use Rattle.std.proofs.Math.Seq.{drop-length}
use Rattle.omf_frame.specs.Frame.{Frame, frame_of}
use Rattle.omf_frame.specs.Lending.{plain_frame}
use Rattle.omf_library.specs.declared.fault.FormatFault.TheVariants.{Truncated}
use Rattle.omf_library.specs.declared.fault.LibraryFault.{LibraryFault}
use Rattle.omf_library.specs.declared.fault.LibraryFault.TheVariants.{Malformed}
use Rattle.omf_library.specs.Records.{record_or_fault, record_at, place_behind, ends_module, records_up_to}
use Rattle.omf_library.specs.Records.{module_records, result_and_then, end_within, module_end, comment_text}
use Rattle.omf_library.specs.Records.{header_name}
use Rattle.std.specs.Borrow.{Bor}
use Rattle.omf_library.specs.Library.{first_said, name_of, name_in, member_between, member_at}
use Rattle.omf_library.specs.Said.{bytes_said, record_said}
use Rattle.omf_frame.specs.declared.frame.Frame.{Frame as LentFrame}

-- ---- the next record, and none

pub records-next : (most : ℕ) (file : List ℕ) (place : ℕ) (f : Frame) (t : Bool) → record_at file place ≡ Ok f
    → ends_module f.kind ≡ t
    → records_up_to (suc most) file place ≡ f ∷ cond t [] (records_up_to most file (place_behind f))
records-next most file place f t e k =
    ap (λ r.
    option_map_or (λ g. g ∷ cond (ends_module g.kind) [] (records_up_to most file (place_behind g))) (result_ok r) []) e
    ∙ ap (λ b. f ∷ cond b [] (records_up_to most file (place_behind f))) k

records-none : (most : ℕ) (file : List ℕ) (place : ℕ) (e : LibraryFault) → record_at file place ≡ Err e
    → records_up_to most file place ≡ []
records-none zero file place e h = refl
records-none (suc most) file place e h =
    ap (λ r.
    option_map_or (λ g. g ∷ cond (ends_module g.kind) [] (records_up_to most file (place_behind g))) (result_ok r) []) h

pub end-next : (most : ℕ) (file : List ℕ) (place : ℕ) (f : Frame) (t : Bool) → record_at file place ≡ Ok f
    → ends_module f.kind ≡ t
    → end_within (suc most) file place ≡ cond t (Ok (place_behind f)) (end_within most file (place_behind f))
end-next most file place f t e k =
    ap (result_and_then (λ g. cond (ends_module g.kind) (Ok (place_behind g)) (end_within most file (place_behind g))))
    e
    ∙ ap (λ b. cond b (Ok (place_behind f)) (end_within most file (place_behind f))) k

record_at-end : (file : List ℕ) (place : ℕ) → place ≡ length file
    → record_at file place ≡ Err (Malformed place Truncated)
unfolding record_at frame_of
record_at-end file place past =
    ap (λ (l : List ℕ). record_or_fault place (frame_of place l)) (ap (λ n. drop n file) past ∙ drop-length file)

-- a number above another one is that of some number behind it
pub pred_of : (n m : ℕ) → m < n → (k : ℕ) × (n ≡ suc k)
pred_of zero m h = absurd (omega arith)
pred_of (suc n) m h = (n, refl)

-- ---- the records of a module

-- the records that were listed, and those that are left, make all of the module
pub record FramesLeft (file : List ℕ) (place : ℕ) (listed : List LentFrame) : Type 0 where
  pub within : place ≤ length file
  pub most : ℕ
  pub enough : length file ≤ place + most
  pub all : map plain_frame listed ++ records_up_to most file place ≡ module_records file 0

pub frames_first : (file : List ℕ) (listed : List LentFrame) → listed ≡ [] → FramesLeft file 0 listed
unfolding module_records
frames_first file listed e = record {
  within = omega arith;
  most = length file;
  enough = omega arith;
  all = ap (λ (fs : List LentFrame). map plain_frame fs ++ records_up_to (length file) file 0) e;
}

-- what was read is no record
pub frames_stop : (file : List ℕ) (place : ℕ) (listed : List LentFrame) (r : Result LentFrame LibraryFault)
    → FramesLeft file place listed → record_said r ≡ record_at file place → ((f : LentFrame) → r ≡ Ok f → ⊥)
    → map plain_frame listed ≡ module_records file 0
frames_stop file place listed (Ok f) left is other = absurd (other f refl)
frames_stop file place listed (Err e) left is other =
    sym (append-nil (map plain_frame listed))
    ∙ ap (λ fs. map plain_frame listed ++ fs) (sym (records-none left.most file place e (sym is))) ∙ left.all

frames_with : (file : List ℕ) (place most' : ℕ) (listed more : List LentFrame) (f : LentFrame) (t : Bool)
    → (left : FramesLeft file place listed) → left.most ≡ suc most' → more ≡ listed ++ f ∷ []
    → Ok (plain_frame f) ≡ record_at file place → ends_module f.kind ≡ t
    → map plain_frame more ++ cond t [] (records_up_to most' file (place_behind (plain_frame f)))
    ≡ module_records file 0
frames_with file place most' listed more f t left e pushed is ends =
    let rest = cond t [] (records_up_to most' file (place_behind (plain_frame f))) in
    ap (λ (fs : List LentFrame). map plain_frame fs ++ rest) pushed
    ∙ ap (λ fs. fs ++ rest) (map-append plain_frame listed (f ∷ []))
    ∙ append_assoc (map plain_frame listed) (plain_frame f ∷ []) rest
    ∙ ap (λ fs. map plain_frame listed ++ fs)
    (sym (ap (λ n. records_up_to n file place) e ∙ records-next most' file place (plain_frame f) t (sym is) ends))
    ∙ left.all

-- the last record
pub frames_last : (file : List ℕ) (place : ℕ) (listed more : List LentFrame) (f : LentFrame)
    → FramesLeft file place listed → more ≡ listed ++ f ∷ [] → Ok (plain_frame f) ≡ record_at file place
    → ends_module f.kind ≡ true → place < length file
    → map plain_frame more ≡ module_records file 0
frames_last file place listed more f left pushed is ends within =
    let p = pred_of left.most 0 (omega (arith, left.enough)) in
    sym (append-nil (map plain_frame more)) ∙ frames_with file place p.0 listed more f true left p.1 pushed is ends

-- one record more
pub frames_more : (file : List ℕ) (place next : ℕ) (listed more : List LentFrame) (f : LentFrame)
    → FramesLeft file place listed → more ≡ listed ++ f ∷ [] → Ok (plain_frame f) ≡ record_at file place
    → ends_module f.kind ≡ false
    → next ≡ place_behind (plain_frame f) → next ≤ length file → place < next
    → FramesLeft file next more
frames_more file place next listed more f left pushed is goes e within behind =
    let p = pred_of left.most 0 (omega (arith, left.enough)) in
    record {
      within = within;
      most = p.0;
      enough = omega (arith, p.1, left.enough, behind);
      all =
          ap (λ k. map plain_frame more ++ records_up_to p.0 file k) e
          ∙ frames_with file place p.0 listed more f false left p.1 pushed is goes;
    }

-- ---- the end and the name of a member

-- what was told of a module, and what the records that are left tell, make all
pub record ModuleLeft (file : List ℕ) (place end : ℕ) (header comment : Option (List ℕ)) : Type 0 where
  pub begun : place ≤ end
  pub within : end ≤ length file
  pub most : ℕ
  pub enough : length file ≤ end + most
  pub same_end : end_within most file end ≡ module_end file place
  pub same_header : option_or header (first_said header_name (records_up_to most file end))
      ≡ first_said header_name (module_records file place)
  pub same_comment : option_or comment (first_said (comment_text 0xA3) (records_up_to most file end))
      ≡ first_said (comment_text 0xA3) (module_records file place)

-- all was told
pub record ModuleTold (file : List ℕ) (place end : ℕ) (header comment : Option (List ℕ)) : Type 0 where
  pub same_end : module_end file place ≡ Ok end
  pub same_header : header ≡ first_said header_name (module_records file place)
  pub same_comment : comment ≡ first_said (comment_text 0xA3) (module_records file place)

pub module_first : (file : List ℕ) (place : ℕ) → place ≤ length file → ModuleLeft file place place None None
unfolding module_end module_records
module_first file place within = record {
  begun = omega arith;
  within = within;
  most = length file;
  enough = omega arith;
  same_end = refl;
  same_header = refl;
  same_comment = refl;
}

or_or : (a b c : Option (List ℕ)) → option_or (option_or a b) c ≡ option_or a (option_or b c)
or_or None b c = refl
or_or (Some x) b c = refl

or_none : (a : Option (List ℕ)) → option_or a None ≡ a
or_none None = refl
or_none (Some x) = refl

first-next : (says : Frame → Option (List ℕ)) (now all : Option (List ℕ)) (f : Frame) (fs gs : List Frame)
    → fs ≡ f ∷ gs → option_or now (first_said says fs) ≡ all
    → option_or (option_or now (says f)) (first_said says gs) ≡ all
first-next says now all f fs gs e h =
    or_or now (says f) (first_said says gs) ∙ ap (option_or now) (sym (ap (first_said says) e)) ∙ h

module_after : (file : List ℕ) (place end : ℕ) (header comment : Option (List ℕ)) (f : Frame)
    → (left : ModuleLeft file place end header comment) → record_at file end ≡ Ok f → ends_module f.kind ≡ false
    → place_behind f ≤ length file → end < place_behind f → (most : ℕ) → left.most ≡ suc most
    → ModuleLeft file place (place_behind f) (option_or header (header_name f))
    (option_or comment (comment_text 0xA3 f))
module_after file place end header comment f left is goes within behind most e =
    let next = ap (λ n. records_up_to n file end) e ∙ records-next most file end f false is goes in
    record {
      begun = omega (arith, left.begun, behind);
      within = within;
      most = most;
      enough = omega (arith, e, left.enough, behind);
      same_end = sym (end-next most file end f false is goes) ∙ ap (λ n. end_within n file end) (sym e) ∙ left.same_end;
      same_header = first-next header_name header _ f _ _ next left.same_header;
      same_comment = first-next (comment_text 0xA3) comment _ f _ _ next left.same_comment;
    }

module_behind : (file : List ℕ) (place end : ℕ) (header comment : Option (List ℕ)) (f : Frame)
    → (left : ModuleLeft file place end header comment) → record_at file end ≡ Ok f → ends_module f.kind ≡ true
    → (most : ℕ) → left.most ≡ suc most
    → ModuleTold file place (place_behind f) (option_or header (header_name f))
    (option_or comment (comment_text 0xA3 f))
module_behind file place end header comment f left is ends most e =
    let next : records_up_to left.most file end ≡ f ∷ [] =
    ap (λ n. records_up_to n file end) e ∙ records-next most file end f true is ends in
    record {
      same_end = sym left.same_end ∙ ap (λ n. end_within n file end) e ∙ end-next most file end f true is ends;
      same_header = sym (or_none _) ∙ first-next header_name header _ f _ _ next left.same_header;
      same_comment = sym (or_none _) ∙ first-next (comment_text 0xA3) comment _ f _ _ next left.same_comment;
    }

-- one record more
pub module_more : (file : List ℕ) (place end : ℕ) (header comment : Option (List ℕ)) (f : Frame)
    → ModuleLeft file place end header comment → record_at file end ≡ Ok f → ends_module f.kind ≡ false
    → place_behind f ≤ length file → end < place_behind f
    → ModuleLeft file place (place_behind f) (option_or header (header_name f))
    (option_or comment (comment_text 0xA3 f))
module_more file place end header comment f left is goes within behind =
    let p = pred_of left.most 0 (omega (arith, left.enough)) in
    module_after file place end header comment f left is goes within behind p.0 p.1

-- the last record
pub module_last : (file : List ℕ) (place end : ℕ) (header comment : Option (List ℕ)) (f : Frame)
    → ModuleLeft file place end header comment → record_at file end ≡ Ok f → ends_module f.kind ≡ true
    → place_behind f ≤ length file → end < place_behind f
    → ModuleTold file place (place_behind f) (option_or header (header_name f))
    (option_or comment (comment_text 0xA3 f))
module_last file place end header comment f left is ends within behind =
    let p = pred_of left.most 0 (omega (arith, left.enough)) in
    module_behind file place end header comment f left is ends p.0 p.1

fault_within : (most : ℕ) (file : List ℕ) (end : ℕ) (e : LibraryFault) → end ≤ length file → length file ≤ end + most
    → record_at file end ≡ Err e → end_within most file end ≡ Err e
fault_within zero file end e within enough is =
    let same : ◌≡◌ {A = Result Frame LibraryFault} (Err (Malformed end Truncated)) (Err e) =
    sym (record_at-end file end (omega (arith, within, enough))) ∙ is in
    let fault : Malformed end Truncated ≡ e = cc in
    ap Err fault
fault_within (suc most) file end e within enough is =
    ap (result_and_then (λ g. cond (ends_module g.kind) (Ok (place_behind g)) (end_within most file (place_behind g))))
    is

-- a record is at fault
pub module_fault : (file : List ℕ) (place end : ℕ) (header comment : Option (List ℕ)) (e : LibraryFault)
    → ModuleLeft file place end header comment → record_at file end ≡ Err e → module_end file place ≡ Err e
module_fault file place end header comment e left is =
    sym left.same_end ∙ fault_within left.most file end e left.within left.enough is

-- ---- the same of what the program has

said-or : (a b : Option (Bor (List ℕ))) → bytes_said (option_or a b) ≡ option_or (bytes_said a) (bytes_said b)
said-or None b = refl
said-or (Some x) b = refl

or_said : (a b c : Option (Bor (List ℕ))) (s : Option (List ℕ)) → c ≡ option_or a b → bytes_said b ≡ s
    → bytes_said c ≡ option_or (bytes_said a) s
or_said a b c s e h = ap bytes_said e ∙ said-or a b ∙ ap (option_or (bytes_said a)) h

pub module_step : (file : List ℕ) (place end next : ℕ) (header comment h t header' comment' : Option (Bor (List ℕ)))
    (f : Frame)
    → ModuleLeft file place end (bytes_said header) (bytes_said comment) → Ok f ≡ record_at file end
    → ends_module f.kind ≡ false
    → next ≡ place_behind f → next ≤ length file → end < next
    → header' ≡ option_or header h → bytes_said h ≡ header_name f → comment' ≡ option_or comment t
    → bytes_said t ≡ comment_text 0xA3 f
    → ModuleLeft file place next (bytes_said header') (bytes_said comment')
module_step file place end next header comment h t header' comment' f left is goes e within behind he hs te ts =
    rw (e, or_said header h header' _ he hs, or_said comment t comment' _ te ts)
    (module_more file place end _ _ f left (sym is) goes (omega (arith, e, within)) (omega (arith, e, behind)))

pub module_done : (file : List ℕ) (place end next : ℕ) (header comment h t header' comment' : Option (Bor (List ℕ)))
    (f : Frame)
    → ModuleLeft file place end (bytes_said header) (bytes_said comment) → Ok f ≡ record_at file end
    → ends_module f.kind ≡ true
    → next ≡ place_behind f → next ≤ length file → end < next
    → header' ≡ option_or header h → bytes_said h ≡ header_name f → comment' ≡ option_or comment t
    → bytes_said t ≡ comment_text 0xA3 f
    → ModuleTold file place next (bytes_said header') (bytes_said comment')
module_done file place end next header comment h t header' comment' f left is ends e within behind he hs te ts =
    rw (e, or_said header h header' _ he hs, or_said comment t comment' _ te ts)
    (module_last file place end _ _ f left (sym is) ends (omega (arith, e, within)) (omega (arith, e, behind)))

-- the member that a module is
pub member_is : (file : List ℕ) (place end : ℕ) (header comment : Option (List ℕ)) (bytes name : List ℕ)
    → ModuleTold file place end header comment
    → bytes ≡ slice_range file place end → name ≡ name_of header comment
    → Ok (record { place = place; bytes = bytes; name = name }) ≡ member_at file place
unfolding member_at name_in
member_is file place end header comment bytes name told own named =
    let name-is : name ≡ name_in (module_records file place) =
    named ∙ ap (λ o. name_of o comment) told.same_header
    ∙ ap (name_of (first_said header_name (module_records file place))) told.same_comment in
    sym (ap (result_and_then (λ n. Ok (member_between file place n))) told.same_end ∙ sym (rw (own, name-is) refl))

pub no_member : (file : List ℕ) (place : ℕ) (e : LibraryFault) → module_end file place ≡ Err e
    → Err e ≡ member_at file place
unfolding member_at
no_member file place e is = sym (ap (result_and_then (λ n. Ok (member_between file place n))) is)
