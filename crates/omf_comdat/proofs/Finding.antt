-- The COMDAT record that a frame is.
use Rattle.std.proofs.Common.{◌≡◌, ℕ, ◌+◌, ◌<◌, Bool, true, false, List, [], ◌++◌, length, map, drop, get_or, refl, ap}
use Rattle.std.proofs.Common.{sym, subst, ◌∙◌, arith, append_assoc, Option, Some, None}
use Rattle.std.specs.Prelude.{option_map, option_to_list}
use Rattle.omf_frame.specs.Frame.{Frame}
use Rattle.omf_frame.specs.Lending.{plain_frame}
use Rattle.omf_frame.specs.declared.frame.Frame as lent
use Rattle.omf_extended.specs.Answer.{Stands}
use Rattle.omf_extended.specs.Body.{Body, BodyOf, comdat_kind, kind_of}
use Rattle.omf_extended.specs.Said.{Extended, Comdef, Alias, Comdat, Linsym, Bakpat, Nbkpat, Lidata, Vernum, Vendext}
use Rattle.omf_extended.specs.declared.comdats.Comdat as said
use Rattle.omf_extended.specs.declared.fault.ExtendedFault.{ExtendedFault}
use Rattle.omf_extended.specs.declared.fault.ExtendedFault.TheVariants as fault
use Rattle.omf_library.proofs.Gathering.{drop-one}
use Rattle.omf_library.specs.Entries.{listed_name}
use Rattle.omf_library.specs.Listed.{listed_in}
use Rattle.omf_comdat.specs.Comdats.{AreComdats, ComdatRecord, IsIn}
use Rattle.omf_comdat.specs.inside.Found.{found, named}
use Rattle.omf_comdat.proofs.Once.{one_comdat}

-- a frame of another type
pub other_type : (listed : List (List ℕ)) (f : Frame) → (f.kind ≡ 0xC2 → ⊥) → (f.kind ≡ 0xC3 → ⊥) → IsIn listed f None
other_type listed f a b = λ r is. by is.wide (sym is.body.0)
  where
    by : (wide : Bool) → f.kind ≡ comdat_kind wide → ⊥
    by true e = b e
    by false e = a e

-- a frame whose body says nothing
pub faulty : (listed : List (List ℕ)) (f : Frame) (e : ExtendedFault) → Stands f.kind f.body e → (e ≡ fault.Memory → ⊥)
    → IsIn listed f None
faulty listed f fault.Memory h k = absurd (k refl)
faulty listed f fault.OtherType h k = λ r is. h (Comdat is.wide r.says r.bytes, f.body, is.body)
faulty listed f (fault.Body at) h k = λ r is. h.1.none (Comdat is.wide r.says r.bytes) is.body

same_width : (v w : Bool) → comdat_kind v ≡ comdat_kind w → v ≡ w
same_width true true e = refl
same_width false false e = refl
same_width true false e = absurd (omega (arith, e))
same_width false true e = absurd (omega (arith, e))

-- a COMDAT
comdat_found : (listed : List (List ℕ)) (f : Frame) (wide : Bool) (c : said.Comdat) (bytes : List ℕ)
    → BodyOf f.kind (Comdat wide c bytes) f.body → IsIn listed f (named listed c bytes)
comdat_found listed f wide c bytes h = by (listed_name listed c.name) refl
  where
    by : (o : Option (List ℕ)) → listed_name listed c.name ≡ o
        → IsIn listed f (option_map (λ name. record { name = name; says = c; bytes = bytes }) o)
    by None e = λ r is.
        let w : wide ≡ is.wide = same_width wide is.wide (h.0 ∙ sym is.body.0) in
        let body : Body (Comdat is.wide c bytes) f.body = subst (λ v. Body (Comdat v c bytes) f.body) w h.1 in
        let same : c ≡ r.says = one_comdat is.wide c r.says bytes r.bytes f.body body is.body.1 in
        let no : None ≡ Some r.name =
        sym e ∙ ap (λ (d : said.Comdat). listed_name listed d.name) same ∙ is.name in
        absurd (cc)
    by (Some name) e = record { wide = wide; body = h; name = e }

-- a body that says something else
other_found : (listed : List (List ℕ)) (f : Frame) (s : Extended) → BodyOf f.kind s f.body
    → ((wide : Bool) → kind_of s ≡ comdat_kind wide → ⊥) → IsIn listed f None
other_found listed f s h k = λ r is. k is.wide (h.0 ∙ sym is.body.0)

pub finds : (listed : List (List ℕ)) (f : Frame) (s : Extended) → BodyOf f.kind s f.body → IsIn listed f (found listed s)
finds listed f (Comdat wide c bytes) h = comdat_found listed f wide c bytes h
finds listed f (Comdef local cs u) h = other_found listed f (Comdef local cs u) h (λ wide e. grind (arith, e))
finds listed f (Alias xs) h = other_found listed f (Alias xs) h (λ wide e. grind (arith, e))
finds listed f (Linsym w c n ls) h = other_found listed f (Linsym w c n ls) h (λ wide e. grind (arith, e))
finds listed f (Bakpat w s l ps) h = other_found listed f (Bakpat w s l ps) h (λ wide e. grind (arith, e))
finds listed f (Nbkpat w l n ps) h = other_found listed f (Nbkpat w l n ps) h (λ wide e. grind (arith, e))
finds listed f (Lidata s o c) h = other_found listed f (Lidata s o c) h (λ wide e. grind (arith, e))
finds listed f (Vernum t) h = other_found listed f (Vernum t) h (λ wide e. grind (arith, e))
finds listed f (Vendext v b) h = other_found listed f (Vendext v b) h (λ wide e. grind (arith, e))

-- ---- frames, one after the other

pub comdats-turn : (frames : List lent.Frame) (i : ℕ) (x : lent.Frame) (all : List Frame) (listed : List (List ℕ))
    (told : List ComdatRecord) (here : Option ComdatRecord) → i < length frames → x ≡ get_or frames i x →
    IsIn listed (plain_frame x) here →
    ((more : List ComdatRecord) → AreComdats listed (map plain_frame (drop i frames)) more →
    AreComdats [] all (told ++ more)) →
    (more : List ComdatRecord) → AreComdats (listed ++ listed_in (plain_frame x)) (map plain_frame (drop (i + 1) frames)) more
    → AreComdats [] all ((told ++ option_to_list here) ++ more)
comdats-turn frames i x all listed told here h is there was more rest =
    subst (AreComdats [] all) (sym (append_assoc told (option_to_list here) more))
    (was (option_to_list here ++ more)
    (subst (λ (fs : List lent.Frame). AreComdats listed (map plain_frame fs) (option_to_list here ++ more))
    (sym (drop-one frames i x h is)) (here, more, there, rest, refl)))
