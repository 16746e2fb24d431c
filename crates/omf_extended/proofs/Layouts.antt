-- What the parts of a body say.
use Rattle.std.proofs.Common.{ℕ, Bool, true, false, eqb, List, Vec, refl, sym, subst, arith}
use Rattle.omf_codec.specs.Language.{Byte}
use Rattle.omf_codec.specs.inside.Format.{Format}
use Rattle.omf_codec.specs.inside.FormatLaws.{both, to_end}
use Rattle.omf_codec.specs.inside.Heads.{joined}
use Rattle.omf_codec.specs.inside.Numbers.{double}
use Rattle.omf_codec.specs.inside.PrimitiveLaws.{index, rest_of, word, fact_byte}
use Rattle.omf_record.specs.Numbers.{bit}
use Rattle.omf_extended.specs.Body.{Body, BodyOf, comdef_kind, comdat_kind, linsym_kind, bakpat_kind, nbkpat_kind}
use Rattle.omf_extended.specs.Numbers.{patch_location_number}
use Rattle.omf_extended.specs.Said.{Extended, Comdef, Alias, Comdat, Linsym, Bakpat, Nbkpat, Lidata}
use Rattle.omf_extended.specs.Said.{Vernum, Vendext}
use Rattle.omf_extended.specs.inside.Comdats.{comdat, IsFlag, IsLocation, flag_to, flag_small, patch_location_of}
use Rattle.omf_extended.specs.inside.Comdats.{location_to, location_small}
use Rattle.omf_extended.specs.inside.Communals.{chain}
use Rattle.omf_extended.specs.inside.Kinds.{IsBody}
use Rattle.omf_extended.specs.inside.Lists.{standing, line, patch}
use Rattle.omf_extended.specs.inside.Repeated.{content}

-- fields of one kind to the end
abbrev list : (A : Type 0) {I V : Type 0} → Format I V → Format (Vec I A) (List V)
list A F = to_end F (λ v. v.items)

-- what records of the type say, as parts
abbrev From : {I P : Type 0} → Format I P → ℕ → Type 0
From {I} {P} F kind = (s : Extended) (text : List ℕ) → BodyOf kind s text → (x : P) × F.Text x text

pub comdef_body : {A : Type 0} (local : Bool) → IsBody (chain {A = A}) (comdef_kind local)
unfolding Body
comdef_body {A} local = record {
  made = λ x. Comdef local x.0 x.1;
  to = λ x text l. (refl, l);
  from = from;
  ending = record { ended = refl; goes_on = λ a b s t e. grind (arith, e) };
}
  where
    from : From (chain {A = A}) (comdef_kind local)
    from (Comdef l cs u) text m = ((cs, u), m.1)
    from _ text m = absurd (grind (arith, m.0))

pub alias_body : {A : Type 0} → IsBody (list A standing) 0xC6
unfolding Body
alias_body {A} = record {
  made = Alias;
  to = λ x text l. (refl, l);
  from = from;
  ending = record { ended = refl; goes_on = λ a b s t e. grind (arith, e) };
}
  where
    from : From (list A standing) 0xC6
    from (Alias xs) text m = (xs, m.1)
    from _ text m = absurd (grind (arith, m.0))

pub comdat_body : (wide : Bool) → IsBody (both (comdat wide) rest_of) (comdat_kind wide)
unfolding Body
comdat_body wide = record {
  made = λ x. Comdat wide x.0 x.1;
  to = λ x text l. (refl, l);
  from = from wide;
  ending = record { ended = refl; goes_on = λ a b s t e. grind (arith, e) };
}
  where
    from : (wide : Bool) → From (both (comdat wide) rest_of) (comdat_kind wide)
    from true (Comdat true c bytes) text m = ((c, bytes), m.1)
    from false (Comdat false c bytes) text m = ((c, bytes), m.1)
    from wide _ text m = absurd (grind (arith, m.0))

pub linsym_body : {A : Type 0} (wide : Bool)
    → IsBody (both (fact_byte IsFlag) (both index (list A (line wide)))) (linsym_kind wide)
unfolding Body
linsym_body {A} wide = record {
  made = λ x. Linsym wide (eqb x.0 1) x.1.0 x.1.1;
  to = λ x text l. (
    refl,
    joined l (subst (λ n. Byte n l.front) (flag_to x.0 l.first.0) l.first.1) l.second,
  );
  from = from wide;
  ending = record { ended = refl; goes_on = λ a b s t e. grind (arith, e) };
}
  where
    from : (wide : Bool) → From (both (fact_byte IsFlag) (both index (list A (line wide)))) (linsym_kind wide)
    from true (Linsym true c n ls) text m = ((bit c, (n, ls)), joined m.1 (flag_small c, m.1.first) m.1.second)
    from false (Linsym false c n ls) text m = ((bit c, (n, ls)), joined m.1 (flag_small c, m.1.first) m.1.second)
    from wide _ text m = absurd (grind (arith, m.0))

pub bakpat_body : {A : Type 0} (wide : Bool)
    → IsBody (both index (both (fact_byte IsLocation) (list A (patch wide)))) (bakpat_kind wide)
unfolding Body
bakpat_body {A} wide = record {
  made = λ x. Bakpat wide x.0 (patch_location_of x.1.0) x.1.1;
  to = λ x text l.
      let j = l.second in (
        refl,
        joined l l.first
            (joined j (subst (λ n. Byte n j.front) (sym (location_to x.1.0 j.first.0)) j.first.1) j.second),
      );
  from = from wide;
  ending = record { ended = refl; goes_on = λ a b s t e. grind (arith, e) };
}
  where
    from : (wide : Bool) → From (both index (both (fact_byte IsLocation) (list A (patch wide)))) (bakpat_kind wide)
    from true (Bakpat true s l ps) text m =
        let j = m.1.second in
        ((s, (patch_location_number l, ps)), joined m.1 m.1.first (joined j (location_small l, j.first) j.second))
    from false (Bakpat false s l ps) text m =
        let j = m.1.second in
        ((s, (patch_location_number l, ps)), joined m.1 m.1.first (joined j (location_small l, j.first) j.second))
    from wide _ text m = absurd (grind (arith, m.0))

pub nbkpat_body : {A : Type 0} (wide : Bool)
    → IsBody (both (fact_byte IsLocation) (both index (list A (patch wide)))) (nbkpat_kind wide)
unfolding Body
nbkpat_body {A} wide = record {
  made = λ x. Nbkpat wide (patch_location_of x.0) x.1.0 x.1.1;
  to = λ x text l. (
    refl,
    joined l (subst (λ n. Byte n l.front) (sym (location_to x.0 l.first.0)) l.first.1) l.second,
  );
  from = from wide;
  ending = record { ended = refl; goes_on = λ a b s t e. grind (arith, e) };
}
  where
    from : (wide : Bool) → From (both (fact_byte IsLocation) (both index (list A (patch wide)))) (nbkpat_kind wide)
    from true (Nbkpat true l n ps) text m =
        ((patch_location_number l, (n, ps)), joined m.1 (location_small l, m.1.first) m.1.second)
    from false (Nbkpat false l n ps) text m =
        ((patch_location_number l, (n, ps)), joined m.1 (location_small l, m.1.first) m.1.second)
    from wide _ text m = absurd (grind (arith, m.0))

pub lidata_body : IsBody (both index (both double content)) 0xA3
unfolding Body
lidata_body = record {
  made = λ x. Lidata x.0 x.1.0 x.1.1;
  to = λ x text l. (refl, l);
  from = from;
  ending = record { ended = refl; goes_on = λ a b s t e. grind (arith, e) };
}
  where
    from : From (both index (both double content)) 0xA3
    from (Lidata s o c) text m = ((s, (o, c)), m.1)
    from _ text m = absurd (grind (arith, m.0))

pub vernum_body : IsBody rest_of 0xCC
unfolding Body
vernum_body = record {
  made = Vernum;
  to = λ x text l. (refl, l);
  from = from;
  ending = record { ended = refl; goes_on = λ a b s t e. grind (arith, e) };
}
  where
    from : From rest_of 0xCC
    from (Vernum t) text m = (t, m.1)
    from _ text m = absurd (grind (arith, m.0))

pub vendext_body : IsBody (both word rest_of) 0xCE
unfolding Body
vendext_body = record {
  made = λ x. Vendext x.0 x.1;
  to = λ x text l. (refl, l);
  from = from;
  ending = record { ended = refl; goes_on = λ a b s t e. grind (arith, e) };
}
  where
    from : From (both word rest_of) 0xCE
    from (Vendext v bytes) text m = ((v, bytes), m.1)
    from _ text m = absurd (grind (arith, m.0))
