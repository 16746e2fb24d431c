-- Rounds of files, one behind the other.
use Rattle.std.proofs.Common.{◌≡◌, ℕ, ◌+◌, List, [], ◌∷◌, ◌++◌, length, refl, sym, ap, subst, ◌∙◌, append_assoc, arith}
use Rattle.std.proofs.Common.{Ok, Err, Result, append-nil, length-append}
use Rattle.omf_library.specs.Members.{joined}
use Rattle.omf_place.specs.declared.names.Names.{Names}
use Rattle.doslink_stock.specs.declared.fault.StockFault.{StockFault}
use Rattle.doslink_stock.specs.Files.{Held, IsFault, both, members, members_from, members_in}
use Rattle.doslink_stock.specs.declared.fault.StockFault.TheVariants as stock
use Rattle.doslink_stock.specs.Search.{Goes, GoesOn, Standing, all_files, nothing}

pub goes-push : (names : Names) (rounds : List (List (List ℕ))) (files : List (List ℕ)) (s t u : Standing)
    → GoesOn names s rounds t → Goes names files t u → GoesOn names s (rounds ++ files ∷ []) u
goes-push names [] files s t u before now = (u, subst (λ (x : Standing). Goes names files x u) before now, refl)
goes-push names (first ∷ rounds) files s t u (next, one, others) now =
    (next, one, goes-push names rounds files next t u others now)

joined-joined : (xs ys : List Held) (r : Result (List Held) StockFault) → joined xs (joined ys r) ≡ joined (xs ++ ys) r
joined-joined xs ys (Ok zs) = ap Ok (sym (append_assoc xs ys zs))
joined-joined xs ys (Err e) = refl

joined-nil : (r : Result (List Held) StockFault) → joined [] r ≡ r
joined-nil (Ok zs) = refl
joined-nil (Err e) = refl

-- members of files behind others
members-behind : (i : ℕ) (front more : List (List ℕ)) (told : List Held) → members_from i front ≡ Ok told
    → members_from i (front ++ more) ≡ joined told (members_from (i + length front) more)
members-behind i [] more told e =
    let none : told ≡ [] = cc in
    let z : i ≡ i + 0 = omega arith in
    ap (λ n. members_from n more) z ∙ sym (joined-nil (members_from (i + 0) more))
    ∙ ap (λ (l : List Held). joined l (members_from (i + 0) more)) (sym none)
members-behind i (bytes ∷ front) more told e =
    of (members_in i bytes) (members_from (i + 1) front) refl refl e
    (λ ys are. members-behind (i + 1) front more ys are)
  where
    of : (one : Result (List Held) StockFault) (others : Result (List Held) StockFault) → members_in i bytes ≡ one
        → members_from (i + 1) front ≡ others → both one others ≡ Ok told
        → ((ys : List Held) → members_from (i + 1) front ≡ Ok ys
        → members_from (i + 1) (front ++ more) ≡ joined ys (members_from ((i + 1) + length front) more))
        → members_from i (bytes ∷ front ++ more) ≡ joined told (members_from (i + length (bytes ∷ front)) more)
    of (Ok xs) (Ok ys) is are whole rest =
        let all : xs ++ ys ≡ told = cc in
        let n : (i + 1) + length front ≡ i + length (bytes ∷ front) = omega arith in
        ap (λ r. both r (members_from (i + 1) (front ++ more))) is
        ∙ ap (joined xs) (rest ys are)
        ∙ joined-joined xs ys (members_from ((i + 1) + length front) more)
        ∙ ap (λ l. joined l (members_from ((i + 1) + length front) more)) all
        ∙ ap (λ k. joined told (members_from k more)) n
    of (Ok xs) (Err fault) is are whole rest = absurd (let u : Err fault ≡ Ok told = whole in cc)
    of (Err fault) others is are whole rest = absurd (let u : Err fault ≡ Ok told = whole in cc)

-- what stands after rounds: the members of all their files
pub record Counted (rounds : List (List (List ℕ))) (s t : Standing) : Type 0 where
  pub files : t.files ≡ s.files + length (all_files rounds)
  pub members : joined s.members (members_from s.files (all_files rounds)) ≡ Ok t.members

pub counted : (names : Names) (rounds : List (List (List ℕ))) (s t : Standing) → GoesOn names s rounds t
    → Counted rounds s t
counted names [] s t e = record {
  files = (let z : s.files ≡ s.files + 0 = omega arith in ap (λ (x : Standing). x.files) e ∙ z);
  members = ap Ok (append-nil s.members) ∙ ap (λ (x : Standing). Ok x.members) (sym e);
}
counted names (files ∷ rounds) s t (next, one, others) =
    let rest = counted names rounds next t others in
    let len = length-append files (all_files rounds) in
    record {
      files = omega (arith, rest.files, one.counted, len);
      members =
          ap (joined s.members) (members-behind s.files files (all_files rounds) one.more one.are_members)
          ∙ joined-joined s.members one.more (members_from (s.files + length files) (all_files rounds))
          ∙ ap (λ l. joined l (members_from (s.files + length files) (all_files rounds))) (sym one.members)
          ∙ ap (λ n. joined next.members (members_from n (all_files rounds))) (sym one.counted) ∙ rest.members;
    }

-- a fault of a round is that of all files
pub round-refused : (names : Names) (rounds : List (List (List ℕ))) (more : List (List ℕ)) (s : Standing)
    (fault : StockFault) → GoesOn names nothing rounds s → IsFault fault (members_from s.files more)
    → IsFault fault (members (all_files rounds ++ more))
round-refused names rounds more s stock.Memory goes stands = tt
round-refused names rounds more s (stock.Library file place fault) goes stands =
    let all = counted names rounds nothing s goes in
    let z : 0 + length (all_files rounds) ≡ s.files = omega (arith, all.files) in
    members-behind 0 (all_files rounds) more s.members (sym (joined-nil (members_from 0 (all_files rounds))) ∙ all.members)
    ∙ ap (λ n. joined s.members (members_from n more)) z ∙ ap (joined s.members) stands
