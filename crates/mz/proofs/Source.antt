-- Where a source stands after the steps of reading.
use Rattle.std.proofs.Common.{◌≡◌, ℕ, ◌+◌, ◌-◌, ◌<◌, ◌≤◌, ◌⊎◌, Bool, true, false, true≢false, List, [], ◌++◌, length}
use Rattle.std.proofs.Common.{take, None, Some, IfSome}
use Rattle.std.proofs.Common.{refl, ap, subst, ◌∙◌, sym, arith, inl, inr, Result, Ok, Err, append_assoc, length-append}
use Rattle.std.proofs.lemmas.Bool.{cases_lt}
use Rattle.std.proofs.lemmas.List.{take_at}
use Rattle.std.specs.declared.option.Option.{Option}
use Rattle.std.specs.Io.KnownBytes.{Consumes}
use Rattle.omf_frame.specs.Device.{TakesAtMost}
use Rattle.mz.specs.declared.format.Header.{Header as HeaderWords}
use Rattle.mz.specs.declared.fault.FileFault.{FileFault}
use Rattle.mz.specs.declared.fault.FileFault.TheVariants.{Magic, Header, Truncated, RelocationOutside, DoesNotFit}
use Rattle.mz.specs.declared.fault.FileFault.TheVariants.{Device}
use Rattle.mz.specs.declared.fault.MzFault.{MzFault}
use Rattle.mz.specs.declared.fault.MzFault.TheVariants.{File, Memory}
use Rattle.mz.specs.Header.{header_at, told_len, is_accepted}
use Rattle.mz.specs.File.{MzFile}
use Rattle.mz.specs.Reading.{TakesUpTo, reading, Gives, failures_in, reach, Takes}
use Rattle.mz.specs.inside.Steps.{ReadsOn, Stops, header_in, file_in}
use Rattle.mz.proofs.Taken.{Enough, header_at-append, header_fault, header_errors, file_in_errors, header_stands}
use Rattle.mz.proofs.Taken.{behind_header, reads_truncated, is_cut, whole_behind, reach_behind, reach_least}
use Rattle.mz.proofs.Taken.{nothing_more}
use Rattle.mz.proofs.Accepting.{header_within, words_within}
use Rattle.omf_frame.proofs.Told.{Consumes-trans, TakesAtMost-then}

-- the header's bytes were read
record First (b : List ℕ) (mid : Option (List ℕ)) (xs : List ℕ) : Type 0 where
  rest : List ℕ
  place : mid ≡ Some rest
  split : b ≡ xs ++ rest
  within : length xs ≤ 28
  enough : Enough xs rest

first_read : (b : List ℕ) (mid : Option (List ℕ)) (before xs : List ℕ) → before ≡ [] → ReadsOn 28 (Some b) mid before xs
    → First b mid xs
first_read b None before xs e r = absurd r.taken
first_read b (Some rest) before xs e r = record {
  rest = rest;
  place = refl;
  split = r.taken ∙ ap (λ l. l ++ rest) (sym (r.joined ∙ ap (λ l. l ++ r.more) e));
  within = r.within;
  enough = elim (cases_lt (length xs) 28) [ inl short ↦ inr (r.ends short) | inr long ↦ inl long ];
}

-- bytes up to the file's length were read
record Second (b : List ℕ) (new : Option (List ℕ)) (xs ys : List ℕ) (len : ℕ) : Type 0 where
  more : List ℕ
  last : List ℕ
  place : new ≡ Some last
  joined : ys ≡ xs ++ more
  split : b ≡ ys ++ last
  within : length ys ≤ len
  ends : length ys < len → last ≡ []

second_read : (b rest : List ℕ) (new : Option (List ℕ)) (xs ys : List ℕ) (len : ℕ) → b ≡ xs ++ rest
    → ReadsOn len (Some rest) new xs ys → Second b new xs ys len
second_read b rest None xs ys len e r = absurd r.taken
second_read b rest (Some last) xs ys len e r = record {
  more = r.more;
  last = last;
  place = refl;
  joined = r.joined;
  split = e ∙ ap (λ l. xs ++ l) r.taken ∙ sym (append_assoc xs r.more last) ∙ ap (λ l. l ++ last) (sym r.joined);
  within = r.within;
  ends = r.ends;
}

bounded : (b : List ℕ) (new : Option (List ℕ)) (n m : ℕ) → TakesAtMost (Some b) new n → (n ≤ m) ⊎ (length b ≤ m)
    → TakesAtMost (Some b) new m
bounded b None n m t h = tt
bounded b (Some ys) n m t h =
    (t.0, t.1, elim h [ inl k ↦ omega (arith, t.2) | inr k ↦ omega (arith, ap length t.1, length-append t.0 ys) ])

-- after want of memory the source tells what is left
abbrev Tells : (old new : Option (List ℕ)) → MzFault → Type 0
Tells old new e = e ≡ Memory → (more : List ℕ) × Consumes old new more

up_to : (old new : Option (List ℕ)) (n : List ℕ → ℕ) → IfSome old (λ b. TakesAtMost old new (n b))
    → (more : List ℕ) × Consumes old new more → IfSome old (λ b. TakesUpTo old new (n b))
up_to None new n t told = tt
up_to (Some b) None n t told = absurd told.1
up_to (Some b) (Some ys) n t told = t

takes_stop : (old new : Option (List ℕ)) (e : MzFault) → Stops e
    → IfSome old (λ b. TakesAtMost old new (reach (reading b) b)) → Tells old new e → Takes old new (Err e)
takes_stop old new e stops t told =
    elim stops [
      | inl p ↦ subst (λ x. Takes old new (Err x)) (sym p) t
      | inr p ↦ subst (λ x. Takes old new (Err x)) (sym p) (up_to old new (λ b. reach (reading b) b) t (told p))
    ]

-- reading the header's bytes stopped
pub first_stops : (old mid : Option (List ℕ)) (e : MzFault) → Stops e → TakesAtMost old mid 28 → Tells old mid e
    → Takes old mid (Err e)
first_stops None mid e stops t told = takes_stop None mid e stops tt told
first_stops (Some b) mid e stops t told =
    takes_stop (Some b) mid e stops (bounded b mid 28 (reach (reading b) b) t (reach_least b)) told

-- the header has a fault
pub header_exact : (old mid : Option (List ℕ)) (before xs : List ℕ) (e : FileFault) → before ≡ []
    → ReadsOn 28 old mid before xs → header_in xs ≡ Err e → IfSome old (λ b. reading b ≡ Err e)
header_exact None mid before xs e p r given = tt
header_exact (Some b) mid before xs e p r given =
    let f = first_read b mid before xs p r in
    ap reading f.split ∙ header_fault xs f.rest e f.enough given

-- whether an answer is the fault of loading
abbrev is_unfit : Result MzFile MzFault → Bool
is_unfit (Err (File DoesNotFit)) = true
is_unfit _ = false

-- a source that tells nothing
takes_untold : (new : Option (List ℕ)) (answer : Result MzFile MzFault) → is_unfit answer ≡ false
    → Takes None new answer
takes_untold new (Ok file) other = tt
takes_untold new (Err (File Magic)) other = ([], tt, omega arith)
takes_untold new (Err (File Header)) other = ([], tt, omega arith)
takes_untold new (Err (File Truncated)) other = tt
takes_untold new (Err (File RelocationOutside)) other = tt
takes_untold new (Err (File DoesNotFit)) other = true≢false other
takes_untold new (Err (File Device)) other = tt
takes_untold new (Err Memory) other = tt

header_fits : (xs : List ℕ) (e : FileFault) → header_in xs ≡ Err e → is_unfit (Err (File e)) ≡ false
header_fits xs e given = elim (header_errors xs e given) [
  | inl magic ↦ ap (λ x. is_unfit (Err (File x))) magic
  | inr other ↦ elim other [
    | inl header ↦ ap (λ x. is_unfit (Err (File x))) header
    | inr short ↦ ap (λ x. is_unfit (Err (File x))) short.0
  ]
]

file_fits : (h : HeaderWords) (ys : List ℕ) (answer : Result MzFile MzFault) → Gives answer (file_in h ys)
    → is_unfit answer ≡ false
file_fits h ys (Ok file) gives = refl
file_fits h ys (Err (File Magic)) gives = refl
file_fits h ys (Err (File Header)) gives = refl
file_fits h ys (Err (File Truncated)) gives = refl
file_fits h ys (Err (File RelocationOutside)) gives = refl
file_fits h ys (Err (File DoesNotFit)) gives =
    let e : DoesNotFit ≡ RelocationOutside = file_in_errors h ys DoesNotFit gives in absurd (cc)
file_fits h ys (Err (File Device)) gives = refl
file_fits h ys (Err Memory) gives = refl

header_takes_of : (b : List ℕ) (mid : Option (List ℕ)) (xs : List ℕ) (e : FileFault) → First b mid xs
    → header_in xs ≡ Err e → Takes (Some b) mid (Err (File e))
header_takes_of b mid xs e f given =
    let most : TakesUpTo (Some b) (Some f.rest) 28 = (xs, f.split, f.within) in
    subst (λ (m : Option (List ℕ)). Takes (Some b) m (Err (File e))) (sym f.place)
    (elim (header_errors xs e given) [
      | inl magic ↦ subst (λ x. Takes (Some b) (Some f.rest) (Err (File x))) (sym magic) most
      | inr other ↦ elim other [
        | inl header ↦ subst (λ x. Takes (Some b) (Some f.rest) (Err (File x))) (sym header) most
        | inr short ↦
            let none : f.rest ≡ [] = elim f.enough [ inl long ↦ absurd (omega (arith, short.1)) | inr k ↦ k ] in
            subst (λ x. Takes (Some b) (Some f.rest) (Err (File x))) (sym short.0) (sym (nothing_more b f.rest none))
      ]
    ])

pub header_takes : (old mid : Option (List ℕ)) (before xs : List ℕ) (e : FileFault) → before ≡ []
    → ReadsOn 28 old mid before xs → header_in xs ≡ Err e → Takes old mid (Err (File e))
header_takes None mid before xs e p r given = takes_untold mid (Err (File e)) (header_fits xs e given)
header_takes (Some b) mid before xs e p r given = header_takes_of b mid xs e (first_read b mid before xs p r) given

-- what an accepted header in the first bytes says of the file
record Stage (b : List ℕ) (h : HeaderWords) : Type 0 where
  header : header_at b ≡ h
  accepted : is_accepted h ≡ true
  behind : reading b ≡ behind_header b

stage : (b : List ℕ) (mid : Option (List ℕ)) (xs : List ℕ) (h : HeaderWords) → First b mid xs → header_in xs ≡ Ok h
    → Stage b h
stage b mid xs h f given =
    let s = header_stands xs f.rest h f.enough given in
    record {
      header = ap header_at f.split ∙ header_at-append xs f.rest s.long ∙ sym s.is;
      accepted = s.accepted;
      behind = ap reading f.split ∙ s.behind ∙ sym (ap behind_header f.split);
    }

reaches : (b : List ℕ) (h : HeaderWords) → Stage b h
    → (told_len h ≤ reach (reading b) b) ⊎ (length b ≤ reach (reading b) b)
reaches b h s =
    subst (λ r. (told_len h ≤ reach r b) ⊎ (length b ≤ reach r b)) (sym s.behind)
    (subst (λ k. (told_len k ≤ reach (behind_header b) b) ⊎ (length b ≤ reach (behind_header b) b)) s.header
    (reach_behind b))

-- reading the rest stopped
pub second_stops : (old mid new : Option (List ℕ)) (before xs : List ℕ) (h : HeaderWords) (e : MzFault) (n : ℕ)
    → before ≡ [] → ReadsOn 28 old mid before xs → header_in xs ≡ Ok h
    → Stops e → n ≡ told_len h - length xs → TakesAtMost mid new n → Tells mid new e → Takes old new (Err e)
second_stops None mid new before xs h e n p r given stops k t told = takes_stop None new e stops tt (λ m. ([], tt))
second_stops (Some b) mid new before xs h e n p r given stops k t told =
    let f = first_read b mid before xs p r in
    let s = stage b mid xs h f given in
    let room : length xs + n ≤ told_len h =
    omega (arith, f.within, words_within h s.accepted, header_within h s.accepted) in
    let all : TakesAtMost (Some b) new (told_len h) =
    TakesAtMost-then (Some b) (Some f.rest) new xs n (told_len h) f.split (subst (λ m. TakesAtMost m new n) f.place t)
    room in
    let tells : Tells (Some b) new e = λ m. (
      xs ++ (told m).0,
      Consumes-trans (Some b) (Some f.rest) new xs (told m).0 f.split
          (subst (λ o. Consumes o new (told m).0) f.place (told m).1),
    ) in
    takes_stop (Some b) new e stops (bounded b new (told_len h) (reach (reading b) b) all (reaches b h s)) tells

both : (b : List ℕ) (mid new : Option (List ℕ)) (xs ys : List ℕ) (len : ℕ) → (f : First b mid xs)
    → ReadsOn len mid new xs ys → Second b new xs ys len
both b mid new xs ys len f q =
    second_read b f.rest new xs ys len f.split (subst (λ m. ReadsOn len m new xs ys) f.place q)

-- the file is cut off
pub cut_exact : (old mid new : Option (List ℕ)) (before xs ys : List ℕ) (h : HeaderWords) → before ≡ []
    → ReadsOn 28 old mid before xs → header_in xs ≡ Ok h
    → ReadsOn (told_len h) mid new xs ys → length ys < told_len h → IfSome old (λ b. reading b ≡ Err Truncated)
cut_exact None mid new before xs ys h p r given q short = tt
cut_exact (Some b) mid new before xs ys h p r given q short =
    let f = first_read b mid before xs p r in
    let s = stage b mid xs h f given in
    let t = both b mid new xs ys (told_len h) f q in
    let same : b ≡ ys = t.split ∙ nothing_more ys t.last (t.ends short) in
    let cut : length b < told_len (header_at b) = omega (arith, ap length same, ap told_len s.header) in
    s.behind ∙ reads_truncated b (is_cut b cut)

pub cut_takes : (old mid new : Option (List ℕ)) (before xs ys : List ℕ) (h : HeaderWords) → before ≡ []
    → ReadsOn 28 old mid before xs → header_in xs ≡ Ok h
    → ReadsOn (told_len h) mid new xs ys → length ys < told_len h → Takes old new (Err (File Truncated))
cut_takes None mid new before xs ys h p r given q short = tt
cut_takes (Some b) mid new before xs ys h p r given q short =
    let f = first_read b mid before xs p r in
    let t = both b mid new xs ys (told_len h) f q in
    subst (λ m. Takes (Some b) m (Err (File Truncated))) (sym t.place) (sym (nothing_more b t.last (t.ends short)))

reads_whole : (b last ys : List ℕ) (h : HeaderWords) → b ≡ ys ++ last → Stage b h → length ys ≡ told_len h
    → reading b ≡ file_in h ys
reads_whole b last ys h split s full =
    s.behind ∙ ap behind_header split ∙ whole_behind ys last h (sym (ap header_at split) ∙ s.header) s.accepted full

-- the whole file was read
pub whole_exact : (old mid new : Option (List ℕ)) (before xs ys : List ℕ) (h : HeaderWords)
    (answer : Result MzFile MzFault) → before ≡ [] → ReadsOn 28 old mid before xs → header_in xs ≡ Ok h
    → ReadsOn (told_len h) mid new xs ys → told_len h ≤ length ys → Gives answer (file_in h ys)
    → IfSome old (λ b. Gives answer (reading b))
whole_exact None mid new before xs ys h answer p r given q full gives = tt
whole_exact (Some b) mid new before xs ys h answer p r given q full gives =
    let f = first_read b mid before xs p r in
    let t = both b mid new xs ys (told_len h) f q in
    subst (Gives answer) (sym (reads_whole b t.last ys h t.split (stage b mid xs h f given) (omega (arith, t.within))))
    gives

front_taken : (b last ys : List ℕ) (h : HeaderWords) → b ≡ ys ++ last → header_at b ≡ h → length ys ≡ told_len h
    → b ≡ take (told_len (header_at b)) b ++ last
front_taken b last ys h split e full =
    let front : take (told_len (header_at b)) b ≡ ys =
    ap (λ k. take (told_len k) b) e ∙ ap (take (told_len h)) split ∙ take_at ys last (told_len h) full in
    split ∙ ap (λ l. l ++ last) (sym front)

takes_whole : (b last ys : List ℕ) (h : HeaderWords) (answer : Result MzFile MzFault) → b ≡ ys ++ last → Stage b h
    → length ys ≡ told_len h → Gives answer (file_in h ys)
    → failures_in answer ≡ 0 → Takes (Some b) (Some last) answer
takes_whole b last ys h (Ok file) split s full gives works = front_taken b last ys h split s.header full
takes_whole b last ys h (Err (File Magic)) split s full gives works =
    let e : Magic ≡ RelocationOutside = file_in_errors h ys Magic gives in absurd (cc)
takes_whole b last ys h (Err (File Header)) split s full gives works =
    let e : Header ≡ RelocationOutside = file_in_errors h ys Header gives in absurd (cc)
takes_whole b last ys h (Err (File Truncated)) split s full gives works =
    let e : Truncated ≡ RelocationOutside = file_in_errors h ys Truncated gives in absurd (cc)
takes_whole b last ys h (Err (File RelocationOutside)) split s full gives works =
    front_taken b last ys h split s.header full
takes_whole b last ys h (Err (File DoesNotFit)) split s full gives works =
    let e : DoesNotFit ≡ RelocationOutside = file_in_errors h ys DoesNotFit gives in absurd (cc)
takes_whole b last ys h (Err (File Device)) split s full gives works = absurd (omega arith)
takes_whole b last ys h (Err Memory) split s full gives works =
    bounded b (Some last) (told_len h) (reach (reading b) b) (ys, split, omega arith) (reaches b h s)

pub whole_takes : (old mid new : Option (List ℕ)) (before xs ys : List ℕ) (h : HeaderWords)
    (answer : Result MzFile MzFault) → before ≡ [] → ReadsOn 28 old mid before xs → header_in xs ≡ Ok h
    → ReadsOn (told_len h) mid new xs ys → told_len h ≤ length ys → Gives answer (file_in h ys) → failures_in answer ≡ 0
    → Takes old new answer
whole_takes None mid new before xs ys h answer p r given q full gives works =
    takes_untold new answer (file_fits h ys answer gives)
whole_takes (Some b) mid new before xs ys h answer p r given q full gives works =
    let f = first_read b mid before xs p r in
    let t = both b mid new xs ys (told_len h) f q in
    subst (λ m. Takes (Some b) m answer) (sym t.place)
    (takes_whole b t.last ys h answer t.split (stage b mid xs h f given) (omega (arith, t.within)) gives works)

gives_of : (e : FileFault) (expected : Result MzFile FileFault) → expected ≡ Err e → Gives (Err (File e)) expected
gives_of Magic expected h = h
gives_of Header expected h = h
gives_of Truncated expected h = h
gives_of RelocationOutside expected h = h
gives_of DoesNotFit expected h = h
gives_of Device expected h = tt

-- a fault that stands is given
pub gives_fault : (old : Option (List ℕ)) (answer : Result MzFile MzFault) (e : FileFault) → answer ≡ Err (File e)
    → IfSome old (λ b. reading b ≡ Err e) → IfSome old (λ b. Gives answer (reading b))
gives_fault None answer e p h = tt
gives_fault (Some b) answer e p h = subst (λ a. Gives a (reading b)) (sym p) (gives_of e (reading b) h)

-- a header that was read is accepted
pub accepts : (xs : List ℕ) (h : HeaderWords) → Ok h ≡ header_in xs → is_accepted h ≡ true
accepts xs h given = (header_stands xs [] h (inr refl) (sym given)).accepted
