-- The lines of directives, one by one.
use Rattle.std.proofs.Common.{◌≡◌, ℕ, zero, suc, ◌+◌, ◌<◌, List, [], ◌∷◌, ◌++◌, length, take, None, Some}
use Rattle.std.proofs.Common.{get_or, arith, append-nil, append_assoc, refl, sym, subst, ap, ap₂, ◌∙◌}
use Rattle.std.proofs.lemmas.List.{map-append, take_more}
use Rattle.std.proofs.lemmas.Grind.{flat_map-append}
use Rattle.std.specs.List.{flat_map}
use Rattle.std.specs.Option.{option_map}
use Rattle.std.specs.declared.option.Option.{Option}
use Rattle.std.specs.Borrow.{Bor}
use Rattle.clap.specs.Words.{Text}
use Rattle.doslink_words.specs.Tokens.{texts}
use Rattle.doslink_asked.specs.declared.spoken.SourceLine.{SourceLine}
use Rattle.doslink_asked.specs.Spoken as spec
use Rattle.doslink_asked.specs.Spoken.{AreSpoken, IsNamedBy, NameNone, StandForAll, StandsFor, lines_in, numbered}
use Rattle.doslink_asked.specs.Spoken.{text_of, word_lines}
use Rattle.doslink_asked.specs.inside.Spoken.{said_line, said_lines}
use Rattle.doslink_asked.proofs.Texts.{texts-next}

-- one more line, behind those with their numbers
numbered-push : (path : Option Text) (n : ℕ) (all : List Text) (text : Text)
    → numbered path n (all ++ text ∷ [])
    ≡ numbered path n all ++ record { path = path; number = n + length all; text = text } ∷ []
numbered-push path n [] text =
    ap (λ k. record { path = path; number = k; text = text } ∷ []) (let e : n ≡ n + 0 = omega arith in e)
numbered-push path n (first ∷ all) text =
    ap (λ ls. record { path = path; number = n; text = first } ∷ ls)
    (numbered-push path (n + 1) all text
    ∙ ap (λ k. numbered path (n + 1) all ++ record { path = path; number = k; text = text } ∷ [])
    (let e : n + 1 + length all ≡ n + suc (length all) = omega arith in e))

-- the lines up to the next
pub numbered-next : (path : Option Text) (all : List (Bor Text)) (i : ℕ) (d : Bor Text) (line : spec.SourceLine)
    (front old new : List spec.SourceLine) → i < length all
    → line ≡ record { path = path; number = i + 1; text = (get_or all i d).now } → new ≡ old ++ line ∷ []
    → old ≡ front ++ numbered path 1 (texts (take i all))
    → new ≡ front ++ numbered path 1 (texts (take (i + 1) all))
numbered-next path all i d line front old new h is pushed before =
    let said = numbered path 1 (texts (take i all)) in
    let len : 1 + length (texts (take i all)) ≡ i + 1 = omega (arith, len-take all i (omega (arith, h))) in
    pushed ∙ ap₂ (λ o l. o ++ l ∷ []) before is ∙ append_assoc front said _
    ∙ ap (λ k. front ++ (said ++ record { path = path; number = k; text = (get_or all i d).now } ∷ [])) (sym len)
    ∙ ap (λ l. front ++ l) (sym (numbered-push path 1 (texts (take i all)) (get_or all i d).now)
    ∙ ap (numbered path 1) (texts-next all i d h))
  where
    len-take : (ws : List (Bor Text)) (n : ℕ) → n < length ws → length (texts (take n ws)) ≡ n
    len-take ws zero l = refl
    len-take [] (suc n) l = absurd (omega (arith, l))
    len-take (w ∷ ws) (suc n) l = ap suc (len-take ws n (omega (arith, l)))

-- the lines of words with those of the next
pub word-lines-next : (words : List (Bor Text)) (i : ℕ) (d : Bor Text) (old new : List spec.SourceLine)
    → i < length words → new ≡ old ++ lines_in None (get_or words i d).now → old ≡ word_lines (texts (take i words))
    → new ≡ word_lines (texts (take (i + 1) words))
word-lines-next words i d old new h pushed before =
    let ws = texts (take i words) in
    let word = (get_or words i d).now in
    pushed ∙ ap (λ o. o ++ lines_in None word) before
    ∙ ap (λ l. word_lines ws ++ l) (sym (append-nil (lines_in None word)))
    ∙ sym (flat_map-append (lines_in None) ws (word ∷ []))
    ∙ ap word_lines (texts-next words i d h)

-- the lines, as they are said, up to the next
said-next : (ls : List SourceLine) (i : ℕ) (d : SourceLine) → i < length ls
    → said_lines (take i ls) ++ said_line (get_or ls i d) ∷ [] ≡ said_lines (take (i + 1) ls)
said-next ls i d h =
    sym (ap said_lines (take_more ls i d h) ∙ map-append said_line (take i ls) (get_or ls i d ∷ []))

-- what stands for one more line
stand-push : (told : Text → Option (List ℕ)) (ls : List spec.SourceLine) (l : spec.SourceLine)
    (old part : List spec.SourceLine) → StandForAll told ls old → StandsFor told l part
    → StandForAll told (ls ++ l ∷ []) (old ++ part)
stand-push told [] l old part all one = (part, [], one, refl, ap (λ x. x ++ part) all ∙ sym (append-nil part))
stand-push told (s ∷ ls) l old part (first, rest, stands, others, is) one = (
  first,
  rest ++ part,
  stands,
  stand-push told ls l rest part others one,
  ap (λ x. x ++ part) is ∙ append_assoc first rest part,
)

-- what stands for the lines up to the next
pub stand-next : (told : Text → Option (List ℕ)) (ls : List SourceLine) (i : ℕ) (d : SourceLine)
    (old new part : List spec.SourceLine) → i < length ls → StandForAll told (said_lines (take i ls)) old
    → StandsFor told (said_line (get_or ls i d)) part → new ≡ old ++ part
    → StandForAll told (said_lines (take (i + 1) ls)) new
stand-next told ls i d old new part h all one pushed =
    subst (λ x. StandForAll told (said_lines (take (i + 1) ls)) x) (sym pushed)
    (subst (λ ps. StandForAll told ps (old ++ part)) (said-next ls i d h)
    (stand-push told (said_lines (take i ls)) (said_line (get_or ls i d)) old part all one))

-- one more line that names none
none-push : (ls : List spec.SourceLine) (l : spec.SourceLine) → NameNone ls → IsNamedBy l.text None
    → NameNone (ls ++ l ∷ [])
none-push [] l none one = (one, tt)
none-push (s ∷ ls) l (first, rest) one = (first, none-push ls l rest one)

-- what names a line's file, where that is none
no-name : (text : Text) (named : Option (Bor Text)) → ((p : Bor Text) → named ≡ Some p → ⊥)
    → IsNamedBy text (option_map (λ p. p.now) named) → IsNamedBy text None
no-name text None not-some is = is
no-name text (Some p) not-some is = absurd (not-some p refl)

-- the lines up to the next name none
pub names-none-next : (ls : List SourceLine) (i : ℕ) (d : SourceLine) (named : Option (Bor Text)) → i < length ls
    → NameNone (said_lines (take i ls)) → IsNamedBy (get_or ls i d).text.now (option_map (λ p. p.now) named)
    → ((p : Bor Text) → named ≡ Some p → ⊥) → NameNone (said_lines (take (i + 1) ls))
names-none-next ls i d named h none is not-some =
    subst NameNone (said-next ls i d h)
    (none-push (said_lines (take i ls)) (said_line (get_or ls i d)) none
    (no-name (get_or ls i d).text.now named not-some is))

-- one more round
pub spoken-next : (told : Text → Option (List ℕ)) (all before spoken : List spec.SourceLine)
    → (rounds : ℕ) × AreSpoken told rounds all before → StandForAll told before spoken
    → (rounds : ℕ) × AreSpoken told rounds all spoken
spoken-next told all before spoken (rounds, is) stand = (suc rounds, (before, is, stand))

-- the text of lines with the next
pub text-next : (ls : List SourceLine) (i : ℕ) (d : SourceLine) (old mid new : Text) → i < length ls
    → mid ≡ old ++ (get_or ls i d).text.now → new ≡ mid ++ 10 ∷ [] → old ≡ text_of (said_lines (take i ls))
    → new ≡ text_of (said_lines (take (i + 1) ls))
text-next ls i d old mid new h put ended before =
    let f : spec.SourceLine → Text = λ l. l.text ++ 10 ∷ [] in
    let line = said_line (get_or ls i d) in
    let said = said_lines (take i ls) in
    ended ∙ ap (λ t. t ++ 10 ∷ []) put ∙ append_assoc old line.text (10 ∷ []) ∙ ap (λ t. t ++ f line) before
    ∙ ap (λ l. flat_map f said ++ l) (sym (append-nil (f line))) ∙ sym (flat_map-append f said (line ∷ []))
    ∙ ap text_of (said-next ls i d h)

-- a line that names no file stands for itself
pub stands-alone : (told : Text → Option (List ℕ)) (line : SourceLine) (old new : List SourceLine)
    (named : Option (Bor Text)) → named ≡ None → IsNamedBy line.text.now (option_map (λ p. p.now) named) → new ≡ old ++ line ∷ []
    → (part : List spec.SourceLine) × StandsFor told (said_line line) part × (said_lines new ≡ said_lines old ++ part)
stands-alone told line old new named none is pushed = (
  said_line line ∷ [],
  (None, subst (λ n. IsNamedBy line.text.now (option_map (λ (p : Bor Text). p.now) n)) none is, refl),
  ap said_lines pushed ∙ map-append said_line old (line ∷ []),
)

-- the lines of the code, up to the next
pub numbered-line : (path : Option (Bor Text)) (all : List (Bor Text)) (i : ℕ) (d : Bor Text)
    (old new : List SourceLine) (front : List spec.SourceLine) → i < length all
    → new ≡ old ++ record { path = path; number = i + 1; text = get_or all i d } ∷ []
    → said_lines old ≡ front ++ numbered (option_map (λ p. p.now) path) 1 (texts (take i all))
    → said_lines new ≡ front ++ numbered (option_map (λ p. p.now) path) 1 (texts (take (i + 1) all))
numbered-line path all i d old new front h pushed before =
    let one : SourceLine = record { path = path; number = i + 1; text = get_or all i d } in
    numbered-next (option_map (λ p. p.now) path) all i d (said_line one) front (said_lines old) (said_lines new) h refl
    (ap said_lines pushed ∙ map-append said_line old (one ∷ [])) before
