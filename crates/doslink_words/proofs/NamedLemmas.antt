-- What holds of a loop over words.
use Rattle.std.proofs.Common.{◌≡◌, ◌∙◌, ◌<◌, ◌+◌, ℕ, List, [], ◌++◌, ◌∷◌, length, drop, get_or, Option, Some, None, refl, ap, sym}
use Rattle.std.proofs.Common.{append_assoc}
use Rattle.std.proofs.lemmas.List.{at_drop_more}
use Rattle.clap.specs.Words.{Text}
use Rattle.doslink_words.specs.declared.named.Expected.{Expected}
use Rattle.doslink_words.specs.declared.named.Kind.{Kind}
use Rattle.doslink_words.specs.declared.named.Met.{Met}
use Rattle.doslink_words.specs.Named.{kinds_named, with_kind, word_met}
use Rattle.doslink_words.specs.Responses.{spaced}

with_kind_before : (named : Option Kind) (kinds : List Kind) → with_kind named kinds ≡ with_kind named [] ++ kinds
with_kind_before None kinds = refl
with_kind_before (Some k) kinds = refl

-- one word more
pub kinds_more : (e : Expected) (all : List Text) (i : ℕ) (word : Text) (met : Met) (had new : List Kind)
    → i < length all → get_or all i word ≡ word → met ≡ word_met e word → new ≡ had ++ with_kind met.named []
    → had ++ kinds_named e (drop i all) ≡ new ++ kinds_named met.next (drop (i + 1) all)
kinds_more e all i word met had new inside here is put =
    let behind : List Text = drop (i + 1) all in
    let rest : Met → List Kind = λ m. kinds_named m.next behind in
    ap (λ (ks : List Kind). had ++ ks)
    (at_drop_more (kinds_named e) all i word inside
    ∙ (ap (λ (w : Text). kinds_named e (w ∷ behind)) here
    ∙ (ap (λ (m : Met). with_kind m.named (rest m)) (sym is) ∙ with_kind_before met.named (rest met))))
    ∙ (sym (append_assoc had (with_kind met.named []) (rest met)) ∙ ap (λ (ks : List Kind). ks ++ rest met) (sym put))

-- one word more behind a blank
pub spaced_more : (all : List Text) (i : ℕ) (word had blank new : Text) → i < length all → get_or all i word ≡ word
    → blank ≡ had ++ (32 ∷ []) → new ≡ blank ++ word
    → had ++ spaced (drop i all) ≡ new ++ spaced (drop (i + 1) all)
spaced_more all i word had blank new inside here one two =
    let rest : Text = spaced (drop (i + 1) all) in
    ap (λ (t : Text). had ++ t)
    (at_drop_more spaced all i word inside ∙ ap (λ (w : Text). 32 ∷ (w ++ rest)) here)
    ∙ (sym (append_assoc had (32 ∷ []) (word ++ rest))
    ∙ (ap (λ (t : Text). t ++ (word ++ rest)) (sym one)
    ∙ (sym (append_assoc blank word rest) ∙ ap (λ (t : Text). t ++ rest) (sym two))))
