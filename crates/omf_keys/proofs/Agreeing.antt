-- Which names agree, and so which keys are one.
use Rattle.std.proofs.Common.{◌≡◌, ◌&&◌, ◌∷◌, Bool, List, ℕ, true, false, nat_eq, length, refl, sym, ap, ◌∙◌}
use Rattle.std.specs.Borrow.{Bor}
use Rattle.std.specs.Cmp.{IsEquivalence, nat_eq_equiv}
use Rattle.std.specs.Cmp.Lexicographic.{as_long, bytes_decides, on_texts_equal, texts_ties}
use Rattle.std.specs.Ordering.{is_eq}
use Rattle.std.specs.Str.{bytes_eq}
use Rattle.omf_place.specs.Names.{agrees, spelled}
use Rattle.omf_place.specs.declared.names.Names.{Names}
use Rattle.omf_place.specs.declared.names.Names.TheVariants.{Exact, AsciiFolded}
use Rattle.omf_keys.specs.declared.key.Key.{Key}
use Rattle.omf_keys.specs.Keys.{by_length, digest_of, key_of, key_order, key_text, same_key}

pub names_agree : (names : Names) → IsEquivalence (agrees names)
names_agree names = on_texts_equal (spelled names)

pub keys_are_one : IsEquivalence same_key
keys_are_one = on_texts_equal key_text

-- keys are one where they stand at one place in their order
pub key_ties : (x y : Key) → same_key x y ≡ is_eq (key_order x y)
key_ties x y = texts_ties (key_text x) (key_text y)

-- a test that follows of another one adds nothing to it
follows : (same long : Bool) → (same ≡ true → long ≡ true) → (long && same) ≡ same
follows true long h = ap (λ b. b && true) (h refl)
follows false true h = refl
follows false false h = refl

-- texts that are one are as long as each other
same_by_length : (xs ys : List ℕ) → bytes_eq (by_length xs) (by_length ys) ≡ bytes_eq xs ys
same_by_length xs ys =
    follows (bytes_eq xs ys) (nat_eq (length xs) (length ys))
    (λ e. ap (nat_eq (length xs)) (sym (as_long nat_eq xs ys e)) ∙ nat_eq_equiv.refl (length xs))

-- and have one digest
same_by_digest : (xs ys : List ℕ)
    → bytes_eq (digest_of xs ∷ by_length xs) (digest_of ys ∷ by_length ys) ≡ bytes_eq xs ys
same_by_digest xs ys =
    ap (λ b. nat_eq (digest_of xs) (digest_of ys) && b) (same_by_length xs ys)
    ∙ follows (bytes_eq xs ys) (nat_eq (digest_of xs) (digest_of ys))
    (λ e. ap (λ zs. nat_eq (digest_of xs) (digest_of zs)) (sym ((bytes_decides xs ys).0 e))
    ∙ nat_eq_equiv.refl (digest_of xs))

-- keys of one choice are one where their names agree
pub keys_agree : (names : Names) (x y : Bor (List ℕ))
    → same_key (key_of names x) (key_of names y) ≡ agrees names x.now y.now
keys_agree Exact x y = same_by_digest x.now y.now
keys_agree AsciiFolded x y = same_by_digest (spelled AsciiFolded x.now) (spelled AsciiFolded y.now)

-- they stand at one place in their order then
pub keys_stand : (names : Names) (x y : Bor (List ℕ))
    → is_eq (key_order (key_of names x) (key_of names y)) ≡ agrees names x.now y.now
keys_stand names x y = sym (key_ties (key_of names x) (key_of names y)) ∙ keys_agree names x y
