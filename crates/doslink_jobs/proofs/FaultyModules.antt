-- Modules that can't be read, one behind the other.
use Rattle.std.proofs.Common.{◌≡◌, ◌⊎◌, ◌<◌, ◌+◌, ◌∙◌, ℕ, All, Any, List, inl, inr, ap, get_or}
use Rattle.std.proofs.Common.{length, map, take, sym}
use Rattle.std.proofs.lemmas.Simd.{map-map}
use Rattle.std.specs.Borrow.{Bor}
use Rattle.omf_place.specs.declared.names.Names.{Names}
use Rattle.omf_search.specs.Said.{Module}
use Rattle.doslink_telling.specs.Offering.{Offering, all_offering, offering_said}
use Rattle.doslink_telling.specs.declared.offering.Offering as member
use Rattle.doslink_link.specs.Linking.{bytes_of}
use Rattle.doslink_words.specs.declared.job.Job.{Job}
use Rattle.doslink_passes.specs.Plain.{AreFaultless, AreFaulty}
use Rattle.doslink_passes.proofs.Endless.{all-turn}
use Rattle.doslink_passes.proofs.Fates.{at-place}
use Rattle.doslink_passes.proofs.Refused.{any-seen}
use Rattle.doslink_jobs.specs.inside.Suspects.{HaveSuspect}

-- what may be why names are missing, without the members that are offered
pub suspected : (job : Job) (says : List Module) (given : List (List ℕ)) (offering : List Offering)
    → HaveSuspect job says given offering → AreFaulty job says given given ⊎ AreFaultless job says given given
suspected job says given offering (inl faulty) = inl faulty
suspected job says given offering (inr (all, offered)) = inr all

-- one more of which it holds
pub all-one : {X Y : Type 0} (P : Y → Type 0) (f : X → Y) (xs : List X) (i : ℕ) (d : X) → i < length xs
    → All P (map f (take i xs)) → P (f (get_or xs i d)) → All P (map f (take (i + 1) xs))
all-one P f xs i d h before here = all-turn P f xs i (get_or xs i d) h (at-place xs i d h) before here

-- one of which it holds
pub any-one : {X Y : Type 0} (P : Y → Type 0) (f : X → Y) (xs : List X) (i : ℕ) (d : X) → i < length xs
    → P (f (get_or xs i d)) → Any P (map f xs)
any-one P f xs i d h here = any-seen P f xs i (get_or xs i d) h (at-place xs i d h) here

-- the bytes of members that symbol tables offer, as they are held
pub offered-bytes : (held found : List member.Offering) (names asked : Names) (missing : List (List ℕ))
    (files gathered : List (Bor (List ℕ))) → held ≡ found → map offering_said found ≡ all_offering names missing
    (bytes_of files)
    → names ≡ asked → files ≡ gathered
    → map (λ o. o.bytes.now) held ≡ map (λ o. o.bytes) (all_offering asked missing (bytes_of gathered))
offered-bytes held found names asked missing files gathered same is agreed all =
    ap (map (λ o. o.bytes.now)) same ∙ sym (map-map (λ o. o.bytes) offering_said found)
    ∙ ap (map (λ o. o.bytes)) (is ∙ ap (λ n. all_offering n missing (bytes_of files)) agreed
    ∙ ap (λ fs. all_offering asked missing (bytes_of fs)) all)
