-- One given record more.
use Rattle.std.proofs.Common.{◌≡◌, ℕ, true, false, List, [], ◌∷◌, ◌++◌, refl, ap, ◌∙◌, Result, Ok, Err}
use Rattle.omf_library.specs.Records.{ends_module, place_behind}
use Rattle.omf_record.specs.Record.{Record}
use Rattle.omf_plain.specs.declared.fault.Obstacle.{Obstacle}
use Rattle.omf_plain.specs.Modules.{GivenRecord, StandsAt, Stand, behind, AreOpen, AreToEnd, Known, placed, known_after}
use Rattle.omf_plain.specs.Modules.{known_behind}
use Rattle.omf_plain.specs.Comdats.{says_of, seen_behind}
use Rattle.omf_plain.specs.Plain.{Taking}
use Rattle.omf_plain.specs.Step.{◌>>=◌}
use Rattle.omf_plain.specs.Widths.{either, record_widths}
use Rattle.omf_plain.proofs.Walks.{first_known, behind_one, one_known}

pub stand_more : (bytes : List ℕ) (place : ℕ) (gs : List GivenRecord) (g : GivenRecord) → Stand bytes place gs
    → StandsAt bytes (behind place gs) g → Stand bytes place (gs ++ g ∷ [])
stand_more bytes place [] g s at = (at, tt)
stand_more bytes place (h ∷ gs) g s at = (s.0, stand_more bytes (place_behind h.frame) gs g s.1 at)

pub behind_more : (place : ℕ) (gs : List GivenRecord) (g : GivenRecord)
    → behind place (gs ++ g ∷ []) ≡ place_behind g.frame
behind_more place [] g = refl
behind_more place (h ∷ gs) g = behind_more (place_behind h.frame) gs g

pub open_more : (gs : List GivenRecord) (g : GivenRecord) → AreOpen gs → ends_module g.frame.kind ≡ false
    → AreOpen (gs ++ g ∷ [])
open_more [] g o e = (e, tt)
open_more (h ∷ gs) g o e = (o.0, open_more gs g o.1 e)

pub to_end : (gs : List GivenRecord) (g : GivenRecord) → AreOpen gs → ends_module g.frame.kind ≡ true
    → AreToEnd (gs ++ g ∷ [])
to_end [] g o e = e
to_end (h ∷ []) g o e = (o.0, e)
to_end (h ∷ i ∷ gs) g o e = (o.0, to_end (i ∷ gs) g o.1 e)

same_bind : (r : Result Known Obstacle) → (r >>= λ next. Ok next) ≡ r
same_bind (Ok n) = refl
same_bind (Err o) = refl

pub known_more : (t : Taking) (k l : Known) (gs : List GivenRecord) (g : GivenRecord) → known_behind t k gs ≡ Ok l
    → known_behind t k (gs ++ g ∷ []) ≡ known_after t l g
known_more t k l [] g e =
    same_bind (known_after t k g) ∙ ap (λ x. known_after t x g) (one_known (Ok k) k l refl e)
known_more t k l (h ∷ gs) g e =
    let (n, n-is, rest) = first_known t k l h gs e in
    behind_one t k n h (gs ++ g ∷ []) n-is ∙ known_more t n l gs g rest

-- what is known behind a record that says this
pub after_said : (t : Taking) (k : Known) (g : GivenRecord) (found : List Record)
    → says_of t k.seen g.says ≡ Ok found → known_after t k g ≡ Ok (record {
      seen = seen_behind t k.seen g.says;
      says = k.says ++ placed g.frame found;
      widths = either k.widths (record_widths t k.seen g.says);
    })
after_said t k g found e =
    ap
    (λ x. x >>= λ found. Ok (record {
      seen = seen_behind t k.seen g.says;
      says = k.says ++ placed g.frame found;
      widths = either k.widths (record_widths t k.seen g.says);
    })) e
