-- What is answered for the bytes of a module.
use Rattle.std.proofs.Common.{◌≡◌, ℕ, List, ◌++◌, sym, subst, ◌∙◌, Ok, Err, Some, drop}
use Rattle.omf_frame.specs.Frame.{Frame, frame_at}
use Rattle.omf_module.specs.Faults.{first_fault}
use Rattle.omf_plain.specs.declared.fault.PlainModuleFault.{PlainModuleFault}
use Rattle.omf_plain.specs.declared.fault.PlainModuleFault.TheVariants.{Memory, Record}
use Rattle.omf_plain.specs.declared.fault.RecordObstacle.{RecordObstacle}
use Rattle.omf_plain.specs.declared.fault.RecordObstacle.TheVariants as why
use Rattle.omf_plain.specs.declared.modules.Reading.{Reading}
use Rattle.omf_plain.specs.ModuleAnswer.{ModuleAnswers}
use Rattle.omf_plain.specs.Modules.{GivenRecord, Stand, behind, AreOpen, Known, AreTaken, RefusedAt, IsPlainFault}
use Rattle.omf_plain.specs.Modules.{placed}
use Rattle.omf_plain.specs.Plain.{Taking}
use Rattle.omf_plain.specs.inside.Walking.{FrameAnswers, Has, RefusedFrame, TakesFrame}
use Rattle.omf_plain.proofs.Walks.{no_module}

pub taken : (A : Type 0) (t : Taking) (bytes : List ℕ) (gs : List GivenRecord) (k : Known) (reading : Reading A)
    → Has t gs k reading → Stand bytes 0 gs → AreTaken t bytes gs k
taken A t bytes gs k reading h s = record { stand = s; known = h.known; sound = h.holds.sound }

told : (A : Type 0) (t : Taking) (bytes : List ℕ) (gs : List GivenRecord) (k : Known) (place : ℕ)
    (obstacle : RecordObstacle) → AreTaken t bytes gs k → AreOpen gs → place ≡ behind 0 gs
    → RefusedAt t bytes k place obstacle → ModuleAnswers {A = A} t bytes (Err (Record place obstacle))
told A t bytes gs k place obstacle a o at r =
    let fault : IsPlainFault t bytes place obstacle = (gs, k, a, o, at, r) in (
      fault,
      λ m w. no_module t bytes place obstacle m w fault,
    )

-- where no frame begins
pub frame_refused : (A : Type 0) (t : Taking) (bytes : List ℕ) (gs : List GivenRecord) (k : Known) (place : ℕ)
    (e : PlainModuleFault) → AreTaken t bytes gs k → AreOpen gs → place ≡ behind 0 gs
    → FrameAnswers bytes place (Err e) → ModuleAnswers {A = A} t bytes (Err e)
frame_refused A t bytes gs k place Memory a o at h = tt
frame_refused A t bytes gs k place (Record p (why.Framing e)) a o at (is, h) =
    told A t bytes gs k p (why.Framing e) a o (is ∙ at)
    (subst (λ n. frame_at n (drop n bytes) ≡ Err e) (sym is) h)
frame_refused A t bytes gs k place (Record p why.NoEnd) a o at (is, h) =
    told A t bytes gs k p why.NoEnd a o (is ∙ at) (subst (λ n. RefusedAt t bytes k n why.NoEnd) (sym is) h)
frame_refused A t bytes gs k place (Record p (why.Body f)) a o at h = absurd h
frame_refused A t bytes gs k place (Record p (why.Obstacle x)) a o at h = absurd h
frame_refused A t bytes gs k place (Record p (why.Check c)) a o at h = absurd h

-- where what the frame at the place holds isn't taken
refused_there : (t : Taking) (bytes : List ℕ) (k : Known) (place : ℕ) (f : Frame) (obstacle : RecordObstacle)
    → frame_at place (drop place bytes) ≡ Ok (Some f) → f.place ≡ place → RefusedFrame t k f obstacle
    → RefusedAt t bytes k place obstacle
refused_there t bytes k place f (why.Framing e) there here h = absurd h
refused_there t bytes k place f why.NoEnd there here h = absurd h
refused_there t bytes k place f (why.Body e) there here h = (f, there, h)
refused_there t bytes k place f (why.Obstacle o) there here (given, l, is) =
    (record { frame = f; says = given }, (there, l), is)
refused_there t bytes k place f (why.Check c) there here (given, l, (rs, is, check)) = (
  record { frame = f; says = given },
  (there, l),
  (rs, is, subst (λ p. first_fault (k.says ++ placed f rs) ≡ Some (p, c)) here check),
)

pub take_refused : (A X : Type 0) (t : Taking) (bytes : List ℕ) (gs : List GivenRecord) (k : Known) (place : ℕ)
    (f : Frame) (new : Reading A) (e : PlainModuleFault) → AreTaken t bytes gs k → AreOpen gs → place ≡ behind 0 gs
    → frame_at place (drop place bytes) ≡ Ok (Some f) → f.place ≡ place
    → TakesFrame {A = A} {X = X} t gs k f new (Err e) → ModuleAnswers {A = A} t bytes (Err e)
take_refused A X t bytes gs k place f new Memory a o at there here h = tt
take_refused A X t bytes gs k place f new (Record p obstacle) a o at there here (is, h) =
    let same = is ∙ here in
    told A t bytes gs k p obstacle a o (same ∙ at)
    (subst (λ n. RefusedAt t bytes k n obstacle) (sym same) (refused_there t bytes k place f obstacle there here h))
