-- What is read of a module behind one frame more.
use Rattle.std.proofs.Common.{◌≡◌, List, [], ◌∷◌, ◌++◌, refl, sym, ap, ◌∙◌, Result, Ok, Err}
use Rattle.omf_frame.specs.Frame.{Frame}
use Rattle.omf_module.specs.Building.{Adds, Holds}
use Rattle.omf_module.specs.declared.builder.AddFault.{AddFault}
use Rattle.omf_module.specs.declared.builder.AddFault.TheVariants as adds
use Rattle.omf_module.specs.declared.builder.ModuleBuilder.{ModuleBuilder}
use Rattle.omf_record.specs.Record.{Record}
use Rattle.omf_record.specs.Records.{Placed}
use Rattle.omf_plain.specs.declared.fault.Obstacle.{Obstacle}
use Rattle.omf_plain.specs.declared.fault.PlainFault.{PlainFault}
use Rattle.omf_plain.specs.declared.fault.PlainFault.TheVariants as takes
use Rattle.omf_plain.specs.declared.fault.PlainModuleFault.{PlainModuleFault}
use Rattle.omf_plain.specs.declared.fault.PlainModuleFault.TheVariants as module_fault
use Rattle.omf_plain.specs.declared.fault.RecordObstacle.TheVariants as why
use Rattle.omf_plain.specs.declared.modules.Reading.{Reading}
use Rattle.omf_plain.specs.Comdats.{says_of, seen_behind}
use Rattle.omf_plain.specs.Given.{Given}
use Rattle.omf_plain.specs.Modules.{GivenRecord, Known, nothing_known, placed}
use Rattle.omf_plain.specs.Plain.{Taking}
use Rattle.omf_plain.specs.Reading.{IsGiven}
use Rattle.omf_plain.specs.View.{Answers, seen_by, taking_of}
use Rattle.omf_plain.specs.Widths.{either, record_widths}
use Rattle.omf_plain.specs.inside.Walking.{AddsAll, Has, TakesFrame, adding_fault, taking_fault}
use Rattle.omf_plain.proofs.Checks.{fault_behind}
use Rattle.omf_plain.proofs.Growing.{after_said, known_more}

-- by what was known before it
pub says_known : {A : Type 0} (t : Taking) (gs : List GivenRecord) (k : Known) (old : Reading A) (given : Given)
    → Has t gs k old → says_of (taking_of old.pass) (seen_by old.pass) given ≡ says_of t k.seen given
says_known t gs k old given h =
    ap (λ x. says_of x (seen_by old.pass) given) h.taking ∙ ap (λ s. says_of t s given) h.seen

pub has_more : {A : Type 0} (t : Taking) (gs : List GivenRecord) (k : Known) (old new : Reading A) (f : Frame)
    (given : Given) (found : List Record) → Has t gs k old
    → says_of (taking_of old.pass) (seen_by old.pass) given ≡ Ok found → taking_of new.pass ≡ taking_of old.pass
    → seen_by new.pass ≡ seen_behind (taking_of old.pass) (seen_by old.pass) given
    → new.widths ≡ either old.widths (record_widths (taking_of old.pass) (seen_by old.pass) given)
    → Holds (k.says ++ placed f found) new.builder
    → (next : Known) × Has t (gs ++ record { frame = f; says = given } ∷ []) next new
has_more t gs k old new f given found h p taking seen widths holds =
    let g : GivenRecord = record { frame = f; says = given } in
    let says = sym (says_known t gs k old given h) ∙ p in (
      record {
        seen = seen_behind t k.seen given;
        says = k.says ++ placed f found;
        widths = either k.widths (record_widths t k.seen given);
      },
      record {
        taking = taking ∙ h.taking;
        known = known_more t nothing_known k gs g h.known ∙ after_said t k g found says;
        seen = seen ∙ ap (λ (x : Taking). seen_behind x (seen_by old.pass) given) h.taking
            ∙ ap (λ s. seen_behind t s given) h.seen;
        holds = holds;
        widths = widths ∙ ap (λ w. either w (record_widths (taking_of old.pass) (seen_by old.pass) given)) h.widths
            ∙ ap (λ x. either k.widths (record_widths x (seen_by old.pass) given)) h.taking
            ∙ ap (λ s. either k.widths (record_widths t s given)) h.seen;
      },
    )

-- what a builder refuses
pub adding_fails : (A X : Type 0) (t : Taking) (gs : List GivenRecord) (k : Known) (f : Frame) (old new : Reading A)
    (builder : ModuleBuilder A) (given : Given) (r : Record) (e : AddFault) → Has t gs k old
    → IsGiven f.kind f.body given → says_of t k.seen given ≡ Ok (r ∷ [])
    → Adds {A = A} {X = X} k.says (record { place = f.place; body = f.body; says = r }) builder (Err e)
    → TakesFrame {A = A} {X = X} t gs k f new (Err (adding_fault f.place e))
adding_fails A X t gs k f old new builder given r adds.Memory has l p h = tt
adding_fails A X t gs k f old new builder given r (adds.Check c) has l p h =
    let found : Placed = record { place = f.place; body = f.body; says = r } in
    (refl, (given, l, (r ∷ [], p, fault_behind k.says [] found c has.holds.sound h)))

-- what it refuses of several records
pub adding_all_fails : (A X : Type 0) (t : Taking) (gs : List GivenRecord) (k : Known) (f : Frame) (new : Reading A)
    (builder : ModuleBuilder A) (given : Given) (rs : List Record) (e : PlainModuleFault)
    → IsGiven f.kind f.body given → says_of t k.seen given ≡ Ok rs
    → AddsAll {A = A} {X = X} k.says f rs builder (Err e) → TakesFrame {A = A} {X = X} t gs k f new (Err e)
adding_all_fails A X t gs k f new builder given rs module_fault.Memory l p h = tt
adding_all_fails A X t gs k f new builder given rs (module_fault.Record at (why.Framing e)) l p h = absurd h
adding_all_fails A X t gs k f new builder given rs (module_fault.Record at why.NoEnd) l p h = absurd h
adding_all_fails A X t gs k f new builder given rs (module_fault.Record at (why.Body e)) l p h = absurd h
adding_all_fails A X t gs k f new builder given rs (module_fault.Record at (why.Obstacle e)) l p h = absurd h
adding_all_fails A X t gs k f new builder given rs (module_fault.Record at (why.Check c)) l p h =
    (h.0, (given, l, (rs, p, h.1)))

-- several records are added, or refused
pub adding_all : (A X : Type 0) (t : Taking) (gs : List GivenRecord) (k : Known) (old new : Reading A) (f : Frame)
    (given : Given) (rs : List Record) (r : Result X PlainModuleFault) → Has t gs k old → IsGiven f.kind f.body given
    → says_of (taking_of old.pass) (seen_by old.pass) given ≡ Ok rs → taking_of new.pass ≡ taking_of old.pass
    → seen_by new.pass ≡ seen_behind (taking_of old.pass) (seen_by old.pass) given
    → new.widths ≡ either old.widths (record_widths (taking_of old.pass) (seen_by old.pass) given)
    → AddsAll {A = A} {X = X} k.says f rs new.builder r → TakesFrame {A = A} {X = X} t gs k f new r
adding_all A X t gs k old new f given rs (Ok done) h l s taking seen widths a =
    (given, l, has_more t gs k old new f given rs h s taking seen widths a)
adding_all A X t gs k old new f given rs (Err e) h l s taking seen widths a =
    adding_all_fails A X t gs k f new new.builder given rs e l (sym (says_known t gs k old given h) ∙ s) a

-- a COMDAT isn't taken
pub comdat_fails : (A X Y : Type 0) (says : Y → List Record) (t : Taking) (gs : List GivenRecord) (k : Known)
    (old new : Reading A) (f : Frame) (given : Given) (stands : Result (List Record) Obstacle) (e : PlainFault)
    → Has t gs k old → IsGiven f.kind f.body given → says_of (taking_of old.pass) (seen_by old.pass) given ≡ stands
    → Answers says (Err e) stands → TakesFrame {A = A} {X = X} t gs k f new (Err (taking_fault f.place e))
comdat_fails A X Y says t gs k old new f given stands takes.Memory h l s a = tt
comdat_fails A X Y says t gs k old new f given stands (takes.Of o) h l s a =
    (refl, (given, l, sym (says_known t gs k old given h) ∙ s ∙ a))
