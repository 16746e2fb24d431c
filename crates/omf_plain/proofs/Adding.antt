-- Adding records one behind the other, all at the place of a frame.
use Rattle.std.proofs.Common.{◌≡◌, ℕ, ◌+◌, ◌<◌, List, [], ◌∷◌, ◌++◌, length, map, get_or, take, drop, refl, sym, ap, subst}
use Rattle.std.proofs.Common.{◌∙◌, Err, append_assoc}
use Rattle.std.proofs.lemmas.List.{map-append, map_push}
use Rattle.std.specs.List.{AllByRecursion}
use Rattle.omf_frame.specs.Frame.{Frame}
use Rattle.omf_module.specs.Building.{Adds, Holds, IsTakable}
use Rattle.omf_module.specs.Faults.{first_fault}
use Rattle.omf_module.specs.declared.builder.AddFault.{AddFault}
use Rattle.omf_module.specs.declared.builder.AddFault.TheVariants as adds
use Rattle.omf_module.specs.declared.builder.ModuleBuilder.{ModuleBuilder}
use Rattle.omf_module.proofs.Lists.{map_about, map_to}
use Rattle.omf_record.specs.Record.{Record}
use Rattle.omf_record.specs.Records.{Placed}
use Rattle.omf_plain.specs.Modules.{placed}
use Rattle.omf_plain.specs.inside.Walking.{AddsAll, adding_fault}
use Rattle.omf_plain.proofs.Checks.{fault_behind}

in_middle : (front behind : List Record) (r : Record) → AllByRecursion IsTakable (front ++ r ∷ behind) → IsTakable r
in_middle [] behind r h = h.0
in_middle (x ∷ front) behind r h = in_middle front behind r h.1

pub item_takable : {X : Type 0} (says : X → Record) (xs : List X) (i : ℕ) (x : X) → i < length xs → x ≡ get_or xs i x
    → AllByRecursion IsTakable (map says xs) → IsTakable (says x)
item_takable says xs i x lt is h =
    in_middle (map says (take i xs)) (map says (drop (i + 1) xs)) (says x)
    (subst (λ rs. AllByRecursion IsTakable rs) (map_about says xs i x lt is) h)

abbrev one_placed : Frame → Record → Placed
one_placed f r = record { place = f.place; body = f.body; says = r }

pub held_more : {A X : Type 0} (says : X → Record) (xs : List X) (i : ℕ) (x : X) → i < length xs → x ≡ get_or xs i x
    → (before : List Placed) (f : Frame) (builder : ModuleBuilder A)
    → Holds ((before ++ placed f (map says (take i xs))) ++ one_placed f (says x) ∷ []) builder
    → Holds (before ++ placed f (map says (take (i + 1) xs))) builder
held_more says xs i x lt is before f builder h =
    let more : placed f (map says (take (i + 1) xs)) ≡ placed f (map says (take i xs)) ++ one_placed f (says x) ∷ [] =
    ap (placed f) (map_to says xs i x lt is) ∙ map_push (one_placed f) (map says (take i xs)) (says x) in
    subst (λ rs. Holds rs builder)
    (append_assoc before (placed f (map says (take i xs))) (one_placed f (says x) ∷ [])
    ∙ ap (λ rs. before ++ rs) (sym more)) h

pub refused_more : {X : Type 0} (A Y : Type 0) (says : X → Record) (xs : List X) (i : ℕ) (x : X) → i < length xs
    → x ≡ get_or xs i x → (before : List Placed) (f : Frame) (old new : ModuleBuilder A) (e : AddFault)
    → Holds (before ++ placed f (map says (take i xs))) old
    → Adds {A = A} {X = Y} (before ++ placed f (map says (take i xs))) (one_placed f (says x)) new (Err e)
    → AddsAll {A = A} {X = Y} before f (map says xs) new (Err (adding_fault f.place e))
refused_more A Y says xs i x lt is before f old new adds.Memory held h = tt
refused_more A Y says xs i x lt is before f old new (adds.Check c) held h =
    let front = placed f (map says (take i xs)) in
    let rest = placed f (map says (drop (i + 1) xs)) in
    let whole : before ++ placed f (map says xs) ≡ (before ++ front) ++ one_placed f (says x) ∷ rest =
    ap (λ rs. before ++ placed f rs) (map_about says xs i x lt is)
    ∙ ap (λ ps. before ++ ps) (map-append (one_placed f) (map says (take i xs)) (says x ∷ map says (drop (i + 1) xs)))
    ∙ sym (append_assoc before front (one_placed f (says x) ∷ rest)) in
    (refl, ap first_fault whole ∙ fault_behind (before ++ front) rest (one_placed f (says x)) c held.sound h)
