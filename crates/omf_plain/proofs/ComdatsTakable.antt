-- The records that a COMDAT is taken as are such as a module may hold.
use Rattle.std.proofs.Common.{◌≡◌, ℕ, ◌≤◌, Bool, true, false, if◌then◌else◌, List, [], ◌∷◌, length, refl, ap}
use Rattle.std.proofs.Common.{subst, Result, Ok, Err, Option, None, Some, arith}
use Rattle.std.specs.Prelude.{nat_lt}
use Rattle.std.specs.List.{AllByRecursion}
use Rattle.std.specs.Option.{ok_or}
use Rattle.std.proofs.lemmas.Bool.Decides.{nat_tests}
use Rattle.std.proofs.lemmas.List.{length-append}
use Rattle.omf_comdat.specs.declared.fate.ComdatFate.{ComdatFate}
use Rattle.omf_comdat.specs.declared.fate.ComdatFate.TheVariants.{Opens, Continues, LeftOut, Stray}
use Rattle.omf_extended.specs.Body as later
use Rattle.omf_extended.specs.Said as later_said
use Rattle.omf_extended.specs.declared.comdats.Comdat.{Comdat}
use Rattle.omf_library.specs.Entries.{listed_name}
use Rattle.omf_module.specs.Building.{IsTakable}
use Rattle.omf_module.specs.Sound.{IsShort}
use Rattle.omf_record.specs.Record.{Record, Ledata}
use Rattle.omf_plain.specs.declared.comdats.Opening.{Opening}
use Rattle.omf_plain.specs.declared.fault.Obstacle.{Obstacle}
use Rattle.omf_plain.specs.declared.fault.Obstacle.TheVariants as obstacle
use Rattle.omf_plain.specs.Comdats.{comdat_in, comdat_says, continued_says, fate_of, fated_says, group_of, is_put_out}
use Rattle.omf_plain.specs.Comdats.{next_segment, opened_says, opening, segment_of, word}
use Rattle.omf_plain.specs.Given.{Given, Later}
use Rattle.omf_plain.specs.Plain.{Taking}
use Rattle.omf_plain.specs.Reading.{IsGiven}
use Rattle.omf_plain.specs.Seen.{Seen}
use Rattle.omf_plain.specs.Segments.{plain_length}
use Rattle.omf_plain.specs.Step.{◌>>=◌}
use Rattle.omf_plain.proofs.Takable.{ledata_takable, pubdef_takable, segdef_takable}

abbrev AllTakable : List Record → Type 0
AllTakable rs = AllByRecursion IsTakable rs

abbrev Says : Type 0
Says = Result (List Record) Obstacle

one_says : (x y : List Record) → (let u : Says = Ok x in u) ≡ Ok y → x ≡ y
one_says x y e = cc

no_says : (o : Obstacle) (y : List Record) → (let u : Says = Err o in u) ≡ Ok y → ⊥
no_says o y e = cc

-- records that may be held are all that is said
these : (x y : List Record) → AllTakable x → (let u : Says = Ok x in u) ≡ Ok y → AllTakable y
these x y h e = subst AllTakable (one_says x y e) h

-- so it is behind a value that is there
behind : {A : Type 0} (r : Result A Obstacle) (next : A → Says) (y : List Record)
    → ((a : A) → r ≡ Ok a → next a ≡ Ok y → AllTakable y) → (r >>= next) ≡ Ok y → AllTakable y
behind (Ok a) next y h e = h a refl e
behind (Err o) next y h e = absurd (no_says o y e)

one_opening : (x y : Opening) → (let u : Result Opening Obstacle = Ok x in u) ≡ Ok y → x ≡ y
one_opening x y e = cc

no_opening : (o : Obstacle) (y : Opening) → (let u : Result Opening Obstacle = Err o in u) ≡ Ok y → ⊥
no_opening o y e = cc

-- what a name opens is short
short_behind : {A : Type 0} (r : Result A Obstacle) (next : A → Result Opening Obstacle) (o : Opening) (P : Type 0)
    → ((a : A) → next a ≡ Ok o → P) → (r >>= next) ≡ Ok o → P
short_behind (Ok a) next o P h e = h a e
short_behind (Err x) next o P h e = absurd (no_opening x o e)

short_name : (name : List ℕ) (x o : Opening) → (let u : Result Opening Obstacle =
    if nat_lt 255 (length name) then Err obstacle.TooLong else Ok x in u) ≡ Ok o → IsShort name
short_name name x o e = go (nat_lt 255 (length name)) refl e
  where
    go : (b : Bool) → nat_lt 255 (length name) ≡ b
        → (let u : Result Opening Obstacle = if b then Err obstacle.TooLong else Ok x in u) ≡ Ok o → IsShort name
    go true is e = absurd (no_opening obstacle.TooLong o e)
    go false is e = grind (arith, nat_tests)

opens_short : (seen : Seen) (c : Comdat) (name : List ℕ) (bytes : ℕ) (o : Opening)
    → opening seen c name bytes ≡ Ok o → IsShort name
opens_short seen c name bytes o e =
    short_behind (plain_length false false bytes) _ o (IsShort name)
    (λ len e1. short_behind (segment_of seen c len c.allocation) _ o (IsShort name)
    (λ segment e2. short_behind (word (next_segment seen)) _ o (IsShort name)
    (λ index e3. short_behind (word c.offset) _ o (IsShort name)
    (λ offset e4. short_name name
    (record { segment = segment; group = group_of c.allocation; index = index; offset = offset }) o e4) e3) e2) e1) e

fated_takable : (seen : Seen) (c : Comdat) (name bytes : List ℕ) (fate : ComdatFate) (rs : List Record)
    → length bytes ≤ 65534 → fated_says seen c name bytes fate ≡ Ok rs → AllTakable rs
fated_takable seen c name bytes Stray rs le e = absurd (no_says obstacle.Body rs e)
fated_takable seen c name bytes LeftOut rs le e = these [] rs tt e
fated_takable seen c name bytes (Opens len) rs le e = go c.iterated (is_put_out seen c.allocation) e
  where
    go : (i out : Bool) → (let u : Says = if i then Err obstacle.OtherType else if out then Ok []
        else (opening seen c name len >>= λ o. Ok (opened_says c name bytes o)) in u) ≡ Ok rs → AllTakable rs
    go true out e = absurd (no_says obstacle.OtherType rs e)
    go false true e = these [] rs tt e
    go false false e =
        behind (opening seen c name len) (λ o. Ok (opened_says c name bytes o)) rs
        (λ o is e. these (opened_says c name bytes o) rs (
          segdef_takable o.segment,
          (pubdef_takable c.local _ _ (opens_short seen c name len o is, tt), (ledata_takable o.index o.offset bytes le, tt)),
        ) e) e
fated_takable seen c name bytes Continues rs le e = go c.iterated seen.current e
  where
    go : (i : Bool) (current : Option ℕ)
        → (let u : Says = if i then Err obstacle.OtherType else continued_says c bytes current in u) ≡ Ok rs
        → AllTakable rs
    go true current e = absurd (no_says obstacle.OtherType rs e)
    go false None e = these [] rs tt e
    go false (Some index) e =
        behind (word c.offset) (λ offset. Ok (Ledata index offset bytes ∷ [])) rs
        (λ offset is e. these (Ledata index offset bytes ∷ []) rs (ledata_takable index offset bytes le, tt) e) e

says_takable : (t : Taking) (seen : Seen) (c : Comdat) (bytes : List ℕ) (rs : List Record)
    → length bytes ≤ 65534 → comdat_says t seen c bytes ≡ Ok rs → AllTakable rs
says_takable t seen c bytes rs le e =
    behind (ok_or (listed_name seen.names c.name) obstacle.Body) _ rs
    (λ name n e1. behind (ok_or (fate_of t seen) obstacle.OtherType) _ rs
    (λ fate f e2. fated_takable seen c name bytes fate rs le e2) e1) e

one_in : (x y : Comdat × List ℕ) → (let u : Option (Comdat × List ℕ) = Some x in u) ≡ Some y → x ≡ y
one_in x y e = cc

none_in : (y : Comdat × List ℕ) → (let u : Option (Comdat × List ℕ) = None in u) ≡ Some y → ⊥
none_in y e = cc

data_short : (wide : Bool) (c : Comdat) (bytes body : List ℕ) → later.Body (later_said.Comdat wide c bytes) body
    → length body ≤ 65534 → length bytes ≤ 65534
unfolding later.Body
data_short wide c bytes body j le =
    omega (arith, le, ap length j.parts, length-append j.front j.rest, ap length j.second.1)

-- a frame's COMDAT
pub comdat_takable : (kind : ℕ) (body : List ℕ) (g : Given) (c : Comdat) (bytes : List ℕ) (t : Taking) (seen : Seen)
    (rs : List Record) → IsGiven kind body g → length body ≤ 65534 → comdat_in g ≡ Some (c, bytes)
    → comdat_says t seen c bytes ≡ Ok rs → AllByRecursion IsTakable rs
comdat_takable kind body (Later (later_said.Comdat wide d more)) c bytes t seen rs l le e s =
    says_takable t seen c bytes rs
    (subst (λ (x : Comdat × List ℕ). length x.1 ≤ 65534) (one_in (d, more) (c, bytes) e)
    (data_short wide d more body l.1.1 le)) s
comdat_takable kind body _ c bytes t seen rs l le e s = absurd (none_in (c, bytes) e)
