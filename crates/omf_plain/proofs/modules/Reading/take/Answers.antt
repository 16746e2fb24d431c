use Rattle.std.proofs.Common.{◌≡◌, ◌≤◌, [], ◌∷◌, length, map, subst, sym, ap, ◌∙◌, append-nil, None, Some, rules}
use Rattle.std.specs.Prelude.{Vec}
use Rattle.omf_frame.specs.Lending.{plain_frame}
use Rattle.omf_module.specs.Building.{Holds}
use Rattle.omf_record.specs.View.{view}
use Rattle.omf_record.specs.declared.record.Record.{Record}
use Rattle.omf_plain.specs.Comdats.{comdat_in}
use Rattle.omf_plain.specs.View.{given_view, seen_by, taking_of}
use Rattle.omf_plain.specs.Widths.{either}
use Rattle.omf_plain.proofs.ComdatsTakable.{comdat_takable}
use Rattle.omf_plain.proofs.Saying.{says_one, seen_plain, says_comdat, seen_comdat}
use Rattle.omf_plain.proofs.Takable.{takable}
use Rattle.omf_plain.proofs.Taking.{adding_all, adding_fails, comdat_fails, has_more, says_known}
use Rattle.omf_plain.proofs.modules.Reading.take.Goals.{in-Ok, in-Err}
use Rattle.omf_plain.proofs.modules.Reading.take.Goals as goal

pub add_all-requires : goal.add_all-requires
add_all-requires g c =
    let frame = c.args.frame.now in
    let old = c.args.self.now in
    let short : length frame.body.now ≤ 65534 = search rules in
    rw c.deref.ensures.value
    (comdat_takable frame.kind frame.body.now (given_view c.in_ok-given.given) c.in-Some.comdat c.in-Some.bytes.now
    (taking_of old.pass) (seen_by old.pass) (map view c.in-Ok.records.items) c.in_ok-given.ensures.given short
    (sym c.in-Some.ensures) c.in-Ok.ensures.says)

pub returns-in-Some : goal.returns-in-Some
returns-in-Some g c =
    let old = c.args.self.now in
    let f = plain_frame c.args.frame.now in
    let given = given_view c.in_ok-given.given in
    let widths = c.or-self.ensures ∙ ap (λ w. either old.widths w) c.widths_of.ensures in
    let some = sym c.in-Some.ensures in
    let is = says_comdat (taking_of old.pass) (seen_by old.pass) given c.in-Some.comdat c.in-Some.bytes.now some in
    let seen = seen_comdat (taking_of old.pass) (seen_by old.pass) given c.in-Some.comdat c.in-Some.bytes.now some in
    elim c.match-take_comdat.branch [
      | in-Ok w ↦
          λ t gs k h. rw (w.self-is, w.result-is)
          (adding_all g.row.A.Denot (Unit {0}) t gs k old _ f given (map view w.in-Ok.records.items) w.add_all.result h
          c.in_ok-given.ensures.given (is ∙ w.in-Ok.ensures.says) w.in-Ok.ensures.taking
          (w.in-Ok.ensures.seen ∙ sym seen) widths
          (rw w.deref.ensures.value at (w.add_all.ensures k.says h.holds)))
      | in-Err w ↦
          λ t gs k h. rw (w.self-is, w.result-is, w.taking_fault.ensures)
          (comdat_fails g.row.A.Denot (Unit {0}) (Vec (Record g.row.A.Denot) g.row.A.Denot) (λ v. map view v.items) t gs k old
          old f given _ w.in-Err.fault h
          c.in_ok-given.ensures.given is w.in-Err.ensures.says)
    ]

pub returns-in-Ok-None : goal.returns-in-Ok-None
returns-in-Ok-None g c =
    let old = c.args.self.now in
    let given = given_view c.in_ok-given.given in
    let widths = c.or-self.ensures ∙ ap (λ w. either old.widths w) c.widths_of.ensures in
    let none : comdat_in given ≡ None = sym c.in_default.ensures in
    λ t gs k h. (
      given,
      c.in_ok-given.ensures.given,
      has_more t gs k old _ (plain_frame c.args.frame.now) given [] h
          (says_one (taking_of old.pass) (seen_by old.pass) given None none
          (rw c.in-Ok-None.field-0-is at c.in-Ok-None.ensures.plain)) c.in-Ok-None.ensures.taking
          (c.in-Ok-None.ensures.seen ∙ sym (seen_plain (taking_of old.pass) (seen_by old.pass) given none)) widths
          (subst (λ rs. Holds rs old.builder) (sym (append-nil k.says)) h.holds),
    )

pub add-requires : goal.add-requires
add-requires g c =
    let frame = c.args.frame.now in
    let old = c.args.self.now in
    let short : length frame.body.now ≤ 65534 = search rules in
    takable frame.kind frame.body.now (given_view c.in_ok-given.given) (taking_of old.pass) (seen_by old.pass)
    (view c.in-Ok-Some.record) c.in_ok-given.ensures.given short
    (rw c.in-Ok-Some.field-0-is at c.in-Ok-Some.ensures.plain)

pub returns-in-Ok-add : goal.returns-in-Ok-add
returns-in-Ok-add g c =
    let old = c.args.self.now in
    let given = given_view c.in_ok-given.given in
    let widths = c.or-self.ensures ∙ ap (λ w. either old.widths w) c.widths_of.ensures in
    let none : comdat_in given ≡ None = sym c.in_default.ensures in
    λ t gs k h. (
      given,
      c.in_ok-given.ensures.given,
      has_more t gs k old _ (plain_frame c.args.frame.now) given (view c.in-Ok-Some.record ∷ []) h
          (says_one (taking_of old.pass) (seen_by old.pass) given (Some (view c.in-Ok-Some.record)) none
          (rw c.in-Ok-Some.field-0-is at c.in-Ok-Some.ensures.plain)) c.in-Ok-Some.ensures.taking
          (c.in-Ok-Some.ensures.seen ∙ sym (seen_plain (taking_of old.pass) (seen_by old.pass) given none)) widths
          (c.in-Ok-add.ensures k.says c.args.frame.now.body.now h.holds),
    )

pub returns-in-Ok-Some : goal.returns-in-Ok-Some
returns-in-Ok-Some g c =
    let old = c.args.self.now in
    let given = given_view c.in_ok-given.given in
    let none : comdat_in given ≡ None = sym c.in_default.ensures in
    let taken = says_one (taking_of old.pass) (seen_by old.pass) given (Some (view c.in-Ok-Some.record)) none
    (rw c.in-Ok-Some.field-0-is at c.in-Ok-Some.ensures.plain) in
    λ t gs k h. rw c.adding_fault.ensures
    (adding_fails g.row.A.Denot (Unit {0}) t gs k (plain_frame c.args.frame.now) old old old.builder given
    (view c.in-Ok-Some.record) c.in-Err-add.fault h c.in_ok-given.ensures.given
    (sym (says_known t gs k old given h) ∙ taken)
    (c.in-Err-add.ensures k.says c.args.frame.now.body.now h.holds))
