use Rattle.std.proofs.Common.{◌≡◌, ℕ, ◌+◌, ◌++◌, ◌∙◌, List, Ok, ap, ap₂, arith, drop, length, map, subst, sym, take}
use Rattle.std.proofs.Common.{length-append}
use Rattle.std.proofs.lemmas.List.{length-map, map-append}
use Rattle.std.proofs.lemmas.Result.{err_from_is_err_and}
use Rattle.std.specs.List.{filter_map}
use Rattle.omf_search.specs.Results.{bytes_of}
use Rattle.omf_search.specs.Search.{Chooses}
use Rattle.omf_search.specs.Searching.{IsSearch}
use Rattle.doslink_stock.specs.declared.searching.Stock.{Stock}
use Rattle.doslink_stock.specs.Files.{Held, IsFault, members, members_from, objects_from}
use Rattle.doslink_stock.specs.inside.Linked.{AreLinked}
use Rattle.doslink_stock.specs.Placed.{ArePlaced}
use Rattle.doslink_stock.specs.Search.{TakenFor, all_files, candidates, member_taken, nothing, object_taken, says_of}
use Rattle.doslink_stock.specs.Search.{with_objects}
use Rattle.doslink_stock.specs.Seen.{entry_held}
use Rattle.doslink_stock.proofs.Places.{drop-front, map-drop, placed-more, take-front}
use Rattle.doslink_stock.proofs.Rounds.{counted, round-refused}
use Rattle.doslink_stock.proofs.Stocking.{stock-added}
use Rattle.doslink_stock.proofs.searching.Stock.add.Goals as goal

pub returns-in_err-more_members : goal.returns-in_err-more_members
returns-in_err-more_members g c =
    let p =
    err_from_is_err_and c.from_residual-in_err-more_members.result c.from_residual-in_err-more_members.ensures.1 in
    rw (p.1, p.2) (λ names rounds more e searched.
    let (s, goes, is) = searched in
    let all = counted names rounds nothing s goes in
    let n = c.args.self.now.files in
    let at : n ≡ length (all_files rounds) = omega (arith, all.files, is.files) in
    let new : bytes_of (drop n c.args.files.now) ≡ more =
    map-drop (λ b. b.now) n c.args.files.now ∙ ap (drop n) e ∙ drop-front (all_files rounds) more n at in
    subst (λ (l : List (List ℕ)). IsFault c.in_err-more_members.field-0.0 (members l)) (sym e)
    (round-refused names rounds more s c.in_err-more_members.field-0.0 goes
    (subst (λ (k : ℕ). IsFault c.in_err-more_members.field-0.0 (members_from k more)) is.files
    (subst (λ (l : List (List ℕ)). IsFault c.in_err-more_members.field-0.0 (members_from n l)) new
    c.in_err-more_members.ensures))))

pub returns : goal.returns
returns g c = λ names rounds more e searched.
    let (s, goes, is) = searched in
    let stock = c.args.self.now in
    let all = counted names rounds nothing s goes in
    let n = stock.files in
    let at : n ≡ length (all_files rounds) = omega (arith, all.files, is.files) in
    let new : bytes_of (drop n c.args.files.now) ≡ more =
    map-drop (λ b. b.now) n c.args.files.now ∙ ap (drop n) e ∙ drop-front (all_files rounds) more n at in
    let objects = c.in_ok-more_objects.more_objects.items in
    let found = map entry_held c.in_ok-more_members.more_members.items in
    let were = map entry_held stock.objects.items in
    let are : map entry_held objects ≡ objects_from s.files more =
    c.in_ok-more_objects.ensures ∙ ap₂ objects_from is.files new in
    let members_are : members_from s.files more ≡ Ok found =
    ap₂ members_from (sym is.files) (sym new) ∙ c.in_ok-more_members.ensures in
    let count : length c.args.files.now ≡ s.files + length more =
    (let a = length-map c.args.files.now (λ b. b.now) in
    let b = ap length e ∙ length-append (all_files rounds) more in omega (arith, a, b, at, is.files)) in
    let objects_now : c.deref.result.now ≡ stock.objects.items ++ objects =
    c.deref.ensures.value ∙ c.in_ok-append.ensures.items in
    let members_now : c.deref-2.result.now ≡ stock.members.items ++ c.in_ok-more_members.more_members.items =
    c.deref-2.ensures.value ∙ c.in_ok-append-2.ensures.items in
    let members_then : c.deref-3.result.now ≡ stock.members.items ++ c.in_ok-more_members.more_members.items =
    c.deref-3.ensures.value ∙ c.in_ok-append-2.ensures.items in
    let held_objects : map entry_held c.deref.result.now ≡ were ++ map entry_held objects =
    ap (map entry_held) objects_now ∙ map-append entry_held stock.objects.items objects in
    let held_members : map entry_held c.deref-2.result.now ≡ s.members ++ found =
    ap (map entry_held) members_now
    ∙ map-append entry_held stock.members.items c.in_ok-more_members.more_members.items
    ∙ ap (λ l. l ++ found) is.members in
    let held_then : map entry_held c.deref-3.result.now ≡ s.members ++ found =
    ap (map entry_held) members_then
    ∙ map-append entry_held stock.members.items c.in_ok-more_members.more_members.items
    ∙ ap (λ l. l ++ found) is.members in
    let one : AreLinked names (map entry_held c.deref.result.now) (s.members ++ found) (candidates s.members) s.taken
    stock.search stock.linked.items =
    record {
      searched = is.search;
      placed =
          subst (λ (os : List Held). ArePlaced os (s.members ++ found) stock.linked.items s.taken) (sym held_objects)
          (placed-more were (map entry_held objects) s.members found stock.linked.items s.taken is.placed);
    } in
    let rest : drop c.len-objects.result c.deref.result.now ≡ objects =
    ap (drop c.len-objects.result) objects_now
    ∙ drop-front stock.objects.items objects c.len-objects.result
    (omega (arith, c.len-objects.ensures, stock.objects.ok.0)) in
    let two : AreLinked names (map entry_held c.deref.result.now) (s.members ++ found) (candidates s.members)
    (with_objects more s) c.link_objects.new.search c.link_objects.new.linked.items =
    subst
    (λ (l : List TakenFor). AreLinked names (map entry_held c.deref.result.now) (s.members ++ found)
    (candidates s.members) (s.taken ++ l) c.link_objects.new.search c.link_objects.new.linked.items)
    (ap (λ l. map object_taken (map entry_held l)) rest ∙ ap (map object_taken) are)
    (c.in_ok-link_objects.ensures names (s.members ++ found) (candidates s.members) s.taken one) in
    let front : map entry_held (take c.len-members.result c.deref-2.result.now) ≡ s.members =
    ap (λ l. map entry_held (take c.len-members.result l)) members_now
    ∙ ap (map entry_held)
    (take-front stock.members.items c.in_ok-more_members.more_members.items c.len-members.result
    (omega (arith, c.len-members.ensures, stock.members.ok.0)))
    ∙ is.members in
    let three =
    c.in_ok-offer_members.ensures names (says_of (with_objects more s))
    (subst
    (λ (l : List Held). IsSearch names (says_of (with_objects more s)) (candidates l) c.link_objects.new.search)
    (sym front) two.searched) in
    let four : AreLinked names (map entry_held c.deref.result.now) (map entry_held c.deref-3.result.now)
    (candidates (map entry_held c.deref-3.result.now)) (with_objects more s) c.offer_members.new.search
    c.link_objects.new.linked.items =
    record {
      searched =
          subst
          (λ (l : List Held). IsSearch names (says_of (with_objects more s)) (candidates l) c.offer_members.new.search)
          (held_members ∙ sym held_then) three;
      placed =
          subst
          (λ (l : List Held). ArePlaced (map entry_held c.deref.result.now) l c.link_objects.new.linked.items
          (with_objects more s)) (sym held_then) two.placed;
    } in
    let (choices, chooses, linked) =
    c.in_ok-take_members.ensures names (map entry_held c.deref.result.now) (with_objects more s) four in
    let after : Stock g.row.A.Denot =
    record {
      objects = c.append.new.self;
      members = c.append-2.new.self;
      linked = c.take_members.new.linked;
      files = length c.args.files.now;
      search = c.take_members.new.search;
    } in
    let there : map entry_held after.members.items ≡ s.members ++ found =
    ap (map entry_held) c.in_ok-append-2.ensures.items
    ∙ map-append entry_held stock.members.items c.in_ok-more_members.more_members.items
    ∙ ap (λ l. l ++ found) is.members in
    let five : AreLinked names (map entry_held c.deref.result.now) (s.members ++ found) (candidates (s.members ++ found))
    (with_objects more s ++ filter_map (member_taken (s.members ++ found)) choices) after.search after.linked.items =
    subst
    (λ (l : List Held). AreLinked names (map entry_held c.deref.result.now) l (candidates l)
    (with_objects more s ++ filter_map (member_taken l) choices) after.search after.linked.items) held_then linked in
    stock-added names rounds more s after found choices goes members_are count there
    (subst (λ (l : List Held). Chooses names (candidates l) (says_of (with_objects more s)) choices) held_then chooses)
    (subst
    (λ (os : List Held). AreLinked names os (s.members ++ found) (candidates (s.members ++ found))
    (with_objects more s ++ filter_map (member_taken (s.members ++ found)) choices) after.search after.linked.items)
    (ap (map entry_held) c.deref.ensures.value) five)
