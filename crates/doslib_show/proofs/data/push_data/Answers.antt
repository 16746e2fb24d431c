use Rattle.std.proofs.Common.{◌<◌, ◌++◌, length, refl, rules}
use Rattle.doslib_show.specs.Data.{data_rows}
use Rattle.doslib_show.proofs.Sixteen.{place-more, rows-behind, rows-done, rows-first}
use Rattle.doslib_show.proofs.data.push_data.Goals as goal

pub loop-rest-init : goal.loop-rest-init
loop-rest-init g c = rw c.from-next.ensures (record {
  place = refl;
  left = rows-first c.args.lines.now.items c.args.place c.args.bytes.now;
})

pub loop-rest-preserved : goal.loop-rest-preserved
loop-rest-preserved g c =
    let h = c.loop-rest.invariant in
    let some : 0 < length c.loop-rest.rest.now = search rules in
    record {
      place = place-more _ c.loop-rest.next c.min-len.result c.loop-rest.rest.now h.place c.min-len.ensures;
      left =
          rows-behind (c.args.lines.now.items ++ data_rows c.args.place c.args.bytes.now) c.loop-rest.lines.items
          c.push_byte_row.new.lines.items c.loop-rest.next c.min-len.result
          c.loop-rest.rest.now h.left some c.min-len.ensures c.in_ok-push_byte_row.ensures;
    }

pub returns : goal.returns
returns g c =
    rows-done _ c.loop-rest.lines.items c.loop-rest.next c.loop-rest.rest.now c.loop-rest.invariant.left (search rules)
