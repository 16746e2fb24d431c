use Rattle.std.proofs.Common.{◌≤◌, length, arith}
use Rattle.omf_image.proofs.Laying.{laid_on, pages_on}
use Rattle.omf_image.proofs.pages.Pages.lay.Goals as goal

pub loop-laid-preserved : goal.loop-laid-preserved
loop-laid-preserved g c =
    let bs = c.args.bytes.now in
    let i = c.loop-laid.laid in
    let j = c.min-end.result in
    let order : i ≤ j = omega (arith, c.min-end.ensures, c.loop-laid-test.true) in
    let within : j ≤ length bs = omega (arith, c.min-end.ensures) in
    record {
      within = within;
      bytes =
          laid_on c.args.start i j bs c.args.self.now.bytes c.loop-laid.self.bytes c.lay_in_page.new.self.bytes order
          within c.loop-laid.invariant.bytes c.in_ok-lay_in_page.ensures.bytes;
      made =
          pages_on c.args.start i j bs c.args.self.now.made c.loop-laid.self.made c.lay_in_page.new.self.made order
          within c.loop-laid.invariant.made c.in_ok-lay_in_page.ensures.made;
    }
