-- `page::put_page` meets its contract.
-- Assumes nothing.
use native.Mathlib.Omega.{arith}
use Rattle.page.specs.Rest.{page_entries}
use Rattle.page.proofs.Lines.{put-page-made}
use Rattle.page.proofs.Pages.{page-entries}
use Rattle.page.proofs.put_page.Goals as goal

pub returns : goal.returns
returns c =
    let p = c.put_parts in
    let e = page-entries c.args.due c.args.bits.now c.requires.0 in (
      p.ensures.0,
      put-page-made c.args.number (page_entries c.args.due c.args.bits.now) c.args.out.now c.put_head.new.out p.new.out
          (omega (arith, c.ranges.number)) e.0 e.1 c.requires.1 c.put_head.ensures p.ensures.1,
    )
