-- `listing::list` meets its contract.
-- Assumes nothing.
use Prim.Native.Nat.{ℕ}
use mathlib.Core.Path.{sym, ap, ◌∙◌}
use Rattle.listing.specs.Listing.{refused_text}
use Rattle.line.specs.Line.{line_in}
use Rattle.listing.specs.Answer.{put_into}
use Rattle.listing.proofs.Answers.{illegal-listing, legal-listing}
use Rattle.listing.proofs.list.Goals as goal

pub returns-in-None : goal.returns-in-None
returns-in-None c =
    let i = c.args.input.now in
    c.put_refused.ensures
    ∙ ap (λ (n : ℕ). put_into c.args.out.now (refused_text n)) c.from.ensures
    ∙ ap (put_into _) (illegal-listing i (sym (c.read_line.ensures ∙ ap line_in c.first_line.ensures) ∙ c.in-None.is))

pub returns-in-Some : goal.returns-in-Some
returns-in-Some c =
    let i = c.args.input.now in
    c.put_answer.ensures
    ∙ ap (put_into _) (legal-listing i _ (sym (c.read_line.ensures ∙ ap line_in c.first_line.ensures) ∙ c.in-Some.is))
