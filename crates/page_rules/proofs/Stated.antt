-- Every statement of specs with its proof: where a proof is missing, this module is not proved.
-- Assumes nothing.
use Rattle.page_rules.specs.Theorems.{EntriesFit, SpaceAside, LineSize, PagesLaidOut, EntryLines, PagesApart}
use Rattle.page_rules.specs.Theorems.{PrintAnswers, PrintDone, PrintUndone, NothingPrinted, PagesSent}
use Rattle.page_rules.specs.Theorems.{ExampleLine, ExampleLeap, ExampleShort, ExampleFirst, ExampleMessage, ExamplePage}
use Rattle.page_rules.proofs.Reading.{space-aside, all-answers, nothing_read_lem}
use Rattle.page_rules.proofs.Entries.{entries_fit}
use Rattle.page_rules.proofs.Lines.{line-size}
use Rattle.page_rules.proofs.Pages.{pages-laid-out}
use Rattle.page_rules.proofs.Places.{entry-lines}
use Rattle.page_rules.proofs.Apart.{pages-apart}
use Rattle.page_rules.proofs.Answers.{print-answers, print-done, print-undone, nothing-printed}
use Rattle.page_rules.proofs.Sent.{pages-sent}
use Rattle.page_rules.proofs.Examples.{example-line, example-leap, example-short, example-first, example-message, example-page}

entries-fit' : EntriesFit
entries-fit' = entries_fit

space-aside' : SpaceAside
space-aside' = space-aside

line-size' : LineSize
line-size' = line-size entries_fit

pages-laid-out' : PagesLaidOut
pages-laid-out' = pages-laid-out entries_fit

entry-lines' : EntryLines
entry-lines' = entry-lines entries_fit

pages-apart' : PagesApart
pages-apart' = pages-apart entries_fit

print-answers' : PrintAnswers
print-answers' = print-answers all-answers

print-done' : PrintDone
print-done' = print-done entries_fit

print-undone' : PrintUndone
print-undone' = print-undone

nothing-printed' : NothingPrinted
nothing-printed' = nothing-printed entries_fit nothing_read_lem

pages-sent' : PagesSent
pages-sent' = pages-sent

example-line' : ExampleLine
example-line' = example-line

example-leap' : ExampleLeap
example-leap' = example-leap

example-short' : ExampleShort
example-short' = example-short

example-first' : ExampleFirst
example-first' = example-first

example-message' : ExampleMessage
example-message' = example-message

example-page' : ExamplePage
example-page' = example-page
