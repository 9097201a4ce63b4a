-- The reply of printing pages as the answer of the library (document 02, 8, "A page for the shift book").
-- Assumes nothing.
use Rattle.std.specs.Prelude.{ℕ, List}
use Rattle.page_rules.specs.Printing.{Printed}
use Rattle.wwvb.specs.declared.pages.PrintReply.{PrintReply}

-- the refusal or 0, the number of bytes, and the buffer after the call
abbrev pub print_reply : PrintReply → List ℕ → Printed
print_reply r buffer = record { refusal = r.refusal; bytes = r.bytes; buffer = buffer }
