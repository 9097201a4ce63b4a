-- `frame::read_frame` meets its contract.
-- Assumes nothing.
use Prim.Native.Nat.{ℕ, ◌/◌, ◌^◌}
use mathlib.Core.Path.{◌≡◌, sym, ap, ◌∙◌}
use mathlib.Core.List.{List}
use lib.ListN.{take}
use Rattle.bits.specs.Bits.{bits, number}
use Rattle.codewords.specs.CodeWords.{state_answer, state_reading}
use Rattle.codewords.proofs.Answers.{legal-is, illegal-is}
use Rattle.format.specs.Frame.{min_frame, sync_word, state_in}
use Rattle.format.specs.Reading.{entry_of}
use Rattle.format.specs.Next.{read_next}
use Rattle.format.proofs.Questions.{front-bits, sync-number, state-front, time_answer, no-8, yes-8, told-8, no_9}
use Rattle.frame.proofs.read_frame.Goals as goal

pub read-requires : goal.read-requires
read-requires c =
    let f : List ℕ = c.args.frame.now in
    let front : take min_frame f ≡ bits min_frame c.args.word = front-bits f c.args.word c.requires.0 c.requires.1 c.requires.2 in
    front

pub returns-then-sync-eq-MESSAGE_SYNC : goal.returns-then-sync-eq-MESSAGE_SYNC
returns-then-sync-eq-MESSAGE_SYNC c =
    let f : List ℕ = c.args.frame.now in
    let sync-is : number (take 13 f) ≡ c.args.word / 2 ^ 46 = sync-number f c.args.word c.requires.0 c.requires.1 c.requires.2 in
    rw (told-8 c.args.due c.args.alone f c.requires.0 c.requires.1 (sync-is ∙ c.if-sync-eq-MESSAGE_SYNC.true)) c.read.ensures

pub returns-then-sync-ne-SYNC : goal.returns-then-sync-ne-SYNC
returns-then-sync-ne-SYNC c =
    let f : List ℕ = c.args.frame.now in
    let sync-is : number (take 13 f) ≡ c.args.word / 2 ^ 46 = sync-number f c.args.word c.requires.0 c.requires.1 c.requires.2 in
    sym (no-8 c.args.due c.args.alone f c.requires.0 c.requires.1 (rw sync-is c.if-sync-ne-SYNC.true) (rw sync-is c.if-sync-eq-MESSAGE_SYNC.false))

pub read_fields-requires : goal.read_fields-requires
read_fields-requires c =
    let f : List ℕ = c.args.frame.now in
    let front : take min_frame f ≡ bits min_frame c.args.word = front-bits f c.args.word c.requires.0 c.requires.1 c.requires.2 in
    let state-is : state_answer c.read_state.result ≡ state_reading (number (state_in f)) = c.read_state.ensures
    ∙ ap state_reading (c.state_bits.ensures ∙ ap (λ (l : List ℕ). number (state_in l)) (sym front) ∙ ap number (state-front f)) in
    (front, legal-is c.in-Some.state _ (ap state_answer (sym c.in-Some.is) ∙ state-is))

pub returns : goal.returns
returns c =
    let f : List ℕ = c.args.frame.now in
    let sync-is : number (take 13 f) ≡ c.args.word / 2 ^ 46 = sync-number f c.args.word c.requires.0 c.requires.1 c.requires.2 in
    let sync-right : number (take 13 f) ≡ sync_word = sync-is ∙ c.if-sync-ne-SYNC.false in
    let time-is : read_next c.args.due c.args.alone f ≡ time_answer c.args.due c.args.alone f (entry_of f) = yes-8 c.args.due c.args.alone f c.requires.0 c.requires.1 sync-right in
    rw time-is c.read_fields.ensures

pub returns-in_default : goal.returns-in_default
returns-in_default c =
    let f : List ℕ = c.args.frame.now in
    let front : take min_frame f ≡ bits min_frame c.args.word = front-bits f c.args.word c.requires.0 c.requires.1 c.requires.2 in
    let sync-is : number (take 13 f) ≡ c.args.word / 2 ^ 46 = sync-number f c.args.word c.requires.0 c.requires.1 c.requires.2 in
    let sync-right : number (take 13 f) ≡ sync_word = sync-is ∙ c.if-sync-ne-SYNC.false in
    let state-is : state_answer c.read_state.result ≡ state_reading (number (state_in f)) = c.read_state.ensures
    ∙ ap state_reading (c.state_bits.ensures ∙ ap (λ (l : List ℕ). number (state_in l)) (sym front) ∙ ap number (state-front f)) in
    let time-is : read_next c.args.due c.args.alone f ≡ time_answer c.args.due c.args.alone f (entry_of f) = yes-8 c.args.due c.args.alone f c.requires.0 c.requires.1 sync-right in
    sym (time-is ∙ no_9 c.args.due c.args.alone f _ (illegal-is _ (ap state_answer (sym c.in_default.is) ∙ state-is)))
