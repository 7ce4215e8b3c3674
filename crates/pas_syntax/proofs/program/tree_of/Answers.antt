use Rattle.std.proofs.Common.{◌≡◌, sym, ap, subst, ◌∙◌, arith, ℕ, ◌<◌, List, [], ◌∷◌, length, take, drop}
use Rattle.std.proofs.Common.{Result, Ok, Err}
use Rattle.wb_base.specs.declared.faults.Fault.{Fault}
use Rattle.pas_tokens.specs.Tokens.{Token, fault_in}
use Rattle.pas_syntax.specs.Parse.{Means, left_out, misplaced_by}
use Rattle.pas_syntax.specs.Regions.{part_behind}
use Rattle.pas_syntax.specs.ProgramViews.{program_in}
use Rattle.pas_syntax.specs.inner.Prog.{head}
use Rattle.pas_syntax.specs.inner.Places.{AreTokens, Parses}
use Rattle.pas_syntax.specs.inner.DeclarationReaders.{program}
use Rattle.pas_syntax.proofs.TokenLemmas.{fine_tokens}
use Rattle.pas_syntax.proofs.ParseSteps.{means, is_left_out_at, is_misplaced_at, text_within}
use Rattle.pas_syntax.proofs.program.tree_of.Goals as goal

pub new-reader-requires-clause-tokens : goal.new-reader-requires-clause-tokens
new-reader-requires-clause-tokens c =
    (fine_tokens c.args.text.now c.in_ok-cursor.cursor c.in_ok-cursor.ensures.ok).tokens

pub new-reader-requires-clause-spelled : goal.new-reader-requires-clause-spelled
new-reader-requires-clause-spelled c = c.requires c.in_ok-cursor.cursor c.in_ok-cursor.ensures.ok

pub new-reader-requires-clause-short : goal.new-reader-requires-clause-short
new-reader-requires-clause-short c =
    let tokens = c.in_ok-cursor.cursor in
    let fine = fine_tokens c.args.text.now tokens c.in_ok-cursor.ensures.ok in
    omega (
      arith,
      ap length (c.requires tokens c.in_ok-cursor.ensures.ok),
      fine.spelled,
      text_within c.args.text.now tokens c.in_ok-cursor.ensures.ok,
    )

pub new-reader-requires-clause-few : goal.new-reader-requires-clause-few
new-reader-requires-clause-few c =
    let tokens = c.in_ok-cursor.cursor in
    omega (
      arith,
      (fine_tokens c.args.text.now tokens c.in_ok-cursor.ensures.ok).few,
      text_within c.args.text.now tokens c.in_ok-cursor.ensures.ok,
    )

pub returns-in-Ok-clause-ok : goal.returns-in-Ok-clause-ok
returns-in-Ok-clause-ok c =
    let text = c.args.text.now in
    let tokens = c.in_ok-cursor.cursor in
    let at_start = c.new-reader.ensures in
    let same = sym (ap (λ place. place.tokens) at_start) in
    subst (λ spellings. Means text (program_in spellings c.in-Ok.tree)) (ap (λ place. place.spellings) at_start)
    (means text (c.in_ok-cursor.ensures.ok ∙ ap (λ ts. Ok ts) same)
    (subst AreTokens same (fine_tokens text tokens c.in_ok-cursor.ensures.ok).tokens) c.in-Ok.ensures)

pub returns-in-Err-LeftOut-clause-fault : goal.returns-in-Err-LeftOut-clause-fault
returns-in-Err-LeftOut-clause-fault c =
    let same = sym (ap (λ place. place.tokens) c.new-reader.ensures) in
    let read = subst (λ why. Parses program program_in c.new-reader.result (Err why) c.program_tree.new.reader)
    c.in-Err-LeftOut.field-0-is c.in-Err-LeftOut.ensures in
    is_left_out_at {new = c.program_tree.new.reader} (c.in_ok-cursor.ensures.ok ∙ ap (λ ts. Ok ts) same)
    c.line.ensures.tokens read
    (c.left_out.ensures ∙ ap (λ line. fault_in line (left_out c.in-Err-LeftOut.part)) c.line.ensures.line)

-- the same text, cut again
one_row : (tokens again : List Token) → ◌≡◌ {A = Result (List Token) Fault} (Ok tokens) (Ok again) → tokens ≡ again
one_row tokens again e = cc

some_token : (ts : List Token) → AreTokens ts → 0 < length ts
some_token [] tokens = absurd tokens
some_token (t ∷ ts) tokens = omega arith

pub part_behind-part-requires-clause-within : goal.part_behind-part-requires-clause-within
part_behind-part-requires-clause-within c =
    let tokens = c.in_ok-cursor.cursor in
    let again = c.in_ok-again-in-Err-Misplaced.again in
    let at_start = c.new-reader.ensures in
    let same : tokens ≡ again = one_row tokens again (sym c.in_ok-cursor.ensures.ok
    ∙ c.in_ok-again-in-Err-Misplaced.ensures.ok) in
    omega (
      arith,
      c.taken.ensures,
      c.program_tree.ensures.taken,
      ap (λ place. place.taken) at_start,
      ap (λ place. length place.tokens) at_start,
      ap length same,
      some_token c.program_tree.new.reader.tokens
          c.line-line.ensures.tokens,
    )

pub part_behind-part-requires-clause-few : goal.part_behind-part-requires-clause-few
part_behind-part-requires-clause-few c =
    let tokens = c.in_ok-again-in-Err-Misplaced.again in
    omega (
      arith,
      (fine_tokens c.args.text.now tokens c.in_ok-again-in-Err-Misplaced.ensures.ok).few,
      text_within c.args.text.now tokens c.in_ok-again-in-Err-Misplaced.ensures.ok,
    )

pub returns-in_ok-again-in-Err-Misplaced-clause-fault : goal.returns-in_ok-again-in-Err-Misplaced-clause-fault
returns-in_ok-again-in-Err-Misplaced-clause-fault c =
    let new = c.program_tree.new.reader in
    let again = c.in_ok-again-in-Err-Misplaced.again in
    let at_start = c.new-reader.ensures in
    let same = sym (ap (λ place. place.tokens) at_start) in
    let cut = c.in_ok-cursor.ensures.ok ∙ ap (λ ts. Ok ts) same in
    let tokens = c.new-reader.result.tokens in
    let row : again ≡ tokens = one_row again tokens (sym c.in_ok-again-in-Err-Misplaced.ensures.ok ∙ cut) in
    let read = subst (λ why. Parses program program_in c.new-reader.result (Err why) new) c.in-Err-Misplaced.field-0-is
    c.in-Err-Misplaced.ensures in
    let shows : ℕ → ℕ → List Token → Fault
    = λ line taken ts. fault_in line (misplaced_by (part_behind (take taken ts) (head (drop taken ts)).kind)) in
    is_misplaced_at {new = new} cut (ap (λ place. place.taken) at_start) c.line-line.ensures.tokens read
    (c.misplaced.ensures
    ∙ ap (λ part. fault_in c.line-line.result (misplaced_by part)) c.part_behind-part.ensures
    ∙ ap (λ line. shows line c.taken.result again) c.line-line.ensures.line
    ∙ ap (λ taken. shows (head new.tokens).line taken again) c.taken.ensures
    ∙ ap (λ ts. shows (head new.tokens).line new.taken ts) row)
