-- The tokens of a text, front by front.
use Rattle.std.proofs.Common.{◌≡◌, ◌∙◌, ℕ, zero, suc, ◌+◌, ◌<◌, ◌≤◌, List, [], ◌∷◌, length, drop, drop-cons, get_or}
use Rattle.std.proofs.Common.{cond, Option, Some, None, IfOk, Result, Ok, Err, refl, sym, ap, arith}
use Rattle.std.proofs.Math.ListN.{drop_of_length-le}
use Rattle.std.proofs.lemmas.List.{drop-drop}
use Rattle.wb_base.specs.declared.faults.Fault.{Fault}
use Rattle.wb_base.specs.Steps.{followed_by}
use Rattle.wb_base.specs.FaultAt.{limit_passed}
use Rattle.wb_base.specs.declared.faults.TheConstants.{FILE_LIMIT, LIMIT_FILE_BYTES}
use Rattle.wb_base.specs.declared.places.FileTag.TheVariants.{Pas}
use Rattle.std.proofs.lemmas.Bool.{lt-ltb, le-ltb}
use Rattle.pas_tokens.specs.declared.cursor.Point.{Point}
use Rattle.pas_tokens.specs.declared.tokens.Token.{Token as TokenRead}
use Rattle.pas_tokens.specs.declared.cutting.Cut.{Cut as CutRead}
use Rattle.pas_tokens.specs.declared.cutting.Wrong.{Wrong as WrongRead}
use Rattle.pas_tokens.specs.declared.fronts.Front.{Front as FrontRead}
use Rattle.pas_tokens.specs.declared.fronts.Front.TheVariants as front
use Rattle.pas_tokens.specs.inner.CodeCuts.{front_by, cut_in, wrong_by, payload_by, token_by}
use Rattle.pas_tokens.specs.Tokens.{Token, Front, passes, holds, shows, front_of, tokens_by, tokens_from, line_of}
use Rattle.pas_tokens.specs.Tokens.{fault_in, end_token, tokens_of}
use Rattle.pas_tokens.specs.inner.Places.{tokens_on, tokens_at, tokens_behind, known, IsRead, Follows}
use Rattle.pas_tokens.proofs.FrontLemmas.{IsShorter, passed, held, front_shorter}

-- two ways to go on that are the same for short rests
same_by : (line n : ℕ) (front : Front) (one other : List ℕ → Result (List Token) Fault) → IsShorter n front
    → ((rest : List ℕ) → length rest ≤ n → one rest ≡ other rest)
    → tokens_by line front one ≡ tokens_by line front other
same_by line n (passes rest) one other (passed _ shorter) same = same rest shorter
same_by line n (holds cut) one other (held _ shorter) same =
    ap (followed_by (record { kind = cut.kind; payload = cut.payload; line = line } ∷ [])) (same cut.rest shorter)
same_by line n (shows refusal) one other shorter same = refl

-- a bound that is large enough changes nothing
enough : (text rest : List ℕ) (most other : ℕ) → length rest ≤ most → length rest ≤ other
    → tokens_from most text rest ≡ tokens_from other text rest
unfolding tokens_from
enough text [] zero zero fits fits_too = refl
enough text [] zero (suc other) fits fits_too = refl
enough text [] (suc most) zero fits fits_too = refl
enough text [] (suc most) (suc other) fits fits_too = refl
enough text (byte ∷ bytes) zero other fits fits_too = absurd (omega arith)
enough text (byte ∷ bytes) (suc most) zero fits fits_too = absurd (omega arith)
enough text (byte ∷ bytes) (suc most) (suc other) fits fits_too =
    same_by (line_of text (byte ∷ bytes)) (length bytes) (front_of byte bytes) (tokens_from most text)
    (tokens_from other text) (front_shorter byte bytes)
    (λ rest within. enough text rest most other (omega arith) (omega arith))

-- the tokens of a rest by its front
pub tokens_step : (text : List ℕ) (byte : ℕ) (bytes : List ℕ)
    → tokens_on text (byte ∷ bytes)
    ≡ tokens_by (line_of text (byte ∷ bytes)) (front_of byte bytes) (tokens_on text)
unfolding tokens_on tokens_from
tokens_step text byte bytes =
    same_by (line_of text (byte ∷ bytes)) (length bytes) (front_of byte bytes) (tokens_from (length bytes) text)
    (tokens_on text) (front_shorter byte bytes)
    (λ rest within. enough text rest (length bytes) (length rest) within (omega arith))

-- the tokens from a place on that is not the end, by the front that was read there
step_at : (text slice : List ℕ) (before : ℕ) (front : FrontRead) → before < length text
    → slice ≡ drop before text
    → ((byte : ℕ) (bytes : List ℕ) → slice ≡ byte ∷ bytes → front_by slice front ≡ front_of byte bytes)
    → tokens_on text (drop before text)
    ≡ tokens_by (line_of text (drop before text)) (front_by slice front) (tokens_on text)
step_at text slice before front within is read =
    let byte = get_or text before 0 in
    let bytes = drop (suc before) text in
    let cons : drop before text ≡ byte ∷ bytes = drop-cons text before 0 within in
    ap (tokens_on text) cons ∙ tokens_step text byte bytes
    ∙ ap (λ f. tokens_by (line_of text (byte ∷ bytes)) f (tokens_on text)) (sym (read byte bytes (is ∙ cons)))
    ∙ ap (λ r. tokens_by (line_of text r) (front_by slice front) (tokens_on text)) (sym cons)

-- the rest behind so many bytes of a slice
behind_slice : (text slice : List ℕ) (before size : ℕ) → slice ≡ drop before text
    → drop size slice ≡ drop (before + size) text
behind_slice text slice before size is = ap (drop size) is ∙ drop-drop size before text

-- what is passed adds no token
pub step_passes : (text slice : List ℕ) (before size : ℕ) → before < length text → slice ≡ drop before text
    → ((byte : ℕ) (bytes : List ℕ) → slice ≡ byte ∷ bytes → passes (drop size slice) ≡ front_of byte bytes)
    → tokens_on text (drop (before + size) text) ≡ tokens_on text (drop before text)
step_passes text slice before size within is read =
    ap (tokens_on text) (sym (behind_slice text slice before size is))
    ∙ sym (step_at text slice before (front.Passes size) within is read)

-- a token comes before those behind it
pub step_holds : (text slice : List ℕ) (before line : ℕ) (cut : CutRead) → before < length text
    → slice ≡ drop before text → line ≡ line_of text (drop before text)
    → ((byte : ℕ) (bytes : List ℕ) → slice ≡ byte ∷ bytes → holds (cut_in slice cut) ≡ front_of byte bytes)
    → tokens_on text (drop before text)
    ≡ followed_by (record { kind = cut.kind; payload = payload_by cut.kind cut.payload; line = line } ∷ [])
    (tokens_on text (drop (before + cut.size) text))
step_holds text slice before line cut within is in_line read =
    step_at text slice before (front.Holds cut) within is read
    ∙ ap (λ l. followed_by (record { kind = cut.kind; payload = payload_by cut.kind cut.payload; line = l } ∷ [])
    (tokens_on text (drop cut.size slice))) (sym in_line)
    ∙ ap (λ r. followed_by (record { kind = cut.kind; payload = payload_by cut.kind cut.payload; line = line } ∷ [])
    (tokens_on text r)) (behind_slice text slice before cut.size is)

-- a fault ends the text
pub step_shows : (text slice : List ℕ) (before line : ℕ) (refusal : WrongRead) → before < length text
    → slice ≡ drop before text → line ≡ line_of text (drop before text)
    → ((byte : ℕ) (bytes : List ℕ) → slice ≡ byte ∷ bytes → shows (wrong_by refusal) ≡ front_of byte bytes)
    → tokens_on text (drop before text) ≡ Err (fault_in line (wrong_by refusal))
step_shows text slice before line refusal within is in_line read =
    step_at text slice before (front.Shows refusal) within is read
    ∙ ap (λ l. Err (fault_in l (wrong_by refusal))) (sym in_line)

-- at the end of the text only its end comes
pub step_end : (text : List ℕ) (before : ℕ) → length text ≤ before
    → tokens_on text (drop before text) ≡ Ok (end_token text ∷ [])
unfolding tokens_on tokens_from
step_end text before past = ap (tokens_on text) (drop_of_length-le text past)

-- the tokens of a text that is not too long are those from its start on
pub tokens_of-short : (text : List ℕ) → length text ≤ FILE_LIMIT → tokens_of text ≡ tokens_on text (drop 0 text)
unfolding tokens_of tokens_on
tokens_of-short text short =
    ap (λ b. cond b (Err (limit_passed LIMIT_FILE_BYTES (record { file = Pas; line = 0 })))
    (tokens_from (length text) text text))
    (le-ltb FILE_LIMIT (length text) short)

-- and else there is a fault
pub tokens_of-long : (text : List ℕ) → FILE_LIMIT < length text
    → tokens_of text ≡ Err (limit_passed LIMIT_FILE_BYTES (record { file = Pas; line = 0 }))
unfolding tokens_of
tokens_of-long text long =
    ap (λ b. cond b (Err (limit_passed LIMIT_FILE_BYTES (record { file = Pas; line = 0 })))
    (tokens_from (length text) text text))
    (lt-ltb FILE_LIMIT (length text) long)

-- where all tokens are read, they are the first and those behind it
pub tokens_read : (text : List ℕ) (point : Point) (token : TokenRead) (behind : Option Point) → IsRead text point
    → Follows text point token behind → tokens_at text point ≡ Ok (token_by token ∷ tokens_behind text behind)
tokens_read text point token None read follows = follows
tokens_read text point token (Some behind) read follows =
    by_rest (tokens_at text behind) read.1 follows.tokens
  where
    by_rest : (rest : Result (List Token) Fault) → tokens_at text point ≡ Ok read.0
        → tokens_at text point ≡ followed_by (token_by token ∷ []) rest
        → tokens_at text point ≡ Ok (token_by token ∷ known rest)
    by_rest (Ok tokens) whole is = is
    by_rest (Err fault) whole is = cc

-- what holds of an answer, from what else does
pub if_ok : {A E : Type 0} (P Q : A → Type 0) (answer : Result A E) → ((a : A) → P a → Q a) → IfOk answer P
    → IfOk answer Q
if_ok P Q (Ok a) from fact = from a fact
if_ok P Q (Err e) from fact = fact
