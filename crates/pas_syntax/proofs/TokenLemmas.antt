-- What holds of the tokens of every text: each says what fits its kind, the last one alone is the end, and they are
-- spelled with no more bytes than the text has.
use Rattle.std.proofs.Common.{◌≡◌, ◌≢◌, ℕ, zero, suc, ◌+◌, ◌≤◌, Bool, true, false, cond, List, [], ◌∷◌, ◌++◌}
use Rattle.std.proofs.Common.{length}
use Rattle.std.proofs.Common.{take, drop, map, Option, Some, None, Result, Ok, Err, refl, sym, subst, arith}
use Rattle.std.specs.Prelude.{◌==◌, ◌&&◌, nat_lt, find, option_map}
use Rattle.std.specs.List.{take_while}
use Rattle.std.specs.Option.{option_map_or}
use Rattle.std.specs.Str.{bytes_eq}
use Rattle.std.specs.Char.{to_ascii_lowercase, is_ascii_digit}
use Rattle.std.proofs.lemmas.List.Sums.{take_while-cons}
use Rattle.std.proofs.lemmas.List.{length-drop, length-append, length-map, length-take}
use Rattle.wb_base.specs.declared.faults.Fault.{Fault}
use Rattle.wb_base.specs.declared.faults.TheConstants.{FILE_LIMIT, BAD_PASCAL_TOKEN, BAD_PASCAL_BYTE, PASCAL_LEFT_OUT}
use Rattle.wb_base.specs.declared.faults.TheConstants.{REAL_NUMBERS}
use Rattle.wb_base.specs.Steps.{followed_by}
use Rattle.pas_tokens.specs.declared.kinds.Kind.{Kind}
use Rattle.pas_tokens.specs.declared.kinds.Kind.TheVariants as k
use Rattle.pas_tokens.specs.declared.limits.TheConstants.{NAME_LIMIT, GREATEST_NUMBER}
use Rattle.pas_tokens.specs.Spellings.{Spelling, kind_in, signs_of_one, signs_of_two, reserved_words}
use Rattle.pas_tokens.specs.Cutting.{Payload, nothing, value, spelling, Cut, Wrong, wrong, named, value_of}
use Rattle.pas_tokens.specs.Cutting.{is_real_behind}
use Rattle.pas_tokens.specs.Cutting.{name_cut, number_cut, is_name_byte, string_by, string_size, sign_cut, token_cut}
use Rattle.pas_tokens.specs.Cutting.{is_pascal_blank, behind_comment}
use Rattle.pas_tokens.specs.Tokens.{Token, Front, passes, holds, shows, comment_front, token_front, front_of}
use Rattle.pas_tokens.specs.Tokens.{begins_comment, within_comment, tokens_by, tokens_from, tokens_of, end_token}
use Rattle.pas_tokens.specs.Tokens.{line_of}
use Rattle.pas_syntax.specs.inner.Prog.{head}
use Rattle.pas_syntax.specs.inner.Places.{Fits, AreTokens, spelled_by, spelled_of}

by_cond : {A : Type 0} (P : A → Type 0) (b : Bool) (x y : A) → P x → P y → P (cond b x y)
by_cond P true x y first second = first
by_cond P false x y first second = second

-- reserved words and signs say nothing more
abbrev is_mark : Kind → Bool
is_mark k.Name = false
is_mark k.Number = false
is_mark k.Text = false
is_mark k.EndOfText = false
is_mark kind = true

mark_fits : (kind : Kind) → is_mark kind ≡ true → Fits kind nothing
mark_fits k.Name e = cc
mark_fits k.Number e = cc
mark_fits k.Text e = cc
mark_fits k.EndOfText e = tt
mark_fits kind e = tt

mark_not_end : (kind : Kind) → is_mark kind ≡ true → kind ≢ k.EndOfText
mark_not_end k.EndOfText e is = cc
mark_not_end kind e is = cc

abbrev all_marks : List Spelling → Bool
all_marks [] = true
all_marks (row ∷ rows) = is_mark row.kind && all_marks rows

both : (a b : Bool) → (a && b) ≡ true → (a ≡ true) × (b ≡ true)
both true b e = (refl, e)
both false b e = absurd cc

abbrev IfMark : Option Kind → Type 0
IfMark None = Unit {0}
IfMark (Some kind) = is_mark kind ≡ true

marks_of : (rows : List Spelling) (bytes : List ℕ) → all_marks rows ≡ true → IfMark (kind_in rows bytes)
marks_of [] bytes e = tt
marks_of (row ∷ rows) bytes e =
    let parts = both (is_mark row.kind) (all_marks rows) e in
    elim (bytes_eq row.spelled bytes) as (λ b. IfMark (option_map (λ (found : Spelling). found.kind)
    (cond b (Some row) (find (λ known. bytes_eq known.spelled bytes) rows))))
    [ true ↦ parts.0 | false ↦ marks_of rows bytes parts.1 ]

-- a token that is cut off, and what is left of so many bytes
pub data IsFineCut (n : ℕ) : Result Cut Wrong → Type 0 where
  fine : (cut : Cut) → Fits cut.kind cut.payload → cut.kind ≢ k.EndOfText
      → length (spelled_by cut.payload) + length cut.rest ≤ n → IsFineCut n (Ok cut)
  unfit : (refusal : Wrong) → IsFineCut n (Err refusal)

abbrev cut_of : Kind → Payload → List ℕ → Cut
cut_of kind payload rest = record { kind = kind; payload = payload; rest = rest }

mark_cut : (n : ℕ) (rest : List ℕ) (kind : Kind) → is_mark kind ≡ true → length rest ≤ n
    → IsFineCut n (Ok (cut_of kind nothing rest))
mark_cut n rest kind is less =
    fine (cut_of kind nothing rest) (mark_fits kind is) (mark_not_end kind is) (omega (arith, less))

count_while : (test : ℕ → Bool) (text : List ℕ)
    → length (take_while test text) + length (drop (length (take_while test text)) text) ≡ length text
count_while test text =
    omega (arith, length-drop (length (take_while test text)) text, while_less test text)
  where
    while_less : (test : ℕ → Bool) (text : List ℕ) → length (take_while test text) ≤ length text
    while_less test [] = omega arith
    while_less test (byte ∷ bytes) =
        let h = while_less test bytes in
        subst (λ run. length run ≤ length (byte ∷ bytes)) (sym (take_while-cons test byte bytes))
        (by_cond (λ run. length run ≤ length (byte ∷ bytes)) (test byte) (byte ∷ take_while test bytes) []
        (omega (arith, h)) (omega arith))

name_fine : (text : List ℕ) → IsFineCut (length text) (name_cut text)
name_fine text =
    let word = take_while is_name_byte text in
    let rest = drop (length word) text in
    let count = count_while is_name_byte text in
    let small : length (map to_ascii_lowercase word) ≡ length word = length-map word to_ascii_lowercase in
    by_cond (IsFineCut (length text)) (nat_lt NAME_LIMIT (length word)) (Err (wrong BAD_PASCAL_TOKEN))
    (Ok (named (map to_ascii_lowercase word) rest)) (unfit (wrong BAD_PASCAL_TOKEN))
    (by_kind (length text) (map to_ascii_lowercase word) rest (kind_in reserved_words (map to_ascii_lowercase word))
    (marks_of reserved_words (map to_ascii_lowercase word) refl) (omega (arith, count, small)))
  where
    by_kind : (n : ℕ) (word rest : List ℕ) (o : Option Kind) → IfMark o → length word + length rest ≤ n
        → IsFineCut n (Ok (option_map_or {U = Cut} (λ kind. cut_of kind nothing rest) o (cut_of k.Name (spelling word)
        rest)))
    by_kind n word rest (Some kind) mark less = mark_cut n rest kind mark (omega (arith, less))
    by_kind n word rest None mark less = fine (cut_of k.Name (spelling word) rest) tt (λ e. cc) less

number_fine : (text : List ℕ) → IsFineCut (length text) (number_cut text)
number_fine text =
    let digits = take_while is_ascii_digit text in
    let rest = drop (length digits) text in
    let found = cut_of k.Number (value (value_of digits)) rest in
    let real : Result Cut Wrong = Err (record { code = PASCAL_LEFT_OUT; which = REAL_NUMBERS }) in
    by_cond (IsFineCut (length text)) (nat_lt GREATEST_NUMBER (value_of digits)) (Err (wrong BAD_PASCAL_TOKEN))
    (cond (is_real_behind rest) real (Ok found)) (unfit (wrong BAD_PASCAL_TOKEN))
    (by_cond (IsFineCut (length text)) (is_real_behind rest) real (Ok found)
    (unfit (record { code = PASCAL_LEFT_OUT; which = REAL_NUMBERS }))
    (fine found tt (λ e. cc) (omega (arith, length-drop (length digits) text))))

string_fine : (byte : ℕ) (bytes : List ℕ) (size : Option ℕ) → IsFineCut (length (byte ∷ bytes)) (string_by bytes size)
string_fine byte bytes None = unfit (wrong BAD_PASCAL_TOKEN)
string_fine byte bytes (Some size) =
    let found = cut_of k.Text (spelling (take size bytes)) (drop (size + 1) bytes) in
    by_cond (IsFineCut (length (byte ∷ bytes))) (size == 0) (Err (wrong BAD_PASCAL_TOKEN)) (Ok found)
    (unfit (wrong BAD_PASCAL_TOKEN))
    (fine found tt (λ e. cc) (omega (arith, length-take size bytes, length-drop (size + 1) bytes)))

sign_fine : (text : List ℕ) → IsFineCut (length text) (sign_cut text)
sign_fine text =
    two (kind_in signs_of_two (take 2 text)) (marks_of signs_of_two (take 2 text) refl)
  where
    one : (o : Option Kind) → IfMark o → IsFineCut (length text) (option_map_or (λ kind. Ok (cut_of kind nothing (drop 1
        text))) o (Err (wrong BAD_PASCAL_BYTE)))
    one (Some kind) mark = mark_cut (length text) (drop 1 text) kind mark (omega (arith, length-drop 1 text))
    one None mark = unfit (wrong BAD_PASCAL_BYTE)

    two : (o : Option Kind) → IfMark o → IsFineCut (length text) (option_map_or (λ kind. Ok (cut_of kind nothing (drop 2
        text))) o (option_map_or (λ kind. Ok (cut_of kind nothing (drop 1 text))) (kind_in signs_of_one (take 1 text))
        (Err (wrong BAD_PASCAL_BYTE))))
    two (Some kind) mark = mark_cut (length text) (drop 2 text) kind mark (omega (arith, length-drop 2 text))
    two None mark = one (kind_in signs_of_one (take 1 text)) (marks_of signs_of_one (take 1 text) refl)

cut_fine : (byte : ℕ) (bytes : List ℕ) → IsFineCut (length (byte ∷ bytes)) (token_cut byte bytes)
cut_fine byte bytes =
    by_cond (IsFineCut (length (byte ∷ bytes))) _ _ _ (name_fine (byte ∷ bytes))
    (by_cond (IsFineCut (length (byte ∷ bytes))) _ _ _ (number_fine (byte ∷ bytes))
    (by_cond (IsFineCut (length (byte ∷ bytes))) _ _ _ (string_fine byte bytes (string_size bytes))
    (sign_fine (byte ∷ bytes))))

-- what stands at the front of so many bytes
data IsFineFront (n : ℕ) : Front → Type 0 where
  passed : (rest : List ℕ) → length rest ≤ n → IsFineFront n (passes rest)
  held : (cut : Cut) → Fits cut.kind cut.payload → cut.kind ≢ k.EndOfText
      → length (spelled_by cut.payload) + length cut.rest ≤ n → IsFineFront n (holds cut)
  shown : (refusal : Wrong) → IsFineFront n (shows refusal)

front_by_cut : (n : ℕ) (cut : Result Cut Wrong) → IsFineCut n cut → IsFineFront n (token_front cut)
front_by_cut n (Ok cut) (fine _ fits not_end less) = held cut fits not_end less
front_by_cut n (Err refusal) h = shown refusal

abbrev IfNoLonger : ℕ → Option (List ℕ) → Type 0
IfNoLonger n None = Unit {0}
IfNoLonger n (Some rest) = length rest ≤ n

no_longer_more : (n : ℕ) (o : Option (List ℕ)) → IfNoLonger n o → IfNoLonger (suc n) o
no_longer_more n None h = tt
no_longer_more n (Some rest) h = omega (arith, h)

comment_no_longer : (text : List ℕ) → IfNoLonger (length text) (behind_comment text)
comment_no_longer [] = tt
comment_no_longer (byte ∷ []) = by_cond (IfNoLonger 1) (byte == 125) (Some []) None (omega arith) tt
comment_no_longer (byte ∷ (next ∷ rest)) =
    by_cond (IfNoLonger (length (byte ∷ (next ∷ rest)))) (byte == 125) (Some (next ∷ rest)) _ (omega arith)
    (by_cond (IfNoLonger (length (byte ∷ (next ∷ rest)))) (byte == 42 && next == 41) (Some rest)
    (behind_comment (next ∷ rest)) (omega arith)
    (no_longer_more (length (next ∷ rest)) (behind_comment (next ∷ rest)) (comment_no_longer (next ∷ rest))))

comment_fine : (n : ℕ) (o : Option (List ℕ)) → IfNoLonger n o → IsFineFront n (comment_front o)
comment_fine n None h = shown (wrong BAD_PASCAL_TOKEN)
comment_fine n (Some rest) h = passed rest h

within_no_longer : (text : List ℕ) → length (within_comment text) ≤ length text
within_no_longer text =
    by_cond (λ rest. length rest ≤ length text) _ (drop 1 text) (drop 2 text) (omega (arith, length-drop 1 text))
    (omega (arith, length-drop 2 text))

raise : (m n : ℕ) (o : Option (List ℕ)) → m ≤ n → IfNoLonger m o → IfNoLonger n o
raise m n None less h = tt
raise m n (Some rest) less h = omega (arith, less, h)

front_fine : (byte : ℕ) (bytes : List ℕ) → IsFineFront (length (byte ∷ bytes)) (front_of byte bytes)
front_fine byte bytes =
    let text = byte ∷ bytes in
    by_cond (IsFineFront (length text)) (is_pascal_blank byte) (passes bytes) _ (passed bytes (omega arith))
    (by_cond (IsFineFront (length text)) (begins_comment text) (comment_front (behind_comment (within_comment text)))
    (token_front (token_cut byte bytes))
    (comment_fine (length text) (behind_comment (within_comment text))
    (raise (length (within_comment text)) (length text) (behind_comment (within_comment text)) (within_no_longer text)
    (comment_no_longer (within_comment text))))
    (front_by_cut (length text) (token_cut byte bytes) (cut_fine byte bytes)))

-- tokens of so many bytes, of which so many are looked at
pub record AreFine (most size : ℕ) (ts : List Token) : Type 0 where
  pub tokens : AreTokens ts
  pub spelled : length (spelled_of ts) ≤ size
  pub few : length ts ≤ suc most

abbrev IfFine : ℕ → ℕ → Result (List Token) Fault → Type 0
IfFine most size (Ok tokens) = AreFine most size tokens
IfFine most size (Err fault) = Unit {0}

one_more_token : (token : Token) (tokens : List Token) → token.kind ≢ k.EndOfText → Fits token.kind token.payload
    → AreTokens tokens → AreTokens (token ∷ tokens)
one_more_token token [] not_end fits h = absurd h
one_more_token token (next ∷ tokens) not_end fits h = (not_end, fits, h)

held_fine : (most size : ℕ) (token : Token) (spelled : ℕ) (rest : Result (List Token) Fault) → token.kind ≢ k.EndOfText
    → Fits token.kind token.payload → length (spelled_by token.payload) + spelled ≤ size → IfFine most spelled rest
    → IfFine (suc most) size (followed_by (token ∷ []) rest)
held_fine most size token spelled (Ok tokens) not_end fits less h =
    record {
      tokens = one_more_token token tokens not_end fits h.tokens;
      spelled = omega (arith, less, h.spelled, length-append (spelled_by token.payload) (spelled_of tokens));
      few = omega (arith, h.few);
    }
held_fine most size token spelled (Err fault) not_end fits less h = tt

more_room : (most n size : ℕ) (r : Result (List Token) Fault) → n ≤ size → IfFine most n r → IfFine (suc most) size r
more_room most n size (Ok tokens) less h =
    record { tokens = h.tokens; spelled = omega (arith, less, h.spelled); few = omega (arith, h.few) }
more_room most n size (Err fault) less h = tt

by_front : (most line : ℕ) (size : ℕ) (front : Front) (further : List ℕ → Result (List Token) Fault)
    → IsFineFront size front → ((rest : List ℕ) → IfFine most (length rest) (further rest))
    → IfFine (suc most) size (tokens_by line front further)
by_front most line size (passes rest) further (passed _ less) h =
    more_room most (length rest) size (further rest) less (h rest)
by_front most line size (holds cut) further (held _ fits not_end less) h =
    held_fine most size (record { kind = cut.kind; payload = cut.payload; line = line }) (length cut.rest)
    (further cut.rest) not_end fits less (h cut.rest)
by_front most line size (shows refusal) further h g = tt

end_fine : (most size : ℕ) (text : List ℕ) → AreFine most size (end_token text ∷ [])
end_fine most size text = record { tokens = (refl, tt); spelled = omega arith; few = omega arith }

fine_from : (most : ℕ) (text rest : List ℕ) → IfFine most (length rest) (tokens_from most text rest)
unfolding tokens_from
fine_from most text [] = end_fine most 0 text
fine_from zero text (byte ∷ bytes) = end_fine zero (length (byte ∷ bytes)) text
fine_from (suc most) text (byte ∷ bytes) =
    by_front most (line_of text (byte ∷ bytes)) (length (byte ∷ bytes)) (front_of byte bytes) (tokens_from most text)
    (front_fine byte bytes) (λ rest. fine_from most text rest)

fine_by : (b : Bool) (text : List ℕ) (fault : Fault) (tokens : List Token) → b ≡ nat_lt FILE_LIMIT (length text)
    → cond b (Err fault) (tokens_from (length text) text text) ≡ Ok tokens → AreFine (length text) (length text) tokens
fine_by true text fault tokens is e = absurd cc
fine_by false text fault tokens is e = subst (IfFine (length text) (length text)) e (fine_from (length text) text text)

-- the tokens of a text
pub fine_tokens : (text : List ℕ) (tokens : List Token) → tokens_of text ≡ Ok tokens
    → AreFine (length text) (length text) tokens
unfolding tokens_of
fine_tokens text tokens e = fine_by (nat_lt FILE_LIMIT (length text)) text _ tokens refl e

-- the end has no spelling
pub end_spelled : (ts : List Token) → AreTokens ts → (head ts).kind ≡ k.EndOfText → spelled_of ts ≡ []
end_spelled [] h is = refl
end_spelled (t ∷ []) h is = end_says t.kind t.payload is h.1
  where
    end_says : (kind : Kind) (payload : Payload) → kind ≡ k.EndOfText → Fits kind payload
        → spelled_by payload ++ [] ≡ []
    end_says k.EndOfText nothing is fits = refl
    end_says k.EndOfText payload is fits = absurd fits
    end_says kind payload is fits = absurd cc
end_spelled (t ∷ (next ∷ ts)) h is = absurd (h.0 is)
