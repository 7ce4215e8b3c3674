-- How the lines of a text go on from a place in it.
use Rattle.std.proofs.Common.{◌≡◌, ℕ, ◌+◌, ◌-◌, ◌<◌, ◌≤◌, List, [], ◌∷◌, ◌++◌, length, take}
use Rattle.std.proofs.Common.{drop, None, Some, find, refl, sym, ap, ◌∙◌, arith, cond, not, subst, Ok}
use Rattle.std.proofs.Common.{Err, ⊎_elim}
use Rattle.std.proofs.lemmas.List.{take-take, length-take-le, drop-drop, length-drop, length-take, drop_all}
use Rattle.std.proofs.lemmas.List.{append-nil, append_assoc, map_push, length_push, take_rest}
use Rattle.std.proofs.lemmas.List.Elements.{All-nil, All-push}
use Rattle.std.proofs.lemmas.Bool.Decides.{nat_tests}
use Rattle.std.proofs.lemmas.List.Sums.{prefix_len-le-length}
use Rattle.std.specs.List.{position_or_len, suffix_len, slice_range}
use Rattle.std.specs.Option.{option_or}
use Rattle.std.proofs.lemmas.List.Folds.{find-append}
use Rattle.std.proofs.lemmas.Bool.{lt-ltb, le-ltb, cases_lt}
use Rattle.wb_base.specs.declared.places.FileTag.{FileTag}
use Rattle.change_merge.specs.Lines.{Line, without_white_at_end, lines_numbered_from, all_lines}
use Rattle.change_merge.specs.Lines.{is_too_long, file_too_long, lines_of, lines_unless_too_long}
use Rattle.wb_base.specs.Bytes.{is_white}
use Rattle.wb_base.specs.Pieces.{pieces_of, ends_line}
use Rattle.wb_base.specs.FaultAt.{fault_at}
use Rattle.wb_base.proofs.PiecesLemmas.{pieces_of-first}
use Rattle.change_merge.specs.inner.Spans.{line_at, lines_at, IsWithin, AllInside}
use Rattle.change_merge.specs.declared.spans.Span.{Span}
use Rattle.wb_base.specs.declared.faults.TheConstants.{FILE_LIMIT, LINE_TOO_LONG}
use Rattle.change_merge.specs.declared.spans.TheConstants.{LINE_LIMIT}

-- what is left of a prefix of the bytes without the white space at its end is a prefix of them
prefix_without_white : (k size : ℕ) (bytes : List ℕ) → size ≡ length (without_white_at_end (take k bytes))
    → without_white_at_end (take k bytes) ≡ take size bytes
prefix_without_white k size bytes is =
    let le : length (take k bytes) - suffix_len is_white (take k bytes) ≤ k = omega (arith, length-take k bytes) in
    let le2 : length (take k bytes) - suffix_len is_white (take k bytes) ≤ length (take k bytes) = omega arith in
    let same : size ≡ length (take k bytes) - suffix_len is_white (take k bytes) =
    is ∙ length-take-le (length (take k bytes) - suffix_len is_white (take k bytes)) (take k bytes) le2 in
    take-take (length (take k bytes) - suffix_len is_white (take k bytes)) k bytes le
    ∙ ap (λ n. take n bytes) (sym same)

-- the lines from a place on are the line there and those after its end
pub lines_from_here :
    (bytes : List ℕ) (start k size number : ℕ) (tag : FileTag) → start < length bytes
    → k ≡ position_or_len ends_line (drop start bytes)
    → size ≡ length (without_white_at_end (take k (drop start bytes)))
    → lines_numbered_from number tag (pieces_of (drop start bytes))
    ≡ line_at bytes (record { place = record { file = tag; line = number }; start = start; end = start + size })
    ∷ lines_numbered_from (number + 1) tag (pieces_of (drop (start + (k + 1)) bytes))
lines_from_here bytes start k size number tag in_text is_k is_size =
    let some : 0 < length (drop start bytes) = omega (arith, length-drop start bytes) in
    let same_size : start + size - start ≡ size = omega arith in
    let same_bytes : without_white_at_end (take (position_or_len ends_line (drop start bytes)) (drop start bytes))
    ≡ take (start + size - start) (drop start bytes) =
    prefix_without_white (position_or_len ends_line (drop start bytes)) size (drop start bytes) (rw is_k at is_size)
    ∙ ap (λ n. take n (drop start bytes)) (sym same_size) in
    let rest : drop (position_or_len ends_line (drop start bytes) + 1) (drop start bytes) ≡ drop
    (start + (k + 1)) bytes =
    drop-drop (position_or_len ends_line (drop start bytes) + 1) start bytes ∙ ap (λ n. drop n bytes) (omega arith) in
    let first = pieces_of-first (drop start bytes) some in
    let here : Line = line_at bytes
    (record { place = record { file = tag; line = number }; start = start; end = start + size }) in
    let here_is : record {
      place = record { file = tag; line = number };
      bytes = without_white_at_end
          (take (position_or_len ends_line (drop start bytes)) (drop start bytes));
    } ≡ here = ap
    (λ bs. record { place = record { file = tag; line = number }; bytes = bs }) same_bytes in
    ap (lines_numbered_from number tag) first
    ∙ ap (λ line. line ∷ lines_numbered_from (number + 1) tag
    (pieces_of (drop (position_or_len ends_line (drop start bytes) + 1) (drop start bytes)))) here_is
    ∙ ap (λ bs. here ∷ lines_numbered_from (number + 1) tag (pieces_of bs)) rest

-- a text of too many bytes has that fault
pub lines_of-long_file : (tag : FileTag) (text : List ℕ) → FILE_LIMIT < length text
    → lines_of tag text ≡ Err (file_too_long tag)
unfolding lines_of
lines_of-long_file tag text long = grind (arith, nat_tests)

-- a text of no more than the most bytes is judged by its lines
lines_of-by_lines : (tag : FileTag) (text : List ℕ) → length text ≤ FILE_LIMIT
    → lines_of tag text ≡ lines_unless_too_long (all_lines tag text) (find is_too_long (all_lines tag text))
unfolding lines_of
lines_of-by_lines tag text fits =
    ap (λ b. cond b (Err (file_too_long tag))
    (lines_unless_too_long (all_lines tag text) (find is_too_long (all_lines tag text))))
    (le-ltb FILE_LIMIT (length text) fits)

-- a text whose first too long line this is has its fault
pub lines_of-long_line :
    (tag : FileTag) (text : List ℕ) (before after : List Line) (line : Line) → length text ≤ FILE_LIMIT
    → all_lines tag text ≡ before ++ line ∷ after → find is_too_long before ≡ None → LINE_LIMIT < length line.bytes
    → lines_of tag text ≡ Err (fault_at LINE_TOO_LONG line.place)
lines_of-long_line tag text before after line fits are short long =
    let found : find is_too_long (all_lines tag text) ≡ Some line =
    ap (find is_too_long) are ∙ find-append is_too_long before (line ∷ after)
    ∙ ap (λ o. option_or o (find is_too_long (line ∷ after))) short
    ∙ ap (λ b. cond b (Some line) (find is_too_long after)) (lt-ltb LINE_LIMIT (length line.bytes) long) in
    lines_of-by_lines tag text fits ∙ ap (lines_unless_too_long (all_lines tag text)) found

-- a text without a too long line has all its lines
pub lines_of-lines :
    (tag : FileTag) (text : List ℕ) (lines : List Line) → length text ≤ FILE_LIMIT
    → all_lines tag text ≡ lines → find is_too_long lines ≡ None → lines_of tag text ≡ Ok lines
lines_of-lines tag text lines fits are short =
    lines_of-by_lines tag text fits ∙ ap (λ ls. lines_unless_too_long ls (find is_too_long ls)) are
    ∙ ap (lines_unless_too_long lines) short

-- one line more that is not too long
pub find-is_too_long-push :
    (lines : List Line) (line : Line) → find is_too_long lines ≡ None → length line.bytes ≤ LINE_LIMIT
    → find is_too_long (lines ++ line ∷ []) ≡ None
find-is_too_long-push lines line short fits =
    find-append is_too_long lines (line ∷ []) ∙ ap (λ o. option_or o (find is_too_long (line ∷ []))) short
    ∙ ap (λ b. cond b (Some line) None) (le-ltb LINE_LIMIT (length line.bytes) fits)

-- the spans found so far from a place of a text on, and the lines that are left
pub record SoFar (tag : FileTag) (text : List ℕ) (from : ℕ) (spans : List Span) (start : ℕ) : Type 0 where
  pub begun : start ≤ length text + 1
  pub counted : length spans + from ≤ start
  pub small : length text ≤ from + FILE_LIMIT
  pub lines : all_lines tag (drop from text) ≡ lines_at text spans ++ lines_numbered_from (length spans + 1) tag
      (pieces_of (drop start text))
  pub short : find is_too_long (lines_at text spans) ≡ None
  pub inside : AllInside text spans

length-without_white_at_end-le : (bytes : List ℕ) → length (without_white_at_end bytes) ≤ length bytes
length-without_white_at_end-le bytes = omega (arith, length-take (length bytes - suffix_len is_white bytes) bytes)

-- at the start of the text
nothing_so_far : (tag : FileTag) (text : List ℕ) (from : ℕ) → from ≤ length text → length text ≤ from + FILE_LIMIT
    → SoFar tag text from [] from
unfolding all_lines
nothing_so_far tag text from within small =
    record {
      begun = omega arith;
      counted = omega arith;
      small = small;
      lines = refl;
      short = refl;
      inside = All-nil
          (IsWithin (length text));
    }

pub SoFar_none : (tag : FileTag) (text : List ℕ) (from : ℕ) (spans : List Span) → spans ≡ [] → from ≤ length text
    → length text ≤ from + FILE_LIMIT → SoFar tag text from spans from
SoFar_none tag text from spans none within small =
    subst (λ (s : List Span). SoFar tag text from s from) (sym none) (nothing_so_far tag text from within small)

-- the line at a place of a text: how far its end is, how long it is without the white space there, and its number
pub record LineHere (text : List ℕ) (spans : List Span) (start k size line : ℕ) : Type 0 where
  pub in_text : start < length text
  pub to_end : k ≡ position_or_len ends_line (drop start text)
  pub sized : size ≡ length (without_white_at_end (take k (drop start text)))
  pub numbered : line ≡ length spans + 1

-- the same, where the rest of the text is the part from that place to its end
pub line_here :
    (text : List ℕ) (spans : List Span) (start k size line : ℕ) → start < length text
    → k ≡ position_or_len ends_line (slice_range text start (length text))
    → size ≡ length (without_white_at_end (take k (slice_range text start (length text))))
    → line ≡ length spans + 1 → LineHere text spans start k size line
line_here text spans start k size line in_text to_end sized numbered = record {
  in_text = in_text;
  to_end = to_end ∙ ap (position_or_len ends_line) (take_rest text start);
  sized = sized ∙ ap (λ rest. length (without_white_at_end (take k rest))) (take_rest text start);
  numbered = numbered;
}

-- its span
abbrev pub span_here : FileTag → ℕ → ℕ → ℕ → Span
span_here tag start size line =
    record { place = record { file = tag; line = line }; start = start; end = start + size }

-- it is within the text
pub LineHere_within : (text : List ℕ) (spans : List Span) (start k size line : ℕ)
    → LineHere text spans start k size line → (k ≤ length text - start) × (size ≤ length text - start)
LineHere_within text spans start k size line here =
    let le : position_or_len ends_line (drop start text) ≤ length (drop start text) =
    prefix_len-le-length (λ x. not (ends_line x)) (drop start text) in (
      omega (arith, here.to_end, length-drop start text),
      omega (
        arith,
        here.sized,
        length-drop start text,
        length-without_white_at_end-le
            (take k (drop start text)),
        length-take k (drop start text),
      ),
    )

-- its length
length-line_here : (tag : FileTag) (text : List ℕ) (start size line : ℕ) → size ≤ length text - start
    → length (line_at text (span_here tag start size line)).bytes ≡ size
length-line_here tag text start size line le =
    length-take-le (start + size - start) (drop start text) (omega (arith, length-drop start text)) ∙ omega arith

-- the lines so far, this one, and those after it
lines_with_here :
    (tag : FileTag) (text : List ℕ) (from : ℕ) (spans : List Span) (start k size line : ℕ)
    → SoFar tag text from spans start
    → LineHere text spans start k size line
    → all_lines tag (drop from text)
    ≡ lines_at text spans ++ line_at text (span_here tag start size line)
    ∷ lines_numbered_from (line + 1) tag (pieces_of (drop (start + (k + 1)) text))
lines_with_here tag text from spans start k size line so_far here =
    so_far.lines
    ∙ ap (λ n. lines_at text spans ++ lines_numbered_from n tag (pieces_of (drop start text))) (sym here.numbered)
    ∙ ap (λ ls. lines_at text spans ++ ls)
    (lines_from_here text start k size line tag here.in_text here.to_end here.sized)

-- what stands from that place on is within the limit
length_from : (tag : FileTag) (text : List ℕ) (from : ℕ) (spans : List Span) (start : ℕ)
    → SoFar tag text from spans start → length (drop from text) ≤ FILE_LIMIT
length_from tag text from spans start so_far = omega (arith, so_far.small, length-drop from text)

-- where it is too long, its fault is the text's
pub SoFar_too_long :
    (tag : FileTag) (text : List ℕ) (from : ℕ) (spans : List Span) (start k size line : ℕ)
    → SoFar tag text from spans start
    → LineHere text spans start k size line → LINE_LIMIT < size
    → lines_of tag (drop from text) ≡ Err (fault_at LINE_TOO_LONG (record { file = tag; line = line }))
SoFar_too_long tag text from spans start k size line so_far here long =
    let within = LineHere_within text spans start k size line here in
    lines_of-long_line tag (drop from text) (lines_at text spans)
    (lines_numbered_from (line + 1) tag (pieces_of (drop (start + (k + 1)) text)))
    (line_at text (span_here tag start size line)) (length_from tag text from spans start so_far)
    (lines_with_here tag text from spans start k size line so_far here)
    so_far.short (rw (length-line_here tag text start size line within.1) long)

-- else its span is one more
pub SoFar_more :
    (tag : FileTag) (text : List ℕ) (from : ℕ) (spans now : List Span) (start k size line : ℕ)
    → SoFar tag text from spans start
    → LineHere text spans start k size line → size ≤ LINE_LIMIT
    → now ≡ spans ++ span_here tag start size line ∷ []
    → SoFar tag text from now (start + (k + 1))
SoFar_more tag text from spans now start k size line so_far here fits pushed =
    let within = LineHere_within text spans start k size line here in
    let span : Span = span_here tag start size line in
    let rest : List Line = lines_numbered_from (line + 1) tag (pieces_of (drop (start + (k + 1)) text)) in
    let in_text : start < length text = here.in_text in
    let one_more : length (spans ++ span ∷ []) ≡ length spans + 1 = length_push spans span in
    let with_it : lines_at text (spans ++ span ∷ []) ≡ lines_at text spans ++ line_at text span ∷ [] =
    map_push (line_at text) spans span in
    let more : SoFar tag text from (spans ++ span ∷ []) (start + (k + 1)) = record {
      begun = omega arith;
      counted = omega (arith, so_far.counted);
      small = so_far.small;
      lines =
          lines_with_here tag text from spans start k size line so_far here
          ∙ sym (append_assoc (lines_at text spans) (line_at text span ∷ []) rest)
          ∙ ap (λ ls. ls ++ rest) (sym with_it)
          ∙ ap (λ n. lines_at text (spans ++ span ∷ []) ++ lines_numbered_from (n + 1) tag
          (pieces_of (drop (start + (k + 1)) text))) (here.numbered ∙ sym one_more);
      short = ap (find is_too_long) with_it
          ∙ find-is_too_long-push (lines_at text spans) (line_at text span) so_far.short
          (rw (length-line_here tag text start size line within.1) fits);
      inside = All-push (IsWithin (length text)) spans span so_far.inside
          (record { ordered = omega arith; inside = omega arith });
    } in
    subst (λ (s : List Span). SoFar tag text from s (start + (k + 1))) (sym pushed) more

-- at the end of the text
pub SoFar_all :
    (tag : FileTag) (text : List ℕ) (from : ℕ) (spans : List Span) (start : ℕ) → SoFar tag text from spans start
    → length text ≤ start → lines_of tag (drop from text) ≡ Ok (lines_at text spans)
SoFar_all tag text from spans start so_far ended =
    lines_of-lines tag (drop from text) (lines_at text spans) (length_from tag text from spans start so_far)
    (so_far.lines ∙ ap (λ rest. lines_at text spans ++ lines_numbered_from (length spans + 1) tag (pieces_of rest))
    (drop_all start text ended) ∙ append-nil (lines_at text spans))
    so_far.short

-- a text that has lines is within the limit
pub lines_of-within : (tag : FileTag) (text : List ℕ) (lines : List Line) → lines_of tag text ≡ Ok lines
    → length text ≤ FILE_LIMIT
lines_of-within tag text lines are =
    ⊎_elim (λ long. let fails = lines_of-long_file tag text long in cc) (λ within. within)
    (cases_lt FILE_LIMIT (length text))
