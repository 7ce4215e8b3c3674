-- A search that goes up the places of a list: what is left of it at each place.
use Rattle.std.proofs.Common.{◌≡◌, ℕ, ◌+◌, ◌<◌, ◌≤◌, Bool, true, false, List, length, drop, get_or, not, ap, ◌∙◌, sym}
use Rattle.std.proofs.Common.{arith}
use Rattle.std.proofs.lemmas.List.{get_or-map, length-map}
use Rattle.std.proofs.lemmas.List.Sums.{prefix_len-drop_yes, prefix_len-drop_no, prefix_len-drop_all}
use Rattle.std.specs.List.{prefix_len, position_or_len}
use Rattle.change_merge.specs.Lines.{Line}
use Rattle.change_merge.specs.inner.Spans.{line_at, lines_at}
use Rattle.change_merge.specs.declared.spans.Span.{Span}

-- the place at which a search from this place on ends
abbrev pub found_from : {X : Type 0} → (X → Bool) → List X → ℕ → ℕ
found_from test xs i = i + position_or_len test (drop i xs)

pub found_from-here : {X : Type 0} (test : X → Bool) (xs : List X) (i : ℕ) (d : X) → i < length xs
    → test (get_or xs i d) ≡ true → found_from test xs i ≡ i
found_from-here test xs i d within passes =
    omega (arith, prefix_len-drop_no (λ x. not (test x)) xs i d within (ap not passes))

pub found_from-more : {X : Type 0} (test : X → Bool) (xs : List X) (i : ℕ) (d : X) → i < length xs
    → test (get_or xs i d) ≡ false → found_from test xs (i + 1) ≡ found_from test xs i
found_from-more test xs i d within fails =
    omega (arith, prefix_len-drop_yes (λ x. not (test x)) xs i d within (ap not fails))

pub found_from-end : {X : Type 0} (test : X → Bool) (xs : List X) (i : ℕ) → length xs ≤ i → found_from test xs i ≡ i
found_from-end test xs i past = omega (arith, prefix_len-drop_all (λ x. not (test x)) xs i past)

-- the line at a place of a list of spans
pub line_of_span : (text : List ℕ) (spans : List Span) (i : ℕ) (span : Span) → i < length spans
    → span ≡ get_or spans i span → get_or (lines_at text spans) i (line_at text span) ≡ line_at text span
line_of_span text spans i span within is =
    get_or-map (line_at text) spans i span (line_at text span) within ∙ ap (line_at text) (sym is)

-- the bytes of that line, by what reads its span
pub bytes_of_line : (text : List ℕ) (spans : List Span) (i : ℕ) (d : Span) (e : Line) (bytes : List ℕ)
    → i < length spans → bytes ≡ (line_at text (get_or spans i d)).bytes
    → (get_or (lines_at text spans) i e).bytes ≡ bytes
bytes_of_line text spans i d e bytes within is =
    ap (λ (line : Line). line.bytes) (get_or-map (line_at text) spans i d e within) ∙ sym is

-- a search by a test of a line's bytes
pub search_ends : (test : List ℕ → Bool) (text : List ℕ) (spans : List Span) (i : ℕ) (d : Span) (bytes : List ℕ)
    → i < length spans → bytes ≡ (line_at text (get_or spans i d)).bytes → test bytes ≡ true
    → found_from (λ (line : Line). test line.bytes) (lines_at text spans) i ≡ i
search_ends test text spans i d bytes within is passes =
    let in_lines : i < length (lines_at text spans) = rw (length-map spans (line_at text)) within in
    found_from-here (λ (line : Line). test line.bytes) (lines_at text spans) i (line_at text d) in_lines
    (ap test (bytes_of_line text spans i d (line_at text d) bytes within is) ∙ passes)

pub search_goes_on : (test : List ℕ → Bool) (text : List ℕ) (spans : List Span) (i : ℕ) (d : Span) (bytes : List ℕ)
    → i < length spans → bytes ≡ (line_at text (get_or spans i d)).bytes → test bytes ≡ false
    → found_from (λ (line : Line). test line.bytes) (lines_at text spans) (i + 1) ≡ found_from
    (λ (line : Line). test line.bytes) (lines_at text spans) i
search_goes_on test text spans i d bytes within is fails =
    let in_lines : i < length (lines_at text spans) = rw (length-map spans (line_at text)) within in
    found_from-more (λ (line : Line). test line.bytes) (lines_at text spans) i (line_at text d) in_lines
    (ap test (bytes_of_line text spans i d (line_at text d) bytes within is) ∙ fails)

-- a row of lines that pass a test of their bytes
pub row_ends : (test : List ℕ → Bool) (text : List ℕ) (spans : List Span) (i : ℕ) (d : Span) (bytes : List ℕ)
    → i < length spans → bytes ≡ (line_at text (get_or spans i d)).bytes → test bytes ≡ false
    → i + prefix_len (λ (line : Line). test line.bytes) (drop i (lines_at text spans)) ≡ i
row_ends test text spans i d bytes within is fails =
    let in_lines : i < length (lines_at text spans) = rw (length-map spans (line_at text)) within in
    omega (
      arith,
      prefix_len-drop_no (λ (line : Line). test line.bytes) (lines_at text spans) i
          (line_at text d) in_lines (ap test (bytes_of_line text spans i d (line_at text d) bytes within is) ∙ fails),
    )

pub row_goes_on : (test : List ℕ → Bool) (text : List ℕ) (spans : List Span) (i : ℕ) (d : Span) (bytes : List ℕ)
    → i < length spans → bytes ≡ (line_at text (get_or spans i d)).bytes → test bytes ≡ true
    → (i + 1) + prefix_len (λ (line : Line). test line.bytes) (drop (i + 1) (lines_at text spans)) ≡ i + prefix_len
    (λ (line : Line). test line.bytes) (drop i (lines_at text spans))
row_goes_on test text spans i d bytes within is passes =
    let in_lines : i < length (lines_at text spans) = rw (length-map spans (line_at text)) within in
    omega (
      arith,
      prefix_len-drop_yes (λ (line : Line). test line.bytes) (lines_at text spans) i
          (line_at text d) in_lines (ap test (bytes_of_line text spans i d (line_at text d) bytes within is) ∙ passes),
    )
