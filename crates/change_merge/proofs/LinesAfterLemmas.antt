-- What is after old lines, line by line.
use Rattle.std.proofs.Common.{◌≡◌, ℕ, ◌+◌, ◌<◌, ◌≤◌, Bool, true, false, not, refl, List, ◌∷◌, length, drop, get_or}
use Rattle.std.proofs.Common.{ap, ◌∙◌, sym, cond, Result, Ok, Err}
use Rattle.std.specs.Str.{bytes_eq}
use Rattle.std.proofs.lemmas.List.{drop_more, drop_all, get_or-map, length-map}
use Rattle.wb_base.specs.declared.faults.Fault.{Fault}
use Rattle.change_merge.specs.Lines.{Line}
use Rattle.wb_base.specs.FaultAt.{fault_at}
use Rattle.change_merge.specs.Merge.{lines_after}
use Rattle.change_merge.specs.inner.Spans.{line_at, lines_at}
use Rattle.change_merge.specs.declared.spans.Span.{Span}
use Rattle.change_merge.proofs.SearchLemmas.{bytes_of_line}
use Rattle.wb_base.specs.declared.faults.TheConstants.{CHANGE_LINES_DIFFER}

abbrev heads : List Line → List Line → ℕ → Line → Line → Result (List Line) Fault
heads olds lines i d e = lines_after (get_or olds i d ∷ drop (i + 1) olds) (get_or lines i e ∷ drop (i + 1) lines)

with_heads : (olds lines : List Line) (i : ℕ) (d e : Line) → i < length olds → i < length lines
    → lines_after (drop i olds) (drop i lines) ≡ heads olds lines i d e
with_heads olds lines i d e in_olds in_lines =
    ap (λ os. lines_after os (drop i lines)) (drop_more olds i d in_olds)
    ∙ ap (λ ls. lines_after (get_or olds i d ∷ drop (i + 1) olds) ls) (drop_more lines i e in_lines)

-- where the lines there are equal, it is what is after the others
pub lines_after-more :
    (olds lines : List Line) (i : ℕ) (d e : Line) → i < length olds → i < length lines
    → bytes_eq (get_or olds i d).bytes (get_or lines i e).bytes ≡ true
    → lines_after (drop (i + 1) olds) (drop (i + 1) lines) ≡ lines_after (drop i olds) (drop i lines)
lines_after-more olds lines i d e in_olds in_lines same =
    sym (with_heads olds lines i d e in_olds in_lines
    ∙ ap (λ b. cond b (lines_after (drop (i + 1) olds) (drop (i + 1) lines))
    (Err (fault_at CHANGE_LINES_DIFFER (get_or olds i d).place))) same)

-- where they differ, or the lines ended, it is the fault of the old line
pub lines_after-differ :
    (olds lines : List Line) (i : ℕ) (d e : Line) → i < length olds → i < length lines
    → bytes_eq (get_or olds i d).bytes (get_or lines i e).bytes ≡ false
    → lines_after (drop i olds) (drop i lines) ≡ Err (fault_at CHANGE_LINES_DIFFER (get_or olds i d).place)
lines_after-differ olds lines i d e in_olds in_lines differ =
    with_heads olds lines i d e in_olds in_lines
    ∙ ap (λ b. cond b (lines_after (drop (i + 1) olds) (drop (i + 1) lines))
    (Err (fault_at CHANGE_LINES_DIFFER (get_or olds i d).place))) differ

pub lines_after-ended :
    (olds lines : List Line) (i : ℕ) (d : Line) → i < length olds → length lines ≤ i
    → lines_after (drop i olds) (drop i lines) ≡ Err (fault_at CHANGE_LINES_DIFFER (get_or olds i d).place)
lines_after-ended olds lines i d in_olds ended =
    ap (λ os. lines_after os (drop i lines)) (drop_more olds i d in_olds)
    ∙ ap (λ ls. lines_after (get_or olds i d ∷ drop (i + 1) olds) ls) (drop_all i lines ended)

-- after all old lines
pub lines_after-all : (olds lines : List Line) (i : ℕ) → length olds ≤ i
    → lines_after (drop i olds) (drop i lines) ≡ Ok (drop i lines)
lines_after-all olds lines i all = ap (λ os. lines_after os (drop i lines)) (drop_all i olds all)

-- the same for lines at spans of a text, of which the bytes were read
pub record Compared (text : List ℕ) (olds web : List Span) (i : ℕ) (d e : Span) (old line : List ℕ) : Type 0 where
  pub in_olds : i < length olds
  pub in_web : i < length web
  pub old_is : old ≡ (line_at text (get_or olds i d)).bytes
  pub line_is : line ≡ (line_at text (get_or web i e)).bytes

within_lines : (text : List ℕ) (spans : List Span) (i : ℕ) → i < length spans → i < length (lines_at text spans)
within_lines text spans i within = rw (length-map spans (line_at text)) within

bytes_compared : (text : List ℕ) (olds web : List Span) (i : ℕ) (d e : Span) (old line : List ℕ)
    → Compared text olds web i d e old line
    → bytes_eq (get_or (lines_at text olds) i (line_at text d)).bytes
    (get_or (lines_at text web) i (line_at text e)).bytes ≡ bytes_eq old line
bytes_compared text olds web i d e old line read =
    ap (λ bs. bytes_eq bs (get_or (lines_at text web) i (line_at text e)).bytes)
    (bytes_of_line text olds i d (line_at text d) old read.in_olds read.old_is)
    ∙ ap (bytes_eq old) (bytes_of_line text web i e (line_at text e) line read.in_web read.line_is)

pub same_at_spans :
    (text : List ℕ) (olds web : List Span) (i : ℕ) (d e : Span) (old line : List ℕ)
    → Compared text olds web i d e old line → bytes_eq old line ≡ true
    → lines_after (drop (i + 1) (lines_at text olds)) (drop (i + 1) (lines_at text web)) ≡ lines_after
    (drop i (lines_at text olds)) (drop i (lines_at text web))
same_at_spans text olds web i d e old line read same =
    lines_after-more (lines_at text olds) (lines_at text web) i (line_at text d) (line_at text e)
    (within_lines text olds i read.in_olds) (within_lines text web i read.in_web)
    (bytes_compared text olds web i d e old line read ∙ same)

place_at : (text : List ℕ) (olds : List Span) (i : ℕ) (d : Span) → i < length olds
    → ◌≡◌ {A = Result (List Line) Fault}
    (Err (fault_at CHANGE_LINES_DIFFER (get_or (lines_at text olds) i (line_at text d)).place))
    (Err (fault_at CHANGE_LINES_DIFFER (get_or olds i d).place))
place_at text olds i d within =
    ap (λ (line : Line). Err (fault_at CHANGE_LINES_DIFFER line.place))
    (get_or-map (line_at text) olds i d (line_at text d) within)

pub differ_at_spans :
    (text : List ℕ) (olds web : List Span) (i : ℕ) (d e : Span) (old line : List ℕ)
    → Compared text olds web i d e old line → bytes_eq old line ≡ false
    → lines_after (drop i (lines_at text olds)) (drop i (lines_at text web)) ≡ Err
    (fault_at CHANGE_LINES_DIFFER (get_or olds i d).place)
differ_at_spans text olds web i d e old line read differ =
    lines_after-differ (lines_at text olds) (lines_at text web) i (line_at text d) (line_at text e)
    (within_lines text olds i read.in_olds) (within_lines text web i read.in_web)
    (bytes_compared text olds web i d e old line read ∙ differ)
    ∙ place_at text olds i d read.in_olds

pub ended_at_spans :
    (text : List ℕ) (olds web : List Span) (i : ℕ) (d : Span) → i < length olds → length web ≤ i
    → lines_after (drop i (lines_at text olds)) (drop i (lines_at text web)) ≡ Err
    (fault_at CHANGE_LINES_DIFFER (get_or olds i d).place)
ended_at_spans text olds web i d in_olds ended =
    lines_after-ended (lines_at text olds) (lines_at text web) i (line_at text d) (within_lines text olds i in_olds)
    (rw (length-map web (line_at text)) ended)
    ∙ place_at text olds i d in_olds

pub all_at_spans :
    (text : List ℕ) (olds web : List Span) (i : ℕ) → length olds ≤ i
    → lines_after (drop i (lines_at text olds)) (drop i (lines_at text web)) ≡ Ok (drop i (lines_at text web))
all_at_spans text olds web i all =
    lines_after-all (lines_at text olds) (lines_at text web) i (rw (length-map olds (line_at text)) all)

-- what a test that two rows of bytes differ says
pub equal_from_ne : (same : Bool) → false ≡ not same → same ≡ true
equal_from_ne true is = refl
equal_from_ne false is = cc

pub different_from_ne : (same : Bool) → true ≡ not same → same ≡ false
different_from_ne true is = cc
different_from_ne false is = refl
