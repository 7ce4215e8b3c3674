-- A web after a change file in one text: its lines, and those of the change file.
use Rattle.std.proofs.Common.{◌≡◌, ℕ, ◌-◌, ◌≤◌, refl, List, [], ◌∷◌, ◌++◌, length, take, drop, ap, ◌∙◌, sym, arith}
use Rattle.std.proofs.Common.{Result, Ok, Err}
use Rattle.std.proofs.lemmas.List.{drop_at, drop-append-le, take-append-le, length-drop}
use Rattle.std.proofs.lemmas.List.Elements.{All-head, All-tail}
use Rattle.wb_base.specs.declared.places.FileTag.TheVariants.{Web}
use Rattle.wb_base.specs.declared.faults.Fault.{Fault}
use Rattle.change_merge.specs.Lines.{Line, lines_of}
use Rattle.change_merge.specs.Changes.{Change}
use Rattle.change_merge.specs.Merge.{with_changes, merge_of}
use Rattle.wb_base.specs.Steps.{◌>>=◌}
use Rattle.change_merge.specs.inner.Spans.{line_at, lines_at, changes_at, IsWithin, AllInside, IsChangeFile}
use Rattle.change_merge.specs.declared.spans.Span.{Span}
use Rattle.change_merge.specs.declared.blocks.Block.{Block}

line_in_prefix : (prefix suffix : List ℕ) (span : Span) → IsWithin (length prefix) span
    → line_at (prefix ++ suffix) span ≡ line_at prefix span
line_in_prefix prefix suffix span within =
    let begins : span.start ≤ length prefix = omega (arith, within.ordered, within.inside) in
    let ends : span.end - span.start ≤ length (drop span.start prefix) =
    omega (arith, within.ordered, within.inside, length-drop span.start prefix) in
    ap (λ (bytes : List ℕ). record { place = span.place; bytes = bytes })
    (ap (take (span.end - span.start)) (drop-append-le span.start prefix suffix begins)
    ∙ take-append-le (span.end - span.start) (drop span.start prefix) suffix ends)

-- lines of the prefix are the same lines of the whole
lines_in_prefix : (prefix suffix : List ℕ) (spans : List Span) → AllInside prefix spans
    → lines_at (prefix ++ suffix) spans ≡ lines_at prefix spans
lines_in_prefix prefix suffix [] inside = refl
lines_in_prefix prefix suffix (span ∷ spans) inside =
    ap (λ (line : Line). line ∷ lines_at (prefix ++ suffix) spans)
    (line_in_prefix prefix suffix span (All-head (IsWithin (length prefix)) span spans inside))
    ∙ ap (λ (lines : List Line). line_at prefix span ∷ lines)
    (lines_in_prefix prefix suffix spans (All-tail (IsWithin (length prefix)) span spans inside))

unchanged : (lines : Result (List Line) Fault) → lines >>= (λ ls. with_changes [] ls) ≡ lines
unchanged (Ok lines) = refl
unchanged (Err fault) = refl

-- a change file with its blocks, and a web after it in one text
pub record Joined (web file : List ℕ) (change : List Span) (blocks : List Block) (changes : List Change)
    (text : List ℕ) (from : ℕ) : Type 0 where
  pub is_file : IsChangeFile file change blocks
  pub changes_are : changes_at (lines_at file change) blocks ≡ changes
  pub text_is : text ≡ file ++ web
  pub from_is : from ≡ length file

web_after : (web file : List ℕ) (change : List Span) (blocks : List Block) (changes : List Change) (text : List ℕ)
    (from : ℕ) → Joined web file change blocks changes text from → drop from text ≡ web
web_after web file change blocks changes text from joined =
    ap (drop from) joined.text_is ∙ drop_at file web from (sym joined.from_is)

-- a fault of the web's lines is that of the merge
pub merge_of-web_fault :
    (web file : List ℕ) (change : List Span) (blocks : List Block) (changes : List Change) (text : List ℕ) (from : ℕ)
    → Joined web file change blocks changes text from
    → (fault : Fault) → lines_of Web (drop from text) ≡ Err fault → merge_of web changes ≡ Err fault
unfolding merge_of
merge_of-web_fault web file change blocks changes text from joined fault fails =
    ap (λ lines. lines >>= with_changes changes)
    (ap (lines_of Web) (sym (web_after web file change blocks changes text from joined)) ∙ fails)

-- the web's lines, as spans of the text, with the blocks
pub merge_of-lines :
    (web file : List ℕ) (change : List Span) (blocks : List Block) (changes : List Change) (text : List ℕ) (from : ℕ)
    → Joined web file change blocks changes text from
    → (spans : List Span) → lines_of Web (drop from text) ≡ Ok (lines_at text spans)
    → merge_of web changes ≡ with_changes (changes_at (lines_at text change) blocks) (lines_at text spans)
unfolding merge_of
merge_of-lines web file change blocks changes text from joined spans are =
    ap (λ lines. lines >>= with_changes changes)
    (ap (lines_of Web) (sym (web_after web file change blocks changes text from joined)) ∙ are)
    ∙ ap (λ cs. with_changes cs (lines_at text spans))
    (sym joined.changes_are
    ∙ ap (λ lines. changes_at lines blocks)
    (sym (ap (λ t. lines_at t change) joined.text_is ∙ lines_in_prefix file web change joined.is_file.inside)))

-- without blocks the lines of the web stay as they are
pub merge_of-no_changes : (web : List ℕ) → merge_of web [] ≡ lines_of Web web
unfolding merge_of
merge_of-no_changes web = unchanged (lines_of Web web)

-- a fault of the web's lines is that of the merge
pub merge_of-lines_fault :
    (web : List ℕ) (changes : List Change) (fault : Fault) → lines_of Web web ≡ Err fault
    → merge_of web changes ≡ Err fault
unfolding merge_of
merge_of-lines_fault web changes fault fails = ap (λ lines. lines >>= with_changes changes) fails

-- a change file and a web after it, as `merge` puts them into one text
pub joined_of :
    (web file change_file text : List ℕ) (change : List Span) (blocks : List Block) (changes : List Change) (from : ℕ)
    → IsChangeFile file change blocks → changes_at (lines_at file change) blocks ≡ changes
    → text ≡ change_file ++ web → change_file ≡ file → from ≡ length file
    → Joined web file change blocks changes text from
joined_of web file change_file text change blocks changes from is_file changes_are text_is file_is from_is =
    record {
      is_file = is_file;
      changes_are = changes_are;
      text_is = text_is ∙ ap (λ prefix. prefix ++ web) file_is;
      from_is = from_is;
    }
