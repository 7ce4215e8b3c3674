-- The lines of a pool, one after another.
use Rattle.std.proofs.Common.{◌≡◌, ℕ, ◌+◌, ◌-◌, ◌<◌, true, false, List, [], ◌∷◌}
use Rattle.std.proofs.Common.{◌++◌, length, take, drop, Some, None, Ok, Err, nat_lt, refl}
use Rattle.std.proofs.Common.{sym, ap, ◌∙◌, append_assoc, arith}
use Rattle.std.proofs.lemmas.List.{take_all, length-drop}
use Rattle.std.specs.List.{position_or_len}
use Rattle.wb_base.specs.FaultAt.{fault_at, limit_passed}
use Rattle.wb_base.specs.declared.faults.TheConstants.{BAD_LAST_LINE, LIMIT_STRINGS}
use Rattle.wb_base.specs.Pieces.{pieces_of, ends_line}
use Rattle.wb_base.proofs.PiecesLemmas.{pieces_of-first}
use Rattle.web_pool.specs.PoolLines.{PoolRead, after_asterisk, has_nine_digits, string_in, string_then, fails_at}
use Rattle.web_pool.specs.PoolLines.{pool_place, read_from}
use Rattle.web_pool.specs.inner.PoolParts.{ReadsLine, strings_then}
use Rattle.web_pool.specs.declared.pool.TheConstants.{FIRST_NUMBER, LAST_NUMBER}

-- what is read from a last line on
pub read_from-last :
    (line : ℕ) (text bytes : List ℕ) (texts : List (List ℕ)) → after_asterisk text
    ≡ Some bytes
    → has_nine_digits bytes ≡ true → read_from line (text ∷ texts) ≡ record { strings = []; fault = None }
unfolding read_from
read_from-last line text bytes texts last digits = rw (last, digits)

pub read_from-bad_last :
    (line : ℕ) (text bytes : List ℕ) (texts : List (List ℕ)) → after_asterisk text
    ≡ Some bytes
    → has_nine_digits bytes ≡ false
    → read_from line (text ∷ texts) ≡ fails_at (fault_at BAD_LAST_LINE (pool_place line))
unfolding read_from
read_from-bad_last line text bytes texts last digits = rw (last, digits)

-- what is read from another line on
pub read_from-fault : (line code : ℕ) (text : List ℕ) (texts : List (List ℕ)) → after_asterisk text ≡ None
    → string_in text ≡ Err code → read_from line (text ∷ texts) ≡ fails_at (fault_at code (pool_place line))
unfolding read_from
read_from-fault line code text texts other fault = rw (other, fault)

pub read_from-full : (line : ℕ) (text string : List ℕ) (texts : List (List ℕ)) → after_asterisk text ≡ None
    → string_in text ≡ Ok string → nat_lt LAST_NUMBER (FIRST_NUMBER + (line - 1)) ≡ true
    → read_from line (text ∷ texts) ≡ fails_at (limit_passed LIMIT_STRINGS (pool_place line))
unfolding read_from
read_from-full line text string texts other has full = rw (other, has, full)

pub read_from-string : (line : ℕ) (text string : List ℕ) (texts : List (List ℕ)) → after_asterisk text ≡ None
    → string_in text ≡ Ok string → nat_lt LAST_NUMBER (FIRST_NUMBER + (line - 1)) ≡ false
    → read_from line (text ∷ texts) ≡ string_then string (read_from (line + 1) texts)
unfolding read_from
read_from-string line text string texts other has room = rw (other, has, room)

-- a text that is cut at its first byte 10
pub pieces_of-cut : (text : List ℕ) (end after : ℕ) → 0 < length text → end ≡ position_or_len ends_line text
    → drop after text ≡ drop (end + 1) text
    → pieces_of text ≡ take end text ∷ pieces_of (take (length text - after) (drop after text))
pieces_of-cut text end after some is rest =
    let whole : take (length text - after) (drop after text) ≡ drop after text =
    take_all (length text - after) (drop after text) (omega (arith, length-drop after text)) in
    pieces_of-first text some
    ∙ ap (λ (n : ℕ). take n text ∷ pieces_of (drop (n + 1) text)) (sym is)
    ∙ ap (λ (l : List ℕ). take end text ∷ pieces_of l) (sym (whole ∙ rest))

-- a string that is read after some
strings_then-string : (done : List (List ℕ)) (text : List ℕ) (read : PoolRead)
    → strings_then done (string_then text read) ≡ strings_then (done ++ text ∷ []) read
strings_then-string done text read =
    ap (λ (l : List (List ℕ)). record { strings = l; fault = read.fault })
    (sym (append_assoc done (text ∷ []) read.strings))

-- what is read of a pool of which some strings and then one more were read
pub reads_string : (read : PoolRead) (done : List (List ℕ)) (line : ℕ) (text string after rest : List ℕ)
    → read ≡ strings_then done (read_from line (pieces_of rest)) → pieces_of rest ≡ text ∷ pieces_of after
    → ReadsLine line text (Ok (Some string))
    → read ≡ strings_then (done ++ string ∷ []) (read_from (line + 1) (pieces_of after))
reads_string read done line text string after rest is cut reads =
    is ∙ ap (λ l. strings_then done (read_from line l)) cut ∙ ap (strings_then done) (reads (pieces_of after))
    ∙ strings_then-string done string (read_from (line + 1) (pieces_of after))

-- the end of a pool
pub read_from-end : (line : ℕ) → read_from line [] ≡ fails_at (fault_at BAD_LAST_LINE (pool_place line))
unfolding read_from
read_from-end line = refl
