use Rattle.std.proofs.Common.{◌≡◌, ◌+◌, ◌-◌, ◌≤◌, List, ℕ, [], ◌∷◌, ◌++◌, length, Ok, Some, refl, ap, sym, ◌∙◌}
use Rattle.std.proofs.Common.{append-nil, append_assoc, length-append, arith}
use Rattle.wb_ports.proofs.HeldLemmas.{on_err}
use Rattle.wb_base.specs.FaultAt.{fault_at}
use Rattle.wb_base.specs.declared.faults.TheConstants.{BAD_LAST_LINE}
use Rattle.web_pool.specs.Listing.{entry, entries_from, byte_strings, characters_in}
use Rattle.wb_base.specs.Pieces.{pieces_of}
use Rattle.web_pool.specs.PoolLines.{PoolRead, read_from, read_pool, fails_at, pool_place}
use Rattle.web_pool.specs.inner.PoolParts.{ReadsLine, strings_then}
use Rattle.web_pool.specs.declared.pool.TheConstants.{FIRST_NUMBER, LAST_NUMBER}
use Rattle.web_pool.proofs.EntriesLemmas.{entries_from-none, entries_from-string, entries_from-rest}
use Rattle.web_pool.proofs.EntriesLemmas.{characters_in-string, first_characters}
use Rattle.web_pool.proofs.GatheringLemmas.{hands_nothing, hands_same, hands_then, hands_prefix_then, prefix_of_whole}
use Rattle.web_pool.proofs.PoolLinesLemmas.{reads_string, read_from-end}
use Rattle.web_pool.proofs.listing.list_strings.Goals as goal

-- nothing was read yet
pub loop-text-init : goal.loop-text-init
loop-text-init g c = record {
  done = [];
  reads = refl;
  place = refl;
  few = omega arith;
  counted = sym (ap characters_in (append-nil (byte_strings 256)) ∙ first_characters);
  most = omega arith;
  hands =
      hands_same _ _ _ _ _ (ap (λ (l : List ℕ). c.args.out.now ++ l) (sym (entries_from-none FIRST_NUMBER)))
      (hands_nothing c.args.out.now (g.K.Sink.held c.args.sink.now));
  same_count = refl;
  same_frame = refl;
}

-- the line of one string more
pub loop-text-preserved : goal.loop-text-preserved
loop-text-preserved g c =
    let inv = c.loop-text.invariant in
    let reads : ReadsLine c.loop-text.line c.in-Some.text.now (Ok (Some c.in-Ok-Some.string.now)) =
    rw c.in-Ok-Some.field-0-is at c.in-Ok-Some.ensures.string in
    let few : FIRST_NUMBER + c.loop-text.line ≤ LAST_NUMBER + 1 =
    rw c.in-Ok-Some.field-0-is at c.in-Ok-Some.ensures.few in
    let numbered : FIRST_NUMBER + length inv.done ≡ FIRST_NUMBER - 1 + c.loop-text.line = omega arith in
    let line : entries_from FIRST_NUMBER inv.done ++ c.deref.result.now
    ≡ entries_from FIRST_NUMBER (inv.done ++ c.in-Ok-Some.string.now ∷ []) =
    ap (λ (l : List ℕ). entries_from FIRST_NUMBER inv.done ++ l)
    (c.deref.ensures.0 ∙ c.entry.ensures ∙ ap (λ n. entry n c.in-Ok-Some.string.now) (sym numbered))
    ∙ sym (entries_from-string FIRST_NUMBER inv.done c.in-Ok-Some.string.now) in
    record {
      done = inv.done ++ c.in-Ok-Some.string.now ∷ [];
      reads =
          reads_string (read_pool c.args.pool.now) inv.done c.loop-text.line c.in-Some.text.now c.in-Ok-Some.string.now
          c.in-Some.after.now c.loop-text.rest.now inv.reads c.in-Some.ensures.pieces reads;
      place = omega (arith, length-append inv.done (c.in-Ok-Some.string.now ∷ []));
      few = omega arith;
      counted =
          ap (λ n. n + c.characters_of-characters.result) inv.counted
          ∙ ap (λ n. characters_in (byte_strings 256 ++ inv.done) + n) c.characters_of-characters.ensures.count
          ∙ sym (characters_in-string (byte_strings 256) inv.done c.in-Ok-Some.string.now);
      most = omega (arith, c.characters_of-characters.ensures.few);
      hands =
          hands_same _ _ _ _ _ (ap (λ (l : List ℕ). c.args.out.now ++ l) line)
          (hands_then _ _ _ _ _ _ _ _ inv.hands c.in_ok-write-in-Ok-Some.ensures.ok);
      same_count = c.in_ok-write-in-Ok-Some.ensures.cause ∙ inv.same_count;
      same_frame = c.in_ok-write-in-Ok-Some.ensures.frame ∙ inv.same_frame;
    }

-- what was got of the lines so far and the next is a prefix of all
pub returns-in_err-write-in-Ok-Some-clause-failed : goal.returns-in_err-write-in-Ok-Some-clause-failed
returns-in_err-write-in-Ok-Some-clause-failed g c =
    let inv = c.loop-text.invariant in
    let reads : ReadsLine c.loop-text.line c.in-Some.text.now (Ok (Some c.in-Ok-Some.string.now)) =
    rw c.in-Ok-Some.field-0-is at c.in-Ok-Some.ensures.string in
    let numbered : FIRST_NUMBER + length inv.done ≡ FIRST_NUMBER - 1 + c.loop-text.line = omega arith in
    let string = c.in-Ok-Some.string.now in
    let rest = (read_from (c.loop-text.line + 1) (pieces_of c.in-Some.after.now)).strings in
    let strings : (read_pool c.args.pool.now).strings ≡ inv.done ++ (string ∷ rest) =
    ap (λ (r : PoolRead). r.strings)
    (reads_string
    (read_pool c.args.pool.now) inv.done c.loop-text.line c.in-Some.text.now string c.in-Some.after.now
    c.loop-text.rest.now inv.reads c.in-Some.ensures.pieces reads)
    ∙ append_assoc inv.done (string ∷ []) rest in
    let line : entry (FIRST_NUMBER + length inv.done) string ≡ c.deref.result.now =
    ap (λ n. entry n string) numbered ∙ sym (c.deref.ensures.0 ∙ c.entry.ensures) in
    let later = entries_from (FIRST_NUMBER + length (inv.done ++ string ∷ [])) rest in
    let all : entries_from FIRST_NUMBER (read_pool c.args.pool.now).strings
    ≡ (entries_from FIRST_NUMBER inv.done ++ c.deref.result.now) ++ later =
    ap (entries_from FIRST_NUMBER) strings ∙ entries_from-rest FIRST_NUMBER inv.done string rest
    ∙ ap (λ (l : List ℕ). (entries_from FIRST_NUMBER inv.done ++ l) ++ later) line in
    let got = hands_prefix_then c.args.out.now
    (entries_from FIRST_NUMBER inv.done) c.deref.result.now c.loop-text.out _ _ _
    inv.hands c.in_err-write-in-Ok-Some.ensures.failed in
    on_err _ (prefix_of_whole c.args.out.now _ later _ _ _ all got)

-- the pool ended without a last line
ended_so : (g : _) (c : goal.After-at g) → read_pool c.args.pool.now
    ≡ strings_then c.loop-text.invariant.done (fails_at (fault_at BAD_LAST_LINE (pool_place c.loop-text.line)))
ended_so g c =
    c.loop-text.invariant.reads
    ∙ ap (λ (l : List ℕ). strings_then c.loop-text.invariant.done (read_from c.loop-text.line (pieces_of l)))
    c.in_default.ensures.pieces
    ∙ ap (strings_then c.loop-text.invariant.done) (read_from-end c.loop-text.line)

pub returns-clause-ended : goal.returns-clause-ended
returns-clause-ended g c =
    ap (λ (r : PoolRead). r.fault) (ended_so g c)
    ∙ ap Some (sym (c.at.ensures ∙ ap (fault_at BAD_LAST_LINE) c.pool_place.ensures))

pub returns-clause-ok : goal.returns-clause-ok
returns-clause-ok g c =
    let strings : (read_pool c.args.pool.now).strings ≡ c.loop-text.invariant.done =
    ap (λ (r : PoolRead). r.strings) (ended_so g c) ∙ append-nil c.loop-text.invariant.done in
    hands_same _ _ _ _ _ (ap (λ (l : List (List ℕ)). c.args.out.now ++ entries_from FIRST_NUMBER l) (sym strings))
    c.loop-text.invariant.hands
