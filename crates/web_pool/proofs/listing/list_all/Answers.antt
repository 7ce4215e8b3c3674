use Rattle.std.proofs.Common.{◌≡◌, ◌++◌, List, ℕ, [], Result, sym, ap, ◌∙◌, subst, append_assoc}
use Rattle.wb_ports.specs.Held.{Gains, GainsPrefix}
use Rattle.wb_ports.proofs.HeldLemmas.{on_err}
use Rattle.web_pool.specs.Listing.{entries_from, byte_strings, closing, listing_of}
use Rattle.web_pool.specs.PoolLines.{read_pool}
use Rattle.wb_base.specs.declared.faults.Fault.{Fault}
use Rattle.web_pool.specs.inner.PoolParts.{EndsAs, closing_by}
use Rattle.web_pool.specs.declared.pool.TheConstants.{FIRST_NUMBER}
use Rattle.web_pool.proofs.EntriesLemmas.{listing_of-text, closing-by}
use Rattle.web_pool.proofs.GatheringLemmas.{hands_then, hands_prefix_then, hands_gains_then, prefix_of_whole}
use Rattle.web_pool.proofs.listing.list_all.Goals as goal

-- the lines of the bytes, the lines of the pool's strings, and what comes after them
abbrev first_lines : List ℕ
first_lines = entries_from 0 (byte_strings 256)

abbrev pool_lines : List ℕ → List ℕ
pool_lines pool = entries_from FIRST_NUMBER (read_pool pool).strings

abbrev end_of : List ℕ → List ℕ
end_of pool = closing (read_pool pool).fault (byte_strings 256 ++ (read_pool pool).strings)

abbrev text_of : List ℕ → List ℕ
text_of pool = (listing_of (read_pool pool)).text

-- with nothing kept back before it
begun : (out part pool : List ℕ) → out ≡ [] → part ≡ text_of pool → out ++ part ≡ text_of pool
begun out part pool none is = ap (λ l. l ++ part) none ∙ is

pub returns-in_err-list_bytes-clause-failed : goal.returns-in_err-list_bytes-clause-failed
returns-in_err-list_bytes-clause-failed g c =
    let pool = c.args.pool.now in
    let whole : text_of pool ≡ first_lines ++ (pool_lines pool ++ end_of pool) =
    listing_of-text (read_pool pool) ∙ append_assoc first_lines (pool_lines pool) (end_of pool) in
    let got = prefix_of_whole c.new-out.result first_lines _ _ _ _ whole c.in_err-list_bytes.ensures.failed in
    on_err _ (subst (λ (l : List ℕ). GainsPrefix l (g.K.Sink.held c.args.sink.now)
    (g.K.Sink.held c.list_bytes.new.sink))
    (ap (λ l. l ++ text_of pool) c.new-out.ensures) got)

pub returns-in_err-ended-clause-failed : goal.returns-in_err-ended-clause-failed
returns-in_err-ended-clause-failed g c =
    let pool = c.args.pool.now in
    let two = hands_prefix_then c.new-out.result first_lines (pool_lines pool) c.list_bytes.new.out _ _ _
    c.in_ok-list_bytes.ensures.ok c.in_err-ended.ensures.failed in
    let got = prefix_of_whole c.new-out.result _ (end_of pool) _ _ _ (listing_of-text (read_pool pool)) two in
    on_err _ (subst (λ (l : List ℕ). GainsPrefix l (g.K.Sink.held c.args.sink.now)
    (g.K.Sink.held c.list_strings.new.sink))
    (ap (λ l. l ++ text_of pool) c.new-out.ensures) got)

-- the parts that were written are the whole text
whole_text : (pool : List ℕ) (ended : Result ℕ Fault) (out : List ℕ) → out ≡ [] → EndsAs (read_pool pool) ended
    → out ++ ((first_lines ++ pool_lines pool) ++ closing_by ended) ≡ text_of pool
whole_text pool ended out none ends =
    begun out _ pool none
    (ap (λ l. (first_lines ++ pool_lines pool) ++ l) (sym (closing-by (read_pool pool) ended ends))
    ∙ sym (listing_of-text (read_pool pool)))

pub returns-in_err-list_end-clause-failed : goal.returns-in_err-list_end-clause-failed
returns-in_err-list_end-clause-failed g c =
    let pool = c.args.pool.now in
    let two = hands_then _ _ _ _ _ _ _ _ c.in_ok-list_bytes.ensures.ok c.in_ok-ended.ensures.ok in
    let got = hands_prefix_then c.new-out.result (first_lines ++ pool_lines pool) (closing_by c.in_ok-ended.ended)
    c.list_strings.new.out _ _ _ two c.in_err-list_end.ensures.failed in
    let whole = whole_text pool c.in_ok-ended.ended _ c.new-out.ensures c.in_ok-ended.ensures.ended in
    on_err _ (subst (λ (l : List ℕ). GainsPrefix l (g.K.Sink.held c.args.sink.now) (g.K.Sink.held c.list_end.new.sink))
    whole got)

-- all was written
all_written : (g : _) (c : goal.After-map g)
    → Gains (text_of c.args.pool.now) (g.K.Sink.held c.args.sink.now) (g.K.Sink.held c.list_end.new.sink)
all_written g c =
    let pool = c.args.pool.now in
    let two = hands_then _ _ _ _ _ _ _ _ c.in_ok-list_bytes.ensures.ok c.in_ok-ended.ensures.ok in
    let got = hands_gains_then c.new-out.result (first_lines ++ pool_lines pool) (closing_by c.in_ok-ended.ended)
    c.list_strings.new.out _ _ _ two c.in_ok-list_end.ensures.ok in
    let whole = whole_text pool c.in_ok-ended.ended _ c.new-out.ensures c.in_ok-ended.ensures.ended in
    subst (λ (l : List ℕ). Gains l (g.K.Sink.held c.args.sink.now) (g.K.Sink.held c.list_end.new.sink)) whole got

pub returns-clause-ok : goal.returns-clause-ok
returns-clause-ok g c = all_written g c
