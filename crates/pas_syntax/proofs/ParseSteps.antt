-- What an answer of the reader of programs tells of a text.
use Rattle.std.proofs.Common.{◌≡◌, refl, sym, ap, subst, ◌∙◌, ℕ, suc, ◌+◌, ◌≤◌, arith, List, [], ◌∷◌, ◌++◌}
use Rattle.std.proofs.Common.{Bool, true, false, cond, length, take, drop, Ok, Err, inl, inr}
use Rattle.std.specs.Prelude.{nat_lt}
use Rattle.std.proofs.lemmas.Bool.{ltb-false}
use Rattle.std.proofs.lemmas.List.{length-append}
use Rattle.std.proofs.Math.Seq.{take-append_seam, drop-append_seam}
use Rattle.wb_base.specs.declared.faults.Fault.{Fault}
use Rattle.wb_base.specs.declared.faults.TheConstants.{FILE_LIMIT}
use Rattle.pas_tokens.specs.Tokens.{Token, tokens_of, tokens_from, fault_in}
use Rattle.pas_syntax.specs.declared.stop.Stop.TheVariants as stop
use Rattle.pas_syntax.specs.declared.tree.ProgramTree.{ProgramTree}
use Rattle.pas_syntax.specs.Parse.{Means, IsFaultOf, left_out, misplaced_by}
use Rattle.pas_syntax.specs.Parse.{misplaced as misplaced_at}
use Rattle.pas_syntax.specs.Regions.{part_behind}
use Rattle.pas_syntax.specs.ProgramViews.{program_in}
use Rattle.pas_syntax.specs.Tree.{Program}
use Rattle.pas_syntax.specs.inner.Prog.{Out, run, head, misplaced, shown}
use Rattle.pas_syntax.specs.inner.Places.{Place, AreTokens, Parses}
use Rattle.pas_syntax.specs.inner.DeclarationReaders.{program}
use Rattle.pas_syntax.proofs.ProgLemmas.{IsLocalTo, local, rest_of}
use Rattle.pas_syntax.proofs.Conclusions.{is_spelled, is_faulty, is_misplaced}

-- the tree is that of the text
pub means : (text : List ℕ) {old new : Place} {tree : ProgramTree} → tokens_of text ≡ Ok old.tokens
    → AreTokens old.tokens → Parses program program_in old (Ok tree) new
    → Means text (program_in old.spellings tree)
means text {old = old} {new = new} {tree = tree} cut tokens h =
    let most = suc (length old.tokens) in (
      old.tokens,
      cut,
      is_spelled most old.tokens (program_in old.spellings tree) new.tokens tokens
          (h.gives most (omega arith)),
    )

-- what stands before a token that is left
record Split (old new : Place) : Type 0 where
  before : List Token
  token : Token
  rest : List Token
  left : new.tokens ≡ token ∷ rest
  split : old.tokens ≡ before ++ token ∷ rest

left_one : (ts : List Token) → AreTokens ts → (t : Token) × (more : List Token) × (ts ≡ t ∷ more)
left_one [] h = absurd h
left_one (t ∷ ts) h = (t, ts, refl)

-- reading stopped there
split_of : (ts : List Token) (r : Out Program) (old new : Place) → ts ≡ old.tokens → rest_of r ≡ new.tokens
    → AreTokens new.tokens → IsLocalTo (program (suc (length ts))) ts r → Split old new
split_of ts r old new same left tokens h =
    let one = left_one new.tokens tokens in
    record {
      before = h.0;
      token = one.0;
      rest = one.1;
      left = one.2;
      split = sym same ∙ h.1 ∙ ap (λ us. h.0 ++ us) (left ∙ one.2);
    }

split_at : (old new : Place) (r : Out Program) → run (program (suc (length old.tokens))) old.tokens ≡ r
    → rest_of r ≡ new.tokens → AreTokens new.tokens → Split old new
split_at old new r e left tokens =
    split_of old.tokens r old new refl left tokens
    (subst (λ r. IsLocalTo (program (suc (length old.tokens))) old.tokens r) e
    (local (program (suc (length old.tokens))) old.tokens))

-- at a token that shows a part of Pascal that is left out
pub is_left_out_at : {text : List ℕ} {old new : Place} {part : ℕ} {fault : Fault} → tokens_of text ≡ Ok old.tokens
    → AreTokens new.tokens → Parses program program_in old (Err (stop.LeftOut part)) new
    → fault ≡ fault_in (head new.tokens).line (left_out part) → IsFaultOf text fault
is_left_out_at {text = text} {old = old} {new = new} {part = part} {fault = fault} cut tokens h same =
    let most = suc (length old.tokens) in
    let e : run (program most) old.tokens ≡ Err (shown part, new.tokens) = h.gives most (omega arith) in
    let s = split_at old new (Err (shown part, new.tokens)) e refl tokens in
    inr (record {
      before = s.before;
      token = s.token;
      rest = s.rest;
      tokens = cut ∙ ap (λ ts. Ok ts) s.split;
      refusal = left_out part;
      shows = inr (is_faulty most old.tokens s.before s.token s.rest part s.split
          (e ∙ ap (λ ts. Err (shown part, ts)) s.left));
      same = same ∙ ap (λ ts. fault_in (head ts).line (left_out part)) s.left;
    })

-- at a token that may not stand there
pub is_misplaced_at : {text : List ℕ} {old new : Place} {fault : Fault} → tokens_of text ≡ Ok old.tokens
    → old.taken ≡ 0 → AreTokens new.tokens → Parses program program_in old (Err stop.Misplaced) new
    → fault ≡ fault_in (head new.tokens).line (misplaced_by (part_behind (take new.taken old.tokens)
    (head (drop new.taken old.tokens)).kind)) → IsFaultOf text fault
is_misplaced_at {text = text} {old = old} {new = new} {fault = fault} cut start tokens h same =
    let most = suc (length old.tokens) in
    let e : run (program most) old.tokens ≡ Err (misplaced, new.tokens) = h.gives most (omega arith) in
    let s = split_at old new (Err (misplaced, new.tokens)) e refl tokens in
    let all : length old.tokens ≡ length s.before + length (s.token ∷ s.rest) = ap length s.split
    ∙ length-append s.before (s.token ∷ s.rest) in
    let count : new.taken ≡ length s.before = omega (arith, h.taken, start, all, ap length s.left) in
    let front : take new.taken old.tokens ≡ s.before = ap (λ n. take n old.tokens) count
    ∙ ap (take (length s.before)) s.split ∙ take-append_seam s.before (s.token ∷ s.rest) in
    let behind : drop new.taken old.tokens ≡ s.token ∷ s.rest = ap (λ n. drop n old.tokens) count
    ∙ ap (drop (length s.before)) s.split ∙ drop-append_seam s.before (s.token ∷ s.rest) in
    inr (record {
      before = s.before;
      token = s.token;
      rest = s.rest;
      tokens = cut ∙ ap (λ ts. Ok ts) s.split;
      refusal = misplaced_at s.before s.token;
      shows = inl (
        is_misplaced old.tokens s.before s.token s.rest s.split
            (λ most enough. h.gives most enough ∙ ap (λ ts. Err (misplaced, ts)) s.left),
        refl,
      );
      same = same ∙ ap (λ ts. fault_in (head ts).line (misplaced_by (part_behind (take new.taken old.tokens)
          (head (drop new.taken old.tokens)).kind))) s.left
          ∙ ap (λ us. fault_in s.token.line (misplaced_by (part_behind us (head (drop new.taken old.tokens)).kind)))
          front
          ∙ ap (λ us. fault_in s.token.line (misplaced_by (part_behind s.before (head us).kind))) behind;
    })

-- what the reader of a text is begun with
within_by : (b : Bool) (text : List ℕ) (fault : Fault) (tokens : List Token) → b ≡ nat_lt FILE_LIMIT (length text)
    → cond b (Err fault) (tokens_from (length text) text text) ≡ Ok tokens → length text ≤ FILE_LIMIT
within_by true text fault tokens is e = absurd cc
within_by false text fault tokens is e = ltb-false FILE_LIMIT (length text) (sym is)

pub text_within : (text : List ℕ) (tokens : List Token) → tokens_of text ≡ Ok tokens → length text ≤ FILE_LIMIT
unfolding tokens_of
text_within text tokens e = within_by (nat_lt FILE_LIMIT (length text)) text _ tokens refl e
