-- A text while it is read: its tokens are lawful, and whatever follows it, parentheses balance as from its depth.
use Rattle.std.proofs.Common.{◌≡◌, ℕ, ◌+◌, ◌-◌, ◌≤◌, ◌==◌, ◌&&◌, inl, inr, Bool, true, false, nat_lt, if◌then◌else◌}
use Rattle.std.proofs.Common.{List, [], ◌∷◌, ◌++◌, length, drop, All, refl, sym, ap, ◌∙◌, subst, arith, append_assoc}
use Rattle.std.proofs.Common.{append-nil, length-append}
use Rattle.std.proofs.lemmas.Bool.Decides.{nat_tests}
use Rattle.std.proofs.lemmas.List.{drop-append-le}
use Rattle.std.proofs.lemmas.List.Sums.{fold_push}
use Rattle.std.proofs.lemmas.List.Elements.{All-nil, All-same, All-push}
use Rattle.std.proofs.Math.ListN.{drop_of_length-le}
use Rattle.wb_base.specs.declared.tokens.Tok.{Tok}
use Rattle.wb_base.specs.declared.tokens.Tok.TheVariants as tok
use Rattle.web_lex.specs.Token.{Token}
use Rattle.web_names.specs.declared.classes.Class.{Class}
use Rattle.web_names.specs.declared.classes.Class.TheVariants as class
use Rattle.web_scan.specs.Scanned.{Scanned}
use Rattle.web_scan.specs.Texts.{opened_after, still_open, is_closing, stored_since}
use Rattle.web_scan.specs.Lawful.{IsTokenOf, IsTextOf, HasNoParameter, is_balanced_from}
use Rattle.web_scan.proofs.KeepsLemmas.{Keeps, Keeps-grows, tokens-grow}
use Rattle.web_scan.proofs.StoredTokenLemmas.{HasNew, Stores}

-- whatever follows a text, parentheses balance as from its depth
abbrev pub BalancesOn : List Tok → Type 0
BalancesOn text = (rest : List Tok) → is_balanced_from 0 (text ++ rest) ≡ is_balanced_from (still_open text) rest

-- a sign, by whether it opens or closes a parenthesis
sign_step :
    (opens closes : Bool) (depth : ℕ) (rest : List Tok) → (closes ≡ true → depth == 0 ≡ false)
    → (if opens then is_balanced_from (depth + 1) rest
    else (if closes then nat_lt 0 depth && is_balanced_from (depth - 1) rest else is_balanced_from depth rest))
    ≡ is_balanced_from (if opens then depth + 1 else (if closes then depth - 1 else depth)) rest
sign_step true closes depth rest some = refl
sign_step false true depth rest some =
    let deep : nat_lt 0 depth ≡ true = let some = some refl in grind (arith, nat_tests) in
    ap (λ test. test && is_balanced_from (depth - 1) rest) deep
sign_step false false depth rest some = refl

-- a token before the rest
token_step : (depth : ℕ) (new : Tok) (rest : List Tok) → (new ≡ tok.Sign 41 → depth == 0 ≡ false)
    → is_balanced_from depth (new ∷ rest) ≡ is_balanced_from (opened_after depth new) rest
token_step depth (tok.Sign byte) rest some =
    sign_step (byte == 40) (byte == 41) depth rest
    (λ closes. some (let same : byte ≡ 41 = grind (arith, nat_tests) in ap (λ byte. tok.Sign byte) same))
token_step depth (tok.Letter byte) rest some = refl
token_step depth (tok.Digit byte) rest some = refl
token_step depth (tok.Name id) rest some = refl
token_step depth (tok.Number value) rest some = refl
token_step depth (tok.Joined two) rest some = refl
token_step depth (tok.Quoted index) rest some = refl
token_step depth (tok.Verbatim index) rest some = refl
token_step depth (tok.Section name) rest some = refl
token_step depth tok.Param rest some = refl
token_step depth tok.Join rest some = refl
token_step depth tok.Line rest some = refl
token_step depth tok.MetaOpen rest some = refl
token_step depth tok.MetaClose rest some = refl

BalancesOn-push : (text : List Tok) (new : Tok) → BalancesOn text → (new ≡ tok.Sign 41 → still_open text == 0 ≡ false)
    → BalancesOn (text ++ new ∷ [])
BalancesOn-push text new balances some = λ rest.
    ap (is_balanced_from 0) (append_assoc text (new ∷ []) rest) ∙ balances (new ∷ rest)
    ∙ token_step (still_open text) new rest some
    ∙ ap (λ depth. is_balanced_from depth rest) (sym (fold_push opened_after 0 text new))

-- a text that began after so many tokens, as far as it was read
pub record IsSoFar (kind : Class) (first : ℕ) (web : Scanned) : Type 0 where
  pub within : first ≤ length web.tokens
  pub tokens : All (IsTokenOf web) (stored_since first web)
  pub balances : BalancesOn (stored_since first web)
  pub parameter : (kind ≡ class.Parametric → ⊥) → HasNoParameter (stored_since first web)

-- a text before its first token
pub IsSoFar-none : (kind : Class) (web : Scanned) → IsSoFar kind (length web.tokens) web
IsSoFar-none kind web =
    let none : stored_since (length web.tokens) web ≡ [] = drop_of_length-le web.tokens (omega arith) in
    record {
      within = omega arith;
      tokens = All-same (IsTokenOf web) (stored_since (length web.tokens) web) [] none (All-nil (IsTokenOf web));
      balances = subst BalancesOn (sym none) (λ rest. refl);
      parameter = λ other. subst HasNoParameter (sym none) (All-nil (λ token. token ≡ tok.Param → ⊥));
    }

-- the same tokens in a web to which more was added
same_tokens :
    (kind : Class) (first : ℕ) (web after : Scanned) → Keeps web after → after.tokens ≡ web.tokens
    → IsSoFar kind first web → IsSoFar kind first after
same_tokens kind first web after keeps same is =
    let text : stored_since first web ≡ stored_since first after = ap (drop first) (sym same) in
    let grown = tokens-grow web after (Keeps-grows web after keeps) (stored_since first web) is.tokens in
    record {
      within = omega (arith, is.within, ap length same);
      tokens = subst (All (IsTokenOf after)) text grown;
      balances = subst BalancesOn text is.balances;
      parameter = λ other. subst HasNoParameter text (is.parameter other);
    }

-- one more token
one_token :
    (kind : Class) (first : ℕ) (token : Token) (web after : Scanned) → Keeps web after
    → (is_closing token ≡ true → still_open (stored_since first web) == 0 ≡ false) → HasNew kind token web after
    → IsSoFar kind first web → IsSoFar kind first after
one_token kind first token web after keeps some has is =
    let new = has.new in
    let before = stored_since first web in
    let text : before ++ new ∷ [] ≡ stored_since first after =
    sym (ap (drop first) has.is ∙ drop-append-le first web.tokens (new ∷ []) is.within) in
    let grown = tokens-grow web after (Keeps-grows web after keeps) before is.tokens in
    record {
      within = omega (arith, is.within, ap length has.is, length-append web.tokens (new ∷ []));
      tokens = subst (All (IsTokenOf after)) text (All-push (IsTokenOf after) before new grown has.stands.of);
      balances = subst BalancesOn text
          (BalancesOn-push before new is.balances (λ closes. some (has.stands.closes closes)));
      parameter = λ other. subst HasNoParameter text
          (All-push (λ token. token ≡ tok.Param → ⊥) before new (is.parameter other)
          (λ param. other (has.stands.parameter param)));
    }

-- what a token of the text leaves
pub IsSoFar-more :
    (kind : Class) (first : ℕ) (token : Token) (web after : Scanned)
    → (is_closing token ≡ true → still_open (stored_since first web) == 0 ≡ false) → Stores kind token web after
    → IsSoFar kind first web → IsSoFar kind first after
IsSoFar-more kind first token web after some stores is =
    elim stores.tokens [
      | inl same ↦ same_tokens kind first web after stores.keeps same is
      | inr has ↦ one_token kind first token web after stores.keeps some has is
    ]

-- a text that is read, where no parenthesis is open
pub IsTextOf-so_far : (kind : Class) (first : ℕ) (web : Scanned) → IsSoFar kind first web
    → still_open (stored_since first web) == 0 ≡ true → IsTextOf web (stored_since first web)
IsTextOf-so_far kind first web is closed =
    let text = stored_since first web in
    record {
      tokens = is.tokens;
      balanced = ap (is_balanced_from 0) (sym (append-nil text)) ∙ is.balances [] ∙ closed;
    }
