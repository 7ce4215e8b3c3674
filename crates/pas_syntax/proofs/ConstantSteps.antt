-- How the readers of constants and simple types go at each kind of token.
use Rattle.std.proofs.Common.{◌≡◌, refl, sym, ap, subst, ◌∙◌, ℕ, suc, ◌≤◌, arith, List, [], ◌∷◌, length}
use Rattle.std.proofs.Common.{Option, Some, None, Result}
use Rattle.pas_tokens.specs.declared.kinds.Kind.{Kind}
use Rattle.pas_tokens.specs.declared.kinds.Kind.TheVariants as k
use Rattle.pas_tokens.specs.Cutting.{Payload, nothing, value, spelling}
use Rattle.pas_tokens.specs.Tokens.{Token}
use Rattle.pas_syntax.specs.declared.stop.Stop.{Stop}
use Rattle.pas_syntax.specs.declared.operators.Sign.{Sign}
use Rattle.pas_syntax.specs.declared.operators.Sign.TheVariants as sign
use Rattle.pas_syntax.specs.declared.tree.Lined.{Lined as CodeLined}
use Rattle.pas_syntax.specs.Tree as tree
use Rattle.pas_syntax.specs.Tree.{Ident, Lined, Constant}
use Rattle.pas_syntax.specs.Words.{sign_kind}
use Rattle.pas_syntax.specs.Views.{sign_in}
use Rattle.pas_syntax.specs.inner.Prog.{done, look, skip, bind, run, head}
use Rattle.pas_syntax.specs.inner.Places.{Place, Fits, Passes, IsPlain, ParsesIn, Parses}
use Rattle.pas_syntax.specs.inner.Readers.{quoted, quoted_at, ident, ident_at}
use Rattle.pas_syntax.specs.inner.Marks.{mark_at}
use Rattle.pas_syntax.specs.inner.StatementReaders.{numeral, numeral_at}
use Rattle.pas_syntax.specs.inner.TypeReaders.{unsigned_at, lead_by, constant_at, constant, simple_at, simple}
use Rattle.pas_syntax.specs.inner.TypeReaders.{behind_simple_name, range_at, range_by}
use Rattle.pas_syntax.specs.inner.TypeViews.{IsLead, left_out_type}
use Rattle.pas_syntax.proofs.PlaceLemmas.{told, goes_as, skips, line_of_head}

pub fits_of_head : {old new : Place} {line : ℕ} → Passes old line new
    → Fits (head old.tokens).kind (head old.tokens).payload
fits_of_head h = subst (λ ts. Fits (head ts).kind (head ts).payload) (sym h.tokens) h.fits

-- constants
pub string_goes : (ts : List Token) → k.Text ≡ (head ts).kind
    → run constant ts ≡ run (bind quoted (λ found. done (tree.text found))) ts
string_goes ts is =
    sym (ap (λ kind. run (constant_at kind (head ts).payload (head ts).line) ts) is)
    ∙ goes (head ts).payload (head ts).line
    ∙ ap (λ kind. run (bind (quoted_at kind (head ts).payload (head ts).line) (λ found. done (tree.text found))) ts) is
  where
    goes : (payload : Payload) (line : ℕ) → run (constant_at k.Text payload line) ts
        ≡ run (bind (quoted_at k.Text payload line) (λ found. done (tree.text found))) ts
    goes (spelling text) line = elim ts as (λ ts. run (constant_at k.Text (spelling text) line) ts
        ≡ run (bind (quoted_at k.Text (spelling text) line) (λ found. done (tree.text found))) ts)
        [ [] ↦ refl | t ∷ ts ↦ refl ]
    goes payload line = refl

sign_plain : (op : Sign) → IsPlain (sign_kind op)
sign_plain sign.Plus = tt
sign_plain sign.Minus = tt

next_sign : (op : Sign) (line : ℕ)
    → constant_at (sign_kind op) nothing line ≡ skip (look (unsigned_at (lead_by op line)))
next_sign sign.Plus line = refl
next_sign sign.Minus line = refl

no_sign : (kind : Kind) (payload : Payload) (line : ℕ) → (k.Text ≡ kind → ⊥) → ((op : Sign) → kind ≡ sign_kind op → ⊥)
    → constant_at kind payload line ≡ unsigned_at None kind payload line
no_sign k.Text payload line text not = absurd (text refl)
no_sign k.Plus payload line text not = absurd (not sign.Plus refl)
no_sign k.Minus payload line text not = absurd (not sign.Minus refl)
no_sign kind payload line text not = refl

pub signed_constant : {X : Type 0} {view : List ℕ → X → Constant} {least : ℕ} {old middle new : Place}
    {result : Result X Stop} (lead : Option (CodeLined Sign)) → (k.Text ≡ (head old.tokens).kind → ⊥)
    → IsLead old lead middle → length old.tokens ≤ least
    → Parses (λ most. look (unsigned_at (sign_in lead))) view middle result new
    → ParsesIn (suc least) (λ most. constant) view old result new
signed_constant {old = old} (Some lead) text h enough rest =
    goes_as (λ most. told constant_at (sign_kind lead.item) old.tokens lead.line (sign_plain lead.item) h.0
    (fits_of_head h.1) (line_of_head h.1) ∙ ap (λ q. run q old.tokens) (next_sign lead.item lead.line))
    (skips h.1 (omega (arith, enough)) rest)
signed_constant {view = view} {least = least} {old = old} {new = new} {result = result} None text h enough rest =
    goes_as (λ most. ap (λ q. run q old.tokens) (no_sign (head old.tokens).kind (head old.tokens).payload
    (head old.tokens).line text h.1))
    (with_more_at (subst (λ place. Parses (λ most. look (unsigned_at None)) view place result new) h.0 rest))
  where
    with_more_at : Parses (λ most. look (unsigned_at None)) view old result new
        → ParsesIn (suc least) (λ most. look (unsigned_at None)) view old result new
    with_more_at h = record {
      gives = λ most more. h.gives most (omega (arith, more, enough));
      shorter = h.shorter;
      taken = h.taken;
      spellings = h.spellings;
    }

pub number_goes : (lead : Option (Lined Sign)) (ts : List Token) → k.Number ≡ (head ts).kind
    → run (look (unsigned_at lead)) ts ≡ run (bind numeral (λ found. done (tree.number lead found))) ts
number_goes lead ts is =
    sym (ap (λ kind. run (unsigned_at lead kind (head ts).payload (head ts).line) ts) is)
    ∙ goes (head ts).payload (head ts).line
    ∙ ap (λ kind. run (bind (numeral_at kind (head ts).payload (head ts).line) (λ found. done (tree.number lead found)))
    ts) is
  where
    goes : (payload : Payload) (line : ℕ) → run (unsigned_at lead k.Number payload line) ts
        ≡ run (bind (numeral_at k.Number payload line) (λ found. done (tree.number lead found))) ts
    goes (value number) line = elim ts as (λ ts. run (unsigned_at lead k.Number (value number) line) ts
        ≡ run (bind (numeral_at k.Number (value number) line) (λ found. done (tree.number lead found))) ts)
        [ [] ↦ refl | t ∷ ts ↦ refl ]
    goes payload line = refl

name_at : (lead : Option (Lined Sign)) (ts : List Token) (kind : Kind) (payload : Payload) (line : ℕ)
    → (k.Number ≡ kind → ⊥)
    → run (unsigned_at lead kind payload line) ts
    ≡ run (bind (ident_at kind payload line) (λ found. done (tree.named lead found))) ts
name_at lead ts k.Number payload line not = absurd (not refl)
name_at lead [] k.Name (spelling name) line not = refl
name_at lead (t ∷ ts) k.Name (spelling name) line not = refl
name_at lead ts kind payload line not = refl

pub name_goes : (lead : Option (Lined Sign)) (ts : List Token) → (k.Number ≡ (head ts).kind → ⊥)
    → run (look (unsigned_at lead)) ts ≡ run (bind ident (λ found. done (tree.named lead found))) ts
name_goes lead ts not = name_at lead ts (head ts).kind (head ts).payload (head ts).line not

-- simple types
pub dots_goes : (name : Ident) (ts : List Token) → k.Dots ≡ (head ts).kind → Fits (head ts).kind (head ts).payload
    → run (look (behind_simple_name name)) ts ≡ run (range_by (tree.named None name)) ts
dots_goes name ts is fits =
    told (behind_simple_name name) k.Dots ts (head ts).line tt is fits refl
    ∙ sym (told (λ kind payload line. bind (mark_at k.Dots kind payload line)
    (λ line. bind constant (λ high. done (tree.range (tree.named None name) line high)))) k.Dots ts (head ts).line tt is
    fits refl)

pub no_dots : (name : Ident) (kind : Kind) (payload : Payload) (line : ℕ) → (k.Dots ≡ kind → ⊥)
    → behind_simple_name name kind payload line ≡ done (tree.simple_named name)
no_dots name k.Dots payload line not = absurd (not refl)
no_dots name kind payload line not = refl

pub range_goes : (low : Constant) (ts : List Token) → run (look (range_at low)) ts ≡ run (range_by low) ts
range_goes low ts = goes (head ts).kind (head ts).payload (head ts).line
  where
    goes : (kind : Kind) (payload : Payload) (line : ℕ) → run (range_at low kind payload line) ts
        ≡ run (bind (mark_at k.Dots kind payload line)
        (λ line. bind constant (λ high. done (tree.range low line high))))
        ts
    goes k.Dots nothing line = refl
    goes k.Dots payload line = refl
    goes kind payload line = refl

simple_at_goes : (ts : List Token) (kind : Kind) (payload : Payload) (line : ℕ) → (k.Name ≡ kind → ⊥)
    → left_out_type kind ≡ None
    → simple_at kind payload line ≡ bind constant (λ low. look (range_at low))
simple_at_goes ts k.Name payload line not none = absurd (not refl)
simple_at_goes ts k.LeftParenthesis payload line not none = absurd cc
simple_at_goes ts k.Set payload line not none = absurd cc
simple_at_goes ts k.Caret payload line not none = absurd cc
simple_at_goes ts kind payload line not none = refl

pub simple_goes : (ts : List Token) → (k.Name ≡ (head ts).kind → ⊥) → left_out_type (head ts).kind ≡ None
    → run simple ts ≡ run (bind constant (λ low. look (range_at low))) ts
simple_goes ts not none =
    ap (λ q. run q ts) (simple_at_goes ts (head ts).kind (head ts).payload (head ts).line not none)
