-- The sizes of strings, a part at a time.
use Rattle.std.proofs.Common.{◌≡◌, ◌≢◌, ℕ, suc, ◌+◌, List, ◌∷◌, take, drop, get_or, cond, Result, Ok, Err, Option, Some}
use Rattle.std.proofs.Common.{None, refl, sym, ap, ◌∙◌, arith}
use Rattle.std.proofs.lemmas.List.{drop-drop}
use Rattle.std.proofs.lemmas.Bool.{ne_eqb}
use Rattle.wb_base.specs.declared.faults.TheConstants.{BAD_PASCAL_TOKEN}
use Rattle.pas_tokens.specs.declared.kinds.Kind.TheVariants.{Text}
use Rattle.pas_tokens.specs.Cutting.{spelling, Cut, Wrong, wrong, string_size, longer, string_by, token_cut}

longer-longer : (some more : ℕ) (size : Option ℕ) → longer some (longer more size) ≡ longer (some + more) size
longer-longer some more (Some size) = ap Some (omega arith)
longer-longer some more None = refl

pub longer-none : (size : Option ℕ) → size ≡ longer 0 size
longer-none (Some size) = ap Some (omega arith)
longer-none None = refl

-- after a part of so many bytes the size is greater by these
pub string_size-more :
    (bytes rest : List ℕ) (size more : ℕ) → rest ≡ drop size bytes
    → string_size rest ≡ longer more (string_size (drop more rest))
    → string_size bytes ≡ longer size (string_size (drop size bytes))
    → string_size bytes ≡ longer (size + more) (string_size (drop (size + more) bytes))
string_size-more bytes rest size more is part before =
    before
    ∙ ap (λ r. longer size (string_size r)) (sym is)
    ∙ ap (longer size) part
    ∙ longer-longer size more (string_size (drop more rest))
    ∙ ap (λ r. longer (size + more) (string_size r)) (ap (drop more) is ∙ drop-drop more size bytes)

-- where the part at a place is the end, or wrong
pub string_size-at :
    (bytes rest : List ℕ) (size : ℕ) (found : Option ℕ) → rest ≡ drop size bytes → string_size rest ≡ found
    → string_size bytes ≡ longer size (string_size (drop size bytes)) → string_size bytes ≡ longer size found
string_size-at bytes rest size found is part before =
    before ∙ ap (λ r. longer size (string_size r)) (sym is) ∙ ap (longer size) part

-- what stands behind a string, counted from its first quote and from the byte behind it
pub drop-quote : (quote size : ℕ) (inside : List ℕ) → drop (size + 2) (quote ∷ inside) ≡ drop (size + 1) inside
drop-quote quote size inside =
    let one : size + 2 ≡ suc (size + 1) = omega arith in
    ap (λ n. drop n (quote ∷ inside)) one

-- a string that is not empty
pub string_by-some : (inside : List ℕ) (size : ℕ) (found : Option ℕ) → size ≢ 0 → Some size ≡ found → (quote : ℕ)
    → Ok (record { kind = Text; payload = spelling (take size inside); rest = drop (size + 2) (quote ∷ inside) })
    ≡ string_by inside found
string_by-some inside size found some is quote =
    ap (λ rest. Ok (record { kind = Text; payload = spelling (take size inside); rest = rest }))
    (drop-quote quote size inside)
    ∙ sym (ap (λ b. cond b (Err (wrong BAD_PASCAL_TOKEN)) (Ok (record {
      kind = Text;
      payload = spelling (take size inside);
      rest = drop (size + 1) inside;
    }))) (ne_eqb size 0 some))
    ∙ ap (string_by inside) is

-- a text that begins with a quote
pub string_front : (text : List ℕ) (cut : ℕ → Result Cut Wrong) → 39 ≡ get_or text 0 0
    → ((quote : ℕ) → cut quote ≡ string_by (drop 1 text) (string_size (drop 1 text)))
    → (byte : ℕ) (bytes : List ℕ) → text ≡ byte ∷ bytes → cut byte ≡ token_cut byte bytes
string_front text cut quote found byte bytes is =
    let same : byte ≡ 39 = sym (ap (λ t. get_or t 0 0) is) ∙ sym quote in
    found byte ∙ ap (λ t. string_by (drop 1 t) (string_size (drop 1 t))) is ∙ ap (λ b. token_cut b bytes) (sym same)
