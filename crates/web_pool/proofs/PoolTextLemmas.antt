-- The text of a pool, line by line.
use Rattle.std.proofs.Common.{◌≡◌, ℕ, ◌+◌, ◌<◌, ◌≤◌, List, [], ◌∷◌, ◌++◌, codes, length, take, drop, get_or, All}
use Rattle.std.proofs.Common.{Vec, Option, refl, sym, ap, ◌∙◌, subst, append_assoc, append-nil, arith}
use Rattle.std.specs.List.{flat_map}
use Rattle.std.specs.declared.alloc.Global.{Global}
use Rattle.std.proofs.lemmas.Grind.{flat_map-append}
use Rattle.std.proofs.lemmas.List.{take_more, take_all, take-append-drop, length-map, get_or-map}
use Rattle.std.proofs.lemmas.List.Elements.{All-get_or}
use Rattle.wb_ports.specs.Held.{GainsPrefix}
use Rattle.web_pool.specs.PoolText.{pool_line, pool_text}
use Rattle.web_pool.specs.inner.Gathering.{HandsOn}
use Rattle.web_pool.specs.inner.PoolParts.{strings_in}
use Rattle.web_pool.specs.declared.pool.TheConstants.{LONGEST_STRING}
use Rattle.web_pool.proofs.GatheringLemmas.{hands_prefix_then, prefix_of_whole}

-- the last line of a pool
abbrev pub end_line : List ℕ
end_line = codes "*000000000\n"

-- the lines of some strings
abbrev pub lines_of : List (List ℕ) → List ℕ
lines_of texts = flat_map pool_line texts

pub pool_text-none : (texts : List (List ℕ)) → length texts ≡ 0 → pool_text texts ≡ []
unfolding pool_text
pool_text-none [] none = refl
pool_text-none (text ∷ texts) none = absurd (omega arith)

pub pool_text-some : (texts : List (List ℕ)) → 0 < length texts → pool_text texts ≡ lines_of texts ++ end_line
unfolding pool_text
pool_text-some [] some = absurd (omega arith)
pool_text-some (text ∷ texts) some = refl

module _ (items : List (Vec ℕ Global)) (i : ℕ) (text : Vec ℕ Global) (within : i < length items)
    (is : text ≡ get_or items i text) where
  -- one string more
  pub lines_of-more : lines_of (take (i + 1) (strings_in items)) ≡ lines_of
      (take i (strings_in items)) ++ pool_line text.items
  lines_of-more =
      let inside : i < length (strings_in items) = omega (arith, length-map items (λ (t : Vec ℕ Global). t.items)) in
      let at : get_or (strings_in items) i [] ≡ text.items =
      get_or-map (λ (t : Vec ℕ Global). t.items) items i text [] within ∙ ap (λ (t : Vec ℕ Global). t.items) (sym is) in
      ap lines_of (take_more (strings_in items) i [] inside)
      ∙ flat_map-append pool_line (take i (strings_in items)) (get_or (strings_in items) i [] ∷ [])
      ∙ ap (λ l. lines_of (take i (strings_in items)) ++ l) (append-nil _ ∙ ap pool_line at)

  -- the lines so far and this one come first
  pub lines_of-rest : lines_of (strings_in items)
      ≡ (lines_of (take i (strings_in items)) ++ pool_line text.items) ++ lines_of (drop (i + 1) (strings_in items))
  lines_of-rest =
      ap lines_of (sym (take-append-drop (i + 1) (strings_in items)))
      ∙ flat_map-append pool_line (take (i + 1) (strings_in items)) (drop (i + 1) (strings_in items))
      ∙ ap (λ l. l ++ lines_of (drop (i + 1) (strings_in items))) lines_of-more

-- what was got of the lines so far and the next is a prefix of the text
pub failed_line : (texts : List (List ℕ)) (items : List (Vec ℕ Global)) (i : ℕ) (text : Vec ℕ Global)
    (out kept piece : List ℕ) (a b c : Option (List ℕ)) → strings_in items ≡ texts → i < length items
    → text ≡ get_or items i text → out ≡ [] → piece ≡ pool_line text.items
    → HandsOn (out ++ lines_of (take i (strings_in items))) kept a b → GainsPrefix (kept ++ piece) b c
    → GainsPrefix (pool_text texts) a c
failed_line texts items i text out kept piece a b c same within is none line hands got =
    let some : 0 < length (strings_in items) = omega (arith, length-map items (λ (t : Vec ℕ Global). t.items)) in
    let part = lines_of (take i (strings_in items)) ++ piece in
    let rest = lines_of (drop (i + 1) (strings_in items)) ++ end_line in
    let whole : pool_text (strings_in items) ≡ part ++ rest =
    pool_text-some (strings_in items) some ∙ ap (λ l. l ++ end_line) (lines_of-rest items i text within is)
    ∙ ap (λ p. ((lines_of (take i (strings_in items)) ++ p) ++ lines_of (drop (i + 1) (strings_in items))) ++
    end_line) (sym line)
    ∙ append_assoc part (lines_of (drop (i + 1) (strings_in items))) end_line in
    let all : GainsPrefix (out ++ pool_text (strings_in items)) a c =
    prefix_of_whole out part rest _ a c whole (hands_prefix_then out _ piece kept a b c hands got) in
    subst (λ (l : List ℕ). GainsPrefix l a c)
    (ap (λ o. o ++ pool_text (strings_in items)) none ∙ ap pool_text same) all

-- the whole text, once all strings were written
pub whole_text : (texts : List (List ℕ)) (items : List (Vec ℕ Global)) (i : ℕ) (out : List ℕ)
    → strings_in items ≡ texts → 0 < length texts → length items ≤ i → out ≡ []
    → out ++ (lines_of (take i (strings_in items)) ++ end_line) ≡ pool_text texts
whole_text texts items i out same some past none =
    let all : take i (strings_in items) ≡ texts =
    take_all i (strings_in items) (omega (arith, length-map items (λ (t : Vec ℕ Global). t.items))) ∙ same in
    ap (λ o. o ++ (lines_of (take i (strings_in items)) ++ end_line)) none
    ∙ ap (λ l. lines_of l ++ end_line) all ∙ sym (pool_text-some texts some)

-- each string is short enough
pub short_string : (texts : List (List ℕ)) (items : List (Vec ℕ Global)) (i : ℕ) (text : Vec ℕ Global)
    → strings_in items ≡ texts → All (λ t. length t ≤ LONGEST_STRING) texts → i < length items
    → text ≡ get_or items i text → length text.items ≤ LONGEST_STRING
short_string texts items i text same all within is =
    let inside : i < length (strings_in items) = omega (arith, length-map items (λ (t : Vec ℕ Global). t.items)) in
    let at : get_or (strings_in items) i [] ≡ text.items =
    get_or-map (λ (t : Vec ℕ Global). t.items) items i text [] within ∙ ap (λ (t : Vec ℕ Global). t.items) (sym is) in
    let short : All (λ t. length t ≤ LONGEST_STRING) (strings_in items) =
    subst (λ (l : List (List ℕ)). All (λ t. length t ≤ LONGEST_STRING) l) (sym same) all in
    subst (λ (l : List ℕ). length l ≤ LONGEST_STRING) at
    (All-get_or (λ t. length t ≤ LONGEST_STRING) (strings_in items) i [] inside short)
