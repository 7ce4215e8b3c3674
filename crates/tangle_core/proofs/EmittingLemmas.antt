-- From what the folder and the packer say of an item, or of the end, to what is said of the lines.
use Rattle.std.proofs.Common.{◌≡◌, ℕ, ◌+◌, ◌<◌, ◌≤◌, List, [], ◌∷◌, ◌++◌, length, Option, Some, None}
use Rattle.std.proofs.Common.{Result, OnOk, OnErr, IfErr, Ok, Err, refl, sym, ◌∙◌, ap, subst, append_assoc, arith, length-append}
use Rattle.std.proofs.Common.{◌⊎◌, inl, inr}
use Rattle.std.proofs.lemmas.List.{append-nil}
use Rattle.std.proofs.lemmas.List.Elements.{All-tail, All-cons, All-nil}
use Rattle.std.specs.Prelude.{option_map}
use Rattle.wb_base.specs.declared.places.FileTag.TheVariants.{Pas}
use Rattle.wb_base.specs.declared.faults.Fault.{Fault as Flaw}
use Rattle.wb_base.specs.declared.faults.TheConstants.{LINE_NOT_CUT}
use Rattle.wb_base.specs.FaultAt.{fault_at}
use Rattle.wb_ports.specs.Held.{Gains, GainsPrefix}
use Rattle.wb_ports.proofs.HeldLemmas.{gains_on, gains_nothing, gains_prefix_on, prefix_of_more}
use Rattle.macro_expand.specs.declared.refusals.ExpandErr.{ExpandErr}
use Rattle.macro_expand.specs.declared.limits.TheConstants.{STEP_LIMIT}
use Rattle.macro_expand.specs.Items.{Expanded}
use Rattle.macro_expand.specs.Expansion.{Expansion}
use Rattle.tangle_out.specs.declared.packing.TheConstants.{WIDTH}
use Rattle.tangle_out.specs.declared.pieces.OutErr.{OutErr}
use Rattle.tangle_out.specs.declared.pieces.OutErr.TheVariants.{Fault, Failed}
use Rattle.tangle_out.specs.Pieces.{Piece}
use Rattle.tangle_out.specs.Folding.{Folded, folded}
use Rattle.tangle_out.specs.Folder.{FolderState, HasRoomFor, IsShort, Adds, Shows, AddsAtEnd}
use Rattle.tangle_out.specs.Folder.{Stands as FolderStands}
use Rattle.tangle_out.specs.Packing.{text_of_lines, finished_lines}
use Rattle.tangle_out.specs.Packing.{packed_lines, forced_line, Finishes, EndFinishes}
use Rattle.tangle_out.specs.Packer.{PackerState, Stands as PackerStands}
use Rattle.tangle_out.proofs.FolderLemmas.{Stands-room}
use Rattle.tangle_core.specs.Tangled.{Lined, number_of, lined, lined_to_end, tangled, fault_after}
use Rattle.tangle_core.specs.inner.Emitting.{lined_behind, so_far, made_of, Breaks, Whole, Sent, CanCount, At}
use Rattle.tangle_core.specs.inner.Emitting.{Going, Packs, IfFaultCode}
use Rattle.tangle_core.proofs.LinedLemmas.{lined-stands, lined-Finishes, lined-fault}
use Rattle.tangle_core.proofs.LinedLemmas.{lined-finished, finished-few, Front, lined-front}
use Rattle.tangle_core.proofs.FoldedLemmas.{so_far-stays, so_far-front, lined_to_end-fault, made_of-fault}

text_of_lines-append : (a b : List (List ℕ)) → text_of_lines (a ++ b) ≡ text_of_lines a ++ text_of_lines b
text_of_lines-append [] b = refl
text_of_lines-append (line ∷ a) b =
    ap (λ (l : List ℕ). line ++ 10 ∷ l) (text_of_lines-append a b)
    ∙ sym (append_assoc line (10 ∷ text_of_lines a) (text_of_lines b))

-- lines that are told after others
told_on : (start mid now : Option (List ℕ)) (lines added all : List (List ℕ)) → all ≡ lines ++ added
    → Gains (text_of_lines lines) start mid → Gains (text_of_lines added) mid now → Gains (text_of_lines all) start now
told_on start mid now lines added all is first second =
    let text_is : text_of_lines all ≡ text_of_lines lines ++ text_of_lines added =
    ap text_of_lines is ∙ text_of_lines-append lines added in
    subst (λ (t : List ℕ). Gains t start now) (sym text_is) (gains_on start mid now _ _ first second)

prefix_on : (start mid now : Option (List ℕ)) (lines added all : List (List ℕ)) → all ≡ lines ++ added
    → Gains (text_of_lines lines) start mid → GainsPrefix (text_of_lines added) mid now
    → GainsPrefix (text_of_lines all) start now
prefix_on start mid now lines added all is first second =
    let text_is : text_of_lines all ≡ text_of_lines lines ++ text_of_lines added =
    ap text_of_lines is ∙ text_of_lines-append lines added in
    subst (λ (t : List ℕ). GainsPrefix t start now) (sym text_is) (gains_prefix_on start mid now _ _ first second)

-- a prefix of lines in front is one of all
pub prefix-front : (start now : Option (List ℕ)) (front lines : List (List ℕ)) → Front front lines
    → GainsPrefix (text_of_lines front) start now → GainsPrefix (text_of_lines lines) start now
prefix-front start now front lines (more, is) prefix =
    let text_is : text_of_lines lines ≡ text_of_lines front ++ text_of_lines more =
    ap text_of_lines is ∙ text_of_lines-append front more in
    subst (λ (t : List ℕ). GainsPrefix t start now) (sym text_is) (prefix_of_more start now _ _ prefix)

-- ---- pieces

pub Sent-new : (packer : PackerState) (start : Option (List ℕ)) → PackerStands WIDTH packer []
    → Sent packer [] start start
Sent-new packer start stands = record { stands = stands; told = gains_nothing start }

-- a piece was packed
pub Packs-piece : (whole : List Piece) (first packer next : PackerState) (first_held held now : Option (List ℕ))
    (piece : Piece) (left : List Piece)
    → Packs whole first first_held packer (piece ∷ left) held
    → ((pieces : List Piece) → PackerStands WIDTH packer pieces
    → (lines : List (List ℕ)) × (Finishes WIDTH pieces piece lines × Gains (text_of_lines lines) held now))
    → ((pieces : List Piece) → PackerStands WIDTH packer pieces → PackerStands WIDTH next (pieces ++ piece ∷ []))
    → Packs whole first first_held next left now
Packs-piece whole first packer next first_held held now piece left packs gained stands = record {
  can_count = record {
    pieces = packs.can_count.pieces ++ piece ∷ [];
    stands = stands packs.can_count.pieces packs.can_count.stands;
    few = omega (arith, packs.can_count.few, length-append packs.can_count.pieces (piece ∷ []));
  };
  short = All-tail IsShort piece left packs.short;
  sends = λ before start sent.
      let there = packs.sends before start sent in
      let done : List Piece = there.0 in
      let made = gained done there.1.0.stands in
      let lines_is : (lined (done ++ piece ∷ [])).lines ≡ (lined done).lines ++ made.0 =
      ap (λ (l : Lined). l.lines) (lined-Finishes done piece made.0 made.1.0) in (
        done ++ piece ∷ [],
        (
          record {
            stands = stands done there.1.0.stands;
            told = told_on start held now _ _ _ lines_is there.1.0.told made.1.1;
          },
          append_assoc done (piece ∷ []) left ∙ there.1.1,
        ),
      );
}

-- lines of pieces that a packer stands for, and this fault behind them
pub Breaks-sent : (made : Lined) (packer : PackerState) (pieces : List Piece) (code : ℕ) (start held : Option (List ℕ))
    → made ≡ record { lines = (lined pieces).lines; fault = Some code } → Sent packer pieces start held
    → Breaks made code packer.finished start held
Breaks-sent made packer pieces code start held is sent =
    subst (λ (l : Lined). Breaks l code packer.finished start held) (sym is) (record {
      fault = refl;
      tells = record { counted = (lined-stands packer pieces sent.stands).1; told = sent.told };
    })

-- a piece showed a fault
pub Packs-fault : (whole : List Piece) (first packer : PackerState) (first_held held : Option (List ℕ)) (piece : Piece)
    (left : List Piece)
    → Packs whole first first_held packer (piece ∷ left) held
    → ((pieces : List Piece) → PackerStands WIDTH packer pieces
    → finished_lines WIDTH (pieces ++ piece ∷ []) ≡ Err LINE_NOT_CUT)
    → (before : List Piece) (start : Option (List ℕ)) → Sent first before start first_held
    → (rest : List Piece) → Breaks (lined ((before ++ whole) ++ rest)) LINE_NOT_CUT packer.finished start held
Packs-fault whole first packer first_held held piece left packs shown before start sent rest =
    let there = packs.sends before start sent in
    let done : List Piece = there.0 in
    let parts : (before ++ whole) ++ rest ≡ done ++ piece ∷ (left ++ rest) =
    ap (λ (l : List Piece). l ++ rest) (sym there.1.1) ∙ append_assoc done (piece ∷ left) rest in
    Breaks-sent _ packer done LINE_NOT_CUT start held
    (ap lined parts
    ∙ lined-fault packer done piece (left ++ rest) LINE_NOT_CUT there.1.0.stands (shown done there.1.0.stands))
    there.1.0

-- a call of the sink failed at a piece
pub Packs-failed : (whole : List Piece) (first packer : PackerState) (first_held held now : Option (List ℕ))
    (piece : Piece) (left : List Piece)
    → Packs whole first first_held packer (piece ∷ left) held
    → ((pieces : List Piece) → PackerStands WIDTH packer pieces
    → (lines : List (List ℕ)) × (Finishes WIDTH pieces piece lines × GainsPrefix (text_of_lines lines) held now))
    → (before : List Piece) (start : Option (List ℕ)) → Sent first before start first_held
    → GainsPrefix (text_of_lines (lined (before ++ whole)).lines) start now
Packs-failed whole first packer first_held held now piece left packs failed before start sent =
    let there = packs.sends before start sent in
    let done : List Piece = there.0 in
    let made = failed done there.1.0.stands in
    let lines_is : (lined (done ++ piece ∷ [])).lines ≡ (lined done).lines ++ made.0 =
    ap (λ (l : Lined). l.lines) (lined-Finishes done piece made.0 made.1.0) in
    let parts : (done ++ piece ∷ []) ++ left ≡ before ++ whole = append_assoc done (piece ∷ []) left ∙ there.1.1 in
    let front : Front (lined (done ++ piece ∷ [])).lines (lined (before ++ whole)).lines =
    subst (λ (l : List Piece). Front (lined (done ++ piece ∷ [])).lines (lined l).lines) parts
    (lined-front (done ++ piece ∷ []) left) in
    prefix-front start now _ _ front (prefix_on start held now _ _ _ lines_is there.1.0.told made.1.1)

-- all pieces were packed
pub Packs-end : (whole : List Piece) (first packer : PackerState) (first_held held : Option (List ℕ))
    → Packs whole first first_held packer [] held
    → (before : List Piece) (start : Option (List ℕ)) → Sent first before start first_held
    → Sent packer (before ++ whole) start held
Packs-end whole first packer first_held held packs before start sent =
    let there = packs.sends before start sent in
    subst (λ (l : List Piece). Sent packer l start held) (sym (append-nil there.0) ∙ there.1.1) there.1.0

-- one piece
pub Packs-one : (packer : PackerState) (piece : Piece) (held : Option (List ℕ)) → CanCount packer 4 → IsShort piece
    → Packs (piece ∷ []) packer held packer (piece ∷ []) held
Packs-one packer piece held count short = record {
  can_count = record { pieces = count.pieces; stands = count.stands; few = omega (arith, count.few) };
  short = All-cons IsShort piece [] short (All-nil IsShort);
  sends = λ before start sent. (before, (sent, refl));
}

pub counts-piece : (T : Type 0) (r : Result T OutErr) (packer next : PackerState) (piece : Piece) → CanCount packer 4
    → OnOk r ((pieces : List Piece) → PackerStands WIDTH packer pieces
    → PackerStands WIDTH next (pieces ++ piece ∷ []))
    → OnErr r (next ≡ packer) → next.finished < 4294967295
counts-piece T (Ok value) packer next piece count stands same =
    omega (
      arith,
      finished-few next (count.pieces ++ piece ∷ []) (stands count.pieces count.stands),
      count.few,
      length-append count.pieces (piece ∷ []),
    )
counts-piece T (Err error) packer next piece count stands same =
    subst (λ (p : PackerState). p.finished < 4294967295) (sym same)
    (omega (arith, finished-few packer count.pieces count.stands, count.few))

-- ---- an item

pub At-new : (folder : FolderState) (packer : PackerState) (start : Option (List ℕ)) → FolderStands folder []
    → PackerStands WIDTH packer [] → At folder packer [] start start
At-new folder packer start folds stands =
    record { folds = folds; sent = Sent-new packer start stands; few = omega arith }

-- the pieces of an item were packed
pub At-item : (folder next_folder : FolderState) (packer next : PackerState) (items : List Expanded) (item : Expanded)
    (pieces : List Piece) (start held now : Option (List ℕ))
    → At folder packer items start held → FolderStands next_folder (items ++ item ∷ []) → Adds items item pieces
    → length pieces ≤ 4
    → ((before : List Piece) (start : Option (List ℕ)) → Sent packer before start held
    → Sent next (before ++ pieces) start now)
    → At next_folder next (items ++ item ∷ []) start now
At-item folder next_folder packer next items item pieces start held now at folds adds few packs =
    let is : (folded (items ++ item ∷ [])).pieces ≡ (folded items).pieces ++ pieces =
    ap (λ (f : Folded). f.pieces) adds in
    record {
      folds = folds;
      sent = subst (λ (l : List Piece). Sent next l start now) (sym is) (packs (folded items).pieces start at.sent);
      few = omega (
        arith,
        ap length is,
        length-append (folded items).pieces pieces,
        length-append items (item ∷ []),
        at.few,
      );
    }

none_yet : (folder : FolderState) (packer : PackerState) (items : List Expanded) (start held : Option (List ℕ))
    → At folder packer items start held → (lined (folded items).pieces).fault ≡ None
none_yet folder packer items start held at = (lined-stands packer (folded items).pieces at.sent.stands).0

-- a fault of folding behind the pieces of these items
pub Breaks-folded : (made : Folded) (folder : FolderState) (packer : PackerState) (items : List Expanded) (code : ℕ)
    (start held : Option (List ℕ))
    → made ≡ record { pieces = (folded items).pieces; fault = Some code } → At folder packer items start held
    → Breaks (lined_to_end made.pieces made.fault) code packer.finished start held
Breaks-folded made folder packer items code start held is at =
    Breaks-sent _ packer (folded items).pieces code start held
    (ap (λ (f : Folded). lined_to_end f.pieces f.fault) is
    ∙ lined_to_end-fault (folded items).pieces code (none_yet folder packer items start held at))
    at.sent

pub Breaks-shown : (folder : FolderState) (packer : PackerState) (items : List Expanded) (item : Expanded) (code : ℕ)
    (start held : Option (List ℕ))
    → At folder packer items start held → Shows items item code
    → Breaks (so_far (items ++ item ∷ [])) code packer.finished start held
Breaks-shown folder packer items item code start held at shows =
    let behind : Lined → Type 0 = λ l. Breaks l code packer.finished start held in
    let is : so_far (items ++ item ∷ []) ≡ lined_to_end (folded items).pieces (Some code) =
    ap (λ (f : Folded). lined_behind f.pieces f.fault) shows in
    subst behind (sym is) (Breaks-folded _ folder packer items code start held refl at)

-- pieces of an item without a fault of folding
pub so_far-adds : (items : List Expanded) (item : Expanded) (pieces : List Piece) → Adds items item pieces
    → so_far (items ++ item ∷ []) ≡ lined ((folded items).pieces ++ pieces)
so_far-adds items item pieces adds = ap (λ (f : Folded). lined_behind f.pieces f.fault) adds

-- one of them showed a fault
pub Breaks-packed : (items : List Expanded) (item : Expanded) (pieces : List Piece) (code count : ℕ)
    (start held : Option (List ℕ))
    → Adds items item pieces
    → ((rest : List Piece) → Breaks (lined (((folded items).pieces ++ pieces) ++ rest)) code count start held)
    → Breaks (so_far (items ++ item ∷ [])) code count start held
Breaks-packed items item pieces code count start held adds breaks =
    subst (λ (l : Lined). Breaks l code count start held)
    (ap lined (append-nil ((folded items).pieces ++ pieces)) ∙ sym (so_far-adds items item pieces adds)) (breaks [])

pub prefix-item : (items : List Expanded) (item : Expanded) (pieces : List Piece) (start now : Option (List ℕ))
    → Adds items item pieces
    → GainsPrefix (text_of_lines (lined ((folded items).pieces ++ pieces)).lines) start now
    → GainsPrefix (text_of_lines (so_far (items ++ item ∷ [])).lines) start now
prefix-item items item pieces start now adds prefix =
    subst (λ (l : Lined). GainsPrefix (text_of_lines l.lines) start now) (sym (so_far-adds items item pieces adds))
    prefix

-- ---- the end

pub made_of-adds : (items : List Expanded) (pieces : List Piece) → AddsAtEnd items pieces
    → made_of items None ≡ lined (((folded items).pieces ++ pieces) ++ forced_line ∷ [])
made_of-adds items pieces adds = ap (λ (f : Folded). lined_to_end f.pieces f.fault) adds

-- one of the last pieces showed a fault
pub Breaks-at_end : (items : List Expanded) (pieces : List Piece) (code count : ℕ) (start held : Option (List ℕ))
    → AddsAtEnd items pieces
    → ((rest : List Piece) → Breaks (lined (((folded items).pieces ++ pieces) ++ rest)) code count start held)
    → Breaks (made_of items None) code count start held
Breaks-at_end items pieces code count start held adds breaks =
    subst (λ (l : Lined). Breaks l code count start held) (sym (made_of-adds items pieces adds))
    (breaks (forced_line ∷ []))

-- the last line was finished
pub Whole-end : (packer : PackerState) (items : List Expanded) (pieces : List Piece) (count : ℕ)
    (start held now : Option (List ℕ))
    → AddsAtEnd items pieces → Sent packer ((folded items).pieces ++ pieces) start held
    → ((given : List Piece) → PackerStands WIDTH packer given
    → (lines : List (List ℕ)) × (EndFinishes WIDTH given lines × Gains (text_of_lines lines) held now))
    → ((given : List Piece) → PackerStands WIDTH packer given
    → (lines : List (List ℕ)) × ((packed_lines WIDTH given ≡ Ok lines) × (count ≡ length lines)))
    → Whole (made_of items None) count start now
Whole-end packer items pieces count start held now adds sent gained counted =
    let given : List Piece = (folded items).pieces ++ pieces in
    let made : Lined = lined (given ++ forced_line ∷ []) in
    let last = gained given sent.stands in
    let all = counted given sent.stands in
    let is : made ≡ record { lines = (lined given).lines ++ last.0; fault = None } =
    lined-Finishes given forced_line last.0 last.1.0 in
    let all_too : made ≡ record { lines = all.0; fault = None } =
    lined-finished (given ++ forced_line ∷ []) all.0 all.1.0 in
    subst (λ (l : Lined). Whole l count start now) (sym (made_of-adds items pieces adds)) (record {
      fault = ap (λ (l : Lined). l.fault) is;
      tells = record {
        counted = all.1.1 ∙ ap (λ (l : Lined). length l.lines) (sym all_too);
        told = told_on start held now _ _ _ (ap (λ (l : Lined). l.lines) is) sent.told last.1.1;
      };
    })

pub prefix-end : (packer : PackerState) (items : List Expanded) (pieces : List Piece)
    (start held now : Option (List ℕ))
    → AddsAtEnd items pieces → Sent packer ((folded items).pieces ++ pieces) start held
    → ((given : List Piece) → PackerStands WIDTH packer given
    → (lines : List (List ℕ)) × (EndFinishes WIDTH given lines × GainsPrefix (text_of_lines lines) held now))
    → GainsPrefix (text_of_lines (made_of items None).lines) start now
prefix-end packer items pieces start held now adds sent gained =
    let given : List Piece = (folded items).pieces ++ pieces in
    let last = gained given sent.stands in
    let is : (made_of items None).lines ≡ (lined given).lines ++ last.0 =
    ap (λ (l : Lined). l.lines)
    (made_of-adds items pieces adds ∙ lined-Finishes given forced_line last.0 last.1.0) in
    prefix_on start held now _ _ _ is sent.told last.1.1

pub prefix-packed : (items : List Expanded) (pieces : List Piece) (start now : Option (List ℕ))
    → AddsAtEnd items pieces
    → GainsPrefix (text_of_lines (lined ((folded items).pieces ++ pieces)).lines) start now
    → GainsPrefix (text_of_lines (made_of items None).lines) start now
prefix-packed items pieces start now adds prefix =
    let given : List Piece = (folded items).pieces ++ pieces in
    prefix-front start now _ _
    (subst (λ (l : Lined). Front (lined given).lines l.lines) (sym (made_of-adds items pieces adds))
    (lined-front given (forced_line ∷ []))) prefix

-- ---- on the way through an expansion

pub Going-new : (whole : Expansion) (folder : FolderState) (packer : PackerState) (start : Option (List ℕ))
    → length whole.items ≤ STEP_LIMIT → At folder packer [] start start
    → Going whole folder packer whole start start
Going-new whole folder packer start few at =
    record { items = []; at = at; parts = refl; fault = refl; few = few }

-- there is room for the next item
pub Going-room : (whole left : Expansion) (folder : FolderState) (packer : PackerState) (start held : Option (List ℕ))
    (item : Expanded) (rest : List Expanded) (fault : Option ExpandErr)
    → Going whole folder packer left start held → left ≡ record { items = item ∷ rest; fault = fault }
    → HasRoomFor folder item
Going-room whole left folder packer start held item rest fault going is =
    Stands-room going.items item folder going.at.folds
    (omega (
      arith,
      going.few,
      ap length going.parts,
      length-append going.items left.items,
    ))

pub Going-counts : (whole left : Expansion) (folder : FolderState) (packer : PackerState) (start held : Option (List ℕ))
    → Going whole folder packer left start held → CanCount packer 4
Going-counts whole left folder packer start held going = record {
  pieces = (folded going.items).pieces;
  stands = going.at.sent.stands;
  few = omega (
    arith,
    going.few,
    going.at.few,
    ap length going.parts,
    length-append going.items left.items,
  );
}

-- the items so far with the next, and those behind it
parts-on : (whole left : Expansion) (items rest : List Expanded) (item : Expanded) (fault : Option ExpandErr)
    → items ++ left.items ≡ whole.items → left ≡ record { items = item ∷ rest; fault = fault }
    → (items ++ item ∷ []) ++ rest ≡ whole.items
parts-on whole left items rest item fault parts is =
    append_assoc items (item ∷ []) rest
    ∙ ap (λ (l : List Expanded). items ++ l) (ap (λ (e : Expansion). e.items) (sym is))
    ∙ parts

-- the next item was taken
pub Going-item : (whole left next : Expansion) (folder next_folder : FolderState) (packer next_packer : PackerState)
    (start held now : Option (List ℕ)) (item : Expanded)
    → Going whole folder packer left start held → left ≡ record { items = item ∷ next.items; fault = next.fault }
    → ((items : List Expanded) (start : Option (List ℕ)) → At folder packer items start held
    → At next_folder next_packer (items ++ item ∷ []) start now)
    → Going whole next_folder next_packer next start now
Going-item whole left next folder next_folder packer next_packer start held now item going is takes = record {
  items = going.items ++ item ∷ [];
  at = takes going.items start going.at;
  parts = parts-on whole left going.items next.items item next.fault going.parts is;
  fault = ap (λ (e : Expansion). e.fault) (sym is) ∙ going.fault;
  few = going.few;
}

-- the next item showed a fault
pub Going-breaks : (whole left : Expansion) (rest : List Expanded) (fault : Option ExpandErr) (folder : FolderState)
    (packer : PackerState) (code count : ℕ) (start held now : Option (List ℕ)) (item : Expanded)
    → Going whole folder packer left start held → left ≡ record { items = item ∷ rest; fault = fault }
    → ((items : List Expanded) (start : Option (List ℕ)) → At folder packer items start held
    → Breaks (so_far (items ++ item ∷ [])) code count start now)
    → Breaks (made_of whole.items whole.fault) code count start now
Going-breaks whole left rest fault folder packer code count start held now item going is takes =
    let breaks : Breaks (so_far (going.items ++ item ∷ [])) code count start now = takes going.items start going.at in
    let all : made_of whole.items whole.fault ≡ so_far (going.items ++ item ∷ []) =
    ap (λ (l : List Expanded). made_of l whole.fault)
    (sym (parts-on whole left going.items rest item fault going.parts is))
    ∙ so_far-stays (going.items ++ item ∷ []) rest whole.fault code breaks.fault in
    subst (λ (l : Lined). Breaks l code count start now) (sym all) breaks

-- a call of the sink failed at the next item
pub Going-failed : (whole left : Expansion) (rest : List Expanded) (fault : Option ExpandErr) (folder : FolderState)
    (packer : PackerState) (start held now : Option (List ℕ)) (item : Expanded)
    → Going whole folder packer left start held → left ≡ record { items = item ∷ rest; fault = fault }
    → ((items : List Expanded) (start : Option (List ℕ)) → At folder packer items start held
    → GainsPrefix (text_of_lines (so_far (items ++ item ∷ [])).lines) start now)
    → GainsPrefix (text_of_lines (made_of whole.items whole.fault).lines) start now
Going-failed whole left rest fault folder packer start held now item going is takes =
    let front : Front (so_far (going.items ++ item ∷ [])).lines (made_of whole.items whole.fault).lines =
    subst (λ (l : List Expanded). Front (so_far (going.items ++ item ∷ [])).lines (made_of l whole.fault).lines)
    (parts-on whole left going.items rest item fault going.parts is)
    (so_far-front (going.items ++ item ∷ []) rest whole.fault) in
    prefix-front start now _ _ front (takes going.items start going.at)

-- no item is left
all_items : (whole left : Expansion) (items : List Expanded) (fault : Option ExpandErr)
    → items ++ left.items ≡ whole.items → left.fault ≡ whole.fault → left ≡ record { items = []; fault = fault }
    → made_of whole.items whole.fault ≡ made_of items fault
all_items whole left items fault parts fault_is is =
    let items_are : whole.items ≡ items =
    sym parts ∙ ap (λ (e : Expansion). items ++ e.items) is ∙ append-nil items in
    let same : whole.fault ≡ fault = sym fault_is ∙ ap (λ (e : Expansion). e.fault) is in
    ap (λ (l : List Expanded). made_of l whole.fault) items_are ∙ ap (made_of items) same

-- the expansion has a fault
pub Going-fault : (whole left : Expansion) (error : ExpandErr) (folder : FolderState) (packer : PackerState)
    (start held : Option (List ℕ))
    → Going whole folder packer left start held → left ≡ record { items = []; fault = Some error }
    → Breaks (made_of whole.items whole.fault) (number_of error) packer.finished start held
Going-fault whole left error folder packer start held going is =
    let pieces : List Piece = (folded going.items).pieces in
    Breaks-sent _ packer pieces (number_of error) start held
    (all_items whole left going.items (Some error) going.parts going.fault is
    ∙ made_of-fault going.items error going.at.folds.no_fault
    ∙ lined_to_end-fault pieces (number_of error) (none_yet folder packer going.items start held going.at))
    going.at.sent

-- what holds at the end of these items holds at that of all
pub Going-end : (whole left : Expansion) (folder : FolderState) (packer : PackerState) (start held : Option (List ℕ))
    (P : Lined → Option (List ℕ) → Type 0)
    → Going whole folder packer left start held → left ≡ record { items = []; fault = None }
    → ((items : List Expanded) (start : Option (List ℕ)) → At folder packer items start held
    → P (made_of items None) start)
    → P (made_of whole.items whole.fault) start
Going-end whole left folder packer start held P going is ends =
    subst (λ (l : Lined). P l start) (sym (all_items whole left going.items None going.parts going.fault is))
    (ends going.items start going.at)

-- ---- answers

-- what holds of the fault that is answered
pub if_fault : (T : Type 0) (error : OutErr) (P : ℕ → Type 0) (code : ℕ) → (error ≡ Failed) ⊎ (error ≡ Fault code)
    → (error ≡ Fault code → P code) → IfFaultCode {T = T} (Err error) P
if_fault T Failed P code which holds = tt
if_fault T (Fault other) P code (inl failed) holds = absurd (cc)
if_fault T (Fault other) P code (inr is) holds =
    let same : code ≡ other = cc in subst P same (holds is)

pub if_fault_of : (T : Type 0) (r : Result T OutErr) (P : ℕ → Type 0) (code : ℕ)
    → IfErr r (λ error. (error ≡ Failed) ⊎ (error ≡ Fault code)) → (r ≡ Err (Fault code) → P code) → IfFaultCode r P
if_fault_of T (Ok value) P code which holds = tt
if_fault_of T (Err error) P code which holds = if_fault T error P code which (λ is. holds (ap Err is))

pub if_fault-map : (T : Type 0) (r : Result T OutErr) (P Q : ℕ → Type 0) → ((code : ℕ) → P code → Q code)
    → IfFaultCode r P → IfFaultCode r Q
if_fault-map T (Ok value) P Q f h = tt
if_fault-map T (Err (Fault code)) P Q f h = f code h
if_fault-map T (Err Failed) P Q f h = tt

-- a packer that can still count has counted fewer
pub counts-few : (packer : PackerState) (more : ℕ) → CanCount packer more → packer.finished < 4294967295
counts-few packer more count =
    omega (arith, finished-few packer count.pieces count.stands, count.few)

pub on_ok-both : (T E P Q R : Type 0) (r : Result T E) → (P → Q → R) → OnOk r P → OnOk r Q → OnOk r R
on_ok-both T E P Q R (Ok value) f p q = f p q
on_ok-both T E P Q R (Err error) f p q = tt

-- ---- all lines

pub tangled-lines : (whole : Expansion) → (tangled whole).lines ≡ (made_of whole.items whole.fault).lines
unfolding tangled
tangled-lines whole = refl

pub tangled-fault : (whole : Expansion) → (tangled whole).fault
    ≡ option_map (fault_after (made_of whole.items whole.fault).lines) (made_of whole.items whole.fault).fault
unfolding tangled
tangled-fault whole = refl

pub tangled-Whole : (whole : Expansion) (count : ℕ) (start held : Option (List ℕ))
    → Whole (made_of whole.items whole.fault) count start held
    → ((tangled whole).fault ≡ None) × (count ≡ length (tangled whole).lines)
tangled-Whole whole count start held all =
    let made = made_of whole.items whole.fault in (
      tangled-fault whole ∙ ap (option_map (fault_after made.lines)) all.fault,
      all.tells.counted ∙ ap length (sym (tangled-lines whole)),
    )

pub tangled-Breaks : (whole : Expansion) (code count : ℕ) (start held : Option (List ℕ))
    → Breaks (made_of whole.items whole.fault) code count start held
    → (tangled whole).fault ≡ Some (fault_at code (record { file = Pas; line = count + 1 }))
tangled-Breaks whole code count start held breaks =
    let made = made_of whole.items whole.fault in
    let at : ℕ → Option Flaw = λ n. Some (fault_at code (record { file = Pas; line = n + 1 })) in
    tangled-fault whole ∙ ap (option_map (fault_after made.lines)) breaks.fault ∙ ap at (sym breaks.tells.counted)

pub tangled-told : (whole : Expansion) (start held : Option (List ℕ))
    → Gains (text_of_lines (made_of whole.items whole.fault).lines) start held
    → Gains (text_of_lines (tangled whole).lines) start held
tangled-told whole start held told =
    subst (λ (l : List (List ℕ)). Gains (text_of_lines l) start held) (sym (tangled-lines whole)) told

pub tangled-prefix : (whole : Expansion) (start held : Option (List ℕ))
    → GainsPrefix (text_of_lines (made_of whole.items whole.fault).lines) start held
    → GainsPrefix (text_of_lines (tangled whole).lines) start held
tangled-prefix whole start held told =
    subst (λ (l : List (List ℕ)). GainsPrefix (text_of_lines l) start held) (sym (tangled-lines whole)) told

-- what holds where a fault is answered
pub of_fault : (T : Type 0) (error : OutErr) (P : ℕ → Type 0) (code : ℕ) → IfFaultCode {T = T} (Err error) P
    → error ≡ Fault code → P code
of_fault T Failed P code holds is = absurd (cc)
of_fault T (Fault other) P code holds is = let same : other ≡ code = cc in subst P same holds
