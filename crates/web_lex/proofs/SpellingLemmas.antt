-- The bytes of a section's name, one at a time.
use Rattle.std.proofs.Common.{◌≡◌, ◌≢◌, ℕ, Bool, true, false, List, [], ◌∷◌, ◌++◌, drop}
use Rattle.std.proofs.Common.{Some, Result, Ok, Err, refl, sym, ap, ◌∙◌, append_assoc}
use Rattle.std.proofs.lemmas.Bool.{ne_eqb}
use Rattle.std.proofs.lemmas.List.{append-nil}
use Rattle.wb_base.specs.declared.places.Place.{Place}
use Rattle.wb_base.specs.declared.faults.Fault.{Fault}
use Rattle.wb_base.specs.declared.faults.TheConstants.{BAD_BYTE}
use Rattle.std.specs.Prelude.{IfOk}
use Rattle.wb_base.specs.declared.faults.WorkErr.{WorkErr}
use Rattle.wb_base.specs.declared.faults.WorkErr.TheVariants.{Fault as of_input, OutOfMemory}
use Rattle.wb_base.specs.WorkResult.{IfFault}
use Rattle.web_lex.specs.declared.section_names.SectionName.{SectionName}
use Rattle.wb_base.specs.Bytes.{is_blank}
use Rattle.wb_base.specs.FaultAt.{fault_at}
use Rattle.wb_base.specs.Steps.{◌>>=◌}
use Rattle.web_lex.specs.declared.codes.Code.{Code}
use Rattle.web_lex.specs.declared.codes.Code.TheVariants as code
use Rattle.web_lex.specs.Codes.{code_of}
use Rattle.web_lex.specs.Raw.{PlacedByte, place_of}
use Rattle.web_lex.specs.SectionName.{Spelled, spelled_at, with_prefix, with_byte, with_code, is_name_byte}
use Rattle.web_lex.specs.SectionName.{compressed, begins_blank, spaced, name_at, named_by}
use Rattle.web_lex.specs.inner.Ahead.{first_byte}
use Rattle.web_lex.specs.inner.Spelling.{continued, spelled_after, with_gap}

-- white space
pub continued-blank : (text : List ℕ) (blank : Bool) (byte : ℕ) (bytes : List ℕ) → is_blank byte ≡ true
    → continued text blank (byte ∷ bytes) ≡ continued text true bytes
continued-blank [] blank byte bytes is = rw is refl
continued-blank (head ∷ text) true byte bytes is = rw is refl
continued-blank (head ∷ text) false byte bytes is = rw is refl

-- a visible byte
pub continued-visible : (text : List ℕ) (blank : Bool) (byte : ℕ) (bytes : List ℕ) → is_blank byte ≡ false
    → continued text blank (byte ∷ bytes) ≡ continued (with_gap text blank ++ byte ∷ []) false bytes
continued-visible [] blank byte bytes is = rw is refl
continued-visible (head ∷ text) true byte bytes is =
    rw is (ap (λ ys. head ∷ ys)
    (sym (append_assoc (text ++ 32 ∷ []) (byte ∷ []) (spaced (begins_blank bytes) (compressed bytes))
    ∙ append_assoc text (32 ∷ []) (byte ∷ spaced (begins_blank bytes) (compressed bytes)))))
continued-visible (head ∷ text) false byte bytes is =
    rw is (ap (λ ys. head ∷ ys)
    (sym (append_assoc text (byte ∷ []) (spaced (begins_blank bytes) (compressed bytes)))))

-- nothing more
pub continued-end : (text : List ℕ) (blank : Bool) → continued text blank [] ≡ text
continued-end [] blank = refl
continued-end (head ∷ text) blank = append-nil (head ∷ text)

-- what is read of a name, after this text
abbrev after_text : List ℕ → Bool → Result Spelled Fault → Result Spelled Fault
after_text text blank result =
    result >>= (λ spelled. Ok (record spelled { bytes = continued text blank spelled.bytes }))

-- a name with its first bytes taken over
taken :
    (text next : List ℕ) (blank next_blank : Bool) (bytes : List ℕ) (result : Result Spelled Fault)
    → ((more : List ℕ) → continued text blank (bytes ++ more) ≡ continued next next_blank more)
    → after_text text blank (with_prefix bytes result) ≡ after_text next next_blank result
taken text next blank next_blank bytes (Ok spelled) same =
    ap (λ ys. Ok (record { bytes = ys; end = spelled.end; rest = spelled.rest })) (same spelled.bytes)
taken text next blank next_blank bytes (Err fault) same = refl

allowed : (byte : PlacedByte) (bytes : List ℕ) (further : Result Spelled Fault) → is_name_byte byte.byte ≡ true
    → with_byte byte bytes further ≡ with_prefix bytes further
allowed byte bytes further is = rw is refl

refused : (byte : PlacedByte) (bytes : List ℕ) (further : Result Spelled Fault) → is_name_byte byte.byte ≡ false
    → with_byte byte bytes further ≡ Err (fault_at BAD_BYTE byte.place)
refused byte bytes further is = rw is refl

-- any byte but an at sign
pub spelled_after-byte :
    (text next : List ℕ) (blank next_blank : Bool) (end : Place) (rest : List PlacedByte) (byte : ℕ)
    → first_byte rest ≡ Some byte → byte ≢ 64 → is_name_byte byte ≡ true
    → ((more : List ℕ) → continued text blank (byte ∷ more) ≡ continued next next_blank more)
    → spelled_after text blank end rest ≡ spelled_after next next_blank end (drop 1 rest)
spelled_after-byte text next blank next_blank end [] byte first other is same = absurd cc
spelled_after-byte text next blank next_blank end (head ∷ []) byte first other is same =
    let there : head.byte ≡ byte = cc in
    rw (there, ne_eqb byte 64 other, is) refl
spelled_after-byte text next blank next_blank end (head ∷ (second ∷ rest)) byte first other is same =
    let there : head.byte ≡ byte = cc in
    rw (there, ne_eqb byte 64 other, is)
    (taken text next blank next_blank (byte ∷ []) (spelled_at end (second ∷ rest)) same)

-- an at sign and the next byte, where the two neither end the name nor begin a section
plain_code :
    (value : Code) (place : Place) (next : PlacedByte) (rest : List PlacedByte) (further : Result Spelled Fault)
    → value ≢ code.Stray → value ≢ code.Section
    → with_code value place next rest further ≡ with_byte next (64 ∷ next.byte ∷ []) further
plain_code code.Stray place next rest further not_end not_section = absurd (not_end refl)
plain_code code.Section place next rest further not_end not_section = absurd (not_section refl)
plain_code _ place next rest further not_end not_section = refl

pub spelled_after-code :
    (text middle next : List ℕ) (blank middle_blank next_blank : Bool) (end : Place) (rest : List PlacedByte)
    (byte : ℕ)
    → first_byte rest ≡ Some 64 → first_byte (drop 1 rest) ≡ Some byte → code_of byte ≢ code.Stray
    → code_of byte ≢ code.Section
    → is_name_byte byte ≡ true
    → ((more : List ℕ) → continued text blank (64 ∷ more) ≡ continued middle middle_blank more)
    → ((more : List ℕ) → continued middle middle_blank (byte ∷ more) ≡ continued next next_blank more)
    → spelled_after text blank end rest ≡ spelled_after next next_blank end (drop 1 (drop 1 rest))
spelled_after-code text middle next blank middle_blank next_blank end [] byte first second not_end not_section is sign
    same = absurd cc
spelled_after-code text middle next blank middle_blank next_blank end
    (head ∷ []) byte first second not_end not_section is sign same = absurd cc
spelled_after-code text middle next blank middle_blank next_blank end
    (head ∷ (other ∷ rest)) byte first second not_end not_section is sign same =
    let there : head.byte ≡ 64 = cc in
    let here : other.byte ≡ byte = cc in
    rw there
    (ap (after_text text blank)
    (plain_code (code_of other.byte) head.place other rest (spelled_at end rest)
    (λ e. not_end (ap code_of (sym here) ∙ e)) (λ e. not_section (ap code_of (sym here) ∙ e))
    ∙ allowed other (64 ∷ other.byte ∷ []) (spelled_at end rest) (ap is_name_byte here ∙ is))
    ∙ taken text next blank next_blank (64 ∷ other.byte ∷ []) (spelled_at end rest)
    (λ more. sign (other.byte ∷ more) ∙ ap (λ b. continued middle middle_blank (b ∷ more)) here ∙ same more))

-- such a byte that may not stand in a name
pub spelled_after-bad_code :
    (text : List ℕ) (blank : Bool) (end : Place) (rest : List PlacedByte) (byte : ℕ)
    → first_byte rest ≡ Some 64 → first_byte (drop 1 rest) ≡ Some byte → code_of byte ≢ code.Stray
    → code_of byte ≢ code.Section
    → is_name_byte byte ≡ false
    → spelled_after text blank end rest ≡ Err (fault_at BAD_BYTE (place_of end (drop 1 rest)))
spelled_after-bad_code text blank end [] byte first second not_end not_section is = absurd cc
spelled_after-bad_code text blank end (head ∷ []) byte first second not_end not_section is = absurd cc
spelled_after-bad_code text blank end (head ∷ (other ∷ rest)) byte first second not_end not_section is =
    let there : head.byte ≡ 64 = cc in
    let here : other.byte ≡ byte = cc in
    rw there
    (ap (after_text text blank)
    (plain_code (code_of other.byte) head.place other rest (spelled_at end rest)
    (λ e. not_end (ap code_of (sym here) ∙ e)) (λ e. not_section (ap code_of (sym here) ∙ e))
    ∙ refused other (64 ∷ other.byte ∷ []) (spelled_at end rest) (ap is_name_byte here ∙ is)))

-- the two answers
abbrev read_whole : Spelled → Result Spelled Fault
read_whole spelled = Ok spelled

abbrev failed : Fault → Result Spelled Fault
failed fault = Err fault

no_fault : (fault : Fault) (value : Spelled) → failed fault ≡ read_whole value → ⊥
no_fault fault value e = cc

no_value : (fault : Fault) (value : Spelled) → read_whole value ≡ failed fault → ⊥
no_value fault value e = cc

-- a name that was read whole
pub name_at-spelled :
    (end : Place) (text : List PlacedByte) (start bytes : List ℕ) (place : Place) (rest : List PlacedByte)
    → start ≡ [] → spelled_after start false end text ≡ Ok (record { bytes = bytes; end = place; rest = rest })
    → name_at end text ≡ named_by bytes place rest
name_at-spelled end text start bytes place rest none is = by_spelled (spelled_at end text) refl
  where
    by_spelled : (spelled : Result Spelled Fault) → spelled_at end text ≡ spelled
        → name_at end text ≡ named_by bytes place rest
    by_spelled (Ok spelled) same =
        let whole : read_whole (record { bytes = compressed spelled.bytes; end = spelled.end; rest = spelled.rest })
        ≡ read_whole (record { bytes = bytes; end = place; rest = rest }) =
        ap (after_text [] false) (sym same) ∙ ap (λ s. spelled_after s false end text) (sym none) ∙ is in
        let read : Result Spelled Fault → Result (SectionName × List PlacedByte) Fault =
        λ r. r >>= (λ s. named_by s.bytes s.end s.rest) in
        ap (λ r. r >>= (λ s. named_by (compressed s.bytes) s.end s.rest)) same ∙ ap read whole
    by_spelled (Err fault) same =
        absurd (no_fault fault (record { bytes = bytes; end = place; rest = rest })
        (ap (after_text [] false) (sym same) ∙ ap (λ s. spelled_after s false end text) (sym none) ∙ is))

pub name_at-fault :
    (end : Place) (text : List PlacedByte) (start : List ℕ) (fault : Fault)
    → start ≡ [] → spelled_after start false end text ≡ Err fault → name_at end text ≡ Err fault
name_at-fault end text start fault none is = by_spelled (spelled_at end text) refl
  where
    by_spelled : (spelled : Result Spelled Fault) → spelled_at end text ≡ spelled → name_at end text ≡ Err fault
    by_spelled (Ok spelled) same =
        absurd (no_value fault (record { bytes = compressed spelled.bytes; end = spelled.end; rest = spelled.rest })
        (ap (after_text [] false) (sym same) ∙ ap (λ s. spelled_after s false end text) (sym none) ∙ is))
    by_spelled (Err other) same =
        let one : failed other ≡ failed fault =
        ap (after_text [] false) (sym same) ∙ ap (λ s. spelled_after s false end text) (sym none) ∙ is in
        let read : Result Spelled Fault → Result (SectionName × List PlacedByte) Fault =
        λ r. r >>= (λ s. named_by s.bytes s.end s.rest) in
        ap (λ r. r >>= (λ s. named_by (compressed s.bytes) s.end s.rest)) same ∙ ap read one

-- the answer for such a name is that for its text
pub named_ok :
    (result : Result SectionName WorkErr) (end place : Place) (text rest : List PlacedByte) (bytes : List ℕ)
    → name_at end text ≡ named_by bytes place rest
    → IfOk result (λ name. (rest : List PlacedByte) → named_by bytes place rest ≡ Ok (name, rest))
    → IfOk result (λ name. name_at end text ≡ Ok (name, rest))
named_ok (Ok name) end place text rest bytes same is = same ∙ is rest
named_ok (Err error) end place text rest bytes same is = tt

pub named_fault :
    (result : Result SectionName WorkErr) (end place : Place) (text rest : List PlacedByte) (bytes : List ℕ)
    → name_at end text ≡ named_by bytes place rest
    → IfFault result (λ fault. (rest : List PlacedByte) → named_by bytes place rest ≡ Err fault)
    → IfFault result (λ fault. name_at end text ≡ Err fault)
named_fault (Ok name) end place text rest bytes same is = tt
named_fault (Err (of_input fault)) end place text rest bytes same is = same ∙ is rest
named_fault (Err OutOfMemory) end place text rest bytes same is = tt
