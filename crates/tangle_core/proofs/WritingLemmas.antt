-- What the writing of a file leaves, from the calls of the shelf that follow one another.
use Rattle.std.proofs.Common.{◌≡◌, ◌⊎◌, ◌++◌, ◌∙◌, ℕ, List, [], Option, Some, None, Result, Ok, Err, OnErr, is_err}
use Rattle.std.proofs.Common.{take, refl, sym, ap, inl, inr, subst, IfSome, OnSome, MatchOption, is_some}
use Rattle.wb_ports.specs.Held.{WhereTold}
use Rattle.wb_ports.specs.Files.{Files, SameFiles, Empties, AppendsTo, AppendsPrefixTo, KeepsLastFailure}
use Rattle.wb_ports.specs.declared.shelf.FailedCall.{FailedCall}
use Rattle.wb_ports.specs.declared.shelf.ShelfCall.{ShelfCall}
use Rattle.wb_ports.specs.declared.shelf.ShelfCall.TheVariants.{Load, Create, Write, Close}
use Rattle.wb_ports.specs.Files.{Loads}
use Rattle.wb_ports.specs.declared.shelf.TheConstants.{LOAD_LIMIT}
use Rattle.wb_ports.proofs.FilesLemmas.{appended_kept, appended_prefix, made_then}
use Rattle.wb_ports.proofs.HeldLemmas.{told_then}
use Rattle.tangle_core.specs.inner.Writing.{LeavesFile, HoldsPrefix, LeftBy, WritesUnfinished, FillsUnfinished}

-- a file that was made and then got its bytes
pub made_and_filled : (name bytes : List ℕ) (x y z : Files) → Empties name x y → AppendsTo name bytes y z
    → LeavesFile name bytes x z
made_and_filled name bytes x y z e a =
    let none_yet : a.bytes ≡ [] = cc (a.held, e.empty) in
    record {
      holds = a.holds ∙ ap (λ (b : List ℕ). Some (b ++ bytes)) none_yet;
      others = λ other ne. a.others other ne ∙ e.others other ne;
    }

-- a file that was made and then got a prefix of its bytes
made_and_filled_prefix : (name bytes : List ℕ) (x y z : Files) → Empties name x y → AppendsPrefixTo name bytes y z
    → HoldsPrefix name bytes x z
made_and_filled_prefix name bytes x y z e (n, a) = (n, made_and_filled name (take n bytes) x y z e a)

-- a file that was made, and the filling of it that failed
left_by : (name bytes : List ℕ) (call : ShelfCall) (x y z : Files)
    → Empties name x y → AppendsPrefixTo name bytes y z → (call ≡ Write) ⊎ (call ≡ Close) → LeftBy call name bytes x z
left_by name bytes Load x y z e a c = elim c [ inl p ↦ (cc) | inr p ↦ (cc) ]
left_by name bytes Create x y z e a c = elim c [ inl p ↦ (cc) | inr p ↦ (cc) ]
left_by name bytes Write x y z e a c = made_and_filled_prefix name bytes x y z e a
left_by name bytes Close x y z e a c = made_and_filled_prefix name bytes x y z e a

pub made_and_unfinished : (name bytes : List ℕ) (last : Option FailedCall) (x y z : Files) → Empties name x y
    → FillsUnfinished name bytes last y z → WritesUnfinished name bytes last x z
made_and_unfinished name bytes None x y z e a = absurd a
made_and_unfinished name bytes (Some failed) x y z e a =
    record { same_name = a.same_name; left = left_by name bytes failed.call x y z e a.prefix a.call }

-- a file that was filled, and its closing that failed
close_fails_told : (name opened bytes : List ℕ) (before last : Option FailedCall) (x y z : Files)
    → opened ≡ name → AppendsTo name bytes x y → SameFiles y z
    → last ≡ Some (record { call = Close; name = opened }) → FillsUnfinished name bytes last x z
close_fails_told name opened bytes before last x y z is a s l =
    subst (λ (last : Option FailedCall). FillsUnfinished name bytes last x z) (sym l) (record {
      same_name = is;
      call = inr refl;
      prefix = appended_prefix name bytes x z (appended_kept name bytes x y z a s);
    })

pub close_fails : {T E : Type 0} (result : Result T E) (name opened bytes : List ℕ) (before last : Option FailedCall)
    (a b c : Option Files) → IfSome b (λ files. opened ≡ name) → WhereTold (AppendsTo name bytes) a b
    → WhereTold SameFiles b c → KeepsLastFailure b Close opened (is_err result) before last
    → OnErr result (WhereTold (FillsUnfinished name bytes last) a c)
close_fails (Ok value) name opened bytes before last a b c is f s l = tt
close_fails (Err error) name opened bytes before last None None None is f s l = tt
close_fails (Err error) name opened bytes before last None None (Some z) is f s l = absurd s
close_fails (Err error) name opened bytes before last None (Some y) c is f s l = absurd f
close_fails (Err error) name opened bytes before last (Some x) None c is f s l = absurd f
close_fails (Err error) name opened bytes before last (Some x) (Some y) None is f s l = absurd s
close_fails (Err error) name opened bytes before last (Some x) (Some y) (Some z) is f s l =
    close_fails_told name opened bytes before last x y z is f s l

-- a file was made and filled, and its closing failed
pub closing_failed : (T E : Type 0) (error : E) (name opened closed bytes : List ℕ) (before last : Option FailedCall)
    (a b c d : Option Files) → OnSome a (opened ≡ name) → WhereTold (Empties name) a b
    → IfSome c (λ files. closed ≡ opened) → WhereTold (AppendsTo opened bytes) b c → WhereTold SameFiles c d
    → KeepsLastFailure c Close closed (is_err {T = T} (Err error)) before last
    → WhereTold (WritesUnfinished name bytes last) a d
closing_failed T E error name opened closed bytes before last a b c d named made same filled kept fails =
    made_then name opened (λ n. FillsUnfinished n bytes last)
    (λ x y z e f. made_and_unfinished name bytes last x y z e f) a b d named made
    (close_fails {T = T} (Err error) opened closed bytes before last b c d same filled kept fails)

-- a file was made, and its filling failed
pub filling_failed : (name opened bytes : List ℕ) (last : Option FailedCall) (a b c : Option Files)
    → OnSome a (opened ≡ name) → WhereTold (Empties name) a b → WhereTold (FillsUnfinished opened bytes last) b c
    → WhereTold (WritesUnfinished name bytes last) a c
filling_failed name opened bytes last a b c named made fails =
    made_then name opened (λ n. FillsUnfinished n bytes last)
    (λ x y z e f. made_and_unfinished name bytes last x y z e f) a b c named made fails

-- a file was made, filled and closed
pub file_written : (name opened bytes : List ℕ) (a b c d : Option Files) → OnSome a (opened ≡ name)
    → WhereTold (Empties name) a b → WhereTold (AppendsTo opened bytes) b c → WhereTold SameFiles c d
    → WhereTold (LeavesFile name bytes) a d
file_written name opened bytes a b c d named made filled kept =
    made_then name opened (λ n. AppendsTo n bytes) (λ x y z e f. made_and_filled name bytes x y z e f)
    a b d named made
    (told_then (λ x y z f s. appended_kept opened bytes x y z f s) b c d filled kept)

-- the copy has what would be loaded of the file once it is closed
pub loads_same : (a b : Files) (name text : List ℕ) → b name ≡ a name → Loads a name text → Loads b name text
loads_same a b name text same loads =
    subst (λ (o : Option (List ℕ)). MatchOption o ⊥ (λ bytes. text ≡ take LOAD_LIMIT bytes)) (sym same) loads

pub kept_closed : (name opened text : List ℕ) (a b c d : Option Files) → OnSome a (opened ≡ name)
    → WhereTold (Empties name) a b → is_some c ≡ is_some b
    → IfSome c (λ files. Loads files opened text) → WhereTold SameFiles c d
    → IfSome d (λ files. Loads files name text)
kept_closed name opened text a b c None named made told loads kept = tt
kept_closed name opened text a b None (Some z) named made told loads kept = absurd kept
kept_closed name opened text None None (Some y) (Some z) named made told loads kept = absurd (cc)
kept_closed name opened text None (Some x) (Some y) (Some z) named made told loads kept = absurd made
kept_closed name opened text (Some w) b (Some y) (Some z) named made told loads kept =
    loads_same y z name text (kept name) (subst (λ (n : List ℕ). Loads y n text) named loads)

-- both files are told, or neither
pub filled_told : (name bytes : List ℕ) (b c : Option Files) → WhereTold (AppendsTo name bytes) b c
    → is_some c ≡ is_some b
filled_told name bytes None None filled = refl
filled_told name bytes None (Some y) filled = absurd filled
filled_told name bytes (Some x) None filled = absurd filled
filled_told name bytes (Some x) (Some y) filled = refl
