-- What a sink over a file keeps in mind has one proof at most, which a field of a struct has to have.
use Rattle.std.specs.Prelude.{◌≡◌, ℕ, zero, suc, List, Bool, Option, refl}
use Rattle.std.specs.Coded.{Coded, Coded-set, coded_ℕ, coded_bool, coded_list, coded_option, coded×, code_by, le_prop}
use Rattle.wb_ports.specs.declared.shelf.FailedCall.{FailedCall}
use Rattle.wb_ports.specs.declared.shelf.ShelfCall.{ShelfCall}
use Rattle.wb_ports.specs.declared.shelf.ShelfCall.TheVariants.{Load, Create, Write, Close}
use Rattle.wb_ports.specs.Counts.{Rose}
use Rattle.tangle_core.specs.declared.job.TextCopy.{TextCopy}
use Rattle.tangle_core.specs.inner.Filling.{KeepsInMind, Seen, ShelfSeen}

-- the calls of a shelf as numbers
abbrev number_of : ShelfCall → ℕ
number_of Load = 0
number_of Create = 1
number_of Write = 2
number_of Close = 3

abbrev call_of : ℕ → ShelfCall
call_of zero = Load
call_of (suc zero) = Create
call_of (suc (suc zero)) = Write
call_of (suc (suc (suc n))) = Close

call_of-number_of : (call : ShelfCall) → call_of (number_of call) ≡ call
call_of-number_of Load = refl
call_of-number_of Create = refl
call_of-number_of Write = refl
call_of-number_of Close = refl

coded_bytes : Coded (List ℕ)
coded_bytes = coded_list coded_ℕ

coded_failure : Coded FailedCall
coded_failure =
    code_by (ShelfCall × List ℕ)
    (coded× (code_by ℕ coded_ℕ number_of call_of call_of-number_of) coded_bytes)
    (λ failed. (failed.call, failed.name)) (λ pair. record { call = pair.0; name = pair.1 }) (λ failed. refl)

coded_copy : Coded TextCopy
coded_copy =
    code_by (List ℕ × (Bool × Bool)) (coded× coded_bytes (coded× coded_bool coded_bool))
    (λ copy. (copy.kept, (copy.wanted, copy.refused)))
    (λ parts. record { kept = parts.0; wanted = parts.1.0; refused = parts.1.1 }) (λ copy. refl)

Rose-prop : (before now : ℕ) → IsProp (Rose before now)
Rose-prop before now a b = λ i. record { later = le_prop a.later b.later i; more = le_prop a.more b.more i }

pub KeepsInMind-prop : (limit : ℕ) (seen : Seen) (shelf : ShelfSeen) (copy : TextCopy) (failures : ℕ)
    → IsProp (KeepsInMind limit seen shelf copy failures)
KeepsInMind-prop limit seen shelf copy failures a b = λ i. record {
  told = Coded-set coded_bool _ _ a.told b.told i;
  same_name = λ files is. Coded-set coded_bytes _ _ (a.same_name files is) (b.same_name files is) i;
  others = λ before files was is other ne.
      Coded-set (coded_option coded_bytes) _ _ (a.others before files was is other ne)
      (b.others before files was is other ne) i;
  there = λ files is. Coded-set coded_bool _ _ (a.there files is) (b.there files is) i;
  none_failed = λ none. Coded-set coded_ℕ _ _ (a.none_failed none) (b.none_failed none) i;
  some_failed = λ some. Rose-prop _ _ (a.some_failed some) (b.some_failed some) i;
  last = λ some files is.
      Coded-set (coded_option coded_failure) _ _ (a.last some files is) (b.last some files is) i;
  unwanted = λ none. Coded-set coded_copy _ _ (a.unwanted none) (b.unwanted none) i;
  wanted = Coded-set coded_bool _ _ a.wanted b.wanted i;
  kept = λ wanted there none files is bytes bytes_is.
      Coded-set coded_bytes _ _ (a.kept wanted there none files is bytes bytes_is)
      (b.kept wanted there none files is bytes bytes_is) i;
}
