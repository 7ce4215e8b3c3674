use Rattle.std.proofs.Common.{◌≡◌, ◌+◌, ◌≤◌, ◌∷◌, ◌++◌, [], None, length, position, ap, sym, ◌∙◌, arith, Ok}
use Rattle.std.specs.Str.{bytes_eq}
use Rattle.web_pool.specs.inner.PoolParts.{strings_in}
use Rattle.web_pool.specs.declared.pool.TheConstants.{FIRST_NUMBER, LAST_NUMBER}
use Rattle.web_pool.proofs.StringsLemmas.{numbered_last-room, strings_in-added}
use Rattle.web_pool.proofs.pool.Pool.add_last.Goals as goal

-- the strings that are kept now
grown_to : (c : goal.In_ok-insert) → strings_in c.insert.new.self.keys ≡ c.args.self.now ++ c.args.bytes.now ∷ []
grown_to c =
    let none : position (bytes_eq c.args.bytes.now) (strings_in c.self.inside.strings.keys) ≡ None =
    ap (position (bytes_eq c.args.bytes.now)) c.self.view_is ∙ c.requires.new in
    strings_in-added _ _ _ _ c.in_ok-text.ensures.items none c.in_ok-insert.ensures.keys
    ∙ ap (λ l. l ++ c.args.bytes.now ∷ []) c.self.view_is

pub returns-clause-ok : goal.returns-clause-ok
returns-clause-ok c =
    let fits : FIRST_NUMBER + length c.args.self.now ≤ LAST_NUMBER = omega arith in
    numbered_last-room c.args.bytes.now c.args.self.now fits
    ∙ ap (λ n. Ok (FIRST_NUMBER + n, c.args.self.now ++ c.args.bytes.now ∷ [])) (sym c.count-number.ensures)
    ∙ ap (λ l. Ok (FIRST_NUMBER + c.count-number.result, l)) (sym (grown_to c))

pub returns-clause-grown : goal.returns-clause-grown
returns-clause-grown c = grown_to c
