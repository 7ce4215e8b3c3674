use Rattle.std.proofs.Common.{◌≡◌, Ok, arith}
use Rattle.web_lex.specs.Token.{sign}
use Rattle.web_scan.specs.Scanned.{place_of_last}
use Rattle.web_scan.specs.Texts.{sign_token, token_stored}
use Rattle.web_scan.proofs.TextsLemmas.{is_stored, still_open-le}
use Rattle.web_scan.proofs.scanner.Scanner.text_token.Goals as goal

pub overflow_add-text : goal.overflow_add-text
overflow_add-text c =
    let web = c.args.self.now.web in
    let after = c.store_token.new.self.web in
    let kind = c.args.text.now.class in
    let byte = c.in-Sign-eq40.field-0 in
    let place = place_of_last c.args.self.now in
    let is : token_stored kind place (sign byte) web ≡ Ok after =
    rw c.in-Sign-eq40.is at c.in_ok-store_token-in-Sign-eq40.ensures.ok in
    let few = (is_stored place (sign_token kind byte) web after is).few in
    let open_few = still_open-le c.args.text.now.first web in
    omega arith
