use Rattle.std.proofs.Common.{◌≡◌, Ok, sym, ap}
use Rattle.web_scan.specs.Refusals.{with_room}
use Rattle.web_scan.proofs.PartsLemmas.{scanned_in-push}
use Rattle.web_scan.proofs.parts.Parts.store.Goals as goal

pub returns-clause-ok : goal.returns-clause-ok
returns-clause-ok c =
    let room : with_room c.args.place c.args.self.now ≡ Ok c.args.self.now = c.in_ok-check_room.ensures.ok in
    rw (room, ← c.self.view_is)
    (ap Ok (sym (scanned_in-push c.self.inside c.push.new.self c.args.token c.self.invariant
    c.in_ok-push.ensures.items)))
