use Rattle.std.proofs.Common.{sym, subst, All}
use Rattle.web_scan.specs.Lawful.{IsPascalTextOf}
use Rattle.web_scan.proofs.ReadingLemmas.{IsPascalTextOf-under}
use Rattle.macro_expand.proofs.meanings.meaning_of.Goals as goal

-- the pieces of a section are those of the web
pub returns-in-Section-clause-kept : goal.returns-in-Section-clause-kept
returns-in-Section-clause-kept c = record {
  within = c.pieces.ensures.within;
  texts = subst (All (IsPascalTextOf c.args.web.now)) (sym c.pieces.ensures.texts)
      (IsPascalTextOf-under c.args.web.now c.in-Section.name c.requires.lawful);
}
