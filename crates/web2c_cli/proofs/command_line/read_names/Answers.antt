use Rattle.std.proofs.Common.{◌∙◌, ◌+◌, ◌∷◌, Some, sym, ap, arith, option_map}
use Rattle.web2c_cli.specs.CommandLine.{Names, Part}
use Rattle.web2c_cli.specs.inner.Table.{options_by, command_by}
use Rattle.web2c_cli.specs.inner.Reading.{parts_from, part_by, names_by, names_still}
use Rattle.web2c_cli.proofs.NamesLemmas.{name_refused, name_taken}
use Rattle.web2c_cli.proofs.command_line.read_names.Goals as goal

pub returns-then-not-is_name_at : goal.returns-then-not-is_name_at
returns-then-not-is_name_at c =
    let form = command_by c.args.row.now in
    let names = option_map names_by c.loop-part.names in
    let rest = parts_from (options_by c.args.row.now.options.now) c.next_part.new.cursor c.args.words.now in
    sym (name_refused form names c.loop-part.count c.in-Name.word.now rest (sym c.if-not-is_name_at.ensures))
    ∙ ap (λ (part : Part). names_still form names c.loop-part.count (part ∷ rest)) (sym (ap part_by c.in-Name.is))
    ∙ ap (names_still form names c.loop-part.count) (sym c.in-Some.ensures.part)
    ∙ c.loop-part.invariant.names

pub overflow_add-count : goal.overflow_add-count
overflow_add-count c = omega (arith, c.loop-part.invariant.counted, c.in-Some.ensures.moved)

pub loop-part-preserved-in-Name : goal.loop-part-preserved-in-Name
loop-part-preserved-in-Name c =
    let form = command_by c.args.row.now in
    let names = option_map names_by c.loop-part.names in
    let rest = parts_from (options_by c.args.row.now.options.now) c.next_part.new.cursor c.args.words.now in
    record {
      names = ap (λ (kept : Names). names_still form (Some kept) (c.loop-part.count + 1) rest) c.with_name.ensures
          ∙ name_taken form names c.loop-part.count c.in-Name.word.now rest (sym c.if-not-is_name_at.ensures)
          ∙ ap (λ (part : Part). names_still form names c.loop-part.count (part ∷ rest)) (sym (ap part_by c.in-Name.is))
          ∙ ap (names_still form names c.loop-part.count) (sym c.in-Some.ensures.part)
          ∙ c.loop-part.invariant.names;
      counted = omega (arith, c.loop-part.invariant.counted, c.in-Some.ensures.moved);
    }
