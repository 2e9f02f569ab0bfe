use Rattle.std.proofs.Common.{rules, ◌≡◌, ◌++◌, List, ℕ, [], codes, string_bytes, take, sym, subst, refl, ◌∙◌}
use Rattle.std.specs.Option.{option_copied}
use Rattle.std.proofs.lemmas.List.{take_all}
use Rattle.hpr_graph.proofs.NameOrder.{names_up}
use Rattle.hpr_report.specs.TableText.{Row}
use Rattle.hpr_report.proofs.TableRows.{AreLinesOf, no_lines, next_line, table_is, cell_at}
use Rattle.hpr_report.proofs.table.table_text.Goals as goal

pub loop-at-init : goal.loop-at-init
loop-at-init c =
    subst (λ (text : List ℕ). AreLinesOf c.args.base.now c.args.a.now c.args.b.now c.args.merged.now [] text) (sym c.new-out.ensures.items)
    (no_lines c.args.base.now c.args.a.now c.args.b.now c.args.merged.now)

pub loop-at-preserved : goal.loop-at-preserved
loop-at-preserved c =
    let names = c.deref-name-items.result.now in
    let at = c.loop-at.at in
    let x = c.name-item.result in
    let items = sym c.deref-name-items.ensures.value in
    let row : Row = record {
      name = x;
      base = option_copied c.index.result.now;
      a = option_copied c.index-in-loop-at.result.now;
      b = option_copied c.index-in-loop-at-2.result.now;
      merged = option_copied c.index-in-loop-at-3.result.now;
    } in
    let put : c.put_line.new.out.items ≡ c.loop-at.out.items ++ (string_bytes c.in_ok-line.line ++ codes "\n") = search rules in
    next_line c.args.base.now c.args.a.now c.args.b.now c.args.merged.now names at x c.loop-at.out.items
    c.put_line.new.out.items (string_bytes c.in_ok-line.line) c.loop-at-test.true c.name-item.is c.loop-at.invariant (
      row,
      refl,
      record {
        of_base = cell_at option_copied names _ c.args.base.now _ at x c.index.result.now c.in_ok-base.ensures (c.deref.ensures.value ∙ items) c.loop-at-test.true c.name-item.is c.index.ensures;
        of_a = cell_at option_copied names _ c.args.a.now _ at x c.index-in-loop-at.result.now c.in_ok-a.ensures (c.deref-2.ensures.value ∙ items) c.loop-at-test.true c.name-item.is c.index-in-loop-at.ensures;
        of_b = cell_at option_copied names _ c.args.b.now _ at x c.index-in-loop-at-2.result.now c.in_ok-b.ensures (c.deref-3.ensures.value ∙ items) c.loop-at-test.true c.name-item.is c.index-in-loop-at-2.ensures;
        of_merged = cell_at option_copied names _ c.args.merged.now _ at x c.index-in-loop-at-3.result.now c.in_ok-merged.ensures (c.deref-4.ensures.value ∙ items) c.loop-at-test.true c.name-item.is c.index-in-loop-at-3.ensures;
      },
      c.in_ok-line.ensures,
    )
    put

pub returns : goal.returns
returns c =
    let base = c.args.base.now in
    let a = c.args.a.now in
    let b = c.args.b.now in
    let merged = c.args.merged.now in
    let all : take c.loop-at.at c.deref-name-items.result.now ≡ c.in_ok-names.names.items =
    take_all c.loop-at.at c.deref-name-items.result.now c.loop-at-test.false ∙ c.deref-name-items.ensures.value in
    table_is base a b merged c.in_ok-names.names.items c.loop-at.out.items (subst (λ (xs : List (List ℕ)). AreLinesOf base a b merged xs c.loop-at.out.items) all c.loop-at.invariant)
    c.in_ok-names.ensures.names (names_up c.in_ok-names.names.items c.in_ok-names.ensures.ascending)
