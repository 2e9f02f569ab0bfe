use Rattle.std.proofs.Common.{◌≡◌, ◌∙◌, ℕ, List, [], Some, Vec, Global, length, slice_get, sym, ap, arith}
use Rattle.std.proofs.lemmas.Bool.{eqb-true}
use Rattle.std.proofs.lemmas.List.{nil_from_length}
use Rattle.hpr_graph.proofs.Lists.{read_at}
use Rattle.hpr_build.specs.Variables.{points_at}
use Rattle.hpr_build.proofs.InitialNames.{free_by_row, undefined}
use Rattle.hpr_build.proofs.initial.free_row.Goals as goal

pub row_at-requires : goal.row_at-requires
row_at-requires c = omega (arith, c.loop-at-test.true, c.deref.ensures.len, c.deref-name-items.ensures.len, c.requires.rows)

pub returns-then-is_empty : goal.returns-then-is_empty
returns-then-is_empty c =
    let v = c.args.variables.now in
    let k = c.loop-at.at in
    let x = c.name-item.result in
    let here : slice_get v.names.items k ≡ Some x = read_at c.deref-name-items.result.now v.names.items k x c.deref-name-items.ensures.value c.loop-at-test.true c.name-item.is in
    let none : points_at v.definitions.items k ≡ [] =
    ap (λ (rs : List (Vec ℕ Global)). points_at rs k) (sym c.deref.ensures.value) ∙ sym c.row_at.ensures
    ∙ nil_from_length c.row_at.result.now (eqb-true (length c.row_at.result.now) 0 (sym c.is_empty.ensures ∙ c.if-is_empty.true)) in
    free_by_row c.args.succ.now x c.in_ok-reach.field-0 (undefined c.args.succ.now x (points_at v.definitions.items k) (c.requires.definitions k x here).1 none) c.in_ok-reach.ensures.exact
