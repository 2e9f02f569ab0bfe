-- Four lists of final values have a table.
use Rattle.std.proofs.Common.{◌≡◌, ◌↔◌, ℕ, Option, Some, None, List, [], ◌∷◌, ◌++◌, map, Contains, refl, sym, ap, ap₂, subst}
use Rattle.std.specs.Cmp.Lexicographic.{nat_list_cmp_total}
use Rattle.std.specs.List.{AllByRecursion}
use Rattle.std.proofs.lemmas.List.Elements.{All-from_recursion}
use Rattle.hpr_terms.proofs.Facts.{by_both, some_inj}
use Rattle.hpr_syntax.specs.Run.{FinalValues}
use Rattle.hpr_graph.specs.InOrder.{Ascends}
use Rattle.hpr_graph.specs.Order.{name_cmp}
use Rattle.hpr_graph.proofs.Bounded.{of_list}
use Rattle.hpr_graph.proofs.PutInOrder.{ascending}
use Rattle.hpr_graph.proofs.VertexOrder.{name_tied}
use Rattle.hpr_report.specs.GraphTexts.{on_lines}
use Rattle.hpr_report.specs.TableText.{names_in, IsSingleValued, Row, IsValueIn, IsRow, names_of, table_line, IsTableText}
use Rattle.hpr_syntax.specs.declared.value.Value.{Value}

-- each name has a cell in a list
some_cell : (values : FinalValues) (x : List ℕ) → IsSingleValued values → ¬ (¬ ((cell : Option Value) × IsValueIn values x cell))
some_cell values x single =
    by_both ((v : Value) × Contains values (x, v)) ((cell : Option Value) × IsValueIn values x cell)
    (λ found n. n (
      Some found.0,
      λ v. (
        λ e. subst (λ u. Contains values (x, u)) (some_inj found.0 v e) found.1,
        λ h. ap (λ u. Some u) (single x found.0 v found.1 h),
      ),
    ))
    (λ none n. n (None, λ v. (λ e. absurd cc, λ h. absurd (none (v, h)))))

module _ (base a b merged : FinalValues) (s_base : IsSingleValued base) (s_a : IsSingleValued a) (s_b : IsSingleValued b) (s_merged : IsSingleValued merged) where
  some_row : (x : List ℕ) → ¬ (¬ ((row : Row) × (row.name ≡ x) × IsRow base a b merged row))
  some_row x n =
      some_cell base x s_base (λ c.
      some_cell a x s_a (λ d.
      some_cell b x s_b (λ e.
      some_cell merged x s_merged (λ f.
      n (
        record { name = x; base = c.0; a = d.0; b = e.0; merged = f.0 },
        refl,
        record { of_base = c.1; of_a = d.1; of_b = e.1; of_merged = f.1 },
      )))))

  abbrev AreRowsOf : List (List ℕ) → List Row → Type 0
  AreRowsOf xs rows = (names_of rows ≡ xs) × AllByRecursion (IsRow base a b merged) rows

  rows_of : (xs : List (List ℕ)) → ¬ (¬ ((rows : List Row) × AreRowsOf xs rows))
  rows_of [] n = n ([], (refl, tt))
  rows_of (x ∷ xs) n =
      some_row x (λ row. rows_of xs (λ rest.
      n (row.0 ∷ rest.0, (ap₂ (λ (y : List ℕ) (ys : List (List ℕ)). y ∷ ys) row.1 rest.1.0, (row.2, rest.1.1)))))

  abbrev every_name : List (List ℕ)
  every_name = names_in base ++ names_in a ++ names_in b ++ names_in merged

  pub some_table : ¬ (¬ ((text : List ℕ) × IsTableText base a b merged text))
  some_table n =
      ascending name_cmp nat_list_cmp_total name_tied (λ x. Contains every_name x) (of_list every_name) (λ xs.
      rows_of xs.0 (λ rows.
      n (
        on_lines (map table_line rows.0),
        (
          rows.0,
          record {
            names = subst (λ ys. (x : List ℕ) → Contains ys x ↔ Contains every_name x) (sym rows.1.0) xs.2;
            ascending = subst (λ ys. Ascends name_cmp ys) (sym rows.1.0) xs.1;
            cells = All-from_recursion (IsRow base a b merged) rows.0 rows.1.1;
          },
          refl,
        ),
      )))
