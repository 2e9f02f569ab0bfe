-- Four lists of final values have one table. Where the merged values keep the meaning, the columns of the table show it.
use Rattle.std.proofs.Common.{◌≡◌, ℕ, suc, inl, inr, Option, Some, None, List, [], ◌∷◌, map, All, Contains, refl, sym, ap, ap₂, ◌∙◌, subst, arith}
use Rattle.hpr_syntax.specs.Tree.{Tree}
use Rattle.hpr_syntax.specs.declared.value.Value.{Value}
use Rattle.hpr_syntax.specs.Values.{Values, value_at}
use Rattle.hpr_syntax.specs.Run.{FinalValues, After, goes, stops, spent, outcome, final_values, ends, run, run_body}
use Rattle.hpr_syntax.specs.Meaning.{IsKept}
use Rattle.hpr_graph.proofs.Lists.{in_none, in_cons}
use Rattle.hpr_report.specs.GraphTexts.{on_lines}
use Rattle.hpr_report.specs.TableText.{IsSingleValued, Row, IsValueIn, IsRow, names_of, AreRows, table_line, IsTableText, IsKeptIn}
use Rattle.hpr_graph.proofs.NameOrder.{one_order}

-- a name has one cell in a list
same_cell : (values : FinalValues) (x : List ℕ) (c d : Option Value) → IsValueIn values x c → IsValueIn values x d → c ≡ d
same_cell values x None None p q = refl
same_cell values x None (Some w) p q = (p w).1 ((q w).0 refl)
same_cell values x (Some v) d p q = sym ((q v).1 ((p v).0 refl))

module _ (base a b merged : FinalValues) where
  same_row : (r s : Row) → r.name ≡ s.name → IsRow base a b merged r → IsRow base a b merged s → r ≡ s
  same_row r s e p q =
      let in_base : r.base ≡ s.base = same_cell base r.name r.base s.base p.of_base (subst (λ x. IsValueIn base x s.base) (sym e) q.of_base) in
      let in_a : r.a ≡ s.a = same_cell a r.name r.a s.a p.of_a (subst (λ x. IsValueIn a x s.a) (sym e) q.of_a) in
      let in_b : r.b ≡ s.b = same_cell b r.name r.b s.b p.of_b (subst (λ x. IsValueIn b x s.b) (sym e) q.of_b) in
      let in_merged : r.merged ≡ s.merged = same_cell merged r.name r.merged s.merged p.of_merged (subst (λ x. IsValueIn merged x s.merged) (sym e) q.of_merged) in
      (λ i. record { name = e i; base = in_base i; a = in_a i; b = in_b i; merged = in_merged i })

  same_rows : (rs ss : List Row) → names_of rs ≡ names_of ss → All (IsRow base a b merged) rs → All (IsRow base a b merged) ss → rs ≡ ss
  same_rows [] [] e p q = refl
  same_rows [] (s ∷ ss) e p q = absurd cc
  same_rows (r ∷ rs) [] e p q = absurd cc
  same_rows (r ∷ rs) (s ∷ ss) e p q =
      let first : r.name ≡ s.name = cc in
      let rest : names_of rs ≡ names_of ss = cc in
      ap₂ (λ (x : Row) (xs : List Row). x ∷ xs) (same_row r s first (p 0 r (omega arith)) (q 0 s (omega arith)))
      (same_rows rs ss rest (λ k d l. p (suc k) d (omega (arith, l))) (λ k d l. q (suc k) d (omega (arith, l))))

  pub one_list_of_rows : (rs ss : List Row) → AreRows base a b merged rs → AreRows base a b merged ss → rs ≡ ss
  one_list_of_rows rs ss p q =
      let names : names_of rs ≡ names_of ss =
      one_order (names_of rs) (names_of ss) p.ascending q.ascending (λ x. (λ h. (q.names x).1 ((p.names x).0 h), λ h. (p.names x).1 ((q.names x).0 h))) in
      same_rows rs ss names p.cells q.cells

  pub one_table_text : (text other : List ℕ) → IsTableText base a b merged text → IsTableText base a b merged other → text ≡ other
  one_table_text text other (rs, p, is) (ss, q, is_too) = is ∙ ap (λ rows. on_lines (map table_line rows)) (one_list_of_rows rs ss p q) ∙ sym is_too

  kept_in_row : IsKept base a b merged → (r : Row) → IsRow base a b merged r → IsKeptIn r
  kept_in_row kept r is = record {
    changed_by_a = λ v at not. (is.of_merged v).1 (kept.changed_by_a r.name v ((is.of_a v).0 at) (λ h. not ((is.of_base v).1 h)));
    changed_by_b = λ v at not. (is.of_merged v).1 (kept.changed_by_b r.name v ((is.of_b v).0 at) (λ h. not ((is.of_base v).1 h)));
    agreed = λ v in_base in_a in_b. (is.of_merged v).1 (kept.agreed r.name v ((is.of_base v).0 in_base) ((is.of_a v).0 in_a) ((is.of_b v).0 in_b));
  }

  pub kept_in_rows : (rows : List Row) → IsKept base a b merged → AreRows base a b merged rows → All IsKeptIn rows
  kept_in_rows rows kept are k d l = kept_in_row kept _ (are.cells k d l)

-- the final values of a run that ends give no name two values
value_is : (names : List (List ℕ)) (s : Values) (x : List ℕ) (v : Value) → Contains (final_values names s) (x, v) → v ≡ value_at s x
value_is [] s x v h = absurd (in_none (x, v) h)
value_is (y ∷ names) s x v h = elim (in_cons (y, value_at s y) (x, v) (final_values names s) h) [
  | inl e ↦ sym (ap (λ (z : List ℕ × Value). z.1) e) ∙ ap (value_at s) (ap (λ (z : List ℕ × Value). z.0) e)
  | inr later ↦ value_is names s x v later
]

ended : (names : List (List ℕ)) (most : ℕ) (after : After) (f : FinalValues) (steps : ℕ) → outcome names most after ≡ ends f steps → IsSingleValued f
ended names most (goes s left) f steps e =
    let is : final_values names s ≡ f = cc in
    subst (λ (g : FinalValues). IsSingleValued g) is (λ x v w p q. value_is names s x v p ∙ sym (value_is names s x w q))
ended names most (stops tag fault left) f steps e = absurd cc
ended names most spent f steps e = absurd cc

pub ended_single_valued : (p : Tree) (s : Values) (n steps : ℕ) (f : FinalValues) → run p s n ≡ ends f steps → IsSingleValued f
ended_single_valued p s n steps f e = ended p.finals n (run_body p.body s n) f steps e
