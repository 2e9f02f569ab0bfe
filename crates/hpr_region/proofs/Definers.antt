-- The items that define a variable, and how they tell a kill.
use Rattle.std.proofs.Common.{◌≡◌, ℕ, ◌+◌, ◌<◌, ◌≤◌, ◌↔◌, inl, inr, Some, None, List, Vec, length, vec_len, Contains, sym, ap, ◌∙◌, arith, rules}
use Rattle.std.specs.Global.{Global}
use Rattle.std.proofs.lemmas.Bool.{cases_eq}
use Rattle.hpr_terms.proofs.Facts.{some_inj}
use Rattle.hpr_search.specs.Rows.{IsPushed, numbers_at, numbers_of}
use Rattle.hpr_region.specs.declared.flows.Flows.{Flows}
use Rattle.hpr_region.specs.Flows as flow
use Rattle.hpr_region.specs.Private.Rivals.{AreDefiners}
use Rattle.hpr_region.proofs.Latest.{get_small}

module _ (t : Flows) where
  -- the rows of the first items
  pub record AreDefinersBelow (n : ℕ) (rows : List (Vec ℕ Global)) : Type 0 where
    pub count : length rows ≡ t.names
    pub exact : (v k : ℕ) → Contains (numbers_at (numbers_of rows) v) k ↔ ((k < n) × (flow.variable_of t k ≡ Some v))

  pub definers_none : (rows : List (Vec ℕ Global)) → length rows ≡ t.names → ((at n : ℕ) → ¬ Contains (numbers_at (numbers_of rows) at) n) → AreDefinersBelow 0 rows
  definers_none rows count none = record { count = count; exact = λ v k. (λ h. absurd (none v k h), λ (lt, e). absurd (omega (arith, lt))) }

  pub definers_skip : (rows : List (Vec ℕ Global)) (n : ℕ) → flow.variable_of t n ≡ None → AreDefinersBelow n rows → AreDefinersBelow (n + 1) rows
  definers_skip rows n none is = record {
    count = is.count;
    exact = λ v k. (
      (λ h. (let (lt, e) = (is.exact v k).0 h in (omega (arith, lt), e))),
      (λ (lt, e). elim (cases_eq k n) [
        | inl same ↦ absurd (let h : Some v ≡ None = sym e ∙ ap (flow.variable_of t) same ∙ none in cc)
        | inr ne ↦ (is.exact v k).1 (omega (arith, lt, ne), e)
      ]),
    );
  }

  pub definers_more : (rows rows' : List (Vec ℕ Global)) (n u : ℕ) → flow.variable_of t n ≡ Some u → length rows' ≡ length rows → IsPushed (numbers_of rows) u n (numbers_of rows') → AreDefinersBelow n rows → AreDefinersBelow (n + 1) rows'
  definers_more rows rows' n u defines count more is = record {
    count = count ∙ is.count;
    exact = λ v k. (
      (λ h. elim ((more v k).0 h) [
        | inl old ↦ (let (lt, e) = (is.exact v k).0 old in (omega (arith, lt), e))
        | inr (at, one) ↦ (omega (arith, one), ap (flow.variable_of t) one ∙ defines ∙ ap Some (sym at))
      ]),
      (λ (lt, e). elim (cases_eq k n) [
        | inl same ↦ (more v k).1 (inr (some_inj v u (sym e ∙ ap (flow.variable_of t) same ∙ defines), same))
        | inr ne ↦ (more v k).1 (inl ((is.exact v k).1 (omega (arith, lt, ne), e)))
      ]),
    );
  }

  pub defining_within : (k v : ℕ) → flow.variable_of t k ≡ Some v → k < vec_len t.slots
  defining_within k v e =
      let lt = get_small t.variables.items k v e in
      let l : length t.variables.items ≡ vec_len t.variables = search rules in
      let c = t.variable_count in
      omega (arith, lt, l, c)

  pub definers_whole : (rows : List (Vec ℕ Global)) (n : ℕ) → vec_len t.slots ≤ n → AreDefinersBelow n rows → AreDefiners t rows
  definers_whole rows n end is = record {
    count = is.count;
    exact = λ v k. (
      (λ h. ((is.exact v k).0 h).1),
      (λ e. (is.exact v k).1 ((let lt = defining_within k v e in omega (arith, lt, end)), e)),
    );
  }
