-- What a map from vertices answers, by the order of the definitions.
use Rattle.std.proofs.Common.{◌≡◌, ◌⊎◌, inl, inr, ℕ, suc, min, ◌-◌, ◌<◌, ◌≤◌, Bool, true, false, IsTrue, Some, cond, List, [], ◌∷◌, map, zip, drop, length, get_or, sym, ap, ap₂, ◌∙◌, refl, arith, drop_of_length-le}
use Rattle.std.proofs.Math.Nat.{min-eq_left, min-eq_right}
use Rattle.std.proofs.lemmas.Bool.{cases_lt}
use Rattle.std.proofs.Math.Seq.{drop-cons}
use Rattle.std.specs.BTreeMap.{is_at}
use Rattle.std.specs.Map.{lookup}
use Rattle.std.specs.Ordering.{is_eq}
use Rattle.std.specs.Cmp.{eq_by_cmp_equiv}
use Rattle.hpr_graph.specs.declared.vertex.Vertex.{Vertex}
use Rattle.hpr_graph.specs.contracts.vertex.VertexPartialEq.TheImpl as equals
use Rattle.hpr_graph.specs.contracts.vertex.VertexOrd.TheImpl as vertices
use Rattle.hpr_graph.specs.contracts.vertex.VertexOrd.TheImpl.Laws as vertex_laws
use Rattle.hpr_graph.specs.Order.{vertex_cmp}
use Rattle.hpr_graph.proofs.VertexOrder.{vertex_total, vertex_tied, vertex_itself, vertex_equal, equal_by}

alike : (a b : Bool) → (IsTrue a → IsTrue b) → (IsTrue b → IsTrue a) → a ≡ b
alike true true f g = refl
alike true false f g = sym (f refl)
alike false true f g = g refl
alike false false f g = refl

-- the derived order ties the same vertices
ties : (v w : Vertex) → is_eq ((vertices.ghosts).cmp v w) ≡ is_eq (vertex_cmp v w)
ties v w =
    let derived = vertex_equal v w ((equals.ghosts).eq v w) refl in
    sym (vertex_laws.matches_eq-law v w)
    ∙ alike _ _ (λ t. ap is_eq (ap (λ (x : Vertex). vertex_cmp x w) (derived.0 t) ∙ vertex_itself w)) (λ t. derived.1 (vertex_tied v w (equal_by (vertex_cmp v w) t)))

module _ {X : Type 0} where
  pub by_order : (v : Vertex) (es : List (Vertex × X)) → lookup (is_at ((vertices.ghosts).cmp v)) es ≡ lookup (is_at (vertex_cmp v)) es
  by_order v es = λ i. lookup (λ w. ties v w i) es

  pub put_first : (v w : Vertex) (x : X) (old new : List (Vertex × X))
      → lookup (is_at ((vertices.ghosts).cmp v)) new ≡ cond (is_at ((vertices.ghosts).cmp w) v) (Some x) (lookup (is_at ((vertices.ghosts).cmp v)) old)
      → lookup (is_at (vertex_cmp v)) new ≡ lookup (is_at (vertex_cmp v)) ((w, x) ∷ old)
  put_first v w x old new is =
      let turned : is_eq ((vertices.ghosts).cmp w v) ≡ is_eq (vertex_cmp v w) = ties w v ∙ (eq_by_cmp_equiv vertex_total).symm w v in
      sym (by_order v new) ∙ is ∙ (λ i. cond (turned i) (Some x) (by_order v old i))

zip_none : {K X : Type 0} (ks : List K) → zip {X = X} ks [] ≡ []
zip_none [] = refl
zip_none (k ∷ ks) = refl

module _ {R K X : Type 0} (f : R → K) where
  pub pairs_here : (rows : List R) (xs : List X) (n : ℕ) (r : R) (x d : X) → 0 < n → n ≤ length rows → n ≤ length xs → r ≡ get_or rows (n - 1) r → x ≡ get_or xs (n - 1) d
      → zip (map f (drop (n - 1) rows)) (drop (n - 1) xs) ≡ (f r, x) ∷ zip (map f (drop n rows)) (drop n xs)
  pairs_here rows xs n r x d some rows_left xs_left r_is x_is =
      let next : suc (n - 1) ≡ n = omega arith in
      let row : drop (n - 1) rows ≡ r ∷ drop n rows = drop-cons rows (n - 1) r (omega arith) ∙ ap₂ (λ (q : R) (m : ℕ). q ∷ drop m rows) (sym r_is) next in
      let place : drop (n - 1) xs ≡ x ∷ drop n xs = drop-cons xs (n - 1) d (omega arith) ∙ ap₂ (λ (y : X) (m : ℕ). y ∷ drop m xs) (sym x_is) next in
      ap₂ (λ (rs : List R) (ys : List X). zip (map f rs) ys) row place

  pub no_pairs : (rows : List R) (xs : List X) (n : ℕ) → (length rows ≤ n) ⊎ (length xs ≤ n) → zip (map f (drop n rows)) (drop n xs) ≡ []
  no_pairs rows xs n (inl past) = ap (λ (rs : List R). zip (map f rs) (drop n xs)) (drop_of_length-le rows past)
  no_pairs rows xs n (inr past) = ap (λ (ys : List X). zip (map f (drop n rows)) ys) (drop_of_length-le xs past) ∙ zip_none (map f (drop n rows))

pub shorter : (a b n : ℕ) → n ≡ min a b → (a ≤ n) ⊎ (b ≤ n)
shorter a b n is = by (cases_lt a b)
  where
    by : (a < b) ⊎ (b ≤ a) → (a ≤ n) ⊎ (b ≤ n)
    by (inl less) = let e : min a b ≡ a = min-eq_left (omega (arith, less)) in inl (omega (arith, is, e))
    by (inr more) = let e : min a b ≡ b = min-eq_right more in inr (omega (arith, is, e))

module _ {K X : Type 0} (test : K → Bool) where
  pub one_more : (k : K) (x : X) (old new rest all : List (K × X)) → lookup test new ≡ lookup test ((k, x) ∷ old) → lookup test old ≡ lookup test rest → all ≡ (k, x) ∷ rest
      → lookup test new ≡ lookup test all
  one_more k x old new rest all put so_far is = put ∙ ap (λ o. cond (test k) (Some x) o) so_far ∙ ap (lookup test) (sym is)
