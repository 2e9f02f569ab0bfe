-- The Final vertices of a graph have an order.
use Rattle.std.proofs.Common.{◌≡◌, ℕ, zero, suc, ◌↔◌, ◌⊎◌, inl, inr, List, [], ◌∷◌, get_or, Contains, refl, sym, ap, ◌∙◌, subst, arith}
use Rattle.std.specs.Cmp.Lexicographic.{nat_list_cmp_total}
use Rattle.std.specs.declared.cmp.Ordering.{Ordering}
use Rattle.std.specs.declared.cmp.Ordering.TheVariants.{Less, Equal, Greater}
use Rattle.std.proofs.lemmas.List.Elements.{Contains-get_or}
use Rattle.hpr_terms.specs.Names.{IsVariable}
use Rattle.hpr_terms.proofs.Facts.{contains_at, in_cons, in_here, in_later, in_none, some_inj}
use Rattle.hpr_forest.specs.Lists.{IsAscending}
use Rattle.hpr_graph.specs.declared.vertex.Vertex.{Vertex}
use Rattle.hpr_graph.specs.declared.vertex.Vertex.TheVariants.{Entry, Init, Final, Part}
use Rattle.hpr_graph.specs.InOrder.{Ascends}
use Rattle.hpr_graph.specs.Numbered.{Numbered, graph_in}
use Rattle.hpr_graph.specs.Order.{name_cmp}
use Rattle.hpr_graph.proofs.NameOrder.{turned}
use Rattle.hpr_graph.proofs.VertexOrder.{name_tied}
use Rattle.hpr_order.specs.Numbers.{AreFinals}

abbrev IsBefore : List ℕ → List ℕ → Type 0
IsBefore x y = name_cmp x y ≡ Less

-- the names with one more, in order
abbrev placed : Ordering → List ℕ → List ℕ → List (List ℕ) → List (List ℕ) → List (List ℕ)
placed Less x y ys more = x ∷ y ∷ ys
placed Equal x y ys more = y ∷ ys
placed Greater x y ys more = y ∷ more

abbrev insert : List ℕ → List (List ℕ) → List (List ℕ)
insert x [] = x ∷ []
insert x (y ∷ ys) = placed (name_cmp x y) x y ys (insert x ys)

into_has : (x : List ℕ) (ys : List (List ℕ)) (z : List ℕ) → Contains (insert x ys) z → (x ≡ z) ⊎ Contains ys z
into_has x [] z h = elim (in_cons x z [] h) [ inl e ↦ inl e | inr none ↦ absurd (in_none z none) ]
into_has x (y ∷ ys) z h = at (name_cmp x y) (into_has x ys z) h
  where
    at : (o : Ordering) → (Contains (insert x ys) z → (x ≡ z) ⊎ Contains ys z) → Contains (placed o x y ys (insert x ys)) z → (x ≡ z) ⊎ Contains (y ∷ ys) z
    at Less rest a = in_cons x z (y ∷ ys) a
    at Equal rest a = inr a
    at Greater rest a = elim (in_cons y z (insert x ys) a) [
      | inl e ↦ inr (subst (Contains (y ∷ ys)) e (in_here y ys))
      | inr later ↦ elim (rest later) [ inl e ↦ inl e | inr old ↦ inr (in_later y z ys old) ]
    ]

has_into : (x : List ℕ) (ys : List (List ℕ)) (z : List ℕ) → (x ≡ z) ⊎ Contains ys z → Contains (insert x ys) z
has_into x [] z (inl e) = subst (Contains (x ∷ [])) e (in_here x [])
has_into x [] z (inr none) = absurd (in_none z none)
has_into x (y ∷ ys) z h = at (name_cmp x y) refl (has_into x ys z) h
  where
    at : (o : Ordering) → name_cmp x y ≡ o → ((x ≡ z) ⊎ Contains ys z → Contains (insert x ys) z) → (x ≡ z) ⊎ Contains (y ∷ ys) z → Contains (placed o x y ys (insert x ys)) z
    at Less is rest (inl e) = subst (Contains (x ∷ y ∷ ys)) e (in_here x (y ∷ ys))
    at Less is rest (inr old) = in_later x z (y ∷ ys) old
    at Equal is rest (inl e) = subst (Contains (y ∷ ys)) (sym (name_tied x y is) ∙ e) (in_here y ys)
    at Equal is rest (inr old) = old
    at Greater is rest (inl e) = in_later y z (insert x ys) (rest (inl e))
    at Greater is rest (inr old) = elim (in_cons y z ys old) [
      | inl e ↦ subst (Contains (y ∷ insert x ys)) e (in_here y (insert x ys))
      | inr later ↦ in_later y z (insert x ys) (rest (inr later))
    ]

rises : (x : List ℕ) (ys : List (List ℕ)) → IsAscending IsBefore ys → IsAscending IsBefore (insert x ys)
rises x [] up = (λ z none. absurd (in_none z none), tt)
rises x (y ∷ ys) up = at (name_cmp x y) refl (rises x ys up.1)
  where
    at : (o : Ordering) → name_cmp x y ≡ o → IsAscending IsBefore (insert x ys) → IsAscending IsBefore (placed o x y ys (insert x ys))
    at Less is rest = (
      λ z h. elim (in_cons y z ys h) [
        | inl e ↦ subst (λ w. name_cmp x w ≡ Less) e is
        | inr later ↦ nat_list_cmp_total.trans x y z is (up.0 z later)
      ],
      up,
    )
    at Equal is rest = up
    at Greater is rest = (
      λ z h. elim (into_has x ys z h) [
        | inl e ↦ subst (λ w. name_cmp y w ≡ Less) e (turned x y is)
        | inr old ↦ up.0 z old
      ],
      rest,
    )

abbrev with_final : Vertex → List (List ℕ) → List (List ℕ)
with_final Entry xs = xs
with_final (Init x) xs = xs
with_final (Final x) xs = insert x xs
with_final (Part t c) xs = xs

abbrev finals_in : List Vertex → List (List ℕ)
finals_in [] = []
finals_in (v ∷ vs) = with_final v (finals_in vs)

has_final : (v : Vertex) (xs : List (List ℕ)) (z : List ℕ) → Contains (with_final v xs) z → (v ≡ Final z) ⊎ Contains xs z
has_final Entry xs z h = inr h
has_final (Init x) xs z h = inr h
has_final (Final x) xs z h = elim (into_has x xs z h) [ inl e ↦ inl (ap Final e) | inr old ↦ inr old ]
has_final (Part t c) xs z h = inr h

final_has : (v : Vertex) (xs : List (List ℕ)) (z : List ℕ) → (v ≡ Final z) ⊎ Contains xs z → Contains (with_final v xs) z
final_has Entry xs z (inl e) = absurd cc
final_has Entry xs z (inr old) = old
final_has (Init x) xs z (inl e) = absurd cc
final_has (Init x) xs z (inr old) = old
final_has (Final x) xs z (inl e) = let same : x ≡ z = cc in has_into x xs z (inl same)
final_has (Final x) xs z (inr old) = has_into x xs z (inr old)
final_has (Part t c) xs z (inl e) = absurd cc
final_has (Part t c) xs z (inr old) = old

final_rises : (v : Vertex) (xs : List (List ℕ)) → IsAscending IsBefore xs → IsAscending IsBefore (with_final v xs)
final_rises Entry xs up = up
final_rises (Init x) xs up = up
final_rises (Final x) xs up = rises x xs up
final_rises (Part t c) xs up = up

names : (vs : List Vertex) (z : List ℕ) → Contains (finals_in vs) z ↔ Contains vs (Final z)
names [] z = (λ h. absurd (in_none z h), λ h. absurd (in_none (Final z) h))
names (v ∷ vs) z = (
  λ h. elim (has_final v (finals_in vs) z h) [
    | inl e ↦ subst (Contains (v ∷ vs)) e (in_here v vs)
    | inr old ↦ in_later v (Final z) vs ((names vs z).0 old)
  ],
  λ h. elim (in_cons v (Final z) vs h) [
    | inl e ↦ final_has v (finals_in vs) z (inl e)
    | inr old ↦ final_has v (finals_in vs) z (inr ((names vs z).1 old))
  ],
)

up : (vs : List Vertex) → IsAscending IsBefore (finals_in vs)
up [] = tt
up (v ∷ vs) = final_rises v (finals_in vs) (up vs)

ascends : (xs : List (List ℕ)) → IsAscending IsBefore xs → Ascends name_cmp xs
ascends [] rising i j x y lt a b = absurd cc
ascends (z ∷ xs) rising i zero x y lt a b = absurd (omega (arith, lt))
ascends (z ∷ xs) rising zero (suc j) x y lt a b = subst (λ w. name_cmp w y ≡ Less) (some_inj z x a) (rising.0 y (contains_at xs j y b))
ascends (z ∷ xs) rising (suc i) (suc j) x y lt a b = ascends xs rising.1 i j x y (omega (arith, lt)) a b

-- there are the finals of an arrangement
pub finals_there : (g : Numbered) → ((x : List ℕ) → Contains g.vertices (Final x) → IsVariable x) → (xs : List (List ℕ)) × AreFinals (graph_in g) xs
finals_there g proper = (
  finals_in g.vertices,
  record {
    names = names g.vertices;
    ascending = ascends (finals_in g.vertices) (up g.vertices);
    proper = λ k d lt. proper (get_or (finals_in g.vertices) k d) ((names g.vertices (get_or (finals_in g.vertices) k d)).0 (Contains-get_or (finals_in g.vertices) k d lt));
  },
)
