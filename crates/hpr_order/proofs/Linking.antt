-- Steps of the loops over links and vertices.
use Rattle.std.proofs.Common.{◌≡◌, ℕ, ◌+◌, ◌<◌, ◌≤◌, ◌⊎◌, ◌↔◌, inl, inr, Bool, true, false, not, IsTrue, Option, Some, None, List, [], ◌∷◌, ◌++◌, length, get_or, take, eqb, Contains, slice_get, refl, sym, ap, ◌∙◌, subst}
use Rattle.std.specs.Option.{option_eq}
use Rattle.std.proofs.lemmas.Bool.{eqb-true, eq-eqb}
use Rattle.std.proofs.lemmas.List.{take_all}
use Rattle.std.proofs.lemmas.List.Elements.{Contains-append_left, Contains-append_right, Contains-append_cases}
use Rattle.std.proofs.lemmas.Option.{slice_get-get_or}
use Rattle.hpr_terms.proofs.Facts.{not_is, some_inj}
use Rattle.hpr_graph.specs.declared.vertex.Vertex.{Vertex}
use Rattle.hpr_graph.specs.declared.vertex.Vertex.TheVariants.{Final}
use Rattle.hpr_graph.specs.declared.link.Link.{Link}
use Rattle.hpr_graph.specs.Moves.{number_at}
use Rattle.hpr_forest.proofs.Unique.{in_none, in_cons, in_first}
use Rattle.hpr_order.specs.Numbers.{IsAskedBy, DirectsBy}
use Rattle.hpr_order.proofs.Marked.{asked_more}
use Rattle.hpr_order.proofs.Steps.{links_skip, links_push, one_pair, take_step}

pub option_true : (a b : Option ℕ) → option_eq eqb a b ≡ true → a ≡ b
option_true None None e = refl
option_true None (Some y) e = absurd cc
option_true (Some x) None e = absurd cc
option_true (Some x) (Some y) e = ap Some (eqb-true x y e)

pub option_same : (a b : Option ℕ) → a ≡ b → option_eq eqb a b ≡ true
option_same None None e = refl
option_same None (Some y) e = absurd cc
option_same (Some x) None e = absurd cc
option_same (Some x) (Some y) e = eq-eqb x y (some_inj x y e)

pub differ_true : (r : Bool) (a b : Option ℕ) → r ≡ not (option_eq eqb a b) → r ≡ true → a ≡ b → ⊥
differ_true r a b is t e = let f : not true ≡ true = ap not (sym (option_same a b e)) ∙ sym is ∙ t in absurd cc

pub differ_false : (r : Bool) (a b : Option ℕ) → r ≡ not (option_eq eqb a b) → r ≡ false → a ≡ b
differ_false r a b is f = option_true a b (not_is (option_eq eqb a b) (sym is ∙ f))

pub true_is : (r : Bool) → r ≡ true → IsTrue r
true_is true e = search
true_is false e = absurd cc

pub false_is : (r : Bool) → r ≡ false → IsTrue r → ⊥
false_is true e t = absurd cc
false_is false e t = absurd cc

module _ (Old : ℕ → ℕ → Type 0) (item : ℕ) (places : List (Option ℕ)) (links : List Link) (index : ℕ) (d : Link) (within : index < length links) where
  at : slice_get links index ≡ Some (get_or links index d)
  at = slice_get-get_or links index d within

  more : (s : ℕ) → IsAskedBy places (take (index + 1) links) s ↔ (IsAskedBy places (take index links) s ⊎ (DirectsBy (get_or links index d).kind × (number_at places (get_or links index d).from ≡ Some s)))
  more s = asked_more links index (get_or links index d) s places (slice_get-get_or links index d within)

  pub links_undirected : (r : Bool) (pairs : List (ℕ × ℕ)) → IsTrue r ↔ DirectsBy (get_or links index d).kind → r ≡ false
      → ((s t : ℕ) → Contains pairs (s, t) ↔ (Old s t ⊎ ((t ≡ item) × IsAskedBy places (take index links) s)))
      → (s t : ℕ) → Contains pairs (s, t) ↔ (Old s t ⊎ ((t ≡ item) × IsAskedBy places (take (index + 1) links) s))
  links_undirected r pairs dir no_dir all =
      links_skip Old item (IsAskedBy places (take index links)) (IsAskedBy places (take (index + 1) links)) pairs (λ s a. (more s).1 (inl a))
      (λ s b. elim ((more s).0 b) [ inl a ↦ a | inr (x, _) ↦ absurd (false_is r no_dir (dir.1 x)) ]) all

  pub links_unplaced : (o : Option ℕ) (pairs : List (ℕ × ℕ)) → o ≡ number_at places (get_or links index d).from → o ≡ None
      → ((s t : ℕ) → Contains pairs (s, t) ↔ (Old s t ⊎ ((t ≡ item) × IsAskedBy places (take index links) s)))
      → (s t : ℕ) → Contains pairs (s, t) ↔ (Old s t ⊎ ((t ≡ item) × IsAskedBy places (take (index + 1) links) s))
  links_unplaced o pairs is none all =
      links_skip Old item (IsAskedBy places (take index links)) (IsAskedBy places (take (index + 1) links)) pairs (λ s a. (more s).1 (inl a))
      (λ s b. elim ((more s).0 b) [ inl a ↦ a | inr (_, x) ↦ absurd (let e : None ≡ Some s = sym none ∙ is ∙ x in absurd cc) ]) all

  pub links_placed : (r : Bool) (o : Option ℕ) (source : ℕ) (pairs new : List (ℕ × ℕ)) → IsTrue r ↔ DirectsBy (get_or links index d).kind → r ≡ true
      → o ≡ number_at places (get_or links index d).from → o ≡ Some source → new ≡ pairs ++ one_pair source item
      → ((s t : ℕ) → Contains pairs (s, t) ↔ (Old s t ⊎ ((t ≡ item) × IsAskedBy places (take index links) s)))
      → (s t : ℕ) → Contains new (s, t) ↔ (Old s t ⊎ ((t ≡ item) × IsAskedBy places (take (index + 1) links) s))
  links_placed r o source pairs new dir yes' is some grown all =
      links_push Old item source (IsAskedBy places (take index links)) (IsAskedBy places (take (index + 1) links)) pairs new (λ s a. (more s).1 (inl a))
      (λ s b. elim ((more s).0 b) [ inl a ↦ inl a | inr (_, x) ↦ inr (some_inj s source (sym x ∙ sym is ∙ some)) ])
      ((more source).1 (inr (dir.0 (true_is r yes'), sym is ∙ some))) grown all

pub links_whole : (Old : ℕ → ℕ → Type 0) (item : ℕ) (places : List (Option ℕ)) (links : List Link) (index : ℕ) (pairs : List (ℕ × ℕ)) → length links ≤ index
    → ((s t : ℕ) → Contains pairs (s, t) ↔ (Old s t ⊎ ((t ≡ item) × IsAskedBy places (take index links) s)))
    → (s t : ℕ) → Contains pairs (s, t) ↔ (Old s t ⊎ ((t ≡ item) × IsAskedBy places links s))
links_whole Old item places links index pairs end all =
    subst (λ z. (s t : ℕ) → Contains pairs (s, t) ↔ (Old s t ⊎ ((t ≡ item) × IsAskedBy places z s))) (take_all index links end) all

-- the names of the Final vertices
module _ (vs : List Vertex) (index : ℕ) (v : Vertex) (at : slice_get vs index ≡ Some v) where
  pub names_skip : (names : List (List ℕ)) → ((x : List ℕ) → v ≡ Final x → ⊥) → ((x : List ℕ) → Contains names x ↔ Contains (take index vs) (Final x))
      → (x : List ℕ) → Contains names x ↔ Contains (take (index + 1) vs) (Final x)
  names_skip names out all x = (
    (λ h. (take_step vs index v (Final x) at).1 (inl ((all x).0 h))),
    (λ h. elim ((take_step vs index v (Final x) at).0 h) [ inl old ↦ (all x).1 old | inr same ↦ absurd (out x same) ]),
  )

  pub names_push : (names more : List (List ℕ)) (n m : List ℕ) → v ≡ Final n → m ≡ n → more ≡ names ++ m ∷ [] → ((x : List ℕ) → Contains names x ↔ Contains (take index vs) (Final x))
      → (x : List ℕ) → Contains more x ↔ Contains (take (index + 1) vs) (Final x)
  names_push names more n m is copied grown all x = (
    (λ h. (take_step vs index v (Final x) at).1 (elim (Contains-append_cases names (m ∷ []) x (subst (λ z. Contains z x) grown h)) [
      | inl old ↦ inl ((all x).0 old)
      | inr new ↦ elim (in_cons m x [] new) [ inl same ↦ inr (is ∙ ap Final (sym copied ∙ same)) | inr none ↦ absurd (in_none x none) ]
    ])),
    (λ h. subst (λ z. Contains z x) (sym grown) (elim ((take_step vs index v (Final x) at).0 h) [
      | inl old ↦ Contains-append_left names (m ∷ []) x ((all x).1 old)
      | inr same ↦ (let e : n ≡ x = final_same n x (sym is ∙ same) in Contains-append_right names (m ∷ []) x (subst (Contains (m ∷ [])) (copied ∙ e) (in_first m [])))
    ])),
  )
    where
      final_same : (n x : List ℕ) → Final n ≡ Final x → n ≡ x
      final_same n x e = cc
