-- The lines in which vertices begin, one vertex more at a time.
use Rattle.std.proofs.Common.{◌≡◌, ℕ, ◌↔◌, ◌⊎◌, inl, inr, Option, Some, None, List, Contains, refl, sym, ap, ◌∙◌}
use Rattle.hpr_terms.proofs.Facts.{some_inj}
use Rattle.hpr_graph.specs.declared.vertex.Vertex.{Vertex}
use Rattle.hpr_located.specs.declared.located.Located.{Located}
use Rattle.hpr_located.specs.Sources.{Standing}
use Rattle.hpr_impact.specs.Lines.{BeginsIn}
use Rattle.hpr_impact.specs.Private.Marking.{IsLineOf}

-- what holds of vertices that have P, of those that are listed
pub begins_same : (s : Standing) (vs : List Vertex) (P : Vertex → Type 0) (M : ℕ → Type 0) → ((v : Vertex) → Contains vs v ↔ P v) → ((n : ℕ) → M n ↔ BeginsIn s (Contains vs) n) → (n : ℕ) → M n ↔ BeginsIn s P n
begins_same s vs P M f marked n = (
  λ m. (let (v, l, has, at, is) = (marked n).0 m in (v, l, (f v).0 has, at, is)),
  λ (v, l, p, at, is). (marked n).1 (v, l, (f v).1 p, at, is),
)

module _ (s : Standing) (vs now : List Vertex) (v : Vertex) (taken : (w : Vertex) → Contains now w ↔ (Contains vs w ⊎ (v ≡ w))) where
  -- a vertex that stands nowhere
  begins_nowhere : (M : ℕ → Type 0) → s.place v ≡ None → ((n : ℕ) → M n ↔ BeginsIn s (Contains vs) n) → (n : ℕ) → M n ↔ BeginsIn s (Contains now) n
  begins_nowhere M none before n = (
    λ m. (let (w, l, has, at, is) = (before n).0 m in (w, l, (taken w).1 (inl has), at, is)),
    λ (w, l, has, at, is). elim ((taken w).0 has) [
      | inl was ↦ (before n).1 (w, l, was, at, is)
      | inr same ↦ absurd (let both : None ≡ Some l = sym none ∙ ap s.place same ∙ at in cc)
    ],
  )

  -- a vertex that stands somewhere
  begins_there : (M N : ℕ → Type 0) (l : Located) → s.place v ≡ Some l → ((n : ℕ) → M n ↔ BeginsIn s (Contains vs) n) → ((n : ℕ) → N n ↔ (M n ⊎ (n ≡ l.line))) → (n : ℕ) → N n ↔ BeginsIn s (Contains now) n
  begins_there M N l there before more n = (
    λ m. elim ((more n).0 m) [
      | inl was ↦ (let (w, k, has, at, is) = (before n).0 was in (w, k, (taken w).1 (inl has), at, is))
      | inr e ↦ (v, l, (taken v).1 (inr refl), there, sym e)
    ],
    λ (w, k, has, at, is). elim ((taken w).0 has) [
      | inl was ↦ (more n).1 (inl ((before n).1 (w, k, was, at, is)))
      | inr same ↦
          (let one : l ≡ k = some_inj l k (sym there ∙ ap s.place same ∙ at) in
          (more n).1 (inr (sym is ∙ ap (λ (x : Located). x.line) (sym one))))
    ],
  )

  pub begins_more : (M N : ℕ → Type 0) (o : Option Located) → o ≡ s.place v → ((n : ℕ) → M n ↔ BeginsIn s (Contains vs) n) → ((n : ℕ) → N n ↔ (M n ⊎ IsLineOf o n)) → (n : ℕ) → N n ↔ BeginsIn s (Contains now) n
  begins_more M N None is before more n =
      let same = begins_nowhere M (sym is) before n in
      (λ m. elim ((more n).0 m) [ inl was ↦ same.0 was | inr e ↦ absurd e ], λ h. (more n).1 (inl (same.1 h)))
  begins_more M N (Some l) is before more n = begins_there M N l (sym is) before more n
