-- One family of links put into the graph of a program.
use Rattle.std.proofs.Common.{◌≡◌, ℕ, List, Result, Ok, Err, OnOk, Contains, ◌↔◌, ◌⊎◌, sym, subst}
use Rattle.hpr_graph.specs.declared.link.Link.{Link}
use Rattle.hpr_graph.specs.Numbered.{Numbered, HasLink}
use Rattle.hpr_build.specs.declared.pushes.NewLink.{NewLink}
use Rattle.hpr_build.proofs.Families.{other_family}
use Rattle.hpr_build.proofs.LinkTurns.{into}

module _ (F : ℕ → Link → Type 0) (links made : List NewLink) (same : links ≡ made) (exact : (n : NewLink) → Contains made n ↔ F n.to n.link) where
  pub to_family : (to : ℕ) (l : Link) → Contains links (into to l) → F to l
  to_family to l h = (exact (into to l)).0 (subst (λ (ns : List NewLink). Contains ns (into to l)) same h)

  to_links : (to : ℕ) (l : Link) → F to l → Contains links (into to l)
  to_links to l h = subst (λ (ns : List NewLink). Contains ns (into to l)) (sym same) ((exact (into to l)).1 h)

  pub stage_added : (g g' : Numbered) → ((to : ℕ) (l : Link) → HasLink g' to l ↔ (HasLink g to l ⊎ Contains links (into to l))) → (to : ℕ) (l : Link) → HasLink g' to l ↔ (HasLink g to l ⊎ F to l)
  stage_added g g' added to l = other_family (HasLink g' to l) (HasLink g to l) (Contains links (into to l)) (F to l) (to_family to l) (to_links to l) (added to l)

pub on_ok : {T E : Type 0} (r : Result T E) (P Q : Type 0) → (P → Q) → OnOk r P → OnOk r Q
on_ok (Ok x) P Q f p = f p
on_ok (Err e) P Q f p = p
