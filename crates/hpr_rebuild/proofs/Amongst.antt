-- The parts among the vertices of a graph, each once.
use Rattle.std.proofs.Common.{◌≡◌, ℕ, Bool, true, false, cond, ◌↔◌, inl, inr, List, [], ◌∷◌, filter, length, Contains, refl, sym, ap, subst}
use Rattle.hpr_graph.specs.declared.vertex.Vertex.{Vertex}
use Rattle.hpr_graph.specs.declared.vertex.Vertex.TheVariants.{Entry, Init, Part, Final}
use Rattle.hpr_graph.specs.Graphs.{IsOnce}
use Rattle.hpr_graph.specs.Numbered.{Numbered, graph_in}
use Rattle.hpr_graph.specs.Answer.{IsPart, HasParts}
use Rattle.hpr_graph.proofs.Lists.{in_none, in_cons, in_here, in_later, once_none, once_tail, once_head, once_cons}
use Rattle.hpr_rebuild.specs.Parts.{is_part}

part_is : (v : Vertex) → is_part v ≡ true → IsPart v
part_is Entry e = absurd cc
part_is (Init x) e = absurd cc
part_is (Part t c) e = (t, c, refl)
part_is (Final x) e = absurd cc

is_of_part : (v : Vertex) → IsPart v → is_part v ≡ true
is_of_part v (t, c, e) = ap is_part e

-- what is kept
kept : (vs : List Vertex) (w : Vertex) → Contains (filter is_part vs) w ↔ (Contains vs w × (is_part w ≡ true))
kept [] w = (λ h. absurd (in_none w h), λ (h, e). absurd (in_none w h))
kept (v ∷ vs) w = at (is_part v) refl (kept vs w)
  where
    at : (b : Bool) → is_part v ≡ b → Contains (filter is_part vs) w ↔ (Contains vs w × (is_part w ≡ true))
        → Contains (cond b (v ∷ filter is_part vs) (filter is_part vs)) w ↔ (Contains (v ∷ vs) w × (is_part w ≡ true))
    at true e more = (
      λ h. elim (in_cons v w (filter is_part vs) h) [
        | inl same ↦ (subst (Contains (v ∷ vs)) same (in_here v vs), subst (λ (u : Vertex). is_part u ≡ true) same e)
        | inr later ↦ (let (there, part) = more.0 later in (in_later v w vs there, part))
      ],
      λ (h, part). elim (in_cons v w vs h) [
        | inl same ↦ subst (Contains (v ∷ filter is_part vs)) same (in_here v (filter is_part vs))
        | inr later ↦ in_later v w (filter is_part vs) (more.1 (later, part))
      ],
    )
    at false e more = (
      λ h. (let (there, part) = more.0 h in (in_later v w vs there, part)),
      λ (h, part). elim (in_cons v w vs h) [
        | inl same ↦ absurd (let wrong : is_part v ≡ true = subst (λ (u : Vertex). is_part u ≡ true) (sym same) part in cc)
        | inr later ↦ more.1 (later, part)
      ],
    )

kept_once : (vs : List Vertex) → IsOnce vs → IsOnce (filter is_part vs)
kept_once [] once = once_none
kept_once (v ∷ vs) once = at (is_part v) (kept_once vs (once_tail v vs once))
  where
    at : (b : Bool) → IsOnce (filter is_part vs) → IsOnce (cond b (v ∷ filter is_part vs) (filter is_part vs))
    at true rest = once_cons v (filter is_part vs) (λ h. once_head v vs once ((kept vs v).0 h).0) rest
    at false rest = rest

pub has_parts : (g : Numbered) (n : ℕ) → IsOnce g.vertices → n ≡ length (filter is_part g.vertices) → HasParts (graph_in g) n
has_parts g n once is = (
  filter is_part g.vertices,
  kept_once g.vertices once,
  λ v. (
    λ h. (let (there, part) = (kept g.vertices v).0 h in (there, part_is v part)),
    λ (there, part). (kept g.vertices v).1 (there, is_of_part v part),
  ),
  sym is,
)
