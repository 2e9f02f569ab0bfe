-- What was put into another graph is a union or a restriction.
use Rattle.std.proofs.Common.{◌≡◌, ℕ, ◌<◌, ◌↔◌, ◌⊎◌, inl, inr, Bool, Option, Some, None, IsSome, List, [], length, Contains, slice_get, refl, sym, ◌∙◌, subst}
use Rattle.std.specs.Option.{option_map, option_and_then}
use Rattle.std.proofs.lemmas.Option.{slice_get_within}
use Rattle.hpr_search.specs.Marks.{IsMarked}
use Rattle.hpr_graph.specs.declared.vertex.Vertex.{Vertex}
use Rattle.hpr_graph.specs.declared.edge.Kind.{Kind}
use Rattle.hpr_graph.specs.declared.edge.Kind.TheVariants as kind
use Rattle.hpr_graph.specs.declared.edge.Edge.{Edge}
use Rattle.hpr_graph.specs.declared.link.LinkKind.{LinkKind}
use Rattle.hpr_graph.specs.declared.link.LinkKind.TheVariants.{Control, Independent, Carried, Order}
use Rattle.hpr_graph.specs.declared.link.Link.{Link}
use Rattle.hpr_graph.specs.Graphs.{IsOnce, Same, OnThird, HasVertices, union_of, restrict_to}
use Rattle.hpr_graph.specs.Numbered.{Numbered, HasVertex, HasLink, HasEdge, IsKindAt, IsGrown, IsMarkedVertex, graph_in, row_items}
use Rattle.hpr_graph.specs.Moves.{number_at, HasNumber, moved_kind, IsMoved, ArePlaced, MovesEdge}
use Rattle.hpr_graph.proofs.Lists.{some_of, contains_at, place_of, in_none}

is_mapped : {X Y : Type 0} (f : X → Y) (o : Option X) → IsSome (option_map f o) ↔ IsSome o
is_mapped f None = (λ h. absurd cc, λ h. absurd cc)
is_mapped f (Some x) = (λ h. refl, λ h. refl)

is_both : {X Y Z : Type 0} (f : X → Y → Z) (o : Option X) (p : Option Y) → IsSome (option_and_then (λ x. option_map (f x) p) o) ↔ (IsSome o × IsSome p)
is_both f None p = (λ h. absurd cc, λ h. absurd (let n = h.0 in cc))
is_both f (Some x) None = (λ h. absurd cc, λ h. absurd (let n = h.1 in cc))
is_both f (Some x) (Some y) = (λ h. (refl, refl), λ h. refl)

moved_both : (ns : List (Option ℕ)) (l : Link) → IsMoved ns l ↔ (HasNumber ns l.from × IsSome (moved_kind ns l.kind))
moved_both ns l = is_both (λ from kind. let m : Link = record { from = from; kind = kind } in m) (number_at ns l.from) (moved_kind ns l.kind)

module _ (g : Numbered) (ns : List (Option ℕ)) (P : Vertex → Type 0) (numbers : (i : ℕ) (v : Vertex) → slice_get g.vertices i ≡ Some v → HasNumber ns i ↔ P v) where
  third_in : (k : LinkKind) (v : Vertex) (e : Kind) → IsKindAt g.vertices k v e → IsSome (moved_kind ns k) → OnThird P e
  third_in (Control label) v e h t = subst (OnThird P) (sym h) tt
  third_in Independent v e (x, d, is) t = subst (OnThird P) (sym is) tt
  third_in (Carried w) v e (x, y, d, at, is) t = subst (OnThird P) (sym is) ((numbers w y at).0 ((is_mapped Carried (number_at ns w)).0 t))
  third_in (Order u) v e (y, at, is) t = subst (OnThird P) (sym is) ((numbers u y at).0 ((is_mapped Order (number_at ns u)).0 t))

  third_out : (k : LinkKind) (v : Vertex) (e : Kind) → IsKindAt g.vertices k v e → OnThird P e → IsSome (moved_kind ns k)
  third_out (Control label) v e h t = refl
  third_out Independent v e h t = refl
  third_out (Carried w) v e (x, y, d, at, is) t = (is_mapped Carried (number_at ns w)).1 ((numbers w y at).1 (subst (OnThird P) is t))
  third_out (Order u) v e (y, at, is) t = (is_mapped Order (number_at ns u)).1 ((numbers u y at).1 (subst (OnThird P) is t))

  -- the edges that are moved are those all of whose vertices have P
  moved_edges : (e : Edge) → MovesEdge g ns e ↔ (HasEdge g e × HasVertices P e)
  moved_edges e = (
    λ (at, l, has, (number, mo, is)).
        (let (from, third) = (moved_both ns l).0 mo in
        ((at, l, has, is), ((numbers at e.to is.0).0 number, (numbers l.from e.from is.1).0 from, third_in l.kind e.from e.kind is.2 third))),
    λ ((at, l, has, is), (to, from, third)).
        (at, l, has, ((numbers at e.to is.0).1 to, (moved_both ns l).1 ((numbers l.from e.from is.1).1 from, third_out l.kind e.from e.kind is.2 third), is)),
  )

pub no_link : (g : Numbered) → g.links ≡ [] → (at : ℕ) (l : Link) → ¬ HasLink g at l
no_link g none at l has = in_none l (subst (λ (rows : List (List Link)). Contains (row_items (slice_get rows at)) l) none has)

-- a graph that has grown from one with no link has the links of any graph with none
pub no_more_links : (empty g none : Numbered) → empty.links ≡ [] → IsGrown empty g → none.links ≡ [] → (at : ℕ) (l : Link) → HasLink none at l ↔ HasLink g at l
no_more_links empty g none begun grown is at l = (λ h. absurd (no_link none is at l h), λ h. absurd (no_link empty begun at l (grown.only at l h)))

pub restricted_same : (g : Numbered) (keep : List Bool) (ns : List (Option ℕ)) (empty placed whole : Numbered) → IsOnce g.vertices → empty.links ≡ [] → ArePlaced g.vertices ns placed.vertices → ((i : ℕ) → HasNumber ns i ↔ IsMarked keep i)
    → IsGrown empty placed → ((v : Vertex) → HasVertex placed v → IsMarkedVertex g keep v) → whole.vertices ≡ placed.vertices → ((e : Edge) → HasEdge whole e ↔ (HasEdge placed e ⊎ MovesEdge g ns e))
    → Same (graph_in whole) (restrict_to (graph_in g) (IsMarkedVertex g keep))
restricted_same g keep ns empty placed whole once none are_placed marked grown only same moved_in =
    let numbers : (i : ℕ) (v : Vertex) → slice_get g.vertices i ≡ Some v → HasNumber ns i ↔ IsMarkedVertex g keep v =
    λ i v at. (λ h. (i, at, (marked i).0 h), λ (j, at', m). (marked i).1 (subst (IsMarked keep) (once j i v at' at) m)) in (
      λ v. (
        λ h.
            (let (i, at, m) = only v (subst (λ (vs : List Vertex). Contains vs v) same h) in
            (contains_at g.vertices i v at, (i, at, m))),
        λ (h, (i, at, m)).
            (let (j, number) = some_of (number_at ns i) ((marked i).1 m) in
            let (x, here, there) = are_placed i j number in
            let is_v : Some x ≡ Some v = sym here ∙ at in
            subst (λ (vs : List Vertex). Contains vs v) (sym same) (contains_at placed.vertices j v (there ∙ is_v))),
      ),
      λ e. (
        λ h. elim ((moved_in e).0 h) [
          | inl was ↦ absurd (no_link empty none was.0 was.1 (grown.only was.0 was.1 was.2))
          | inr now ↦ (moved_edges g ns (IsMarkedVertex g keep) numbers e).0 now
        ],
        λ h. (moved_in e).1 (inr ((moved_edges g ns (IsMarkedVertex g keep) numbers e).1 h)),
      ),
    )

third_all : (e : Kind) → OnThird (λ v. Unit {0}) e
third_all (kind.Control label) = tt
third_all (kind.Independent x) = tt
third_all (kind.Carried x w) = tt
third_all (kind.Order u) = tt

pub united_same : (a b : Numbered) (ns : List (Option ℕ)) (placed whole : Numbered) → ArePlaced b.vertices ns placed.vertices → ((i : ℕ) → i < length b.vertices → HasNumber ns i) → IsGrown a placed → ((e : Edge) → HasEdge placed e ↔ HasEdge a e)
    → ((v : Vertex) → HasVertex placed v → HasVertex a v ⊎ HasVertex b v) → whole.vertices ≡ placed.vertices → ((e : Edge) → HasEdge whole e ↔ (HasEdge placed e ⊎ MovesEdge b ns e))
    → Same (graph_in whole) (union_of (graph_in a) (graph_in b))
united_same a b ns placed whole are_placed all grown begun only same moved_in =
    let P : Vertex → Type 0 = λ v. Unit {0} in
    let numbers : (i : ℕ) (v : Vertex) → slice_get b.vertices i ≡ Some v → HasNumber ns i ↔ Unit {0} =
    λ i v at. (λ h. tt, λ t. all i (slice_get_within b.vertices i v at)) in (
      λ v. (
        λ h. only v (subst (λ (vs : List Vertex). Contains vs v) same h),
        λ h. subst (λ (vs : List Vertex). Contains vs v) (sym same) (elim h [
          | inl in_a ↦ (let (i, at) = place_of a.vertices v in_a in contains_at placed.vertices i v (grown.vertices i v at))
          | inr in_b ↦
              (let (i, at) = place_of b.vertices v in_b in
              let (j, number) = some_of (number_at ns i) (all i (slice_get_within b.vertices i v at)) in
              let (x, here, there) = are_placed i j number in
              let is_v : Some x ≡ Some v = sym here ∙ at in
              contains_at placed.vertices j v (there ∙ is_v))
        ]),
      ),
      λ e. (
        λ h. elim ((moved_in e).0 h) [ inl was ↦ inl ((begun e).0 was) | inr now ↦ inr ((moved_edges b ns P numbers e).0 now).0 ],
        λ h. elim h [
          | inl in_a ↦ (moved_in e).1 (inl ((begun e).1 in_a))
          | inr in_b ↦ (moved_in e).1 (inr ((moved_edges b ns P numbers e).1 (in_b, (tt, tt, third_all e.kind))))
        ],
      ),
    )
