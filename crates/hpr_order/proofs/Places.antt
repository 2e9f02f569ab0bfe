-- Which vertices have a place in the tree of control edges.
use Rattle.std.proofs.Common.{◌≡◌, ◌≢◌, ℕ, ◌+◌, ◌<◌, ◌≤◌, ◌↔◌, ◌⊎◌, inl, inr, Bor, Bool, Option, Some, None, IsNone, IsTrue, IfSome, List, length, take, Contains, slice_get, refl, sym, ap, ◌∙◌, subst}
use Rattle.std.specs.Option.{option_copied}
use Rattle.std.proofs.lemmas.List.{take_all}
use Rattle.hpr_search.specs.Marks.{IsMarked}
use Rattle.hpr_terms.specs.declared.tag.Tag.{Tag}
use Rattle.hpr_graph.specs.declared.vertex.Vertex.{Vertex}
use Rattle.hpr_graph.specs.declared.vertex.Vertex.TheVariants.{Entry}
use Rattle.hpr_graph.specs.declared.link.Link.{Link}
use Rattle.hpr_graph.specs.Numbered.{Numbered, IsNumbered, graph_in, row_of, row_items}
use Rattle.hpr_graph.specs.Graphs.{IsOnce}
use Rattle.hpr_graph.specs.Order.{tag_cmp, vertex_cmp}
use Rattle.hpr_order.specs.Regions.{Allows, Controls, HasOneControl, IsUnderEntry, IsPossible, AllPossible, IsImpossible, HasTwoContents, IsRegionAt, control_link}
use Rattle.hpr_order.specs.Controls.{IsOnlyControl, AreReached}
use Rattle.hpr_order.specs.Least.{HasTwoIn, IsLeastIn, lesser}
use Rattle.hpr_graph.proofs.Lists.{some_inj, contains_at}
use Rattle.hpr_graph.proofs.VertexOrder.{vertex_total}
use Rattle.hpr_order.proofs.Lists.{taken_at}
use Rattle.hpr_order.proofs.Leasts.{least_same, lesser_least}
use Rattle.hpr_order.proofs.Rows.{from_within}
use Rattle.hpr_order.proofs.Downs.{control_edge, control_back}

module _ (g : Numbered) (k : IsNumbered g) (at : ℕ) (v : Vertex) (is_v : slice_get g.vertices at ≡ Some v) where
  -- the one control edge
  one_from : (from : ℕ) (label : Bool) (u : Vertex) → slice_get g.vertices from ≡ Some u → IsOnlyControl (row_of g at) from label
      → (other : Vertex) (mark : Bool) → Controls (graph_in g) other mark v → (other ≡ u) × (mark ≡ label)
  one_from from label u is_u (there, only) other mark h =
      let (n, is_n, has) = control_back g k other v mark h at is_v in
      let (same, marked) = only n mark has in
      (some_inj other u (sym is_n ∙ ap (slice_get g.vertices) same ∙ is_u), marked)

  pub possible_from : (from : ℕ) (label : Bool) (u : Vertex) → slice_get g.vertices from ≡ Some u → IsOnlyControl (row_of g at) from label → Allows u label v → IsUnderEntry (graph_in g) v → IsPossible (graph_in g) v
  possible_from from label u is_u only allowed under = record {
    one = (u, label, control_edge g k from at label u v is_u is_v only.0, one_from from label u is_u only);
    allowed = λ other mark h.
        (let (same, marked) = one_from from label u is_u only other mark h in
        subst (λ (w : Vertex). Allows w mark v) (sym same) (subst (λ (b : Bool). Allows u b v) (sym marked) allowed));
    reached = under;
  }

  only_from : HasOneControl (graph_in g) v → (from : ℕ) × (label : Bool) × IsOnlyControl (row_of g at) from label
  only_from (u, label, edge, one) =
      let (from, is_u, has) = control_back g k u v label edge at is_v in (
        from,
        label,
        (
          has,
          λ n mark h.
              (let (e, is) = k.links at (control_link n mark) h in
              let (same, marked) = one e.from mark (control_edge g k n at mark e.from v is.1 is_v h) in
              (k.once n from u (is.1 ∙ ap Some same) is_u, marked)),
        ),
      )

  pub possible_is : (from : ℕ) (label : Bool) (u : Vertex) (marks : List Bool) (row : List Link) → row ≡ row_of g at → slice_get g.vertices from ≡ Some u → IsOnlyControl row from label → AreReached g marks
      → IsPossible (graph_in g) v ↔ (IsMarked marks at × Allows u label v)
  possible_is from label u marks row same is_u only reached = (
    λ p. ((reached.exact at v is_v).1 p.reached, p.allowed u label (control_edge g k from at label u v is_u is_v (here only).0)),
    λ (m, a). (possible_from from label u is_u (here only) a ((reached.exact at v is_v).0 m)),
  )
    where
      here : IsOnlyControl row from label → IsOnlyControl (row_of g at) from label
      here h = subst (λ (r : List Link). IsOnlyControl r from label) same h

  pub not_possible : (row : List Link) → row ≡ row_of g at → ((from : ℕ) (label : Bool) → ¬ IsOnlyControl row from label) → ¬ IsPossible (graph_in g) v
  not_possible row same none p =
      let (from, label, only) = only_from p.one in
      none from label (subst (λ (r : List Link). IsOnlyControl r from label) (sym same) only)

  -- where the vertex stands
  pub region_is : (r : Option (ℕ × Bool)) (row : List Link) → row ≡ row_of g at → IfSome r (λ p. IsOnlyControl row p.0 p.1) → (IsNone r → (from : ℕ) (label : Bool) → ¬ IsOnlyControl row from label)
      → AllPossible (graph_in g) → v ≢ Entry → IsRegionAt g at v r
  region_is None row same found none all ne = absurd (not_possible row same (none refl) (all v (contains_at g.vertices at v is_v) ne))
  region_is (Some (from, label)) row same found none all ne = (ne, subst (λ (r : List Link). Contains r (control_link from label)) same found.0)

-- the least of the first vertices
module _ (Q : Vertex → Type 0) (vs : List Vertex) where
  abbrev pub QIn : ℕ → Vertex → Type 0
  QIn i v = Q v × Contains (take i vs) v

  pub least_with : (i : ℕ) (w : Vertex) (o : Option Vertex) → slice_get vs i ≡ Some w → Q w → IsLeastIn vertex_cmp (QIn i) o → IsLeastIn vertex_cmp (QIn (i + 1)) (Some (lesser vertex_cmp o w))
  least_with i w o at q h =
      least_same vertex_cmp (λ v. QIn i v ⊎ (v ≡ w)) (QIn (i + 1))
      (λ v. (
        λ x. elim x [
          | inl was ↦ (was.0, (taken_at vs i w v at).1 (inl was.1))
          | inr e ↦ (subst Q (sym e) q, (taken_at vs i w v at).1 (inr (sym e)))
        ],
        λ (q', there). elim ((taken_at vs i w v at).0 there) [ inl was ↦ inl (q', was) | inr e ↦ inr (sym e) ],
      ))
      (Some (lesser vertex_cmp o w)) (lesser_least vertex_cmp vertex_total (QIn i) o w h)

  pub least_without : (i : ℕ) (w : Vertex) (o : Option Vertex) → slice_get vs i ≡ Some w → ¬ Q w → IsLeastIn vertex_cmp (QIn i) o → IsLeastIn vertex_cmp (QIn (i + 1)) o
  least_without i w o at not h =
      least_same vertex_cmp (QIn i) (QIn (i + 1))
      (λ v. (
        λ was. (was.0, (taken_at vs i w v at).1 (inl was.1)),
        λ (q, there). elim ((taken_at vs i w v at).0 there) [ inl was ↦ (q, was) | inr e ↦ absurd (not (subst Q (sym e) q)) ],
      ))
      o h

-- the least impossible vertex of the first
abbrev pub IsClear : Numbered → ℕ → Type 0
IsClear g i = (v : Vertex) → Contains (take i g.vertices) v → v ≢ Entry → IsPossible (graph_in g) v

pub record IsLeastTo (g : Numbered) (i : ℕ) (o : Option Vertex) : Type 0 where
  pub least : IsLeastIn vertex_cmp (QIn (IsImpossible (graph_in g)) g.vertices i) o
  pub clear : IsNone o → IsClear g i

module _ (g : Numbered) (i : ℕ) (w : Vertex) (at : slice_get g.vertices i ≡ Some w) (o : Option Vertex) (h : IsLeastTo g i o) where
  pub least_more : IsImpossible (graph_in g) w → (o' : Option Vertex) → o' ≡ Some (lesser vertex_cmp o w) → IsLeastTo g (i + 1) o'
  least_more q o' is = subst (λ (x : Option Vertex). IsLeastTo g (i + 1) x) (sym is) (record {
    least = least_with (IsImpossible (graph_in g)) g.vertices i w o at q h.least;
    clear = λ none. absurd cc;
  })

  pub least_kept : (w ≢ Entry → IsPossible (graph_in g) w) → IsLeastTo g (i + 1) o
  least_kept p = record {
    least = least_without (IsImpossible (graph_in g)) g.vertices i w o at (λ (there, ne, not). (not (p ne))) h.least;
    clear = λ none v there ne. elim ((taken_at g.vertices i w v at).0 there) [
      | inl was ↦ h.clear none v was ne
      | inr e ↦ subst (λ (u : Vertex). IsPossible (graph_in g) u) e (p (λ x. ne (sym e ∙ x)))
    ];
  }

module _ (g : Numbered) (i : ℕ) (o : Option Vertex) (l : length g.vertices ≤ i) (h : IsLeastTo g i o) where
  all_taken : take i g.vertices ≡ g.vertices
  all_taken = take_all i g.vertices l

  pub least_whole : IsLeastIn vertex_cmp (IsImpossible (graph_in g)) o
  least_whole =
      least_same vertex_cmp (QIn (IsImpossible (graph_in g)) g.vertices i) (IsImpossible (graph_in g))
      (λ v. (λ x. x.0, λ q. (q, subst (λ (vs : List Vertex). Contains vs v) (sym all_taken) q.0))) o h.least

  pub clear_whole : IsNone o → AllPossible (graph_in g)
  clear_whole none v there ne = h.clear none v (subst (λ (vs : List Vertex). Contains vs v) (sym all_taken) there) ne

-- the row of a vertex
pub row_is : (g : Numbered) (at : ℕ) (row : List Link) → slice_get g.links at ≡ Some row → row ≡ row_of g at
row_is g at row e = sym (ap row_items e)

pub row_once : (g : Numbered) → IsNumbered g → (at : ℕ) (row : List Link) → slice_get g.links at ≡ Some row → IsOnce row
row_once g k at row e = subst (λ (r : List Link). IsOnce r) (sym (row_is g at row e)) (k.links_once at)

pub only_within : (g : Numbered) → IsNumbered g → (at : ℕ) (row : List Link) → slice_get g.links at ≡ Some row → (from : ℕ) (label : Bool) → IsOnlyControl row from label → from < length g.vertices
only_within g k at row e from label only =
    from_within g at (control_link from label) (k.links at (control_link from label) (subst (λ (r : List Link). Contains r (control_link from label)) (row_is g at row e) only.0))

-- what two tests say
pub possible_by : (P : Type 0) (M A : Type 0) (b : Bool) → P ↔ (M × A) → M → (IsTrue b ↔ A) → IsTrue b ↔ P
possible_by P M A b p m a = (λ t. p.1 (m, a.0 t), λ h. a.1 (p.0 h).1)

pub two_least : (g : Numbered) (vs : List Vertex) (o o' : Option Tag) → vs ≡ g.vertices → o ≡ o' → IsLeastIn tag_cmp (HasTwoIn vs) o → IsLeastIn tag_cmp (HasTwoContents (graph_in g)) o'
two_least g vs o o' e is h =
    subst (λ (x : Option Tag). IsLeastIn tag_cmp (HasTwoContents (graph_in g)) x) is (subst (λ (us : List Vertex). IsLeastIn tag_cmp (HasTwoIn us) o) e h)

pub copied_none : (o : Option (Bor Vertex)) → IsNone o → IsNone (option_copied o)
copied_none None h = refl
copied_none (Some x) h = absurd cc
