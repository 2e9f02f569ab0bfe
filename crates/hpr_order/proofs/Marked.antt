-- Numbers and their places, levels, and the order that the edges of a graph ask of items.
use Rattle.std.proofs.Common.{◌≡◌, ℕ, ◌+◌, ◌-◌, ◌<◌, ◌≤◌, ◌⊎◌, ◌↔◌, inl, inr, Option, Some, None, List, [], ◌∷◌, ◌++◌, length, set, take, get_or, Contains, slice_get, refl, sym, ap, ◌∙◌, subst, arith}
use Rattle.std.proofs.lemmas.Bool.{cases_eq}
use Rattle.std.proofs.lemmas.List.{get_or-set_same, get_or-set_other, take_more}
use Rattle.std.proofs.lemmas.List.Elements.{Contains-append_left, Contains-append_right, Contains-append_cases}
use Rattle.std.proofs.lemmas.Option.{slice_get_within, slice_get-get_or, get_or_from_slice_get}
use Rattle.hpr_terms.specs.declared.limits.TheConstants.{MAX_LEVELS}
use Rattle.hpr_terms.specs.declared.tag.Tag.{Tag}
use Rattle.hpr_terms.proofs.Facts.{some_inj, get_below}
use Rattle.hpr_syntax.specs.declared.rows.Content.{Content}
use Rattle.hpr_graph.specs.declared.vertex.Vertex.{Vertex}
use Rattle.hpr_graph.specs.declared.vertex.Vertex.TheVariants.{Part}
use Rattle.hpr_graph.specs.declared.edge.Kind.{Kind}
use Rattle.hpr_graph.specs.declared.link.LinkKind.{LinkKind}
use Rattle.hpr_graph.specs.declared.link.LinkKind.TheVariants.{Control, Independent, Carried, Order}
use Rattle.hpr_graph.specs.declared.link.Link.{Link}
use Rattle.hpr_graph.specs.Arrangements.{Directs}
use Rattle.hpr_graph.specs.Graphs.{IsOnce}
use Rattle.hpr_graph.specs.Moves.{number_at}
use Rattle.hpr_graph.specs.Numbered.{Numbered, IsKindAt, IsNumbered, graph_in, row_of}
use Rattle.hpr_forest.proofs.Unique.{in_none, in_cons, in_first}
use Rattle.hpr_forest.specs.Trees.{Slot, above}
use Rattle.hpr_order.specs.declared.item.Item.{Item}
use Rattle.hpr_order.specs.Items.{IsItem, slot_at}
use Rattle.hpr_order.specs.Lifting.{AreLevels, LevelUnder, level_of, parent_in}
use Rattle.hpr_order.specs.Limits.{level_in, one_more}
use Rattle.hpr_order.specs.Numbers.{ArePartsOf, ArePlaces, AreItemsAt, AreAsked, IsAskedBy, IsPartAt, DirectsBy}
use Rattle.hpr_order.proofs.Sound.{below_of}
use Rattle.hpr_order.proofs.ListFacts.{one_get}
use Rattle.hpr_order.proofs.Shapes.{far_level, level_far}

-- a place more
abbrev pub ArePlacesTo : ℕ → List ℕ → List (Option ℕ) → Type 0
ArePlacesTo place numbers places = (n k : ℕ) → (number_at places n ≡ Some k) ↔ ((k < place) × (slice_get numbers k ≡ Some n))

pub place_more : (numbers : List ℕ) (places : List (Option ℕ)) (place n : ℕ) → IsOnce numbers → slice_get numbers place ≡ Some n → n < length places
    → ArePlacesTo place numbers places → ArePlacesTo (place + 1) numbers (set places n (Some place))
place_more numbers places place n once here within are m k = elim (cases_eq m n) [
  | inl same ↦ (
      let now : number_at (set places n (Some place)) m ≡ Some place = ap (number_at (set places n (Some place))) same ∙ get_or-set_same places n (Some place) None within in (
        (λ e. (let is_k : place ≡ k = some_inj place k (sym now ∙ e) in (omega arith, subst (λ z. slice_get numbers z ≡ Some m) is_k (here ∙ ap Some (sym same))))),
        (λ (lt, e). (let is_k : place ≡ k = once place k n here (e ∙ ap Some same) in now ∙ ap Some is_k)),
      ))
  | inr other ↦ (
      let then' : number_at (set places n (Some place)) m ≡ number_at places m = get_or-set_other places n m (Some place) None other in (
        (λ e. (let (lt, f) = (are m k).0 (sym then' ∙ e) in (omega (arith, lt), f))),
        (λ (lt, e). elim (cases_eq k place) [
          | inl last ↦ absurd (other (one_get numbers place m n (subst (λ z. slice_get numbers z ≡ Some m) last e) here))
          | inr less ↦ then' ∙ (are m k).1 (omega (arith, lt), e)
        ]),
      ))
]

pub places_all : (numbers : List ℕ) (places : List (Option ℕ)) (place : ℕ) → length numbers ≤ place → ArePlacesTo place numbers places → ArePlaces numbers places
places_all numbers places place end are n k = (
  (λ e. ((are n k).0 e).1),
  (λ e. (are n k).1 ((let lt = slice_get_within numbers k n e in omega (arith, lt)), e)),
)

-- the levels that are found are those of the items
pub levels_are : (items : List Item) (levels : List ℕ) → length levels ≡ length items
    → ((k : ℕ) → k < length items → level_in (slot_at items) (MAX_LEVELS - 1) (slot_at items k) ≡ Some (level_of levels k)) → ((k p : ℕ) → k < length items → parent_in items k ≡ Some p → p < length items)
    → AreLevels items levels
levels_are items levels len all within = record {
  count = len;
  under = λ k lt. at k (slot_at items k) refl (all k lt) (within k) lt;
}
  where
    at : (k : ℕ) (v : Slot) → slot_at items k ≡ v → level_in (slot_at items) (MAX_LEVELS - 1) (slot_at items k) ≡ Some (level_of levels k) → ((p : ℕ) → k < length items → parent_in items k ≡ Some p → p < length items)
        → k < length items → LevelUnder levels (level_of levels k) (parent_in items k)
    at k None is e inside lt =
        let none : parent_in items k ≡ None = ap above is in
        let far = (level_far (slot_at items) (MAX_LEVELS - 1) (level_of levels k) (slot_at items k) e).0 in
        subst (LevelUnder levels (level_of levels k)) (sym none) (let e' : level_in (slot_at items) (MAX_LEVELS - 1) None ≡ Some (level_of levels k) = subst (λ z. level_in (slot_at items) (MAX_LEVELS - 1) z ≡ Some (level_of levels k)) is e in
        sym (some_inj 0 (level_of levels k) e'))
    at k (Some (p, b)) is e inside lt =
        let some : parent_in items k ≡ Some p = ap above is in
        let e' : level_in (slot_at items) (MAX_LEVELS - 1) (Some (p, b)) ≡ Some (level_of levels k) = subst (λ z. level_in (slot_at items) (MAX_LEVELS - 1) z ≡ Some (level_of levels k)) is e in
        subst (LevelUnder levels (level_of levels k)) (sym some) (one_level p (level_in (slot_at items) (MAX_LEVELS - 2) (slot_at items p)) refl (all p (inside p lt some)) e')
      where
        one_level : (p : ℕ) (o : Option ℕ) → level_in (slot_at items) (MAX_LEVELS - 2) (slot_at items p) ≡ o → level_in (slot_at items) (MAX_LEVELS - 1) (slot_at items p) ≡ Some (level_of levels p)
            → one_more (level_in (slot_at items) (MAX_LEVELS - 2) (slot_at items p)) ≡ Some (level_of levels k) → level_of levels k ≡ level_of levels p + 1
        one_level p None was its e = absurd (let f : one_more None ≡ Some (level_of levels k) = subst (λ z. one_more z ≡ Some (level_of levels k)) was e in let g : None ≡ Some (level_of levels k) = f in absurd cc)
        one_level p (Some m) was its e =
            let f : Some (m + 1) ≡ Some (level_of levels k) = subst (λ z. one_more z ≡ Some (level_of levels k)) was e in
            let (far, le) = level_far (slot_at items) (MAX_LEVELS - 2) m (slot_at items p) was in
            let same : m ≡ level_of levels p = some_inj m (level_of levels p) (sym (far_level (slot_at items) (MAX_LEVELS - 1) m (slot_at items p) far (omega arith)) ∙ its) in
            let g : m + 1 ≡ level_of levels k = some_inj (m + 1) (level_of levels k) f in
            omega arith

-- what the links into an item ask
directs_kind : (vs : List Vertex) (l : LinkKind) (from : Vertex) (k : Kind) → IsKindAt vs l from k → DirectsBy l → Directs k
directs_kind vs (Control label) from k is d = absurd d
directs_kind vs Independent from k (x, n, e) d = subst Directs (sym e) tt
directs_kind vs (Carried w) from k is d = absurd d
directs_kind vs (Order u) from k (v, g, e) d = subst Directs (sym e) tt

kind_directs : (vs : List Vertex) (l : LinkKind) (from : Vertex) (k : Kind) → IsKindAt vs l from k → Directs k → DirectsBy l
kind_directs vs (Control label) from k e d = subst Directs e d
kind_directs vs Independent from k is d = tt
kind_directs vs (Carried w) from k (x, v, n, g, e) d = subst Directs e d
kind_directs vs (Order u) from k is d = tt

module _ (g : Numbered) (num : IsNumbered g) (numbers : List ℕ) (parts : ArePartsOf g numbers) (places : List (Option ℕ)) (placed : ArePlaces numbers places)
    (items : List Item) (at : AreItemsAt g numbers items) where
  number_of : (k : ℕ) (t : Tag) (c : Content) → IsItem items k t c → (n : ℕ) × (slice_get numbers k ≡ Some n) × IsPartAt g n t c
  number_of k t c i =
      let (n, e) = get_below numbers k (let lt = below_of items k t c i in let len = at.count in omega arith) in
      (n, e, (at.parts k n t c e).0 i)

  pub asked_all : (pairs : List (ℕ × ℕ)) (place : ℕ) → length numbers ≤ place
      → ((s t : ℕ) → Contains pairs (s, t) ↔ ((t < place) × ((n : ℕ) × (slice_get numbers t ≡ Some n) × IsAskedBy places (row_of g n) s))) → AreAsked (graph_in g) items pairs
  asked_all pairs place end all s t = (
    (λ h.
        (let (_, (n, en, (l, has, dir, at_s))) = (all s t).0 h in
        let es : slice_get numbers s ≡ Some l.from = (placed l.from s).0 at_s in
        let (ts, cs, part_s) = parts.parts s l.from es in
        let (tt', ct, part_t) = parts.parts t n en in
        let (x, (to, from, k)) = num.links n l has in
        let same : x.from ≡ Part ts cs = one_get g.vertices l.from x.from (Part ts cs) from part_s in (
          x.kind,
          ts,
          tt',
          cs,
          ct,
          (at.parts s l.from ts cs es).1 part_s,
          (at.parts t n tt' ct en).1 part_t,
          (n, l, has, (part_t, part_s, subst (λ z. IsKindAt g.vertices l.kind z x.kind) same k)),
          directs_kind g.vertices l.kind x.from x.kind k dir,
        ))),
    (λ (k, ts, tt', cs, ct, is_s, is_t, (to, l, has, (at_to, at_from, kk)), dir).
        (let (n, en, part_t) = number_of t tt' ct is_t in
        let (m, em, part_s) = number_of s ts cs is_s in
        let same_t : to ≡ n = num.once to n (Part tt' ct) at_to part_t in
        let same_s : m ≡ l.from = num.once m l.from (Part ts cs) part_s at_from in
        let lt = slice_get_within numbers t n en in
        (all s t).1 (
          omega (arith, lt),
          (n, en, (l, subst (λ z. Contains (row_of g z) l) same_t has, kind_directs g.vertices l.kind (Part ts cs) k kk dir, (placed l.from s).1 (em ∙ ap Some same_s))),
        ))),
  )

-- one link more
pub asked_more : (links : List Link) (index : ℕ) (l : Link) (s : ℕ) (places : List (Option ℕ)) → slice_get links index ≡ Some l
    → IsAskedBy places (take (index + 1) links) s ↔ (IsAskedBy places (take index links) s ⊎ (DirectsBy l.kind × (number_at places l.from ≡ Some s)))
asked_more links index l s places e =
    let more : take (index + 1) links ≡ take index links ++ l ∷ [] = take_more links index l (slice_get_within links index l e) ∙ ap (λ z. take index links ++ z ∷ []) (get_or_from_slice_get links index l l e) in (
      (λ (m, h, d, a). elim (Contains-append_cases (take index links) (l ∷ []) m (subst (λ z. Contains z m) more h)) [
        | inl old ↦ inl (m, old, d, a)
        | inr new ↦ elim (in_cons l m [] new) [
          | inl same ↦ inr (subst (λ (z : Link). DirectsBy z.kind) (sym same) d, subst (λ (z : Link). number_at places z.from ≡ Some s) (sym same) a)
          | inr none ↦ absurd (in_none m none)
        ]
      ]),
      (λ h. elim h [
        | inl (m, old, d, a) ↦ (m, subst (λ z. Contains z m) (sym more) (Contains-append_left (take index links) (l ∷ []) m old), d, a)
        | inr (d, a) ↦ (l, subst (λ z. Contains z l) (sym more) (Contains-append_right (take index links) (l ∷ []) l (in_first l [])), d, a)
      ]),
    )

-- the number of a part is that of a vertex
pub part_within : (g : Numbered) (numbers : List ℕ) → ArePartsOf g numbers → (k d : ℕ) → k < length numbers → get_or numbers k d < length g.vertices
part_within g numbers parts k d l =
    let (t, c, at) = parts.parts k (get_or numbers k d) (slice_get-get_or numbers k d l) in
    slice_get_within g.vertices (get_or numbers k d) (Part t c) at
