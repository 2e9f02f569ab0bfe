-- Which item reads what another defines, by rows of the links into each.
use Rattle.std.proofs.Common.{◌≡◌, ℕ, ◌+◌, ◌<◌, ◌≤◌, ◌⊎◌, ◌↔◌, inl, inr, Option, Some, List, length, get_or, take, Contains, slice_get, refl, sym, ap, ◌∙◌, subst, arith}
use Rattle.std.proofs.lemmas.Bool.{cases_eq}
use Rattle.std.proofs.lemmas.List.{take_all}
use Rattle.std.proofs.lemmas.Option.{slice_get_within, slice_get-get_or}
use Rattle.hpr_terms.specs.declared.tag.Tag.{Tag}
use Rattle.hpr_terms.proofs.Facts.{some_inj}
use Rattle.hpr_syntax.specs.declared.rows.Content.{Content}
use Rattle.hpr_graph.specs.declared.vertex.Vertex.{Vertex}
use Rattle.hpr_graph.specs.declared.vertex.Vertex.TheVariants.{Part}
use Rattle.hpr_graph.specs.declared.edge.Kind.TheVariants as kind
use Rattle.hpr_graph.specs.declared.link.LinkKind.{LinkKind}
use Rattle.hpr_graph.specs.declared.link.LinkKind.TheVariants.{Control, Independent, Carried, Order}
use Rattle.hpr_graph.specs.declared.link.Link.{Link}
use Rattle.hpr_graph.specs.Graphs.{name_of}
use Rattle.hpr_graph.specs.Moves.{number_at}
use Rattle.hpr_graph.specs.Numbered.{Numbered, HasLink, IsKindAt, IsNumbered, graph_in, row_of}
use Rattle.hpr_search.specs.Rows.{IsPushed, numbers_at}
use Rattle.hpr_order.specs.Numbers.{ArePartsOf, ArePlaces, IsPartAt}
use Rattle.hpr_order.proofs.Steps.{take_step}
use Rattle.hpr_region.specs.Making.{IsReadFrom}
use Rattle.hpr_region.specs.Tables.{AreReaders, IsReadBy}

-- the rows, after some of the links into an item
abbrev pub AreRead : (ℕ → ℕ → Type 0) → ℕ → List (Option ℕ) → List Link → List (List ℕ) → Type 0
AreRead Old item places links rows = (a b : ℕ) → Contains (numbers_at rows a) b ↔ (Old a b ⊎ ((b ≡ item) × IsReadFrom places links a))

module _ (Old : ℕ → ℕ → Type 0) (item : ℕ) (places : List (Option ℕ)) (links : List Link) (index : ℕ) (d : Link) (here : slice_get links index ≡ Some d) where
  old_read : (a : ℕ) → IsReadFrom places (take index links) a → IsReadFrom places (take (index + 1) links) a
  old_read a (l, h, k, p) = (l, (take_step links index d l here).1 (inl h), k, p)

  read_cases : (a : ℕ) → IsReadFrom places (take (index + 1) links) a → IsReadFrom places (take index links) a ⊎ ((d.kind ≡ Independent) × (number_at places d.from ≡ Some a))
  read_cases a (l, h, k, p) = elim ((take_step links index d l here).0 h) [
    | inl old ↦ inl (l, old, k, p)
    | inr same ↦ inr (ap (λ (z : Link). z.kind) same ∙ k, ap (λ (z : Link). number_at places z.from) same ∙ p)
  ]

  pub read_skip : (rows : List (List ℕ)) → ((a : ℕ) → d.kind ≡ Independent → number_at places d.from ≡ Some a → ⊥) → AreRead Old item places (take index links) rows
      → AreRead Old item places (take (index + 1) links) rows
  read_skip rows out all a b = (
    (λ h. elim ((all a b).0 h) [ inl old ↦ inl old | inr (is, r) ↦ inr (is, old_read a r) ]),
    (λ h. (all a b).1 (elim h [
      | inl old ↦ inl old
      | inr (is, r) ↦ elim (read_cases a r) [ inl s ↦ inr (is, s) | inr (k, p) ↦ absurd (out a k p) ]
    ])),
  )

  pub read_push : (rows new : List (List ℕ)) (source : ℕ) → d.kind ≡ Independent → number_at places d.from ≡ Some source → IsPushed rows source item new
      → AreRead Old item places (take index links) rows → AreRead Old item places (take (index + 1) links) new
  read_push rows new source k p pushed all a b = (
    (λ h. elim ((pushed a b).0 h) [
      | inl old ↦ elim ((all a b).0 old) [ inl o ↦ inl o | inr (is, r) ↦ inr (is, old_read a r) ]
      | inr (is_a, is_b) ↦ inr (is_b, (d, (take_step links index d d here).1 (inr refl), k, p ∙ ap Some (sym is_a)))
    ]),
    (λ h. (pushed a b).1 (elim h [
      | inl old ↦ inl ((all a b).1 (inl old))
      | inr (is, r) ↦ elim (read_cases a r) [
        | inl s ↦ inl ((all a b).1 (inr (is, s)))
        | inr (_, q) ↦ inr (some_inj a source (sym q ∙ p), is)
      ]
    ])),
  )

-- the same, of the link at a place
module _ (Old : ℕ → ℕ → Type 0) (item : ℕ) (places : List (Option ℕ)) (links : List Link) (index : ℕ) (d : Link) (within : index < length links) where
  pub skip_at : (rows : List (List ℕ)) → ((a : ℕ) → (get_or links index d).kind ≡ Independent → number_at places (get_or links index d).from ≡ Some a → ⊥) → AreRead Old item places (take index links) rows
      → AreRead Old item places (take (index + 1) links) rows
  skip_at rows out all = read_skip Old item places links index (get_or links index d) (slice_get-get_or links index d within) rows out all

  pub push_at : (rows new : List (List ℕ)) (source : ℕ) → (get_or links index d).kind ≡ Independent → number_at places (get_or links index d).from ≡ Some source → IsPushed rows source item new
      → AreRead Old item places (take index links) rows → AreRead Old item places (take (index + 1) links) new
  push_at rows new source k p pushed all = read_push Old item places links index (get_or links index d) (slice_get-get_or links index d within) rows new source k p pushed all

pub read_whole : (Old : ℕ → ℕ → Type 0) (item : ℕ) (places : List (Option ℕ)) (links : List Link) (index : ℕ) (rows : List (List ℕ)) → length links ≤ index
    → AreRead Old item places (take index links) rows → AreRead Old item places links rows
read_whole Old item places links index rows end all = subst (λ z. AreRead Old item places z rows) (take_all index links end) all

-- the rows, after the links into some of the items
abbrev pub AreReadBelow : (ℕ → ℕ → Type 0) → List ℕ → ℕ → List (List ℕ) → Type 0
AreReadBelow Q numbers item rows = (a b : ℕ) → Contains (numbers_at rows a) b ↔ ((b < item) × ((n : ℕ) × (slice_get numbers b ≡ Some n) × Q n a))

pub below_more : (Q : ℕ → ℕ → Type 0) (numbers : List ℕ) (item n : ℕ) (rows new : List (List ℕ)) → slice_get numbers item ≡ Some n → AreReadBelow Q numbers item rows
    → ((a b : ℕ) → Contains (numbers_at new a) b ↔ (Contains (numbers_at rows a) b ⊎ ((b ≡ item) × Q n a))) → AreReadBelow Q numbers (item + 1) new
below_more Q numbers item n rows new here all more a b = (
  (λ h. elim ((more a b).0 h) [
    | inl old ↦ (let (lt, (m, e, q)) = (all a b).0 old in (omega (arith, lt), (m, e, q)))
    | inr (is, q) ↦ (omega (arith, is), (n, subst (λ z. slice_get numbers z ≡ Some n) (sym is) here, q))
  ]),
  (λ (lt, (m, e, q)). (more a b).1 (elim (cases_eq b item) [
    | inl same ↦ inr (same, subst (λ z. Q z a) (some_inj m n (sym e ∙ subst (λ z. slice_get numbers z ≡ Some n) (sym same) here)) q)
    | inr other ↦ inl ((all a b).1 (omega (arith, lt), (m, e, q)))
  ])),
)

-- what a link of this kind is
named_by : (vs : List Vertex) (k : LinkKind) (from : Vertex) (x : List ℕ) → IsKindAt vs k from (kind.Independent x) → k ≡ Independent
named_by vs (Control label) from x e = absurd (let h : kind.Independent x ≡ kind.Control label = e in cc)
named_by vs Independent from x e = refl
named_by vs (Carried w) from x (y, v, name, there, e) = absurd (let h : kind.Independent x ≡ kind.Carried y v = e in cc)
named_by vs (Order u) from x (v, there, e) = absurd (let h : kind.Independent x ≡ kind.Order v = e in cc)

module _ (g : Numbered) (numbered : IsNumbered g) (numbers : List ℕ) (parts : ArePartsOf g numbers) (places : List (Option ℕ)) (placed : ArePlaces numbers places) where
  edge_of : (n m : ℕ) (s t : Tag) (c d : Content) (l : Link) → IsPartAt g n t d → IsPartAt g m s c → HasLink g n l → l.kind ≡ Independent → l.from ≡ m → IsReadBy (graph_in g) (Part s c) (Part t d)
  edge_of n m s t c d l target source h is from =
      let (e, (et, es, ek)) = numbered.links n l h in
      let there : slice_get g.vertices l.from ≡ Some (Part s c) = subst (λ z. slice_get g.vertices z ≡ Some (Part s c)) (sym from) source in
      let same : e.from ≡ Part s c = some_inj e.from (Part s c) (sym es ∙ there) in
      let (x, name, k) = subst (λ z. IsKindAt g.vertices z e.from e.kind) is ek in
      let name' : name_of (Part s c) ≡ Some x = ap name_of (sym same) ∙ name in
      (x, (n, l, h, (target, there, subst (λ z. IsKindAt g.vertices z (Part s c) (kind.Independent x)) (sym is) (x, name', refl))))

  pub read_exact : (rows : List (List ℕ)) (item : ℕ) → length numbers ≤ item → AreReadBelow (λ n a. IsReadFrom places (row_of g n) a) numbers item rows → AreReaders g numbers rows
  read_exact rows item end all a b s t c d (m, em, source) (n, en, target) = (to, from)
    where
      to : Contains (numbers_at rows a) b → IsReadBy (graph_in g) (Part s c) (Part t d)
      to h =
          let (_, (n', en', (l, has, is, p))) = (all a b).0 h in
          let same : n' ≡ n = some_inj n' n (sym en' ∙ en) in
          let at_a : slice_get numbers a ≡ Some l.from = (placed l.from a).0 p in
          edge_of n m s t c d l target source (subst (λ z. HasLink g z l) same has) is (some_inj l.from m (sym at_a ∙ em))

      from : IsReadBy (graph_in g) (Part s c) (Part t d) → Contains (numbers_at rows a) b
      from (x, (to_, l, h, (et, es, ek))) =
          let is_n : to_ ≡ n = numbered.once to_ n (Part t d) et target in
          let is_m : l.from ≡ m = numbered.once l.from m (Part s c) es source in
          let lt = slice_get_within numbers b n en in
          (all a b).1 (
            omega (arith, lt, end),
            (
              n,
              en,
              (
                l,
                subst (λ z. HasLink g z l) is_n h,
                named_by g.vertices l.kind (Part s c) x ek,
                (placed l.from a).1 (subst (λ z. slice_get numbers a ≡ Some z) (sym is_m) em),
              ),
            ),
          )

  pub read_within : (rows : List (List ℕ)) (item : ℕ) → AreReadBelow (λ n a. IsReadFrom places (row_of g n) a) numbers item rows → (k u : ℕ) → Contains (numbers_at rows k) u → u < length numbers
  read_within rows item all k u h = let (_, (n, en, _)) = (all k u).0 h in slice_get_within numbers u n en
