-- Links put into another graph under its numbers: they are the same edges there.
use Rattle.std.proofs.Common.{◌≡◌, ◌≢◌, ℕ, ◌+◌, ◌<◌, ◌≤◌, ◌↔◌, ◌⊎◌, inl, inr, Option, Some, None, List, [], length, get_or, take, Contains, slice_get, refl, sym, ap, ◌∙◌, subst, arith}
use Rattle.std.specs.Option.{option_map, option_and_then}
use Rattle.std.proofs.lemmas.Bool.{cases_eq}
use Rattle.std.proofs.lemmas.List.{take_all}
use Rattle.std.proofs.lemmas.List.Elements.{Contains-get_or}
use Rattle.std.proofs.lemmas.Option.{slice_get_within}
use Rattle.hpr_graph.specs.declared.vertex.Vertex.{Vertex}
use Rattle.hpr_graph.specs.declared.edge.Kind.{Kind}
use Rattle.hpr_graph.specs.declared.edge.Edge.{Edge}
use Rattle.hpr_graph.specs.declared.link.LinkKind.{LinkKind}
use Rattle.hpr_graph.specs.declared.link.LinkKind.TheVariants.{Control, Independent, Carried, Order}
use Rattle.hpr_graph.specs.declared.link.Link.{Link}
use Rattle.hpr_graph.specs.Graphs.{IsOnce}
use Rattle.hpr_graph.specs.Numbered.{Numbered, IsKindAt, IsEdgeAt, HasLink, HasEdge, IsLink, IsNumbered, row_of, row_items}
use Rattle.hpr_graph.specs.Moves.{number_at, moved_kind, moved, ArePlaced, MovesLink, MovesEdge, MovesEdgeBelow, MovesEdgeIn, IsKeptElsewhere}
use Rattle.hpr_graph.proofs.Lists.{some_inj, some_of, is_some_at, in_none, in_taken, not_taken}
use Rattle.hpr_graph.proofs.EdgeList.{link_once, edge_link}
use Rattle.hpr_graph.proofs.Laws.{link_edges}

map_parts : (f : ℕ → LinkKind) (o : Option ℕ) (m : LinkKind) → option_map f o ≡ Some m → (j : ℕ) × (o ≡ Some j) × (f j ≡ m)
map_parts f None m e = absurd cc
map_parts f (Some j) m e = (j, refl, some_inj (f j) m e)

link_parts : (o : Option ℕ) (k : Option LinkKind) (m : Link) → option_and_then (λ from. option_map (λ kind. let l : Link = record { from = from; kind = kind } in l) k) o ≡ Some m → (o ≡ Some m.from) × (k ≡ Some m.kind)
link_parts None k m e = absurd cc
link_parts (Some j) None m e = absurd cc
link_parts (Some j) (Some k) m e =
    let l : Link = record { from = j; kind = k } in
    let same : l ≡ m = some_inj l m e in
    (ap (λ (x : Link). Some x.from) same, ap (λ (x : Link). Some x.kind) same)

pub moved_parts : (ns : List (Option ℕ)) (l m : Link) → moved ns l ≡ Some m → (number_at ns l.from ≡ Some m.from) × (moved_kind ns l.kind ≡ Some m.kind)
moved_parts ns l m e = link_parts (number_at ns l.from) (moved_kind ns l.kind) m e

module _ (vs us : List Vertex) (ns : List (Option ℕ)) (placed : ArePlaced vs ns us) where
  same_place : (i j : ℕ) → number_at ns i ≡ Some j → slice_get us j ≡ slice_get vs i
  same_place i j e = let (v, at, there) = placed i j e in there ∙ sym at

  kind_moved : (k m : LinkKind) (v : Vertex) (e : Kind) → moved_kind ns k ≡ Some m → IsKindAt vs k v e → IsKindAt us m v e
  kind_moved (Control label) m v e is h = subst (λ (x : LinkKind). IsKindAt us x v e) (some_inj (Control label) m is) h
  kind_moved Independent m v e is h = subst (λ (x : LinkKind). IsKindAt us x v e) (some_inj Independent m is) h
  kind_moved (Carried w) m v e is (x, t, d, at, same) =
      let (j, number, to_m) = map_parts Carried (number_at ns w) m is in
      subst (λ (y : LinkKind). IsKindAt us y v e) to_m (x, t, d, same_place w j number ∙ at, same)
  kind_moved (Order u) m v e is (t, at, same) =
      let (j, number, to_m) = map_parts Order (number_at ns u) m is in
      subst (λ (y : LinkKind). IsKindAt us y v e) to_m (t, same_place u j number ∙ at, same)

  kind_back : (k m : LinkKind) (v : Vertex) (e : Kind) → moved_kind ns k ≡ Some m → IsKindAt us m v e → IsKindAt vs k v e
  kind_back (Control label) m v e is h = subst (λ (x : LinkKind). IsKindAt us x v e) (sym (some_inj (Control label) m is)) h
  kind_back Independent m v e is h = subst (λ (x : LinkKind). IsKindAt us x v e) (sym (some_inj Independent m is)) h
  kind_back (Carried w) m v e is h =
      let (j, number, to_m) = map_parts Carried (number_at ns w) m is in
      let (x, t, d, at, same) = subst (λ (y : LinkKind). IsKindAt us y v e) (sym to_m) h in
      (x, t, d, sym (same_place w j number) ∙ at, same)
  kind_back (Order u) m v e is h =
      let (j, number, to_m) = map_parts Order (number_at ns u) m is in
      let (t, at, same) = subst (λ (y : LinkKind). IsKindAt us y v e) (sym to_m) h in
      (t, sym (same_place u j number) ∙ at, same)

  -- the link by the numbers there is the same edges
  pub moved_edge : (at to : ℕ) (l m : Link) (e : Edge) → number_at ns at ≡ Some to → moved ns l ≡ Some m → IsEdgeAt vs at l e ↔ IsEdgeAt us to m e
  moved_edge at to l m e number is =
      let (from, kind) = moved_parts ns l m is in (
        λ h. (same_place at to number ∙ h.0, same_place l.from m.from from ∙ h.1, kind_moved l.kind m.kind e.from e.kind kind h.2),
        λ h. (sym (same_place at to number) ∙ h.0, sym (same_place l.from m.from from) ∙ h.1, kind_back l.kind m.kind e.from e.kind kind h.2),
      )

-- after some links of a row were put there
pub record RowMoved (source old : Numbered) (ns : List (Option ℕ)) (at : ℕ) (row : List Link) (new : Numbered) : Type 0 where
  pub vertices : new.vertices ≡ old.vertices
  pub edges : (e : Edge) → HasEdge new e ↔ (HasEdge old e ⊎ MovesEdgeIn source ns at row e)

module _ (source old : Numbered) (ns : List (Option ℕ)) (placed : ArePlaced source.vertices ns old.vertices) (at to : ℕ) (number : number_at ns at ≡ Some to) where
  module _ (l m : Link) (is : moved ns l ≡ Some m) where
    edge_there : (e : Edge) → IsEdgeAt source.vertices at l e ↔ IsEdgeAt old.vertices to m e
    edge_there e = moved_edge source.vertices old.vertices ns placed at to l m e number is

    pub moved_link : IsLink source at l → IsLink old to m
    moved_link (e, h) = (e, (edge_there e).0 h)

    moves : (e : Edge) → IsEdgeAt source.vertices at l e → MovesLink source ns at l e
    moves e h = (is_some_at (number_at ns at) to number, is_some_at (moved ns l) m is, h)

    -- a link that is there adds nothing
    pub known_edges : HasLink old to m → (e : Edge) → HasEdge old e ↔ (HasEdge old e ⊎ MovesLink source ns at l e)
    known_edges has e =
        (λ h. inl h, λ h. elim h [ inl was ↦ was | inr (n, there, h') ↦ (to, m, has, (edge_there e).0 h') ])

    -- the edges after the link was added
    pub added_edges : (new : Numbered) → new.vertices ≡ old.vertices → HasLink new to m → ((i : ℕ) (x : Link) → HasLink old i x → HasLink new i x) → ((i : ℕ) (x : Link) → HasLink new i x → HasLink old i x ⊎ ((i ≡ to) × (x ≡ m)))
        → (e : Edge) → HasEdge new e ↔ (HasEdge old e ⊎ MovesLink source ns at l e)
    added_edges new same there kept only e =
        let step = link_edges old new to m same there kept only e in (
          λ h. elim (step.0 h) [ inl was ↦ inl was | inr now ↦ inr (moves e ((edge_there e).1 now)) ],
          λ h. elim h [ inl was ↦ step.1 (inl was) | inr (n, there', h') ↦ step.1 (inr ((edge_there e).0 h')) ],
        )

  pub row_begun : RowMoved source old ns at [] old
  row_begun = record { vertices = refl; edges = λ e. (λ h. inl h, λ h. elim h [ inl was ↦ was | inr (l, there, is) ↦ absurd (in_none l there) ]) }

  module _ (row : List Link) (i : ℕ) (d : Link) (within : i < length row) (new : Numbered) (so_far : RowMoved source old ns at (take i row) new) where
    abbrev l : Link
    l = get_or row i d

    -- one link more
    pub row_more : (next : Numbered) → next.vertices ≡ new.vertices → ((e : Edge) → HasEdge next e ↔ (HasEdge new e ⊎ MovesLink source ns at l e)) → RowMoved source old ns at (take (i + 1) row) next
    row_more next same step = record {
      vertices = same ∙ so_far.vertices;
      edges = λ e. (
        λ h. elim ((step e).0 h) [
          | inl a ↦ (elim ((so_far.edges e).0 a) [
            | inl was ↦ inl was
            | inr (x, there, moves_x) ↦ inr (x, (in_taken row i d x within).1 (inl there), moves_x)
          ])
          | inr now ↦ inr (l, (in_taken row i d l within).1 (inr refl), now)
        ],
        λ h. elim h [
          | inl was ↦ (step e).1 (inl ((so_far.edges e).1 (inl was)))
          | inr (x, there, moves_x) ↦ (elim ((in_taken row i d x within).0 there) [
            | inl before ↦ (step e).1 (inl ((so_far.edges e).1 (inr (x, before, moves_x))))
            | inr here ↦ (step e).1 (inr (subst (λ (y : Link). MovesLink source ns at y e) (sym here) moves_x))
          ])
        ],
      );
    }

    -- the link by its numbers there is there exactly where it was before the row
    pub row_fresh : IsOnce source.vertices → IsOnce old.vertices → IsOnce row → IsLink source at l → (m : Link) → moved ns l ≡ Some m → HasLink old to m ↔ HasLink new to m
    row_fresh once_source once_old once_row (e, is_l) m is =
        let there_old : IsEdgeAt old.vertices to m e = (moved_edge source.vertices old.vertices ns placed at to l m e number is).0 is_l in
        let there_new : IsEdgeAt new.vertices to m e = subst (λ (us : List Vertex). IsEdgeAt us to m e) (sym so_far.vertices) there_old in
        let once_new : IsOnce new.vertices = subst (λ (us : List Vertex). IsOnce us) (sym so_far.vertices) once_old in (
          λ was. edge_link new once_new to m e there_new ((so_far.edges e).1 (inl (to, m, was, there_old))),
          λ has. elim ((so_far.edges e).0 (to, m, has, there_new)) [
            | inl (to', m', was, is') ↦ edge_link old once_old to m e there_old (to', m', was, is')
            | inr (x, before, (n, mo, is_x)) ↦
                absurd (not_taken row i d once_row within (subst (λ (y : Link). Contains (take i row) y) (link_once source.vertices once_source at at x l e is_x is_l).1 before))
          ],
        )

module _ (source old : Numbered) (ns : List (Option ℕ)) (placed : ArePlaced source.vertices ns old.vertices) (at to : ℕ) (number : number_at ns at ≡ Some to) where
  -- the link by its numbers there is known exactly where it is there
  pub row_known : (row known : List Link) (i : ℕ) (d : Link) (new : Numbered) → i < length row → RowMoved source old ns at (take i row) new → IsNumbered source → IsNumbered old → slice_get source.links at ≡ Some row
      → ((l : Link) → Contains row l → IsLink source at l) → ((m : Link) → Contains known m ↔ HasLink old to m) → (m : Link) → moved ns (get_or row i d) ≡ Some m → Contains known m ↔ HasLink new to m
  row_known row known i d new within so_far k_source k_old row_is links same m is =
      let r : row_of source at ≡ row = ap row_items row_is in
      let once_row : IsOnce row = subst (λ (xs : List Link). IsOnce xs) r (k_source.links_once at) in
      let fresh = row_fresh source old ns placed at to number row i d within new so_far k_source.once k_old.once once_row (links (get_or row i d) (Contains-get_or row i d within)) m is in
      (λ h. fresh.0 ((same m).0 h), λ h. (same m).1 (fresh.1 h))

  pub row_whole : (row : List Link) (i : ℕ) (new : Numbered) → length row ≤ i → RowMoved source old ns at (take i row) new → slice_get source.links at ≡ Some row → (e : Edge) → HasEdge new e ↔ (HasEdge old e ⊎ MovesEdgeIn source ns at (row_of source at) e)
  row_whole row i new past so_far row_is e =
      subst (λ (xs : List Link). HasEdge new e ↔ (HasEdge old e ⊎ MovesEdgeIn source ns at xs e)) (take_all i row past ∙ sym (ap row_items row_is)) (so_far.edges e)

-- after some rows were put there
pub record RowsMoved (source : Numbered) (ns : List (Option ℕ)) (old new : Numbered) (n : ℕ) : Type 0 where
  pub vertices : new.vertices ≡ old.vertices
  pub edges : (e : Edge) → HasEdge new e ↔ (HasEdge old e ⊎ MovesEdgeBelow source ns n e)

module _ (source : Numbered) (ns : List (Option ℕ)) (old : Numbered) where
  pub rows_begun : RowsMoved source ns old old 0
  rows_begun = record { vertices = refl; edges = λ e. (λ h. inl h, λ h. elim h [ inl was ↦ was | inr (i, l, lt, has, is) ↦ absurd (omega (arith, lt)) ]) }

  module _ (new : Numbered) (at : ℕ) (so_far : RowsMoved source ns old new at) where
    step_in : (e : Edge) → MovesEdgeBelow source ns (at + 1) e → MovesEdgeBelow source ns at e ⊎ MovesEdgeIn source ns at (row_of source at) e
    step_in e (i, l, lt, has, is) = elim (cases_eq i at) [
      | inl same ↦ inr (l, subst (λ (j : ℕ). HasLink source j l) same has, subst (λ (j : ℕ). MovesLink source ns j l e) same is)
      | inr ne ↦ inl (i, l, omega (arith, lt), has, is)
    ]

    -- one row more
    pub rows_more : (next : Numbered) → next.vertices ≡ new.vertices → ((e : Edge) → HasEdge next e ↔ (HasEdge new e ⊎ MovesEdgeIn source ns at (row_of source at) e)) → RowsMoved source ns old next (at + 1)
    rows_more next same step = record {
      vertices = same ∙ so_far.vertices;
      edges = λ e. (
        λ h. elim ((step e).0 h) [
          | inl a ↦ (elim ((so_far.edges e).0 a) [ inl was ↦ inl was | inr (i, l, lt, has, is) ↦ inr (i, l, omega (arith, lt), has, is) ])
          | inr (l, has, is) ↦ inr (at, l, omega arith, has, is)
        ],
        λ h. elim h [
          | inl was ↦ (step e).1 (inl ((so_far.edges e).1 (inl was)))
          | inr more ↦ (elim (step_in e more) [
            | inl before ↦ (step e).1 (inl ((so_far.edges e).1 (inr before)))
            | inr now ↦ (step e).1 (inr now)
          ])
        ],
      );
    }

    -- a row of a vertex that has no number there
    pub rows_past : number_at ns at ≡ None → RowsMoved source ns old new (at + 1)
    rows_past none = rows_more new refl (λ e. (
      λ h. inl h,
      λ h. elim h [
        | inl was ↦ was
        | inr (l, has, (n, mo, is)) ↦ absurd (let (j, some) = some_of (number_at ns at) n in some_none j (sym some ∙ none))
      ],
    ))
      where
        some_none : (j : ℕ) → ¬ (Some j ≡ None)
        some_none j e = cc

  -- all rows
  pub rows_whole : (new : Numbered) (n : ℕ) → RowsMoved source ns old new n → length source.vertices ≤ n → (e : Edge) → HasEdge new e ↔ (HasEdge old e ⊎ MovesEdge source ns e)
  rows_whole new n so_far past e = (
    λ h. elim ((so_far.edges e).0 h) [ inl was ↦ inl was | inr (i, l, lt, has, is) ↦ inr (i, l, has, is) ],
    λ h. elim h [
      | inl was ↦ (so_far.edges e).1 (inl was)
      | inr (i, l, has, (number, mo, is)) ↦
          (so_far.edges e).1 (inr (i, l, omega (arith, past, slice_get_within source.vertices i e.to is.0), has, (number, mo, is)))
    ],
  )

-- rows that were left alone
pub elsewhere_itself : (g : Numbered) (to : ℕ) → IsKeptElsewhere g g to
elsewhere_itself g to i l ne = (λ h. h, λ h. h)

pub elsewhere_then : (g h k : Numbered) (to : ℕ) → IsKeptElsewhere g h to → IsKeptElsewhere h k to → IsKeptElsewhere g k to
elsewhere_then g h k to first second i l ne = (λ has. (first i l ne).0 ((second i l ne).0 has), λ has. (second i l ne).1 ((first i l ne).1 has))

pub elsewhere_added : (old new : Numbered) (to : ℕ) (m : Link) → ((i : ℕ) (x : Link) → HasLink old i x → HasLink new i x) → ((i : ℕ) (x : Link) → HasLink new i x → HasLink old i x ⊎ ((i ≡ to) × (x ≡ m))) → IsKeptElsewhere old new to
elsewhere_added old new to m kept only i l ne = (λ h. elim (only i l h) [ inl was ↦ was | inr now ↦ absurd (ne now.0) ], kept i l)

-- the rows that are still to come have the links that are known
abbrev pub AreKnown : Numbered → List (Option ℕ) → Numbered → ℕ → Type 0
AreKnown known ns new at = (i to : ℕ) (l : Link) → at ≤ i → number_at ns i ≡ Some to → HasLink known to l ↔ HasLink new to l

pub known_more : (source known old new : Numbered) (ns : List (Option ℕ)) (at to : ℕ) → IsOnce source.vertices → ArePlaced source.vertices ns old.vertices → number_at ns at ≡ Some to → IsKeptElsewhere old new to → AreKnown known ns old at → AreKnown known ns new (at + 1)
known_more source known old new ns at to once placed number elsewhere so_far i j l later here =
    let apart : j ≢ to = λ same.
    (let (v, at_i, at_j) = placed i j here in
    let (w, at_at, at_to) = placed at to number in
    let one : Some v ≡ Some w = sym at_j ∙ ap (slice_get old.vertices) same ∙ at_to in
    let is : i ≡ at = once i at v at_i (at_at ∙ sym one) in
    omega (arith, later, is)) in
    let known_before = so_far i j l (omega (arith, later)) here in
    (λ h. (elsewhere j l apart).1 (known_before.0 h), λ h. known_before.1 ((elsewhere j l apart).0 h))

pub known_past : (known new : Numbered) (ns : List (Option ℕ)) (at : ℕ) → AreKnown known ns new at → AreKnown known ns new (at + 1)
known_past known new ns at so_far i j l later here = so_far i j l (omega (arith, later)) here
