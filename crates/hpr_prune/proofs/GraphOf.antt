-- The graph of what a slice leaves of a program is the slice, but for Init vertices that nothing in it uses.
use Rattle.std.proofs.Common.{◌≡◌, ◌↔◌, ℕ, List, [], ◌∷◌, ◌⊎◌, Option, Some, None, Contains, refl, sym, subst, ◌∙◌, inl, inr}
use Rattle.hpr_terms.specs.declared.tag.Tag.{Tag}
use Rattle.hpr_syntax.specs.declared.rows.Content.{Content}
use Rattle.hpr_syntax.specs.Tree.{Tree}
use Rattle.hpr_syntax.specs.Shape.{IsProgram}
use Rattle.hpr_syntax.specs.Skeleton.{Point, enter, at, exit, Distinct, skeleton}
use Rattle.hpr_syntax.specs.Pairs.{IsPair}
use Rattle.hpr_syntax.specs.Paths.{Path, DefinesAt, IsUndisturbed}
use Rattle.hpr_syntax.specs.Nests.{Says}
use Rattle.hpr_syntax.specs.Initial.{IsInitial, UsedBy}
use Rattle.hpr_graph.specs.declared.vertex.Vertex.{Vertex}
use Rattle.hpr_graph.specs.declared.vertex.Vertex.TheVariants.{Entry, Init, Part, Final}
use Rattle.hpr_graph.specs.declared.edge.Kind.{Kind}
use Rattle.hpr_graph.specs.declared.edge.Kind.TheVariants.{Control, Independent, Carried, Order}
use Rattle.hpr_graph.specs.declared.edge.Edge.{Edge}
use Rattle.hpr_graph.specs.Graphs.{Same, OnThird}
use Rattle.hpr_graph.specs.Slices.{Leads, ReachesOne, slice_of}
use Rattle.hpr_graph.specs.ProgramGraph.{Defines, Reads, IsIndependent, IsCarried, HasFlow, IsTop, IsVertexOf, IsEdgeBy, graph_of}
use Rattle.hpr_graph.proofs.Laws.{used_by_reads}
use Rattle.hpr_closure.proofs.ProgramWhole.{ends_by}
use Rattle.hpr_paths.proofs.Among.{Among, here, there, among_cons, among_none, among_contains, contains_among}
use Rattle.hpr_paths.proofs.DirectWays.{encloses_in}
use Rattle.hpr_paths.proofs.Different.{distinct_program}
use Rattle.hpr_paths.proofs.Programs.{path_inside, part_not_enter, enter_outside}
use Rattle.hpr_paths.proofs.Says.{says_one, says_of_standing}
use Rattle.hpr_meaning.proofs.FlowPaths.{flow_of}
use Rattle.hpr_prune.specs.Pruned.{Pruned, IsKept}
use Rattle.hpr_prune.specs.Programs.{NamesLeft, none, name_kept, name_out, IsPruned, IsDrawn, without_idle}
use Rattle.hpr_prune.proofs.Definers.{defines?}
use Rattle.hpr_prune.proofs.Entry.{entry_reaches}
use Rattle.hpr_prune.proofs.Cut.{Cut, KeepsIn, cut_of, cut_pruned, says_up, says_down, stood_up, stood_down}
use Rattle.hpr_prune.proofs.Down.{path_down}
use Rattle.hpr_prune.proofs.Up.{up, last_stop, weaker, AllMarks}
use Rattle.hpr_prune.proofs.Stand.{left_down, left_up, parted_down, parted_up, encloses_down, encloses_up}

-- the names that are left
names_down : (V : Vertex → Type 0) {xs ys : List (List ℕ)} → NamesLeft V xs ys → (x : List ℕ) → V (Final x) → Among x xs → Among x ys
names_down V none x v h = absurd (among_none x h)
names_down V (name_kept {x = y} {xs = xs} {ys = ys} k r) x v h = go (among_cons h) (λ g. names_down V r x v g)
  where
    go : (y ≡ x) ⊎ Among x xs → (Among x xs → Among x ys) → Among x (y ∷ ys)
    go (inl e) f = subst (λ z. Among z (y ∷ ys)) e here
    go (inr g) f = there (f g)
names_down V (name_out {x = y} {xs = xs} {ys = ys} k r) x v h = go (among_cons h) (λ g. names_down V r x v g)
  where
    go : (y ≡ x) ⊎ Among x xs → (Among x xs → Among x ys) → Among x ys
    go (inl e) f = absurd (k (subst (λ z. V (Final z)) (sym e) v))
    go (inr g) f = f g

names_up : (V : Vertex → Type 0) {xs ys : List (List ℕ)} → NamesLeft V xs ys → (x : List ℕ) → Among x ys → Among x xs × V (Final x)
names_up V none x h = absurd (among_none x h)
names_up V (name_kept {x = y} {xs = xs} {ys = ys} k r) x h = go (among_cons h) (λ g. names_up V r x g)
  where
    go : (y ≡ x) ⊎ Among x ys → (Among x ys → Among x xs × V (Final x)) → Among x (y ∷ xs) × V (Final x)
    go (inl e) f = (subst (λ z. Among z (y ∷ xs)) e here, subst (λ z. V (Final z)) e k)
    go (inr g) f = let a = f g in (there a.0, a.1)
names_up V (name_out k r) x h = let a = names_up V r x h in (there a.0, a.1)

init_is : (t : Tree) (x y : List ℕ) (to : Vertex) (a z : Point) (ms : List (Option Tag)) → Defines t y (Init x) a → Reads t y to z → IsUndisturbed t.body y a z ms → IsInitial t x
init_is t x y to a z ms (same, is) r q = subst (λ n. IsInitial t n) (sym same) (z, ms, subst (λ p. IsUndisturbed t.body y p z ms) is q, used_by_reads t y to z r)

module _ (p q : Tree) (ip : IsProgram p) (S : Vertex → Type 0) (pr : IsPruned (slice_of (graph_of p) S).vertex p q) where
  abbrev pub V : Vertex → Type 0
  V = (slice_of (graph_of p) S).vertex

  abbrev dp : Distinct (skeleton p.body)
  dp = distinct_program p ip

  pub edge_back : (e : Edge) → (graph_of p).edge e → Leads e.kind → V e.to → V e.from
  edge_back e h l (v, (s, es, one, leads)) = ((ends_by p e.kind e.from e.to h).1, (s, e ∷ es, one, (h, l, refl, leads)))

  abbrev K : Tag → Type 0
  K = KeepsIn p.body dp V

  pub cut : Cut K p.body q.body
  cut = cut_of p.body dp V
      (λ v w s d label stands parent says h. edge_back (record { to = Part v s.content; from = Part w d; kind = Control label }) (inr (w, d, refl, says, (v, s, stands, refl, parent))) tt h)
      pr.body [] None (λ v s g. g)

  pub pruned : Pruned K (skeleton p.body) (skeleton q.body)
  pruned = cut_pruned K cut

  kept_of : (t : Tag) (c : Content) → V (Part t c) → K t
  kept_of t c v = (c, v.0, v)

  vertex_of_kept : (t : Tag) (c : Content) → Says p.body t c → K t → V (Part t c)
  vertex_of_kept t c s (d, s', v) = subst (λ z. V (Part t z)) (says_one p.body dp t d c s' s) v

  -- what defines and what reads
  kept_source : (x : List ℕ) (from : Vertex) (a : Point) → Defines p x from a → V from → IsKept K a
  kept_source x Entry a d v = absurd d
  kept_source x (Init y) a d v = subst (IsKept K) (sym d.1) tt
  kept_source x (Part t c) a d v = subst (IsKept K) (sym d.2) (kept_of t c v)
  kept_source x (Final y) a d v = absurd d

  kept_target : (x : List ℕ) (to : Vertex) (z : Point) → Reads p x to z → V to → IsKept K z
  kept_target x Entry z r v = absurd r
  kept_target x (Init y) z r v = absurd r
  kept_target x (Part t c) z r v = subst (IsKept K) (sym r.2) (kept_of t c v)
  kept_target x (Final y) z r v = subst (IsKept K) (sym r.2) tt

  defines_down : (x : List ℕ) (from : Vertex) (a : Point) → Defines p x from a → V from → Defines q x from a
  defines_down x Entry a d v = d
  defines_down x (Init y) a d v = d
  defines_down x (Part t c) a (e, s, i) v = (e, says_down K cut t c (kept_of t c v) s, i)
  defines_down x (Final y) a d v = d

  defines_up : (x : List ℕ) (from : Vertex) (a : Point) → Defines q x from a → Defines p x from a × IsKept K a
  defines_up x Entry a d = absurd d
  defines_up x (Init y) a d = (d, subst (IsKept K) (sym d.1) tt)
  defines_up x (Part t c) a (e, s, i) = let g = says_up K cut t c s in ((e, g.0, i), subst (IsKept K) (sym i) g.1)
  defines_up x (Final y) a d = absurd d

  final_down : (x : List ℕ) → V (Final x) → Contains q.finals x
  final_down x v = contains_among x q.finals (names_down V pr.finals x v (among_contains x p.finals v.0))

  final_up : (x : List ℕ) → Contains q.finals x → V (Final x)
  final_up x c = (names_up V pr.finals x (among_contains x q.finals c)).1

  reads_down : (x : List ℕ) (to : Vertex) (z : Point) → Reads p x to z → V to → Reads q x to z
  reads_down x Entry z r v = r
  reads_down x (Init y) z r v = r
  reads_down x (Part t c) z (u, s, i) v = (u, says_down K cut t c (kept_of t c v) s, i)
  reads_down x (Final y) z (e, c, i) v = (e, final_down x (subst (λ n. V (Final n)) e v), i)

  reads_up : (x : List ℕ) (to : Vertex) (z : Point) → Reads q x to z → Reads p x to z × V to
  reads_up x Entry z r = absurd r
  reads_up x (Init y) z r = absurd r
  reads_up x (Part t c) z (u, s, i) = let g = says_up K cut t c s in ((u, g.0, i), vertex_of_kept t c g.0 g.1)
  reads_up x (Final y) z (e, c, i) = let v = final_up x c in ((e, v.0, i), subst (λ n. V (Final n)) (sym e) v)

  stops_up : (x : List ℕ) (b : Point) → DefinesAt q.body x b → DefinesAt p.body x b
  stops_up x b (t, c, i, s, e) = (t, c, i, (says_up K cut t c s).0, e)

  stops_down : (x : List ℕ) (b : Point) → DefinesAt p.body x b → IsKept K b → DefinesAt q.body x b
  stops_down x b (t, c, i, s, e) k = (t, c, i, says_down K cut t c (subst (IsKept K) i k) s, e)

  -- paths
  abbrev KeptMarks : List (Option Tag) → List (Option Tag) → Type 0
  KeptMarks ms ns = (w : Tag) → K w → Contains ms (Some w) ↔ Contains ns (Some w)

  way_down : (x : List ℕ) (a z : Point) (ms : List (Option Tag)) → IsKept K a → IsKept K z → IsUndisturbed p.body x a z ms
      → (ns : List (Option Tag)) × IsUndisturbed q.body x a z ns × KeptMarks ms ns
  way_down x a z ms ak zk w =
      let g = path_down K pruned dp (DefinesAt p.body x) z zk a ms ak w in (g.0, weaker (stops_up x) g.1, g.2)

  way_up : (x : List ℕ) (to : Vertex) (a z : Point) (ns : List (Option Tag)) → Reads p x to z → V to → IsUndisturbed q.body x a z ns
      → (ms : List (Option Tag)) × IsUndisturbed p.body x a z ms × ((w : Tag) → Contains ms (Some w) ↔ Contains ns (Some w))
  way_up x to a z ns rd vt w = go (last_stop (DefinesAt p.body x) (IsKept K) (defines? p.body dp x) (weaker (λ b h. (stops_down x b h.0 h.1, h.1)) u.1))
    where
      u : (ms : List (Option Tag)) × Path (IsPair p.body) (λ b. DefinesAt q.body x b × IsKept K b) a z ms × AllMarks ms ns
      u = up K pruned (DefinesAt q.body x) w

      closed : (d : Point) (ms : List (Option Tag)) → DefinesAt p.body x d → IsUndisturbed p.body x d z ms → IsKept K d
      closed d ms (t, c, i, s, e) path =
          let f = flow_of p x d z (Part t c) to ms (e, s, i) rd (path_inside p.body (λ h. part_not_enter t (sym i ∙ h)) path) in
          subst (IsKept K) (sym i) (kept_of t c (source f))
        where
          source : HasFlow p x (Part t c) to → V (Part t c)
          source (inl h) = edge_back (record { to = to; from = Part t c; kind = Independent x }) h tt vt
          source (inr (w, h)) = edge_back (record { to = to; from = Part t c; kind = Carried x w }) h tt vt

      go : IsUndisturbed p.body x a z u.0 ⊎ ((d : Point) × (ms : List (Option Tag)) × DefinesAt p.body x d × (¬ IsKept K d) × IsUndisturbed p.body x d z ms)
          → (ms : List (Option Tag)) × IsUndisturbed p.body x a z ms × ((w : Tag) → Contains ms (Some w) ↔ Contains ns (Some w))
      go (inl g) = (u.0, g, λ w. ((λ h. contains_among (Some w) ns ((u.2 w).0 (among_contains (Some w) u.0 h))), (λ h. contains_among (Some w) u.0 ((u.2 w).1 (among_contains (Some w) ns h)))))
      go (inr (d, ms, s, k, g)) = absurd (k (closed d ms s g))

  -- flow edges
  independent_down : (x : List ℕ) (from to : Vertex) → IsIndependent p x from to → V from → V to → IsIndependent q x from to
  independent_down x from to (a, z, ms, (d, rd, w), avoids) vf vt =
      let g = way_down x a z ms (kept_source x from a d vf) (kept_target x to z rd vt) w in
      (a, z, g.0, (defines_down x from a d vf, reads_down x to z rd vt, g.1), λ l enc c. let h = encloses_up K pruned a z l enc in avoids l h.0 ((g.2 l h.1).1 c))

  carried_down : (x : List ℕ) (l from to : Vertex) → IsCarried p x l from to → V from → V to → IsCarried q x l from to
  carried_down x l from to (a, z, ms, v, c, (d, rd, w), is, says, enc, m) vf vt =
      let ak = kept_source x from a d vf in let zk = kept_target x to z rd vt in
      let g = way_down x a z ms ak zk w in
      let eq = encloses_down K pruned a z v ak zk enc in
      let kv = (encloses_up K pruned a z v eq).1 in
      (a, z, g.0, v, c, (defines_down x from a d vf, reads_down x to z rd vt, g.1), is, says_down K cut v c kv says, eq, (g.2 v kv).0 m)

  independent_up : (x : List ℕ) (from to : Vertex) → IsIndependent q x from to → IsIndependent p x from to × V from × V to
  independent_up x from to (a, z, ns, (d, rd, w), avoids) = (h, edge_back (record { to = to; from = from; kind = Independent x }) h tt r.1, r.1)
    where
      r : Reads p x to z × V to
      r = reads_up x to z rd

      s : Defines p x from a × IsKept K a
      s = defines_up x from a d

      g : (ms : List (Option Tag)) × IsUndisturbed p.body x a z ms × ((w : Tag) → Contains ms (Some w) ↔ Contains ns (Some w))
      g = way_up x to a z ns r.0 r.1 w

      h : IsIndependent p x from to
      h = (a, z, g.0, (s.0, r.0, g.1), λ l enc c. avoids l (encloses_down K pruned a z l s.1 (kept_target x to z r.0 r.1) enc) ((g.2 l).0 c))

  carried_up : (x : List ℕ) (l from to : Vertex) → IsCarried q x l from to → IsCarried p x l from to × V from × V to × V l
  carried_up x l from to (a, z, ns, v, c, (d, rd, w), is, says, enc, m) =
      (h, edge_back (record { to = to; from = from; kind = Carried x l }) h tt r.1, r.1, subst V (sym is) (vertex_of_kept v c sv.0 sv.1))
    where
      r : Reads p x to z × V to
      r = reads_up x to z rd

      s : Defines p x from a × IsKept K a
      s = defines_up x from a d

      sv : Says p.body v c × K v
      sv = says_up K cut v c says

      g : (ms : List (Option Tag)) × IsUndisturbed p.body x a z ms × ((w : Tag) → Contains ms (Some w) ↔ Contains ns (Some w))
      g = way_up x to a z ns r.0 r.1 w

      h : IsCarried p x l from to
      h = (a, z, g.0, v, c, (s.0, r.0, g.1), is, sv.0, (encloses_up K pruned a z v enc).0, (g.2 v).1 m)

  flow_down : (x : List ℕ) (from to : Vertex) → HasFlow p x from to → V from → V to → HasFlow q x from to
  flow_down x from to (inl h) vf vt = inl (independent_down x from to h vf vt)
  flow_down x from to (inr (l, h)) vf vt = inr (l, carried_down x l from to h vf vt)

  abbrev FlowUp : List ℕ → Vertex → Vertex → Type 0
  FlowUp x from to = HasFlow p x from to × V from × V to × IsDrawn (slice_of (graph_of p) S) from

  -- an edge of the slice
  abbrev Inner : Edge → Type 0
  Inner e = (slice_of (graph_of p) S).edge e

  pub drawn_by : (from : Vertex) (e : Edge) → Inner e → Leads e.kind → e.from ≡ from → IsDrawn (slice_of (graph_of p) S) from
  drawn_by Entry e i l is = tt
  drawn_by (Init x) e i l is = (e, i, l, is)
  drawn_by (Part t c) e i l is = tt
  drawn_by (Final x) e i l is = tt

  flow_up : (x : List ℕ) (from to : Vertex) → HasFlow q x from to → FlowUp x from to
  flow_up x from to (inl h) =
      let g = independent_up x from to h in
      (inl g.0, g.1, g.2, drawn_by from (record { to = to; from = from; kind = Independent x }) (g.0, (g.2.1, g.1.1, tt)) tt refl)
  flow_up x from to (inr (l, h)) =
      let g = carried_up x l from to h in
      (inr (l, g.0), g.1, g.2, drawn_by from (record { to = to; from = from; kind = Carried x l }) (g.0, (g.2.1, g.1.1, g.3.1)) tt refl)

  drawn_target : (x : List ℕ) (to : Vertex) (z : Point) → Reads q x to z → IsDrawn (slice_of (graph_of p) S) to
  drawn_target x Entry z r = absurd r
  drawn_target x (Init y) z r = absurd r
  drawn_target x (Part t c) z r = tt
  drawn_target x (Final y) z r = tt

  flow_target_drawn : (x : List ℕ) (from to : Vertex) → HasFlow q x from to → IsDrawn (slice_of (graph_of p) S) to
  flow_target_drawn x from to (inl (a, z, ms, (d, r, w), avoids)) = drawn_target x to z r
  flow_target_drawn x from to (inr (l, (a, z, ms, v, c, (d, r, w), is, says, enc, m))) = drawn_target x to z r

  -- Init vertices
  init_used : (x : List ℕ) (z : Point) (ms : List (Option Tag)) → IsUndisturbed q.body x enter z ms → UsedBy q x z → (to : Vertex) × IsIndependent q x (Init x) to
  init_used x enter ms w u = absurd u
  init_used x (at v) ms w (c, says, uses) =
      (Part v c, (enter, at v, ms, ((refl, refl), (uses, says, refl), w), λ l enc m. enter_outside (skeleton q.body) (encloses_in (skeleton q.body) enter (at v) l enc).0))
  init_used x exit ms w c = (Final x, (enter, exit, ms, ((refl, refl), (refl, c, refl), w), λ l enc m. enter_outside (skeleton q.body) (encloses_in (skeleton q.body) enter exit l enc).0))

  init_up : (x : List ℕ) → IsInitial q x → V (Init x) × IsDrawn (slice_of (graph_of p) S) (Init x)
  init_up x (z, ms, w, u) = let h = init_used x z ms w u in let g = flow_up x (Init x) h.0 (inl h.1) in (g.1, g.3)

  no_init_entry : {A : Type 0} {x : List ℕ} → Init x ≡ Entry → A
  no_init_entry e = absurd cc

  no_init_part : {A : Type 0} {x : List ℕ} {t : Tag} {c : Content} → Init x ≡ Part t c → A
  no_init_part e = absurd cc

  init_by : (x : List ℕ) (k : Kind) (to : Vertex) → IsEdgeBy p k (Init x) to → Leads k → V (Init x) → V to → IsInitial q x
  init_by x (Control label) to (inl (is, label_is, h)) l vf vt = no_init_entry is
  init_by x (Control label) to (inr (t, c, is, says, under)) l vf vt = no_init_part is
  init_by x (Independent y) to h l vf vt = let (a, z, ms, (d, r, w), n) = independent_down y (Init x) to h vf vt in init_is q x y to a z ms d r w
  init_by x (Carried y v) to h l vf vt = let (a, z, ms, u, c, (d, r, w), same, says, both, m) = carried_down y v (Init x) to h vf vt in init_is q x y to a z ms d r w
  init_by x (Order u) to h l vf vt = absurd l

  init_down : (x : List ℕ) → IsDrawn (slice_of (graph_of p) S) (Init x) → V (Init x) → IsInitial q x
  init_down x (e, (h, inside), l, is) v =
      init_by x e.kind e.to (subst (λ f. IsEdgeBy p e.kind f e.to) is h) l v ((ends_by p e.kind e.from e.to h).0, inside.0)

  -- control edges
  top_up : (to : Vertex) → IsTop q to → IsTop p to × V to × IsDrawn (slice_of (graph_of p) S) to
  top_up Entry h = absurd h
  top_up (Init x) h = let g = init_up x h in (g.0.0, g.0, g.1)
  top_up (Part t c) (s, stands, is, parent) =
      let st = stood_up K cut [] None t s stands in
      let k = (says_up K cut t s.content (says_of_standing q.body [] None t s stands)).1 in
      ((s, st, is, parent), subst (λ z. V (Part t z)) is (vertex_of_kept t s.content (says_of_standing p.body [] None t s st) k), tt)
  top_up (Final x) h = let v = final_up x h in (v.0, v, tt)

  top_down : (to : Vertex) → IsTop p to → V to → IsDrawn (slice_of (graph_of p) S) to → IsTop q to
  top_down Entry h v d = h
  top_down (Init x) h v d = init_down x d v
  top_down (Part t c) (s, stands, is, parent) v d = (s, stood_down K cut [] None t s (kept_of t c v) stands, is, parent)
  top_down (Final x) h v d = final_down x v

  abbrev EdgeUp : Kind → Vertex → Vertex → Type 0
  EdgeUp k from to = IsEdgeBy p k from to × (V to × V from × OnThird V k) × (IsDrawn (slice_of (graph_of p) S) to × IsDrawn (slice_of (graph_of p) S) from × OnThird (IsDrawn (slice_of (graph_of p) S)) k)

  module _ (has_entry : V Entry) where
    drawn_part : (v : Vertex) (t : Tag) (c : Content) → v ≡ Part t c → IsDrawn (slice_of (graph_of p) S) v
    drawn_part v t c e = subst (IsDrawn (slice_of (graph_of p) S)) (sym e) tt

    edge_up : (k : Kind) (from to : Vertex) → IsEdgeBy q k from to → EdgeUp k from to
    edge_up (Control label) from to (inl (is, true_is, h)) =
        let g = top_up to h in
        (inl (is, true_is, g.0), (g.1, subst V (sym is) has_entry, tt), (g.2, subst (IsDrawn (slice_of (graph_of p) S)) (sym is) tt, tt))
    edge_up (Control label) from to (inr (w, c, is, says, (t, s, stands, to_is, parent))) =
        let a = says_up K cut w c says in
        let st = stood_up K cut [] None t s stands in
        let k = (says_up K cut t s.content (says_of_standing q.body [] None t s stands)).1 in (
          inr (w, c, is, a.0, (t, s, st, to_is, parent)),
          (subst V (sym to_is) (vertex_of_kept t s.content (says_of_standing p.body [] None t s st) k), subst V (sym is) (vertex_of_kept w c a.0 a.1), tt),
          (drawn_part to t s.content to_is, drawn_part from w c is, tt),
        )
    edge_up (Independent x) from to h = let g = independent_up x from to h in let f = flow_up x from to (inl h) in (g.0, (g.2, g.1, tt), (flow_target_drawn x from to (inl h), f.3, tt))
    edge_up (Carried x l) from to h =
        let g = carried_up x l from to h in let f = flow_up x from to (inr (l, h)) in
        (g.0, (g.2, g.1, g.3), (flow_target_drawn x from to (inr (l, h)), f.3, drawn_part l h.3 h.4 h.6))
    edge_up (Order u) from to (x, a, b, d, d', f, f', left, whole) =
        let g = flow_up x from u f in let g' = flow_up x to u f' in
        let da = defines_up x from a d in let db = defines_up x to b d' in (
          (x, a, b, da.0, db.0, g.0, g'.0, left_up K pruned a b left, λ h. whole (parted_down K pruned a b da.1 db.1 h)),
          (g'.1, g.1, g.2),
          (g'.3, g.3, flow_target_drawn x from u f),
        )

    edge_down : (k : Kind) (from to : Vertex) → IsEdgeBy p k from to → V to → V from → OnThird V k → IsDrawn (slice_of (graph_of p) S) to → IsEdgeBy q k from to
    edge_down (Control label) from to (inl (is, true_is, h)) vt vf third d = inl (is, true_is, top_down to h vt d)
    edge_down (Control label) from to (inr (w, c, is, says, (t, s, stands, to_is, parent))) vt vf third d =
        inr (w, c, is, says_down K cut w c (kept_of w c (subst V is vf)) says, (t, s, stood_down K cut [] None t s (kept_of t s.content (subst V to_is vt)) stands, to_is, parent))
    edge_down (Independent x) from to h vt vf third d = independent_down x from to h vf vt
    edge_down (Carried x l) from to h vt vf third d = carried_down x l from to h vf vt
    edge_down (Order u) from to (x, a, b, d, d', f, f', left, whole) vt vf third dr = (
      x,
      a,
      b,
      defines_down x from a d vf,
      defines_down x to b d' vt,
      flow_down x from u f vf third,
      flow_down x to u f' vt third,
      left_down K pruned a b (kept_source x from a d vf) (kept_source x to b d' vt) left,
      λ h. whole (parted_up K pruned a b h),
    )

    vertex_up : (v : Vertex) → IsVertexOf q v → V v × IsDrawn (slice_of (graph_of p) S) v
    vertex_up Entry h = (has_entry, tt)
    vertex_up (Init x) h = init_up x h
    vertex_up (Part t c) h = let g = says_up K cut t c h in (vertex_of_kept t c g.0 g.1, tt)
    vertex_up (Final x) h = (final_up x h, tt)

    vertex_down : (v : Vertex) → V v → IsDrawn (slice_of (graph_of p) S) v → IsVertexOf q v
    vertex_down Entry h d = tt
    vertex_down (Init x) h d = init_down x d h
    vertex_down (Part t c) h d = says_down K cut t c (kept_of t c h) h.0
    vertex_down (Final x) h d = final_down x h

    third_of : (k : Kind) → OnThird V k → OnThird (ReachesOne (graph_of p) S) k
    third_of (Control label) h = tt
    third_of (Independent x) h = tt
    third_of (Carried x l) h = h.1
    third_of (Order u) h = h.1

    third_is : (k : Kind) → OnThird (IsVertexOf p) k → OnThird (ReachesOne (graph_of p) S) k → OnThird V k
    third_is (Control label) e h = tt
    third_is (Independent x) e h = tt
    third_is (Carried x l) e h = (e, h)
    third_is (Order u) e h = (e, h)

    pub graph_same : Same (graph_of q) (without_idle (slice_of (graph_of p) S))
    graph_same = (
      (λ v. (vertex_up v, λ h. vertex_down v h.0 h.1)),
      (λ e. (
        (λ h. let g = edge_up e.kind e.from e.to h in ((g.0, (g.1.0.1, g.1.1.1, third_of e.kind g.1.2)), g.2)),
        (λ h. let n = ends_by p e.kind e.from e.to h.0.0 in
            edge_down e.kind e.from e.to h.0.0 (n.0, h.0.1.0) (n.1, h.0.1.1) (third_is e.kind n.2 h.0.1.2) h.1.0),
      )),
    )

  pub entry_in : (v : Vertex) → S v → (graph_of p).vertex v → V Entry
  entry_in v one is = (tt, entry_reaches p dp S v is (v, [], one, refl))
