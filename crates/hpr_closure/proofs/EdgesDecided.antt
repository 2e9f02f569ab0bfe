-- Whether something is a vertex or an edge of the graph of a program.
use Rattle.std.proofs.Common.{◌≡◌, inl, inr, ℕ, Bool, true, Option, Some, None, List, [], Contains, refl, sym, ap, ◌∙◌, subst}
use Rattle.hpr_terms.specs.declared.tag.Tag.{Tag}
use Rattle.hpr_syntax.specs.Contents.{UsesIn}
use Rattle.hpr_terms.proofs.Facts.{some_inj}
use Rattle.hpr_syntax.specs.declared.rows.Content.{Content}
use Rattle.hpr_syntax.specs.Initial.{IsInitial, UsedBy}
use Rattle.hpr_syntax.specs.Nests.{Standing, StandsAsIn, Says}
use Rattle.hpr_syntax.specs.Pairs.{IsPair}
use Rattle.hpr_syntax.specs.Paths.{one, step, DefinesAt, IsUndisturbed}
use Rattle.hpr_syntax.specs.Places.{StandsLeft, Parted, EnclosesBoth}
use Rattle.hpr_syntax.specs.Rows.{assigned}
use Rattle.hpr_syntax.specs.Skeleton.{Skeleton, Point, enter, at, exit, skeleton}
use Rattle.hpr_syntax.specs.Tree.{Tree}
use Rattle.hpr_graph.specs.declared.vertex.Vertex.{Vertex}
use Rattle.hpr_graph.specs.declared.vertex.Vertex.TheVariants.{Entry, Init, Part, Final}
use Rattle.hpr_graph.specs.declared.edge.Kind.{Kind}
use Rattle.hpr_graph.specs.declared.edge.Kind.TheVariants.{Control, Independent, Carried, Order}
use Rattle.hpr_graph.specs.declared.edge.Edge.{Edge}
use Rattle.hpr_graph.specs.Graphs.{name_of}
use Rattle.hpr_graph.specs.ProgramGraph.{Defines, Reads, IsFlowPath, AvoidsCommon, IsIndependent, IsCarried, HasFlow, IsOrder, IsTop, StandsUnder, IsControl, IsVertexOf, IsEdgeBy, IsEdgeOf}
use Rattle.hpr_paths.proofs.Says.{standing_of_says}
use Rattle.hpr_closure.proofs.Decided.{Decided, both, vertex_decided}
use Rattle.hpr_closure.proofs.Decisions.{denied, either, turned, some_decided}
use Rattle.hpr_closure.proofs.TreeDecided.{Hop, name_decided, tag_decided, content_decided, truth_decided, point_decided, assigned_decided, top_decided, parent_decided, mark_decided, names_decided, uses_decided, left_decided, parted_decided, encloses_decided, pairs_of, pairs_exact, SomePart, part_decided, says_decided, used_decided, defines_decided}
use Rattle.hpr_closure.proofs.Ways.{path_decided, marked_decided}

-- where a vertex defines, and where it uses
abbrev source_point : Vertex → Point
source_point Entry = enter
source_point (Init y) = enter
source_point (Part l c) = at l
source_point (Final y) = enter

abbrev target_point : Vertex → Point
target_point Entry = exit
target_point (Init y) = exit
target_point (Part l c) = at l
target_point (Final y) = exit

three : (P Q R : Type 0) → Decided P → Decided Q → Decided R → Decided (P × Q × R)
three P Q R p q r = turned (P × (Q × R)) (P × Q × R) (λ (a, (b, c)). (a, b, c)) (λ (a, b, c). (a, (b, c))) (both P (Q × R) p (both Q R q r))

module _ (t : Tree) where
  abbrev sk : Skeleton
  sk = skeleton t.body

  defined_at : (x : List ℕ) (v : Vertex) (a : Point) → Defines t x v a → a ≡ source_point v
  defined_at x Entry a h = absurd h
  defined_at x (Init y) a (same, is) = is
  defined_at x (Part l c) a (sets, says, is) = is
  defined_at x (Final y) a h = absurd h

  read_at : (x : List ℕ) (v : Vertex) (z : Point) → Reads t x v z → z ≡ target_point v
  read_at x Entry z h = absurd h
  read_at x (Init y) z h = absurd h
  read_at x (Part l c) z (uses, says, is) = is
  read_at x (Final y) z (same, named, is) = is

  sets_decided : (x : List ℕ) (v : Vertex) → Decided (Defines t x v (source_point v))
  sets_decided x Entry = inr (λ h. h)
  sets_decided x (Init y) = both (y ≡ x) (enter ≡ enter) (name_decided y x) (inl refl)
  sets_decided x (Part l c) = three (assigned c ≡ Some x) (Says t.body l c) (at l ≡ at l) (assigned_decided c x) (says_decided t l c) (inl refl)
  sets_decided x (Final y) = inr (λ h. h)

  reads_decided : (x : List ℕ) (v : Vertex) → Decided (Reads t x v (target_point v))
  reads_decided x Entry = inr (λ h. h)
  reads_decided x (Init y) = inr (λ h. h)
  reads_decided x (Part l c) = three (UsesIn c x) (Says t.body l c) (at l ≡ at l) (uses_decided c x) (says_decided t l c) (inl refl)
  reads_decided x (Final y) = three (y ≡ x) (Contains t.finals x) (exit ≡ exit) (name_decided y x) (names_decided t.finals x) (inl refl)

  -- independent flow
  abbrev MayPass : Point → Point → Option Tag → Type 0
  MayPass a z m = (w : Tag) → EnclosesBoth sk a z w → ¬ (m ≡ Some w)

  may_pass : (a z : Point) (m : Option Tag) → Decided (MayPass a z m)
  may_pass a z None = inl (λ w h e. cc)
  may_pass a z (Some l) = elim (encloses_decided a z sk l) [
    | inl h ↦ inr (λ all. all l h refl)
    | inr n ↦ inl (λ w h e. n (subst (λ (v : Tag). EnclosesBoth sk a z v) (sym (some_inj l w e)) h))
  ]

  abbrev DirectAt : List ℕ → Vertex → Vertex → Point → Point → Type 0
  DirectAt x from to a z = (marks : List (Option Tag)) × IsFlowPath t x from to a z marks × AvoidsCommon t a z marks

  abbrev DirectWay : List ℕ → Point → Point → Type 0
  DirectWay x a z = (ms : List (Option Tag)) × IsUndisturbed t.body x a z ms × ((m : Option Tag) → Contains ms m → MayPass a z m)

  direct_way : (x : List ℕ) (a z : Point) → Decided (DirectWay x a z)
  direct_way x a z =
      path_decided (DefinesAt t.body x) (MayPass a z) point_decided (defines_decided t x) (may_pass a z) (IsPair t.body) (pairs_of t.body) (pairs_exact t.body) a z

  direct_at : (x : List ℕ) (from to : Vertex) → Decided (DirectAt x from to (source_point from) (target_point to))
  direct_at x from to =
      let a = source_point from in
      let z = target_point to in
      turned (Defines t x from a × (Reads t x to z × DirectWay x a z)) (DirectAt x from to a z)
      (λ (sets, (reads, (ms, path, good))). (ms, (sets, reads, path), λ w h there. good (Some w) there w h refl))
      (λ (ms, (sets, reads, path), avoids). (sets, (reads, (ms, path, λ m there w h is. avoids w h (subst (λ (k : Option Tag). Contains ms k) is there)))))
      (both (Defines t x from a) (Reads t x to z × DirectWay x a z) (sets_decided x from) (both (Reads t x to z) (DirectWay x a z) (reads_decided x to) (direct_way x a z)))

  pub independent_decided : (x : List ℕ) (from to : Vertex) → Decided (IsIndependent t x from to)
  independent_decided x from to =
      turned (DirectAt x from to (source_point from) (target_point to)) (IsIndependent t x from to) (λ (ms, path, avoids). (source_point from, target_point to, ms, path, avoids))
      (λ (a, z, ms, path, avoids). subst (λ (p : Point). DirectAt x from to p (target_point to)) (defined_at x from a path.0)
      (subst (λ (p : Point). DirectAt x from to a p) (read_at x to z path.1) (ms, path, avoids)))
      (direct_at x from to)

  -- carried flow
  abbrev Round : List ℕ → Tag → Point → Point → Type 0
  Round x l a z = (ms : List (Option Tag)) × IsUndisturbed t.body x a z ms × Contains ms (Some l)

  round_way : (x : List ℕ) (l : Tag) (a z : Point) → Decided (Round x l a z)
  round_way x l a z =
      marked_decided (DefinesAt t.body x) (λ m. Unit {0}) point_decided (defines_decided t x) (λ m. inl tt) (IsPair t.body) (pairs_of t.body) (pairs_exact t.body)
      (λ m. tt) (Some l) (λ m. mark_decided m l) a z

  abbrev CarriedAt : List ℕ → Vertex → Vertex → Vertex → Point → Point → Type 0
  CarriedAt x w from to a z =
      (marks : List (Option Tag)) × (l : Tag) × (c : Content) × IsFlowPath t x from to a z marks
      × (w ≡ Part l c) × Says t.body l c × EnclosesBoth sk a z l × Contains marks (Some l)

  abbrev RoundParts : List ℕ → Tag → Content → Vertex → Vertex → Point → Point → Type 0
  RoundParts x l c from to a z = Defines t x from a × (Reads t x to z × (Says t.body l c × (EnclosesBoth sk a z l × Round x l a z)))

  part_tag : (l k : Tag) (c d : Content) → Part l c ≡ Part k d → k ≡ l
  part_tag l k c d e = cc

  part_content : (l k : Tag) (c d : Content) → Part l c ≡ Part k d → d ≡ c
  part_content l k c d e = cc

  carried_at : (x : List ℕ) (w from to : Vertex) → Decided (CarriedAt x w from to (source_point from) (target_point to))
  carried_at x Entry from to = inr (λ (ms, l, c, path, is, says, around, carries). cc)
  carried_at x (Init y) from to = inr (λ (ms, l, c, path, is, says, around, carries). cc)
  carried_at x (Final y) from to = inr (λ (ms, l, c, path, is, says, around, carries). cc)
  carried_at x (Part l c) from to =
      let a = source_point from in
      let z = target_point to in
      turned (RoundParts x l c from to a z) (CarriedAt x (Part l c) from to a z)
      (λ (sets, (reads, (says, (around, (ms, path, carries))))). (ms, l, c, (sets, reads, path), refl, says, around, carries))
      (λ (ms, k, d, (sets, reads, path), is, says, around, carries). (
        sets,
        (
          reads,
          (
            subst (λ (v : Tag). Says t.body v c) (part_tag l k c d is) (subst (λ (e : Content). Says t.body k e) (part_content l k c d is) says),
            (subst (λ (v : Tag). EnclosesBoth sk a z v) (part_tag l k c d is) around, (ms, path, subst (λ (v : Tag). Contains ms (Some v)) (part_tag l k c d is) carries)),
          ),
        ),
      ))
      (both (Defines t x from a) (Reads t x to z × (Says t.body l c × (EnclosesBoth sk a z l × Round x l a z))) (sets_decided x from)
      (both (Reads t x to z) (Says t.body l c × (EnclosesBoth sk a z l × Round x l a z)) (reads_decided x to)
      (both (Says t.body l c) (EnclosesBoth sk a z l × Round x l a z) (says_decided t l c) (both (EnclosesBoth sk a z l) (Round x l a z) (encloses_decided a z sk l) (round_way x l a z)))))

  pub carried_decided : (x : List ℕ) (w from to : Vertex) → Decided (IsCarried t x w from to)
  carried_decided x w from to =
      turned (CarriedAt x w from to (source_point from) (target_point to)) (IsCarried t x w from to)
      (λ (ms, l, c, path, is, says, around, carries). (source_point from, target_point to, ms, l, c, path, is, says, around, carries))
      (λ (a, z, ms, l, c, path, is, says, around, carries). subst (λ (p : Point). CarriedAt x w from to p (target_point to)) (defined_at x from a path.0)
      (subst (λ (p : Point). CarriedAt x w from to a p) (read_at x to z path.1) (ms, l, c, path, is, says, around, carries)))
      (carried_at x w from to)

  -- any flow
  abbrev CarriedBy : List ℕ → Vertex → Vertex → Tag → Standing → Type 0
  CarriedBy x from to v s = IsCarried t x (Part v s.content) from to

  carried_by : (x : List ℕ) (from to : Vertex) → Decided (SomePart t.body (CarriedBy x from to) (λ v s. carried_decided x (Part v s.content) from to))
  carried_by x from to = part_decided t.body (CarriedBy x from to) (λ v s. carried_decided x (Part v s.content) from to)

  loop_part : (x : List ℕ) (w from to : Vertex) → IsCarried t x w from to → SomePart t.body (CarriedBy x from to) (λ v s. carried_decided x (Part v s.content) from to)
  loop_part x w from to (a, z, ms, l, c, path, is, says, around, carries) =
      let (s, stands, content) = standing_of_says t.body [] None l c says in
      let same : w ≡ Part l s.content = is ∙ ap (λ (k : Content). Part l k) (sym content) in
      (l, s, stands, subst (λ (v : Vertex). IsCarried t x v from to) same (a, z, ms, l, c, path, is, says, around, carries))

  pub flow_decided : (x : List ℕ) (from to : Vertex) → Decided (HasFlow t x from to)
  flow_decided x from to =
      either (IsIndependent t x from to) ((w : Vertex) × IsCarried t x w from to) (independent_decided x from to)
      (turned (SomePart t.body (CarriedBy x from to) (λ v s. carried_decided x (Part v s.content) from to)) ((w : Vertex) × IsCarried t x w from to)
      (λ (v, s, stands, carried). (Part v s.content, carried)) (λ (w, carried). loop_part x w from to carried) (carried_by x from to))

  -- order
  abbrev OrderAt : Vertex → Vertex → Vertex → List ℕ → Point → Point → Type 0
  OrderAt u from to x a b = Defines t x from a × Defines t x to b × HasFlow t x from u × HasFlow t x to u × StandsLeft sk a b × ¬ Parted sk a b

  order_at : (u from to : Vertex) (x : List ℕ) → Decided (OrderAt u from to x (source_point from) (source_point to))
  order_at u from to x =
      let a = source_point from in
      let b = source_point to in
      turned (Defines t x from a × (Defines t x to b × (HasFlow t x from u × (HasFlow t x to u × (StandsLeft sk a b × ¬ Parted sk a b))))) (OrderAt u from to x a b)
      (λ (p, (q, (r, (s, (l, n))))). (p, q, r, s, l, n)) (λ (p, q, r, s, l, n). (p, (q, (r, (s, (l, n))))))
      (both (Defines t x from a) (Defines t x to b × (HasFlow t x from u × (HasFlow t x to u × (StandsLeft sk a b × ¬ Parted sk a b)))) (sets_decided x from)
      (both (Defines t x to b) (HasFlow t x from u × (HasFlow t x to u × (StandsLeft sk a b × ¬ Parted sk a b))) (sets_decided x to)
      (both (HasFlow t x from u) (HasFlow t x to u × (StandsLeft sk a b × ¬ Parted sk a b)) (flow_decided x from u)
      (both (HasFlow t x to u) (StandsLeft sk a b × ¬ Parted sk a b) (flow_decided x to u)
      (both (StandsLeft sk a b) (¬ Parted sk a b) (left_decided a b sk) (denied (Parted sk a b) (parted_decided a b sk)))))))

  named : (x : List ℕ) (v : Vertex) (a : Point) → Defines t x v a → name_of v ≡ Some x
  named x Entry a h = absurd h
  named x (Init y) a (same, is) = ap (λ (z : List ℕ). Some z) same
  named x (Part l c) a (sets, says, is) = sets
  named x (Final y) a h = absurd h

  order_named : (u from to : Vertex) (n : Option (List ℕ)) → name_of from ≡ n → Decided (IsOrder t u from to)
  order_named u from to None none = inr (λ (x, a, b, sets, rest, f, g, l, n). (let e : Some x ≡ None = sym (named x from a sets) ∙ none in cc))
  order_named u from to (Some y) is =
      turned (OrderAt u from to y (source_point from) (source_point to)) (IsOrder t u from to)
      (λ (p, q, r, s, l, n). (y, source_point from, source_point to, p, q, r, s, l, n))
      (λ (x, a, b, p, q, r, s, l, n). (let same : x ≡ y = some_inj x y (sym (named x from a p) ∙ is) in
      subst (λ (c : Point). OrderAt u from to y c (source_point to)) (defined_at x from a p)
      (subst (λ (c : Point). OrderAt u from to y a c) (defined_at x to b q)
      (subst (λ (w : List ℕ). OrderAt u from to w a b) same (p, q, r, s, l, n)))))
      (order_at u from to y)

  pub order_decided : (u from to : Vertex) → Decided (IsOrder t u from to)
  order_decided u from to = order_named u from to (name_of from) refl

  -- initial definitions
  abbrev AnyWay : List ℕ → Point → Type 0
  AnyWay x z = (ms : List (Option Tag)) × IsUndisturbed t.body x enter z ms × ((m : Option Tag) → Contains ms m → Unit {0})

  any_way : (x : List ℕ) (z : Point) → Decided (AnyWay x z)
  any_way x z =
      path_decided (DefinesAt t.body x) (λ m. Unit {0}) point_decided (defines_decided t x) (λ m. inl tt) (IsPair t.body) (pairs_of t.body) (pairs_exact t.body) enter z

  abbrev FirstUse : List ℕ → Hop → Type 0
  FirstUse x f = AnyWay x f.1.0 × UsedBy t x f.1.0

  first_use : (x : List ℕ) (f : Hop) → Decided (FirstUse x f)
  first_use x f = both (AnyWay x f.1.0) (UsedBy t x f.1.0) (any_way x f.1.0) (used_decided t x f.1.0)

  last_hop : (x : List ℕ) (a z : Point) (ms : List (Option Tag)) → IsUndisturbed t.body x a z ms → (f : Hop) × Contains (pairs_of t.body) f × (f.1.0 ≡ z)
  last_hop x a z _ (one {m = m} r) = ((a, (z, m)), (pairs_exact t.body a z m).0 r, refl)
  last_hop x a z _ (step {b = b} {ms = ms} r nb rest) = last_hop x b z ms rest

  pub initial_decided : (x : List ℕ) → Decided (IsInitial t x)
  initial_decided x = elim (some_decided (FirstUse x) (first_use x) (pairs_of t.body)) [
    | inl (f, listed, ((ms, path, any), used)) ↦ inl (f.1.0, ms, path, used)
    | inr none ↦ inr (λ (a, ms, path, used). (let (f, listed, is) = last_hop x enter a ms path in
        none f listed (subst (λ (p : Point). AnyWay x p × UsedBy t x p) (sym is) ((ms, path, λ m h. tt), used))))
  ]

  -- control
  abbrev TopHere : Tag → Content → Tag → Standing → Type 0
  TopHere l c v s = (v ≡ l) × ((s.content ≡ c) × (s.parent ≡ None))

  top_here : (l : Tag) (c : Content) (v : Tag) (s : Standing) → Decided (TopHere l c v s)
  top_here l c v s = both (v ≡ l) ((s.content ≡ c) × (s.parent ≡ None)) (tag_decided v l) (both (s.content ≡ c) (s.parent ≡ None) (content_decided s.content c) (top_decided s.parent))

  is_top : (v : Vertex) → Decided (IsTop t v)
  is_top Entry = inr (λ h. h)
  is_top (Init x) = initial_decided x
  is_top (Part l c) =
      turned (SomePart t.body (TopHere l c) (top_here l c)) (IsTop t (Part l c))
      (λ (v, s, stands, (is, (content, up))). (s, subst (λ (w : Tag). StandsAsIn t.body w s) is stands, content, up))
      (λ (s, stands, content, up). (l, s, stands, (refl, (content, up)))) (part_decided t.body (TopHere l c) (top_here l c))
  is_top (Final x) = names_decided t.finals x

  abbrev UnderHere : Tag → Bool → Vertex → Tag → Standing → Type 0
  UnderHere p label to v s = (to ≡ Part v s.content) × (s.parent ≡ Some (p, label))

  under_here : (p : Tag) (label : Bool) (to : Vertex) (v : Tag) (s : Standing) → Decided (UnderHere p label to v s)
  under_here p label to v s = both (to ≡ Part v s.content) (s.parent ≡ Some (p, label)) (vertex_decided to (Part v s.content)) (parent_decided s.parent p label)

  stands_under : (p : Tag) (label : Bool) (to : Vertex) → Decided (StandsUnder t p label to)
  stands_under p label to =
      turned (SomePart t.body (UnderHere p label to) (under_here p label to)) (StandsUnder t p label to) (λ (v, s, stands, (is, up)). (v, s, stands, is, up))
      (λ (v, s, stands, is, up). (v, s, stands, (is, up))) (part_decided t.body (UnderHere p label to) (under_here p label to))

  abbrev ByPart : Bool → Vertex → Vertex → Type 0
  ByPart label from to = (p : Tag) × (c : Content) × (from ≡ Part p c) × Says t.body p c × StandsUnder t p label to

  by_part : (label : Bool) (from to : Vertex) → Decided (ByPart label from to)
  by_part label Entry to = inr (λ (p, c, is, says, under). cc)
  by_part label (Init x) to = inr (λ (p, c, is, says, under). cc)
  by_part label (Final x) to = inr (λ (p, c, is, says, under). cc)
  by_part label (Part p c) to =
      turned (Says t.body p c × StandsUnder t p label to) (ByPart label (Part p c) to) (λ (says, under). (p, c, refl, says, under))
      (λ (q, d, is, says, under). (
        subst (λ (v : Tag). Says t.body v c) (part_tag p q c d is) (subst (λ (k : Content). Says t.body q k) (part_content p q c d is) says),
        subst (λ (v : Tag). StandsUnder t v label to) (part_tag p q c d is) under,
      ))
      (both (Says t.body p c) (StandsUnder t p label to) (says_decided t p c) (stands_under p label to))

  pub control_decided : (label : Bool) (from to : Vertex) → Decided (IsControl t label from to)
  control_decided label from to =
      either ((from ≡ Entry) × (label ≡ true) × IsTop t to) (ByPart label from to)
      (three (from ≡ Entry) (label ≡ true) (IsTop t to) (vertex_decided from Entry) (truth_decided label) (is_top to)) (by_part label from to)

  -- vertices and edges
  pub vertex_of_decided : (v : Vertex) → Decided (IsVertexOf t v)
  vertex_of_decided Entry = inl tt
  vertex_of_decided (Init x) = initial_decided x
  vertex_of_decided (Part l c) = says_decided t l c
  vertex_of_decided (Final x) = names_decided t.finals x

  edge_by_decided : (k : Kind) (from to : Vertex) → Decided (IsEdgeBy t k from to)
  edge_by_decided (Control label) from to = control_decided label from to
  edge_by_decided (Independent x) from to = independent_decided x from to
  edge_by_decided (Carried x w) from to = carried_decided x w from to
  edge_by_decided (Order u) from to = order_decided u from to

  pub edge_of_decided : (e : Edge) → Decided (IsEdgeOf t e)
  edge_of_decided e = edge_by_decided e.kind e.from e.to
