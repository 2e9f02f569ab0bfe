-- By tables that say what the parts are, the test of a clash is true exactly where the vertices clash.
use Rattle.std.proofs.Common.{◌≡◌, ℕ, zero, suc, ◌≤◌, ◌⊎◌, inl, inr, true, false, eqb, Option, Some, None, List, [], ◌∷◌, ◌++◌, map, length, vec_len, get_or, Contains, slice_get, refl, sym, ap, ◌∙◌, subst, arith, rules}
use Rattle.std.proofs.lemmas.Bool.{cases_lt, eqb-true, eq-eqb}
use Rattle.std.proofs.lemmas.Option.{slice_get_past, get_or_from_slice_get}
use Rattle.hpr_terms.specs.declared.tag.Tag.{Tag}
use Rattle.hpr_terms.proofs.Facts.{some_inj, in_none, get_below, in_map, map_in}
use Rattle.hpr_syntax.specs.declared.rows.Content.{Content}
use Rattle.hpr_syntax.specs.Contents.{UsesIn}
use Rattle.hpr_syntax.specs.Rows.{assigned}
use Rattle.hpr_graph.specs.declared.vertex.Vertex.{Vertex}
use Rattle.hpr_graph.specs.declared.vertex.Vertex.TheVariants.{Entry, Part}
use Rattle.hpr_graph.specs.declared.edge.Kind.TheVariants.{Control, Independent, Carried, Order}
use Rattle.hpr_graph.specs.declared.link.LinkKind.{LinkKind}
use Rattle.hpr_graph.specs.declared.link.LinkKind.TheVariants as link
use Rattle.hpr_graph.specs.Graphs.{name_of}
use Rattle.hpr_graph.specs.Arrangements.{edge_into}
use Rattle.hpr_graph.specs.Clashes.{StandInOneBlock, UsesName, IsWrongReach, IsKill, Clashes}
use Rattle.hpr_graph.specs.Numbered.{Numbered, IsKindAt, IsNumbered, graph_in}
use Rattle.hpr_forest.specs.Blocks.{row_at}
use Rattle.hpr_forest.specs.Marks.{is_in}
use Rattle.hpr_forest.proofs.Members.{in_is_in}
use Rattle.hpr_order.specs.Numbers.{ArePartsOf, IsPartAt}
use Rattle.hpr_order.proofs.ListFacts.{map_append}
use Rattle.hpr_region.specs.declared.flows.Flows.{Flows}
use Rattle.hpr_region.specs.Flows as flow
use Rattle.hpr_region.specs.Plans.{vertex_by}
use Rattle.hpr_region.specs.Tables.{AreFlowsBy, IsItemOf, IsVariable}
use Rattle.hpr_region.proofs.Judging.{four, four_true, three, three_true, both, both_true, either, either_left, either_right, never, not_true, is_in_in, among_some, same_some, same_true, defined_some, some_defined, reach_found, found_reach, kill_found, found_kill, left_found, found_left}

some_not_none : (o : Option ℕ) (r : ℕ) → o ≡ Some r → o ≡ None → ⊥
some_not_none o r e f = absurd (let h : Some r ≡ None = sym e ∙ f in cc)

-- a list of images, split
split_map : {X : Type 0} (f : ℕ → X) (q : List ℕ) (front back : List X) (d : X) → map f q ≡ front ++ d ∷ back → (l : List ℕ) × (k : ℕ) × (r : List ℕ) × (q ≡ l ++ k ∷ r) × (f k ≡ d) × (map f r ≡ back)
split_map f [] [] back d e = absurd cc
split_map f [] (x ∷ front) back d e = absurd cc
split_map f (k ∷ q) [] back d e = ([], k, q, refl, (cc), (cc))
split_map f (k ∷ q) (x ∷ front) back d e =
    let (l, j, r, is, head, rest) = split_map f q front back d (cc) in
    (k ∷ l, j, r, ap (λ z. k ∷ z) is, head, rest)

kind_name : (y x : List ℕ) → Independent y ≡ Independent x → y ≡ x
kind_name y x e = cc

independent_name : (vs : List Vertex) (k : LinkKind) (from : Vertex) (y : List ℕ) → IsKindAt vs k from (Independent y) → name_of from ≡ Some y
independent_name vs (link.Control label) from y e = absurd (let h : Independent y ≡ Control label = e in cc)
independent_name vs link.Independent from y (x, name, is) = let same : x ≡ y = sym (kind_name y x is) in name ∙ ap Some same
independent_name vs (link.Carried w) from y (x, v, name, there, is) = absurd (let h : Independent y ≡ Carried x v = is in cc)
independent_name vs (link.Order u) from y (v, there, is) = absurd (let h : Independent y ≡ Order v = is in cc)

module _ (g : Numbered) (numbers : List ℕ) (names : List (List ℕ)) (f : Flows) (are : AreFlowsBy g numbers names f) (parts : ArePartsOf g numbers) (numbered : IsNumbered g) where
  abbrev at : ℕ → Vertex
  at k = vertex_by g (slice_get numbers k)

  -- an item is a part, and any other number is Entry
  item_at : (k : ℕ) → ((t : Tag) × (c : Content) × IsItemOf g numbers k t c × (at k ≡ Part t c)) ⊎ ((at k ≡ Entry) × (length numbers ≤ k))
  item_at k = elim (cases_lt k (length numbers)) [
    | inl lt ↦ (
        let (n, en) = get_below numbers k lt in
        let (t, c, there) = parts.parts k n en in
        inl (t, c, (n, en, there), ap (vertex_by g) en ∙ get_or_from_slice_get g.vertices n (Part t c) Entry there))
    | inr le ↦ inr (ap (vertex_by g) (slice_get_past numbers k le), le)
  ]

  part_item : (k : ℕ) (t : Tag) (c : Content) → at k ≡ Part t c → IsItemOf g numbers k t c
  part_item k t c e = elim (item_at k) [
    | inl (u, d, item, is) ↦ (
        let same : Part u d ≡ Part t c = sym is ∙ e in
        let st : u ≡ t = cc in
        let sc : d ≡ c = cc in
        subst (λ z. IsItemOf g numbers k z c) st (subst (IsItemOf g numbers k u) sc item))
    | inr (is, _) ↦ absurd (let no : Entry ≡ Part t c = sym is ∙ e in cc)
  ]

  item_vertex : (k : ℕ) (t : Tag) (c : Content) → IsItemOf g numbers k t c → at k ≡ Part t c
  item_vertex k t c (n, en, there) = ap (vertex_by g) en ∙ get_or_from_slice_get g.vertices n (Part t c) Entry there

  item_once : (a b : ℕ) (t : Tag) (c : Content) → at a ≡ Part t c → at b ≡ Part t c → a ≡ b
  item_once a b t c ea eb =
      let (n, en, tn) = part_item a t c ea in
      let (m, em, tm) = part_item b t c eb in
      let same : n ≡ m = numbered.once n m (Part t c) tn tm in
      parts.once a b m (subst (λ z. slice_get numbers a ≡ Some z) same en) em

  -- no table has anything past the items
  no_variable : (k : ℕ) → length numbers ≤ k → flow.variable_of f k ≡ None
  no_variable k le = past f.variables.items k (let e = are.count in let v = f.variable_count in let l : length f.variables.items ≡ vec_len f.variables = search rules in omega (arith, l, v, e, le))
    where
      past : (xs : List (Option ℕ)) (k : ℕ) → length xs ≤ k → get_or xs k None ≡ None
      past [] k le = refl
      past (x ∷ xs) zero le = absurd (omega (arith, le))
      past (x ∷ xs) (suc k) le = past xs k (omega (arith, le))

  no_uses : (k r : ℕ) → length numbers ≤ k → ¬ Contains (flow.uses_of f k) r
  no_uses k r le h =
      let l : length f.uses.items ≡ vec_len f.uses = search rules in
      let none : slice_get f.uses.items k ≡ None = slice_get_past f.uses.items k (let e = are.count in let v = f.use_count in omega (arith, l, v, e, le)) in
      in_none r (subst (λ o. Contains (row_at o) r) none h)

  -- what defines or uses a variable, or is a reader, is an item
  defining : (k r : ℕ) → flow.variable_of f k ≡ Some r → (t : Tag) × (c : Content) × IsItemOf g numbers k t c × (at k ≡ Part t c)
  defining k r e = elim (item_at k) [ inl item ↦ item | inr (_, le) ↦ absurd (some_not_none (flow.variable_of f k) r e (no_variable k le)) ]

  using : (k r : ℕ) → Contains (flow.uses_of f k) r → (t : Tag) × (c : Content) × IsItemOf g numbers k t c × (at k ≡ Part t c)
  using k r h = elim (item_at k) [ inl item ↦ item | inr (_, le) ↦ absurd (no_uses k r le h) ]

  reading : (d u : ℕ) → Contains (flow.readers_of f d) u → (t : Tag) × (c : Content) × IsItemOf g numbers u t c × (at u ≡ Part t c)
  reading d u h = elim (item_at u) [
    | inl item ↦ item
    | inr (_, le) ↦ absurd (let e = are.count in let lt = f.within d u h in omega (arith, lt, e, le))
  ]

  -- the name of the variable that an item defines
  name_at : (k r : ℕ) (t : Tag) (c : Content) → flow.variable_of f k ≡ Some r → IsItemOf g numbers k t c → (x : List ℕ) × (assigned c ≡ Some x) × (slice_get names r ≡ Some x)
  name_at k r t c e item = subst (λ v. IsVariable names v (assigned c)) e (are.variables k t c item)

  variable_for : (k r : ℕ) (t : Tag) (c : Content) (x : List ℕ) → IsItemOf g numbers k t c → assigned c ≡ Some x → slice_get names r ≡ Some x → flow.variable_of f k ≡ Some r
  variable_for k r t c x item defines named = by (flow.variable_of f k) (are.variables k t c item)
    where
      by : (v : Option ℕ) → IsVariable names v (assigned c) → v ≡ Some r
      by None none = absurd (let e : Some x ≡ None = sym defines ∙ none in cc)
      by (Some q) (y, is, there) = ap Some (are.once q r x (there ∙ ap Some (some_inj y x (sym is ∙ defines))) named)

  named : (k : ℕ) (t : Tag) (c : Content) (x : List ℕ) → IsItemOf g numbers k t c → assigned c ≡ Some x → (r : ℕ) × (flow.variable_of f k ≡ Some r) × (slice_get names r ≡ Some x)
  named k t c x item defines = by (flow.variable_of f k) (are.variables k t c item)
    where
      by : (v : Option ℕ) → IsVariable names v (assigned c) → (r : ℕ) × (v ≡ Some r) × (slice_get names r ≡ Some x)
      by None none = absurd (let e : Some x ≡ None = sym defines ∙ none in cc)
      by (Some q) (y, is, there) = (q, refl, there ∙ ap Some (some_inj y x (sym is ∙ defines)))

  -- the name that a vertex of an item defines
  defines_name : (k : ℕ) (x : List ℕ) → name_of (at k) ≡ Some x → (t : Tag) × (c : Content) × IsItemOf g numbers k t c × (assigned c ≡ Some x)
  defines_name k x e = elim (item_at k) [
    | inl (t, c, item, is) ↦ (t, c, item, sym (ap name_of is) ∙ e)
    | inr (is, _) ↦ absurd (let no : None ≡ Some x = sym (ap name_of is) ∙ e in cc)
  ]

  -- the name of an independent flow edge is the one that its source defines
  edge_name : (s : Tag) (k : Content) (w : Vertex) (y : List ℕ) → (graph_in g).edge (edge_into (Part s k) w (Independent y)) → name_of (Part s k) ≡ Some y
  edge_name s k w y (to, link, there, (target, source, kind)) = independent_name g.vertices link.kind (Part s k) y kind

  target_there : (v w : Vertex) (x : List ℕ) → (graph_in g).edge (edge_into v w (Independent x)) → (n : ℕ) × (slice_get g.vertices n ≡ Some w)
  target_there v w x (to, link, there, (target, source, kind)) = (to, target)

  there_target : (v w : Vertex) (x : List ℕ) {p : Tag} {m : Content} → w ≡ Part p m → (graph_in g).edge (edge_into v w (Independent x)) → (n : ℕ) × IsPartAt g n p m
  there_target v w x is edge = let (n, e) = target_there v w x edge in (n, e ∙ ap Some is)

  item_for : (p : Tag) (m : Content) → ((n : ℕ) × IsPartAt g n p m) → (u : ℕ) × IsItemOf g numbers u p m
  item_for p m (n, there) = let (u, e) = parts.all n p m there in (u, (n, e, there))

  -- ---- wrong reach
  use_name : (k : ℕ) (t : Tag) (c : Content) (x : List ℕ) → at k ≡ Part t c → UsesIn c x → UsesName (at k) x
  use_name k t c x e h = subst (λ v. UsesName v x) (sym e) h

  reach_clash : (q : List ℕ) (c : ℕ) → flow.reached_wrongly f q c ≡ true → IsWrongReach (graph_in g) (map at q) (at c)
  reach_clash q c e =
      let (front, d, back, split, here) = reach_found f q c e in
      let (block, among, unread, last) = four (flow.same_block f d c) (flow.is_among (flow.variable_of f d) (flow.uses_of f c)) (is_in (flow.readers_of f d) c) (flow.defined_in f (flow.variable_of f d) back) here in
      let (r, var, used) = among_some (flow.variable_of f d) (flow.uses_of f c) among in
      let (s, k, source, is_d) = defining d r var in
      let (t, l, child, is_c) = using c r used in
      let (x, defines, is_x) = name_at d r s k var source in
      let (y, is_y, uses) = (are.uses c t l child r).0 used in
      let same : y ≡ x = some_inj y x (sym is_y ∙ is_x) in (
        x,
        at d,
        map at front,
        map at back,
        ap (map at) split ∙ map_append at front (d ∷ back),
        subst (λ v. StandInOneBlock (graph_in g) v (at c)) (sym is_d) (subst (StandInOneBlock (graph_in g) (Part s k)) (sym is_c) ((are.blocks d c s t k l source child).0 block)),
        ap name_of is_d ∙ defines,
        (λ v h name. (
            let (j, in_back, is_v) = map_in at back v h in
            let (u, m, item, assigns) = defines_name j x (ap name_of is_v ∙ name) in
            let var_j = variable_for j r u m x item assigns is_x in
            never (flow.defined_in f (flow.variable_of f d) back) (some_defined f (flow.variable_of f d) back j in_back (same_true (flow.variable_of f d) (flow.variable_of f j) r var var_j)) last)),
        use_name c t l x is_c (subst (UsesIn l) same uses),
        (λ edge. never (is_in (flow.readers_of f d) c) (in_is_in (flow.readers_of f d) c ((are.readers d c s t k l source child).1
            (x, subst (λ v. (graph_in g).edge (edge_into v (Part t l) (Independent x))) is_d (subst (λ v. (graph_in g).edge (edge_into (at d) v (Independent x))) is_c edge)))) unread),
      )

  uses_part : (c : ℕ) (x : List ℕ) → UsesName (at c) x → (t : Tag) × (l : Content) × IsItemOf g numbers c t l × (at c ≡ Part t l) × UsesIn l x
  uses_part c x h = elim (item_at c) [
    | inl (t, l, item, is) ↦ (t, l, item, is, subst (λ v. UsesName v x) is h)
    | inr (is, _) ↦ absurd (subst (λ v. UsesName v x) is h)
  ]

  clash_reach : (q : List ℕ) (c : ℕ) → IsWrongReach (graph_in g) (map at q) (at c) → flow.reached_wrongly f q c ≡ true
  clash_reach q c (x, v, fronts, backs, split, block, name, still, uses, absent) =
      let (front, d, back, is, is_d, is_back) = split_map at q fronts backs v split in
      let (s, k, source, defines) = defines_name d x (ap name_of is_d ∙ name) in
      let at_d : at d ≡ Part s k = item_vertex d s k source in
      let (t, l, child, at_c, used) = uses_part c x uses in
      let (r, var, is_x) = named d s k x source defines in
      let one : flow.same_block f d c ≡ true = (are.blocks d c s t k l source child).1
      (subst (λ w. StandInOneBlock (graph_in g) w (Part t l)) (sym is_d ∙ at_d) (subst (StandInOneBlock (graph_in g) v) at_c block)) in
      let two : flow.is_among (flow.variable_of f d) (flow.uses_of f c) ≡ true =
      ap (λ z. flow.is_among z (flow.uses_of f c)) var ∙ in_is_in (flow.uses_of f c) r ((are.uses c t l child r).1 (x, is_x, used)) in
      let three_ : is_in (flow.readers_of f d) c ≡ false = not_true (is_in (flow.readers_of f d) c) (λ h. (
      let (y, edge) = (are.readers d c s t k l source child).0 (is_in_in (flow.readers_of f d) c h) in
      let named_ : name_of (Part s k) ≡ Some y = edge_name s k (Part t l) y edge in
      let same : y ≡ x = some_inj y x (sym named_ ∙ defines) in
      absent (subst (λ z. (graph_in g).edge (edge_into v (at c) (Independent z))) same
      (subst (λ w. (graph_in g).edge (edge_into w (at c) (Independent y))) (sym at_d ∙ is_d) (subst (λ w. (graph_in g).edge (edge_into (Part s k) w (Independent y))) (sym at_c) edge))))) in
      let last : flow.defined_in f (flow.variable_of f d) back ≡ false = not_true (flow.defined_in f (flow.variable_of f d) back) (λ h. (
      let (j, in_back, alike) = defined_some f (flow.variable_of f d) back h in
      let (p, var_d, var_j) = same_some (flow.variable_of f d) (flow.variable_of f j) alike in
      let same : p ≡ r = some_inj p r (sym var_d ∙ var) in
      let (u, m, item, at_j) = defining j p var_j in
      let (y, assigns, is_y) = name_at j p u m var_j item in
      let names_ : y ≡ x = some_inj y x (sym is_y ∙ ap (slice_get names) same ∙ is_x) in
      still (at j) (subst (λ z. Contains z (at j)) is_back (in_map at back j in_back)) (ap name_of at_j ∙ assigns ∙ ap Some names_))) in
      subst (λ z. flow.reached_wrongly f z c ≡ true) (sym is)
      (found_reach f front d back c (four_true (flow.same_block f d c) (flow.is_among (flow.variable_of f d) (flow.uses_of f c)) (is_in (flow.readers_of f d) c) (flow.defined_in f (flow.variable_of f d) back) one two three_ last))

  -- ---- kill
  kill_clash : (q : List ℕ) (c : ℕ) → flow.kills_one f q q c ≡ true → IsKill (graph_in g) (map at q) (at c)
  kill_clash q c e =
      let (d, in_q, here) = kill_found f q q c e in
      let (block, alike, left) = both (flow.same_block f d c) (flow.same_variable (flow.variable_of f d) (flow.variable_of f c)) (flow.some_left f q c (flow.readers_of f d)) here in
      let (u, reader, is_left_) = left_found f q c (flow.readers_of f d) left in
      let (other, fresh, block') = three (eqb u c) (is_in q u) (flow.same_block f c u) is_left_ in
      let (r, var_d, var_c) = same_some (flow.variable_of f d) (flow.variable_of f c) alike in
      let (s, k, source, at_d) = defining d r var_d in
      let (t, l, child, at_c) = defining c r var_c in
      let (w, m, item, at_u) = reading d u reader in
      let (x, defines, is_x) = name_at d r s k var_d source in
      let (y, defines', is_y) = name_at c r t l var_c child in
      let same : y ≡ x = some_inj y x (sym is_y ∙ is_x) in
      let (z, edge) = (are.readers d u s w k m source item).0 reader in
      let same' : z ≡ x = some_inj z x (sym (edge_name s k (Part w m) z edge) ∙ defines) in (
        x,
        at d,
        at u,
        in_map at q d in_q,
        (w, m, at_u),
        (λ is. never (eqb u c) (eq-eqb u c (item_once u c w m at_u (sym is ∙ at_u))) other),
        (λ h. (let (j, in_j, is_j) = map_in at q (at u) h in
            never (is_in q u) (in_is_in q u (subst (Contains q) (item_once j u w m (is_j ∙ at_u) at_u) in_j)) fresh)),
        subst (λ v. StandInOneBlock (graph_in g) v (at c)) (sym at_d) (subst (StandInOneBlock (graph_in g) (Part s k)) (sym at_c) ((are.blocks d c s t k l source child).0 block)),
        subst (λ v. StandInOneBlock (graph_in g) v (at u)) (sym at_c) (subst (StandInOneBlock (graph_in g) (Part t l)) (sym at_u) ((are.blocks c u t w l m child item).0 block')),
        ap name_of at_d ∙ defines,
        ap name_of at_c ∙ defines' ∙ ap Some same,
        subst (λ n. (graph_in g).edge (edge_into (at d) (at u) (Independent n))) same'
            (subst (λ v. (graph_in g).edge (edge_into v (at u) (Independent z))) (sym at_d) (subst (λ v. (graph_in g).edge (edge_into (Part s k) v (Independent z))) (sym at_u) edge)),
      )

  clash_kill : (q : List ℕ) (c : ℕ) → IsKill (graph_in g) (map at q) (at c) → flow.kills_one f q q c ≡ true
  clash_kill q c (x, v, w, in_placed, is_part, other, fresh, block, block', name, name', edge) =
      let (d, in_q, is_d) = map_in at q v in_placed in
      let (s, k, source, defines) = defines_name d x (ap name_of is_d ∙ name) in
      let at_d : at d ≡ Part s k = item_vertex d s k source in
      let (t, l, child, defines') = defines_name c x name' in
      let at_c : at c ≡ Part t l = item_vertex c t l child in
      let (p, m, is_w) = is_part in
      let (u, item) = item_for p m (there_target v w x is_w edge) in
      let at_u : at u ≡ w = item_vertex u p m item ∙ sym is_w in
      let (r, var_d, is_x) = named d s k x source defines in
      let var_c = variable_for c r t l x child defines' is_x in
      let one : flow.same_block f d c ≡ true = (are.blocks d c s t k l source child).1
      (subst (λ z. StandInOneBlock (graph_in g) z (Part t l)) (sym is_d ∙ at_d) (subst (StandInOneBlock (graph_in g) v) at_c block)) in
      let two : flow.same_block f c u ≡ true = (are.blocks c u t p l m child item).1
      (subst (λ z. StandInOneBlock (graph_in g) z (Part p m)) at_c (subst (StandInOneBlock (graph_in g) (at c)) is_w block')) in
      let reader : Contains (flow.readers_of f d) u = (are.readers d u s p k m source item).1
      (x, subst (λ z. (graph_in g).edge (edge_into z (Part p m) (Independent x))) (sym is_d ∙ at_d) (subst (λ z. (graph_in g).edge (edge_into v z (Independent x))) is_w edge)) in
      let differs : eqb u c ≡ false = not_true (eqb u c) (λ h. other (sym at_u ∙ ap at (eqb-true u c h))) in
      let unplaced : is_in q u ≡ false = not_true (is_in q u) (λ h. fresh (subst (Contains (map at q)) at_u (in_map at q u (is_in_in q u h)))) in
      found_kill f q q c d in_q (both_true (flow.same_block f d c) (flow.same_variable (flow.variable_of f d) (flow.variable_of f c)) (flow.some_left f q c (flow.readers_of f d)) one
      (same_true (flow.variable_of f d) (flow.variable_of f c) r var_d var_c)
      (found_left f q c (flow.readers_of f d) u reader (three_true (eqb u c) (is_in q u) (flow.same_block f c u) differs unplaced two)))

  pub clash_true : (q : List ℕ) (c : ℕ) → flow.clash f q c ≡ true → Clashes (graph_in g) (map at q) (at c)
  clash_true q c e = elim (either (flow.reached_wrongly f q c) (flow.kills_one f q q c) e) [
    | inl reach ↦ inl (reach_clash q c reach)
    | inr kill ↦ inr (kill_clash q c kill)
  ]

  pub clash_false : (q : List ℕ) (c : ℕ) → flow.clash f q c ≡ false → ¬ Clashes (graph_in g) (map at q) (at c)
  clash_false q c e (inl reach) = never (flow.clash f q c) (either_left (flow.reached_wrongly f q c) (flow.kills_one f q q c) (clash_reach q c reach)) e
  clash_false q c e (inr kill) = never (flow.clash f q c) (either_right (flow.reached_wrongly f q c) (flow.kills_one f q q c) (clash_kill q c kill)) e
