-- The law of order by edges: the turns on the loops around both, and then the edges of the graph, tell which of two steps is first.
use Rattle.hpr_meaning.specs.Any.Meaning.{Meaning, HasLaws}
use Rattle.std.proofs.Common.{◌≡◌, ℕ, zero, suc, List, [], ◌⊎◌, ◌↔◌, None, refl, sym, subst, inl, inr, arith, Some}
use Rattle.hpr_terms.specs.declared.tag.Tag.{Tag}
use Rattle.hpr_syntax.specs.declared.rows.Content.{Content}
use Rattle.hpr_syntax.specs.Contents.{UsesIn}
use Rattle.hpr_syntax.specs.Body.{Body}
use Rattle.hpr_syntax.specs.Tree.{Tree}
use Rattle.hpr_syntax.specs.Shape.{IsProgram}
use Rattle.hpr_syntax.specs.Skeleton.{at, Distinct, skeleton, Skeleton}
use Rattle.hpr_paths.proofs.Ahead.{StandsAhead}
use Rattle.hpr_syntax.specs.Nests.{Standing, StandsAsIn, Says}
use Rattle.hpr_paths.specs.Times.{Place, IsBefore, HaveLessTurns, HaveSameTurns}
use Rattle.hpr_syntax.specs.Rows.{assigned}
use Rattle.hpr_graph.specs.declared.vertex.Vertex.{Vertex}
use Rattle.hpr_syntax.specs.Paths.{DefinesAt}
use Rattle.hpr_graph.specs.ProgramGraph.{IsIndependent, HasFlow, IsOrder}
use Rattle.hpr_meaning.specs.Any.OrderLaw.{IsOrdered}
use Rattle.hpr_meaning.specs.OrderLaw.{common_loops}
use Rattle.hpr_paths.proofs.TimeOrder.{HaveCommon, by_turns, before_by_turns}
use Rattle.hpr_paths.proofs.ByEdges.{ByEdges, before_by_edges}
use Rattle.hpr_meaning.proofs.CommonLoops.{loops_counted}
use Rattle.hpr_paths.proofs.Sides.{one_common, ahead_of_left, left_of_ahead, ahead_unparted}
use Rattle.hpr_paths.proofs.Says.{says_stands, only_acts_define}
use Rattle.hpr_paths.proofs.Programs.{at_end, end_outside}
use Rattle.hpr_meaning.proofs.FlowWays.{flow_source, flow_target, flow_path, independent_way, way_independent, defines_part}
use Rattle.hpr_graph.specs.declared.vertex.Vertex.TheVariants.{Part}
use Rattle.hpr_paths.proofs.Different.{distinct_program}

less_not_greater : (c d : ℕ) (a b : List ℕ) → HaveLessTurns c d a b → HaveLessTurns c d b a → ⊥
less_not_greater zero d a b h g = h
less_not_greater (suc c) d a b (inl h) (inl g) = absurd (omega (arith, h, g))
less_not_greater (suc c) d a b (inl h) (inr g) = absurd (omega (arith, h, g.0))
less_not_greater (suc c) d a b (inr h) (inl g) = absurd (omega (arith, h.0, g))
less_not_greater (suc c) d a b (inr h) (inr g) = less_not_greater c (suc d) a b h.1 g.1

less_not_same : (c d : ℕ) (a b : List ℕ) → HaveLessTurns c d a b → HaveSameTurns c d a b → ⊥
less_not_same zero d a b h g = h
less_not_same (suc c) d a b (inl h) g = absurd (omega (arith, h, g.0))
less_not_same (suc c) d a b (inr h) g = less_not_same c (suc d) a b h.1 g.1

less_not_same_turned : (c d : ℕ) (a b : List ℕ) → HaveLessTurns c d a b → HaveSameTurns c d b a → ⊥
less_not_same_turned zero d a b h g = h
less_not_same_turned (suc c) d a b (inl h) g = absurd (omega (arith, h, g.0))
less_not_same_turned (suc c) d a b (inr h) g = less_not_same_turned c (suc d) a b h.1 g.1

-- the nests count the loops around both parts, and no other number does
pub count_of_nests : (p : Body) → Distinct (skeleton p) → (v w : Tag) (a b : Standing) → StandsAsIn p v a → StandsAsIn p w b → HaveCommon (skeleton p) (at v) (at w) (common_loops a.nest b.nest)
count_of_nests p di v w a b h g = let n = loops_counted p [] None di v w a b h g in
    let e : common_loops a.nest b.nest ≡ n.0 = omega (arith, n.2) in subst (λ c. HaveCommon (skeleton p) (at v) (at w) c) (sym e) n.1

pub nests_of_count : (p : Body) → Distinct (skeleton p) → (v w : Tag) (a b : Standing) → StandsAsIn p v a → StandsAsIn p w b → (c : ℕ) → HaveCommon (skeleton p) (at v) (at w) c → c ≡ common_loops a.nest b.nest
nests_of_count p di v w a b h g c t = one_common (skeleton p) di (at v) (at w) c (common_loops a.nest b.nest) t (count_of_nests p di v w a b h g)

module _ (p : Tree) (di : Distinct (skeleton p.body)) where
  abbrev B : Skeleton
  B = skeleton p.body

  -- order edges go where one part stands ahead
  pub ahead_of_order : (u : Vertex) (t v : Tag) (c e : Content) → IsOrder p u (Part t c) (Part v e) → StandsAhead B (at t) (at v)
  ahead_of_order u t v c e (x, a, b, d, d', f, f', left, whole) =
      subst (λ z. StandsAhead B z (at v)) d.2 (subst (λ z. StandsAhead B a z) d'.2 (ahead_of_left B a b left whole))

  pub order_of_ahead : (x : List ℕ) (u : Vertex) (t v : Tag) (c e : Content) → HasFlow p x (Part t c) u → HasFlow p x (Part v e) u → StandsAhead B (at t) (at v)
      → IsOrder p u (Part t c) (Part v e)
  order_of_ahead x u t v c e f g a =
      let s = flow_source p x t c u f in
      let r = flow_source p x v e u g in
      (x, at t, at v, (s.0, s.1, refl), (r.0, r.1, refl), f, g, left_of_ahead B (at t) (at v) a, ahead_unparted B di (at t) (at v) a)

  module _ (i j : Place) (a b : Standing) (ra : StandsAsIn p.body i.0 a) (rb : StandsAsIn p.body j.0 b) where
    abbrev pub both : ℕ
    both = common_loops a.nest b.nest

    counts : HaveCommon B (at i.0) (at j.0) both
    counts = count_of_nests p.body di i.0 j.0 a b ra rb

    only : (c : ℕ) → HaveCommon B (at i.0) (at j.0) c → c ≡ both
    only = nests_of_count p.body di i.0 j.0 a b ra rb

    -- i is less on the loops around both, or the same there with P
    abbrev pub LessOr : Type 0 → Type 0
    LessOr P = HaveLessTurns both 0 i.1 j.1 ⊎ (HaveSameTurns both 0 i.1 j.1 × P)

    -- two places between which a flow edge goes
    pub flow_order : (x : List ℕ) (c e : Content) → HasFlow p x (Part i.0 c) (Part j.0 e) → IsBefore p.body i j ↔ LessOr (IsIndependent p x (Part i.0 c) (Part j.0 e))
    flow_order x c e f = (forth, back)
      where
        s : (assigned c ≡ Some x) × Says p.body i.0 c
        s = flow_source p x i.0 c (Part j.0 e) f

        u : UsesIn e x × Says p.body j.0 e
        u = flow_target p x (Part i.0 c) j.0 e f

        rule : IsBefore p.body i j ↔ ((k : ℕ) × HaveCommon B (at i.0) (at j.0) k × ByEdges B at_end (DefinesAt p.body x) k i j)
        rule = before_by_edges B at_end (DefinesAt p.body x) di (end_outside B) (only_acts_define p.body di x p.body (λ t c h. h)) i j
            (defines_part p.body x i.0 c s.0 s.1) (says_stands p.body i.0 c s.1) (says_stands p.body j.0 e u.1) (flow_path p x i.0 j.0 c e f)

        side : ByEdges B at_end (DefinesAt p.body x) both i j → LessOr (IsIndependent p x (Part i.0 c) (Part j.0 e))
        side (inl l) = inl l
        side (inr q) = inr (q.0, way_independent p x i.0 j.0 c e s.0 s.1 u.0 u.1 q.1)

        forth : IsBefore p.body i j → LessOr (IsIndependent p x (Part i.0 c) (Part j.0 e))
        forth h = let g = rule.0 h in side (subst (λ m. ByEdges B at_end (DefinesAt p.body x) m i j) (only g.0 g.1) g.2)

        back : LessOr (IsIndependent p x (Part i.0 c) (Part j.0 e)) → IsBefore p.body i j
        back (inl l) = rule.1 (both, counts, inl l)
        back (inr q) = rule.1 (both, counts, inr (q.0, independent_way p x i.0 j.0 c e q.1))

    -- two places by which part stands ahead
    pub ahead_order : IsBefore p.body i j ↔ LessOr (StandsAhead B (at i.0) (at j.0))
    ahead_order = (forth, back)
      where
        forth : IsBefore p.body i j → LessOr (StandsAhead B (at i.0) (at j.0))
        forth h = let r = by_turns B 0 i j h in
            subst (λ m. HaveLessTurns m 0 i.1 j.1 ⊎ (HaveSameTurns m 0 i.1 j.1 × StandsAhead B (at i.0) (at j.0))) (only r.0 r.1) r.2

        back : LessOr (StandsAhead B (at i.0) (at j.0)) → IsBefore p.body i j
        back h = before_by_turns B both 0 di i j counts h

    -- two places of definitions that both have a flow edge to one use
    pub use_order : (x : List ℕ) (u : Vertex) (c e : Content) → HasFlow p x (Part i.0 c) u → HasFlow p x (Part j.0 e) u → IsBefore p.body i j ↔ LessOr (IsOrder p u (Part i.0 c) (Part j.0 e))
    use_order x u c e f g = ((λ h. side (ahead_order.0 h)), (λ h. ahead_order.1 (side' h)))
      where
        side : LessOr (StandsAhead B (at i.0) (at j.0)) → LessOr (IsOrder p u (Part i.0 c) (Part j.0 e))
        side (inl l) = inl l
        side (inr q) = inr (q.0, order_of_ahead x u i.0 j.0 c e f g q.1)

        side' : LessOr (IsOrder p u (Part i.0 c) (Part j.0 e)) → LessOr (StandsAhead B (at i.0) (at j.0))
        side' (inl l) = inl l
        side' (inr q) = inr (q.0, ahead_of_order u i.0 j.0 c e q.1)

module _ (M : Meaning) (LW : HasLaws M) where
  module _ (p : Tree) (s : M.State) (n : ℕ) (prog : IsProgram p) where
    -- where the turns on the loops around both are the same, the one is before exactly where P
    same_so : (c : ℕ) (i j : List ℕ) {P Q : Type 0} → (Q ↔ (HaveLessTurns c 0 i j ⊎ (HaveSameTurns c 0 i j × P))) → HaveSameTurns c 0 i j → Q ↔ P
    same_so c i j {P} {Q} r e = ((λ h. go (r.0 h)), (λ q. r.1 (inr (e, q))))
      where
        go : HaveLessTurns c 0 i j ⊎ (HaveSameTurns c 0 i j × P) → P
        go (inl h) = absurd (less_not_same c 0 i j h e)
        go (inr h) = h.1

    never_less : (c : ℕ) (i j : List ℕ) {P Q : Type 0} → (Q ↔ (HaveLessTurns c 0 i j ⊎ (HaveSameTurns c 0 i j × P))) → HaveLessTurns c 0 j i → ¬ Q
    never_less c i j {P} {Q} r l h = go (r.0 h)
      where
        go : HaveLessTurns c 0 i j ⊎ (HaveSameTurns c 0 i j × P) → ⊥
        go (inl g) = less_not_greater c 0 j i l g
        go (inr g) = less_not_same_turned c 0 j i l g.0

    pub ordered : IsOrdered M p s n
    ordered = record {
      by_flow = λ x i j a b ci cj ra rb f.
          let r = flow_order p (distinct_program p prog) i.0 j.0 a b ra rb x i.1.content j.1.content f in
          record {
            lesser = λ l. r.1 (inl l);
            greater = never_less (common_loops a.nest b.nest) i.0.1 j.0.1 r;
            equal = same_so (common_loops a.nest b.nest) i.0.1 j.0.1 r;
          };
      by_use = λ x u i j a b ci cj ra rb f g. same_so (common_loops a.nest b.nest) i.0.1 j.0.1 (use_order p (distinct_program p prog) i.0 j.0 a b ra rb x u i.1.content j.1.content f g);
    }
